use Rattle.std.proofs.Common.{}
use Rattle.vg_device.proofs.ActLemmas.{fits-dropped}
use Rattle.vg_device.proofs.device.Device.end_lease.Goals as goal

pub invariant_of-self : goal.invariant_of-self
invariant_of-self c =
    let was = c.self.invariant in
    let s = c.self.inside in
    let now =
    fits-dropped s.pages _ s.entries c.args.scanout c.drop_scanout.result s.share c.drop_scanout.new.self c.drop_scanout.ensures.kept c.drop_scanout.ensures.after
    (record { leases = was.leases; pages = was.share; reserved = was.reserved; exports = was.exports })
    in
    record {
      setup = was.setup;
      pages = was.pages;
      backings = was.backings;
      blobs = was.blobs;
      screens = was.screens;
      showing = was.showing;
      leases = now.leases;
      share = now.pages;
      reserved = now.reserved;
      exports = now.exports;
      given = was.given;
      cursors = was.cursors;
      plugs = was.plugs;
    }
