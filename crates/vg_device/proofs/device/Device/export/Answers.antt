use Rattle.std.proofs.Common.{rules}
use Rattle.vg_device.proofs.ActLemmas.{fits-exported}
use Rattle.vg_device.proofs.device.Device.export.Goals as goal

pub invariant_of-self-2 : goal.invariant_of-self-2
invariant_of-self-2 c =
    let was = c.self.invariant in
    let s = c.self.inside in
    let told = c.in_ok-token.ensures in
    let now =
    fits-exported s.pages _ s.entries c.args.key c.in_ok-token.field-0 s.share c.export.new.self told.kept told.after
    was.leases was.reserved (search rules) (c.export.ensures.share s.pages was.share)
    in
    record {
      setup = was.setup;
      pages = was.pages;
      backings = was.backings;
      blobs = was.blobs;
      screens = was.screens;
      showing = was.showing;
      leases = now.leases;
      share = now.pages;
      reserved = now.reserved;
      exports = now.exports;
      given = was.given;
      cursors = was.cursors;
      plugs = was.plugs;
    }
