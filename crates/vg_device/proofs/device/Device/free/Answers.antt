use Rattle.std.proofs.Common.{◌∙◌}
use Rattle.vg_device.proofs.ActLemmas.{blobs-kept, fits-freed, held-kept, large-freed}
use Rattle.vg_device.proofs.device.Device.free.Goals as goal

pub invariant_of-self : goal.invariant_of-self
invariant_of-self c =
    let was = c.self.invariant in
    let s = c.self.inside in
    let large = large-freed c.free.result s.pages c.free.new.pages s.share c.free.new.self c.args.key c.free.ensures.kept c.free.ensures.after in
    let now = fits-freed _ s.entries c.args.key c.free.result s.pages c.free.new.pages s.share c.free.new.self c.free.ensures.kept c.free.ensures.after was.leases was.reserved was.exports c.free.ensures.share in
    record {
      setup = was.setup;
      pages = large.taken ∙ was.pages;
      backings = held-kept s.pages c.free.new.pages large s.backings was.backings;
      blobs = blobs-kept s.pages c.free.new.pages large s.blobs was.blobs;
      screens = was.screens;
      showing = was.showing;
      leases = now.leases;
      share = now.pages;
      reserved = now.reserved;
      exports = now.exports;
      given = was.given;
      cursors = was.cursors;
      plugs = was.plugs;
    }
