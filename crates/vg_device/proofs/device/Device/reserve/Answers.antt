use Rattle.std.proofs.Common.{rules, ◌∙◌}
use Rattle.vg_device.proofs.ActLemmas.{blobs-kept, fits-reserved, held-kept}
use Rattle.vg_device.proofs.device.Device.reserve.Goals as goal

pub invariant_of-self : goal.invariant_of-self
invariant_of-self c =
    let was = c.self.invariant in
    let same = c.in_err-reserve_held.ensures.err in
    record {
      setup = was.setup;
      pages = rw same.1 was.pages;
      backings = rw same.1 was.backings;
      blobs = rw same.1 was.blobs;
      screens = was.screens;
      showing = was.showing;
      leases = rw same.0 was.leases;
      share = c.reserve_held.ensures.share;
      reserved = rw same.0 was.reserved;
      exports = rw same.0 was.exports;
      given = was.given;
      cursors = was.cursors;
      plugs = was.plugs;
    }

pub invariant_of-self-2 : goal.invariant_of-self-2
invariant_of-self-2 c =
    let was = c.self.invariant in
    let s = c.self.inside in
    let now = fits-reserved _ s.entries c.args.client _ _ s.pages c.reserve_held.new.pages s.share c.reserve_held.new.share c.in_ok-reserve_held.ensures.buffer c.in_ok-reserve_held.ensures.taken was.leases (search rules) was.exports in
    record {
      setup = was.setup;
      pages = now.large.taken ∙ was.pages;
      backings = held-kept s.pages c.reserve_held.new.pages now.large s.backings was.backings;
      blobs = blobs-kept s.pages c.reserve_held.new.pages now.large s.blobs was.blobs;
      screens = was.screens;
      showing = was.showing;
      leases = now.leases;
      share = c.reserve_held.ensures.share;
      reserved = now.reserved;
      exports = now.exports;
      given = was.given;
      cursors = was.cursors;
      plugs = was.plugs;
    }
