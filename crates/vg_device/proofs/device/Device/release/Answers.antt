use Rattle.std.proofs.Common.{rules, refl}
use Rattle.vg_device.proofs.ActLemmas.{fits-released, popped}
use Rattle.vg_device.proofs.device.Device.release.Goals as goal
use Rattle.vg_device.proofs.device.Device.release.Goals.{in-Ok-true, in-Ok-false, in-Err}

pub invariant_of-self : goal.invariant_of-self
invariant_of-self c =
    let was = c.self.invariant in
    let s = c.self.inside in
    let now =
    fits-released s.pages _ s.entries c.args.client c.args.key c.release.result s.share c.release.new.self c.release.ensures.kept c.release.ensures.after
    was.leases was.reserved was.exports (c.release.ensures.share s.pages was.share)
    in
    record {
      setup = was.setup;
      pages = was.pages;
      backings = was.backings;
      blobs = was.blobs;
      screens = was.screens;
      showing = was.showing;
      leases = now.leases;
      share = now.pages;
      reserved = now.reserved;
      exports = now.exports;
      given = was.given;
      cursors = was.cursors;
      plugs = was.plugs;
    }

pub returns-clause-holds : goal.returns-clause-holds
returns-clause-holds c =
    elim c.match-release.branch [
      | in-Ok-true w ↦ search rules
      | in-Ok-false w ↦
          let same = popped c.args.holds.now.taking_down c.push.new.self w.pop.new.self c.args.key c.in_ok-push.ensures.ok w.pop.ensures.rest in
          rw (w.result-is, w.holds-is, same, w.remove.ensures) refl
      | in-Err w ↦
          let same = popped c.args.holds.now.taking_down c.push.new.self w.pop-in-Err.new.self c.args.key c.in_ok-push.ensures.ok w.pop-in-Err.ensures.rest in
          rw (w.result-is, w.refused.ensures, w.holds-is, same) refl
    ]
