use Rattle.std.proofs.Common.{rules, refl}
use Rattle.vg_device.proofs.ActLemmas.{fits-taken, popped}
use Rattle.vg_device.proofs.device.Device.take.Goals as goal
use Rattle.vg_device.proofs.device.Device.take.Goals.{in-Ok, in-Err}

pub invariant_of-self : goal.invariant_of-self
invariant_of-self c =
    let was = c.self.invariant in
    let s = c.self.inside in
    let now =
    fits-taken s.pages _ s.entries c.args.client c.args.scanout c.take_scanout.result s.share c.take_scanout.new.self c.take_scanout.ensures.kept c.take_scanout.ensures.after
    (record { leases = was.leases; pages = was.share; reserved = was.reserved; exports = was.exports })
    in
    record {
      setup = was.setup;
      pages = was.pages;
      backings = was.backings;
      blobs = was.blobs;
      screens = was.screens;
      showing = was.showing;
      leases = now.leases;
      share = now.pages;
      reserved = now.reserved;
      exports = now.exports;
      given = was.given;
      cursors = was.cursors;
      plugs = was.plugs;
    }

pub returns-clause-holds : goal.returns-clause-holds
returns-clause-holds c =
    elim c.match-take_scanout.branch [
      | in-Ok w ↦ search rules
      | in-Err w ↦
          let same = popped c.args.holds.now.scanouts c.push.new.self w.pop.new.self c.args.scanout c.in_ok-push.ensures.ok w.pop.ensures.rest in
          rw (w.result-is, w.refused.ensures, w.holds-is, same) refl
    ]
