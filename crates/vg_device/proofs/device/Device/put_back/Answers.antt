-- Screens show resources that there are, also once pixels came back.
use Rattle.std.proofs.Common.{◌≡◌, true, length, arith, rules, refl}
use Rattle.vg_resource.specs.Resource.{resource_at}
use Rattle.vg_device.specs.Copies.{has_as_many}
use Rattle.vg_device.proofs.ShowingLemmas.{all-showing, keeping-brought}
use Rattle.vg_device.proofs.device.Device.put_back.Goals as goal

pub invariant_of-self-then-has_as_many : goal.invariant_of-self-then-has_as_many
invariant_of-self-then-has_as_many c =
    let was = c.self.invariant in
    let s = c.self.inside in
    let many : has_as_many (length c.args.pixels.items) (resource_at c.args.resource s.resources.resources) ≡ true = search rules in
    let keeping = keeping-brought c.args.resource c.args.pixels.items s.resources.resources c.restore.new.self.resources (resource_at c.args.resource s.resources.resources) refl c.restore.ensures.same many in
    record {
      setup = was.setup;
      pages = was.pages;
      backings = was.backings;
      blobs = was.blobs;
      screens = was.screens;
      showing = all-showing s.blobs s.resources.resources c.restore.new.self.resources s.scanouts.screens keeping was.showing;
      leases = was.leases;
      share = was.share;
      reserved = omega (arith, was.reserved);
      exports = omega (arith, was.exports);
      given = omega (arith, was.given);
      cursors = was.cursors;
      plugs = was.plugs;
    }
