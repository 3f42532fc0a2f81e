use Rattle.std.proofs.Common.{◌≡◌, ◌==◌, ◌||◌, false, not, arith, length}
use Rattle.std.specs.Prelude.{nat_le}
use Rattle.std.proofs.lemmas.Bool.Decides.{nat_tests}
use Rattle.vg_formats.specs.Pixels.{is_empty, is_inside}
use Rattle.std.proofs.Common.{rules, subst, sym}
use Rattle.vg_laws.proofs.Options.{none-there}
use Rattle.vg_blob.specs.Blobs.{blob_at}
use Rattle.vg_device.specs.State.{ShowsEither}
use Rattle.vg_resource.specs.Resource.{resource_at, resource_of}
use Rattle.vg_device.specs.Step.{binding_of}
use Rattle.vg_device.proofs.KeepLemmas.{step-show}
use Rattle.vg_device.proofs.ShowingLemmas.{found-shown}
use Rattle.vg_device.proofs.BoundLemmas.{showing-bind, shows-binding, within-true}
use Rattle.vg_device.proofs.device.Device.show.Goals as goal

pub invariant_of-self : goal.invariant_of-self
invariant_of-self c =
    let was = c.self.invariant in
    let s = c.self.inside in
    let surface = resource_of c.in-Some.surface.now in
    let binding = binding_of c.args.resource c.args.rect.now surface in
    let apart = none-there (blob_at c.args.resource s.blobs) (search rules) in
    let shows = found-shown binding (resource_at c.args.resource s.resources.resources) surface (sym c.in-Some.ensures.value) (shows-binding c.args.resource c.args.rect.now surface (sym c.if-is_empty.ensures) (within-true c.args.rect.now surface.width surface.height (search rules) (search rules))) in
    let now = showing-bind s.blobs s.resources.resources c.args.scanout binding s.scanouts c.bind.new.self c.bind.result _ c.bind.ensures (subst (λ blob. ShowsEither binding blob (resource_at c.args.resource s.resources.resources)) (sym apart) shows) (record { count_is = was.screens; showing = was.showing }) in
    record {
      setup = was.setup;
      pages = was.pages;
      backings = was.backings;
      blobs = was.blobs;
      screens = now.count_is;
      showing = now.showing;
      leases = was.leases;
      share = was.share;
      reserved = was.reserved;
      exports = was.exports;
      given = was.given;
      cursors = was.cursors;
      plugs = was.plugs;
    }

pub returns : goal.returns
returns c =
    let s = c.self.inside in
    let surface = resource_of c.in-Some.surface.now in
    let there : nat_le (length s.setup.displays) c.args.scanout ≡ false = grind (arith, nat_tests) in
    let some : (c.args.resource == 0) ≡ false = grind (arith, nat_tests) in
    let fits : (is_empty c.args.rect.now || not (is_inside c.args.rect.now surface.width surface.height)) ≡ false = search rules in
    rw (← c.self.view_is)
    (step-show (record { setup = s.setup; entries = s.entries; memory = s.pages; resources = s.resources.resources; backings = s.backings; blobs = s.blobs; contexts = s.contexts; uuids = s.uuids; cursors = s.cursors; scanouts = s.scanouts; share = s.share; plugs = s.plugs }) c.args.rect.now c.args.scanout c.args.resource surface c.bind.new.self c.bind.result there some (search rules) (sym c.in-Some.ensures.value) fits c.bind.ensures)
