use Rattle.std.proofs.Common.{◌≡◌, ◌==◌, false, arith, length, rules, subst, sym}
use Rattle.std.specs.Prelude.{nat_le}
use Rattle.std.proofs.lemmas.Bool.Decides.{nat_tests}
use Rattle.vg_resource.specs.Resource.{resource_at}
use Rattle.vg_device.specs.BlobStep.{blob_binding}
use Rattle.vg_device.specs.State.{ShowsEither}
use Rattle.vg_device.proofs.BlobLemmas.{size-found}
use Rattle.vg_device.proofs.BoundLemmas.{showing-bind, shows-blob}
use Rattle.vg_device.proofs.KeepLemmas.{step-show-blob}
use Rattle.vg_device.proofs.device.Device.show_blob.Goals as goal

pub invariant_of-self : goal.invariant_of-self
invariant_of-self c =
    let was = c.self.invariant in
    let s = c.self.inside in
    let (blob, found, size) = size-found c.args.resource s.blobs c.in-Some.size (search rules) in
    let binding = blob_binding c.args.resource c.args.rect.now c.args.layout.now c.in-Some-format_in.format in
    let shows = subst (λ one. ShowsEither binding one (resource_at c.args.resource s.resources.resources)) (sym found)
    (shows-blob c.args.resource c.args.rect.now c.args.layout.now c.in-Some-format_in.format blob (search rules)) in
    let now = showing-bind s.blobs s.resources.resources c.args.scanout binding s.scanouts c.bind.new.self c.bind.result _ c.bind.ensures shows (record { count_is = was.screens; showing = was.showing }) in
    record {
      setup = was.setup;
      pages = was.pages;
      backings = was.backings;
      blobs = was.blobs;
      screens = now.count_is;
      showing = now.showing;
      leases = was.leases;
      share = was.share;
      reserved = was.reserved;
      exports = was.exports;
      given = was.given;
      cursors = was.cursors;
      plugs = was.plugs;
    }

pub returns : goal.returns
returns c =
    let s = c.self.inside in
    let (blob, found, size) = size-found c.args.resource s.blobs c.in-Some.size (search rules) in
    let there : nat_le (length s.setup.displays) c.args.scanout ≡ false = grind (arith, nat_tests) in
    let some : (c.args.resource == 0) ≡ false = grind (arith, nat_tests) in
    rw (← c.self.view_is)
    (step-show-blob (record { setup = s.setup; entries = s.entries; memory = s.pages; resources = s.resources.resources; backings = s.backings; blobs = s.blobs; contexts = s.contexts; uuids = s.uuids; cursors = s.cursors; scanouts = s.scanouts; share = s.share; plugs = s.plugs }) c.args.rect.now c.args.scanout c.args.resource c.args.layout.now blob c.in-Some-format_in.format c.bind.new.self c.bind.result there some found (search rules) (search rules) c.bind.ensures)
