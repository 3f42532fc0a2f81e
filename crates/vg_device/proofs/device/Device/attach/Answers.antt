use Rattle.std.proofs.Common.{◌≡◌, false, true, rules}
use Rattle.vg_blob.specs.Blobs.{blob_at}
use Rattle.std.specs.Prelude.{is_some}
use Rattle.vg_resource.specs.Resource.{resource_at}
use Rattle.std.proofs.Common.{}
use Rattle.vg_device.proofs.KeepLemmas.{if-nodata, lifted-attach}
use Rattle.vg_device.proofs.device.Device.attach.Goals as goal

pub returns-clause-step : goal.returns-clause-step
returns-clause-step c =
    let s = c.self.inside in
    let known : is_some (resource_at c.args.resource s.resources.resources) ≡ true = search rules in
    let apart : is_some (blob_at c.args.resource s.blobs) ≡ false = search rules in
    rw (c.nodata.ensures, ← c.self.view_is, apart)
    (if-nodata c.in_ok-done.done _
    (lifted-attach (λ backings. record { setup = s.setup; entries = s.entries; memory = s.pages; resources = s.resources.resources; backings = backings; blobs = s.blobs; contexts = s.contexts; uuids = s.uuids; cursors = s.cursors; scanouts = s.scanouts; share = s.share; plugs = s.plugs })
    (is_some (resource_at c.args.resource s.resources.resources)) s.pages c.args.resource c.args.entries.now s.backings c.attach.new.self c.in_ok-done.done known c.in_ok-done.ensures.done))
