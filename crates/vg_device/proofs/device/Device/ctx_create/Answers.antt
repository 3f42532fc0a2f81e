use Rattle.std.proofs.Common.{}
use Rattle.vg_device.proofs.ContextLemmas.{lifted-created}
use Rattle.vg_device.proofs.KeepLemmas.{if-nodata}
use Rattle.vg_device.proofs.device.Device.ctx_create.Goals as goal

pub returns-clause-step : goal.returns-clause-step
returns-clause-step c =
    let s = c.self.inside in
    rw (c.nodata.ensures, ← c.self.view_is)
    (if-nodata c.in_ok-done.done _
    (lifted-created (λ contexts. record { setup = s.setup; entries = s.entries; memory = s.pages; resources = s.resources.resources; backings = s.backings; blobs = s.blobs; contexts = contexts; uuids = s.uuids; cursors = s.cursors; scanouts = s.scanouts; share = s.share; plugs = s.plugs })
    c.args.context c.args.nlen c.args.context_init s.contexts c.create.new.self c.in_ok-done.done c.in_ok-done.ensures.done))
