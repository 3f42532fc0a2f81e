use Rattle.std.proofs.Common.{◌≡◌, true, rules}
use Rattle.vg_context.specs.Contexts.{is_live}
use Rattle.vg_device.specs.State.{State, has_resource}
use Rattle.vg_device.proofs.ContextLemmas.{lifted-attached}
use Rattle.vg_device.proofs.KeepLemmas.{if-nodata}
use Rattle.vg_device.proofs.device.Device.ctx_attach.Goals as goal

pub returns-clause-step : goal.returns-clause-step
returns-clause-step c =
    let s = c.self.inside in
    let state : State = record { setup = s.setup; entries = s.entries; memory = s.pages; resources = s.resources.resources; backings = s.backings; blobs = s.blobs; contexts = s.contexts; uuids = s.uuids; cursors = s.cursors; scanouts = s.scanouts; share = s.share; plugs = s.plugs } in
    let live : is_live c.args.context s.contexts ≡ true = search rules in
    let known : has_resource state c.args.resource ≡ true = search rules in
    rw (c.nodata.ensures, ← c.self.view_is)
    (if-nodata c.in_ok-done.done _
    (lifted-attached (λ contexts. record { setup = s.setup; entries = s.entries; memory = s.pages; resources = s.resources.resources; backings = s.backings; blobs = s.blobs; contexts = contexts; uuids = s.uuids; cursors = s.cursors; scanouts = s.scanouts; share = s.share; plugs = s.plugs })
    c.args.context c.args.resource (has_resource state c.args.resource) s.contexts c.attach.new.self c.in_ok-done.done live known c.in_ok-done.ensures.done))
