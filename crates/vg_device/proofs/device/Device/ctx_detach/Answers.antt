use Rattle.std.proofs.Common.{}
use Rattle.vg_device.proofs.ContextLemmas.{lifted-detached}
use Rattle.vg_device.proofs.device.Device.ctx_detach.Goals as goal

pub returns : goal.returns
returns c =
    let s = c.self.inside in
    rw (← c.self.view_is)
    (lifted-detached (λ contexts. record { setup = s.setup; entries = s.entries; memory = s.pages; resources = s.resources.resources; backings = s.backings; blobs = s.blobs; contexts = contexts; uuids = s.uuids; cursors = s.cursors; scanouts = s.scanouts; share = s.share; plugs = s.plugs }) c.args.context c.args.resource s.contexts c.detach.new.self c.detach.result c.detach.ensures)
