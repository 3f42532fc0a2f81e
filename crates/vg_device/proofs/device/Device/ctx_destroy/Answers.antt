use Rattle.std.proofs.Common.{}
use Rattle.vg_device.proofs.ContextLemmas.{lifted-destroyed}
use Rattle.vg_device.proofs.device.Device.ctx_destroy.Goals as goal

pub returns : goal.returns
returns c =
    let s = c.self.inside in
    rw (← c.self.view_is)
    (lifted-destroyed (λ contexts. record { setup = s.setup; entries = s.entries; memory = s.pages; resources = s.resources.resources; backings = s.backings; blobs = s.blobs; contexts = contexts; uuids = s.uuids; cursors = s.cursors; scanouts = s.scanouts; share = s.share; plugs = s.plugs }) c.args.context s.contexts c.destroy.new.self c.destroy.result c.destroy.ensures)
