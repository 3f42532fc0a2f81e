use Rattle.vg_device.specs.State.{State, counted}
use Rattle.vg_device.proofs.FrameLemmas.{MakeEach, makes-frames}
use Rattle.vg_device.proofs.device.Device.each_frame_is_of_its_screen.Goals as goal

pub returns : goal.returns
returns c =
    let s = c.self.inside in
    let state : State = record { setup = s.setup; entries = s.entries; memory = s.pages; resources = s.resources.resources; backings = s.backings; blobs = s.blobs; contexts = s.contexts; uuids = s.uuids; cursors = s.cursors; scanouts = s.scanouts; share = s.share; plugs = s.plugs } in
    let law : MakeEach s.scanouts = record { by_flush = c.each_frame_is_of_its_screen.ensures.flushed; by_snap = c.each_frame_is_of_its_screen.ensures.snapped } in
    rw (← c.self.view_is) (makes-frames (counted state) law)
