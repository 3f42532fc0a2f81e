use Rattle.vg_origin.proofs.ShowLemmas.{frames-shown}
use Rattle.vg_origin.proofs.laws.frames_are_of_their_buffers.Goals as goal

pub returns : goal.returns
returns c = frames-shown
