use Rattle.vg_check.proofs.FrameLemmas.{frames-more}
use Rattle.vg_check.proofs.laws.frames_stay.Goals as goal

pub returns : goal.returns
returns c = frames-more
