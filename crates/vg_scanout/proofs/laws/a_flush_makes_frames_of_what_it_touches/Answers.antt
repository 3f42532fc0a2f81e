use Rattle.vg_scanout.proofs.TouchLemmas.{makes-touched}
use Rattle.vg_scanout.proofs.laws.a_flush_makes_frames_of_what_it_touches.Goals as goal

pub returns : goal.returns
returns c = makes-touched
