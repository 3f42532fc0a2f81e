use Rattle.vg_drawn.proofs.SetLemmas.{frames-agree}
use Rattle.vg_drawn.proofs.laws.a_frames_clients_are_of_its_tags.Goals as goal

pub returns : goal.returns
returns c = frames-agree
