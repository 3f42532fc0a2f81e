use Rattle.vg_origin.proofs.FairLemmas.{are-fair}
use Rattle.vg_origin.proofs.ShowLemmas.{frames-shown}
use Rattle.vg_origin.proofs.laws.frames_have_origins.Goals as goal

pub returns : goal.returns
returns c setup H sound long = frames-shown setup H (are-fair setup H sound long)
