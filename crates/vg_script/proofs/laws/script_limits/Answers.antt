use Rattle.vg_script.proofs.LimitLaws.{script_within}
use Rattle.vg_script.proofs.laws.script_limits.Goals as goal

pub returns : goal.returns
returns c = λ bytes script h. script_within bytes script h.0
