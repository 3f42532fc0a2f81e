use Rattle.vg_script.proofs.JudgeLaws.{one_of_both, never_both, one_fault}
use Rattle.vg_script.proofs.laws.script_or_fault.Goals as goal

pub returns-clause-either : goal.returns-clause-either
returns-clause-either c = one_of_both

pub returns-clause-not_both : goal.returns-clause-not_both
returns-clause-not_both c = never_both

pub returns-clause-one_fault : goal.returns-clause-one_fault
returns-clause-one_fault c = one_fault
