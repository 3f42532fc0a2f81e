use Rattle.vg_check.proofs.RightLemmas.{right-or-wrong, wrong-once}
use Rattle.vg_check.proofs.laws.one_entry_is_wrong_first.Goals as goal

pub returns-clause-once : goal.returns-clause-once
returns-clause-once c = wrong-once

pub returns-clause-none : goal.returns-clause-none
returns-clause-none c = right-or-wrong
