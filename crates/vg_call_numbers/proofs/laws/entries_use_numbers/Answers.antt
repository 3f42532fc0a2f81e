use Rattle.vg_call_numbers.proofs.TakenLemmas.{none-yet, one-more}
use Rattle.vg_call_numbers.proofs.laws.entries_use_numbers.Goals as goal

pub returns-clause-none : goal.returns-clause-none
returns-clause-none c = none-yet

pub returns-clause-more : goal.returns-clause-more
returns-clause-more c = one-more
