use Rattle.vg_call_numbers.proofs.TakenLemmas.{all-sorted, sorted-all}
use Rattle.vg_call_numbers.proofs.laws.entries_have_all_numbers.Goals as goal

pub returns : goal.returns
returns c = λ numbers taken count is. (
  (λ all. all-sorted numbers taken count is all),
  (λ are. sorted-all numbers taken count is are),
)
