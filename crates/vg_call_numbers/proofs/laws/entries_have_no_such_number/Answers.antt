use Rattle.std.proofs.Common.{sym, ◌∙◌}
use Rattle.vg_call_numbers.proofs.TakenLemmas.{above-each, above-top, none-taken, not-taken}
use Rattle.vg_call_numbers.proofs.laws.entries_have_no_such_number.Goals as goal

pub returns-clause-fresh : goal.returns-clause-fresh
returns-clause-fresh c = λ numbers number taken is. (
  (λ fresh. not-taken number taken (sym (is.used number) ∙ fresh)),
  (λ differ. is.used number ∙ none-taken number taken differ),
)

pub returns-clause-above : goal.returns-clause-above
returns-clause-above c = λ numbers number taken counted is. (
  (λ above. above-each numbers number taken is above),
  (λ all. above-top numbers number taken counted is all),
)
