use Rattle.std.proofs.Common.{refl}
use Rattle.vg_check.proofs.RightLemmas.{one-more-right}
use Rattle.vg_check.proofs.laws.right_entries_go_on.Goals as goal

pub returns-clause-right : goal.returns-clause-right
returns-clause-right c = one-more-right

pub returns-clause-wrong : goal.returns-clause-wrong
returns-clause-wrong c = λ setup frames H entry rest right wrong. record { front = H; entry = entry; rest = rest; place = refl; number = refl; right = right; wrong = wrong }
