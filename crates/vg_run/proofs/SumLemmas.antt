-- What a journal's history and frames come to.
use Rattle.std.proofs.Common.{◌≡◌, ℕ, ◌+◌, Bool, true, false, not, cond, List, [], ◌∷◌, length, arith, refl}
use Rattle.std.specs.Prelude.{count_by}
use Rattle.std.proofs.lemmas.List.Sums.{sum_by-cons}
use Rattle.vg_history.specs.declared.entry.Entry.TheVariants as entries
use Rattle.vg_machine.specs.Entries.{Entry}
use Rattle.vg_legal.specs.Legal.{is_on_control, is_on_cursor}
use Rattle.vg_run.specs.Generates.{is_act}

one_of : (a b c : Bool) → ℕ
one_of a b c = cond a 1 0 + cond b 1 0 + cond c 1 0

either_queue : (b : Bool) → cond b 1 0 + cond (not b) 1 0 ≡ 1
either_queue true = refl
either_queue false = refl

each_one : (entry : Entry) → cond (is_act entry) 1 0 + cond (is_on_control entry) 1 0 + cond (is_on_cursor entry) 1 0 ≡ 1
each_one (entries.Act client call act reply) = refl
each_one (entries.Command client call request reply) = let one = either_queue (is_on_control (entries.Command client call request reply)) in omega (arith, one)

-- each entry is an act, or a command on one of the two queues
pub acts_and_commands : (H : List Entry) → count_by is_act H + count_by is_on_control H + count_by is_on_cursor H ≡ length H
acts_and_commands [] = refl
acts_and_commands (entry ∷ H) =
    let more = acts_and_commands H in
    let one = each_one entry in
    let a = sum_by-cons (λ e. cond (is_act e) 1 0) entry H in
    let b = sum_by-cons (λ e. cond (is_on_control e) 1 0) entry H in
    let c = sum_by-cons (λ e. cond (is_on_cursor e) 1 0) entry H in
    omega (arith, more, one, a, b, c)
