-- The lines of the first entries of a history, and of those behind them.
use Rattle.std.proofs.Common.{ℕ, ◌+◌, ◌≡◌, ◌-◌, List, ◌++◌, length, length-append, ap, sym, ◌∙◌, arith}
use Rattle.vg_text.specs.Text.{numbered}
use Rattle.vg_text.proofs.NumberedLemmas.{numbered_append}
use Rattle.vg_machine.specs.Entries.{Entry}
use Rattle.vg_journal.specs.Text.{entry_line}

pub all_lines : (es whole all : List Entry) (lines : List ℕ) (many : ℕ) → lines ≡ numbered entry_line 1 es → es ++ whole ≡ all → many ≡ length all → lines ++ numbered entry_line (many - length whole + 1) whole ≡ numbered entry_line 1 all
all_lines es whole all lines many spelled joined count =
    let size = length-append es whole in
    let same = ap length joined in
    let place : many - length whole + 1 ≡ 1 + length es = omega (arith, size, same, count) in
    ap (λ l. l ++ numbered entry_line (many - length whole + 1) whole) spelled
    ∙ ap (λ n. numbered entry_line 1 es ++ numbered entry_line n whole) place ∙ sym (numbered_append entry_line 1 es whole)
    ∙ ap (numbered entry_line 1) joined
