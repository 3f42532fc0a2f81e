use Rattle.std.proofs.Common.{◌≡◌, length}
use Rattle.vg_line_words.specs.Words.{parts_at, all_numbers}
use Rattle.vg_line_words.proofs.ListLaws.{onto}
use Rattle.vg_line_words.proofs.words.numbers.Given as goal

abbrev pub invariant-loop-part : goal.invariant-loop-part
invariant-loop-part l = onto l.numbers.items (all_numbers l.bound (parts_at 44 l.rest)) ≡ all_numbers l.bound (parts_at 44 l.word)

abbrev pub decreases-loop-part : goal.decreases-loop-part
decreases-loop-part l = length l.rest
