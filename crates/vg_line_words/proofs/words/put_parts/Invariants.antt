use Rattle.std.proofs.Common.{◌≡◌, ◌++◌, map, length}
use Rattle.vg_line_words.specs.Words.{parts_at}
use Rattle.vg_line_words.proofs.words.put_parts.Given as goal

abbrev pub invariant-loop-part : goal.invariant-loop-part
invariant-loop-part l = map (λ word. word.now) l.words.items ++ parts_at 32 l.rest ≡ parts_at 32 l.line

abbrev pub decreases-loop-part : goal.decreases-loop-part
decreases-loop-part l = length l.rest
