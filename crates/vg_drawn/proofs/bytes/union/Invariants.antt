use Rattle.std.proofs.Common.{get_or}
use Rattle.vg_drawn.specs.Frames.{GoesOn}
use Rattle.vg_drawn.specs.Words.{word_of}
use Rattle.vg_drawn.proofs.bytes.union.Given as goal

abbrev pub invariant-loop-byte : goal.invariant-loop-byte
invariant-loop-byte l = GoesOn l.all l.byte-index (λ c. word_of (get_or l.bytes c 0)) l.sum
