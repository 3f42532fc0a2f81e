use Rattle.std.proofs.Common.{◌≡◌, ◌++◌, string_bytes}
use Rattle.vg_gen.specs.Generated.{moves, text_of}
use Rattle.vg_gen.proofs.text.put_moves.Given as goal

abbrev pub invariant-loop-n : goal.invariant-loop-n
invariant-loop-n l = string_bytes l.text ≡ string_bytes l.initial.text ++ text_of (moves l.number l.client l.n)
