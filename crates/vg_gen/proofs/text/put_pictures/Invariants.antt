use Rattle.std.proofs.Common.{◌≡◌, ◌++◌, string_bytes}
use Rattle.vg_gen.specs.Generated.{pictures, text_of}
use Rattle.vg_gen.proofs.text.put_pictures.Given as goal

abbrev pub invariant-loop-n : goal.invariant-loop-n
invariant-loop-n l = string_bytes l.text ≡ string_bytes l.initial.text ++ text_of (pictures l.number l.client l.n)
