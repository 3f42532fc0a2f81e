use Rattle.std.proofs.Common.{◌≡◌, true, take}
use Rattle.vg_text.specs.Text.{are_characters}
use Rattle.vg_text.proofs.spelling.characters.Given as goal

abbrev pub invariant-loop-count : goal.invariant-loop-count
invariant-loop-count l = are_characters (take l.count l.packed) ≡ true
