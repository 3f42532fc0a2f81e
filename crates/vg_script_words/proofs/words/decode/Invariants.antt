use Rattle.std.proofs.Common.{◌≡◌, ◌*◌, take}
use Rattle.vg_script_words.specs.Words.{hex_bytes}
use Rattle.vg_script_words.proofs.words.decode.Given as goal

abbrev pub invariant-loop-i : goal.invariant-loop-i
invariant-loop-i l = take l.i l.bytes ≡ hex_bytes (take (2 * l.i) l.word)
