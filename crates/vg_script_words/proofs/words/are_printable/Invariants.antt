use Rattle.std.proofs.Common.{◌≡◌, take}
use Rattle.std.specs.Int.{is_in_range}
use Rattle.std.specs.List.{list_all}
use Rattle.vg_script_words.proofs.words.are_printable.Given as goal

abbrev pub invariant-loop-b : goal.invariant-loop-b
invariant-loop-b l = l.all ≡ list_all (is_in_range 32 126) (take l.b-index l.line)
