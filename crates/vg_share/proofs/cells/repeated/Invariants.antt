use Rattle.std.proofs.Common.{◌≡◌}
use Rattle.vg_share.specs.Cells.{repeated}
use Rattle.vg_share.proofs.cells.repeated.Given as goal

abbrev pub invariant-loop-turn : goal.invariant-loop-turn
invariant-loop-turn l = l.block.items ≡ repeated l.bytes l._turn
