use Rattle.std.specs.List.{AllWithin}
use Rattle.vg_front.specs.Desks.{IsAway}
use Rattle.vg_front.proofs.desk.first_ready.Given as goal

abbrev pub invariant-loop-place : goal.invariant-loop-place
invariant-loop-place g l = AllWithin (IsAway l.first l.homes) l.waiting 0 l.place
