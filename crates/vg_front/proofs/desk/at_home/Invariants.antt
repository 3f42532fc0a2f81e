use Rattle.std.proofs.Common.{◌≡◌, Some, map}
use Rattle.vg_front.proofs.desk.at_home.Given as goal

abbrev pub invariant-loop-token : goal.invariant-loop-token
invariant-loop-token g l = l.homes.items ≡ map Some l.yielded
