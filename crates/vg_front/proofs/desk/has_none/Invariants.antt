use Rattle.std.proofs.Common.{◌≡◌, drop}
use Rattle.vg_front.specs.Desks.{is_some_away}
use Rattle.vg_front.proofs.desk.has_none.Given as goal

abbrev pub invariant-loop-home : goal.invariant-loop-home
invariant-loop-home g l = is_some_away (drop l.home-index l.homes) ≡ is_some_away l.homes
