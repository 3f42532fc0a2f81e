use Rattle.std.proofs.Common.{◌-◌, length}
use Rattle.vg_driver.specs.Halves.{HasReaped}
use Rattle.vg_driver.proofs.half.Half.reap_all.Given as goal

abbrev pub invariant-loop : goal.invariant-loop
invariant-loop g l = HasReaped l.initial.self l.self

abbrev pub decreases-loop : goal.decreases-loop
decreases-loop g l = length l.self.published - length l.self.reaped
