use Rattle.std.proofs.Common.{◌≡◌, []}
use Rattle.vg_machine_tests.proofs.rig.Rig.run_all.Given as goal

abbrev pub invariant-loop-row : goal.invariant-loop-row
invariant-loop-row g l = l.self.display.lent ≡ []
