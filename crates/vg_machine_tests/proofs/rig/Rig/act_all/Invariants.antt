use Rattle.std.proofs.Common.{◌≡◌}
use Rattle.vg_machine_tests.proofs.rig.Rig.act_all.Given as goal

abbrev pub invariant-loop-what : goal.invariant-loop-what
invariant-loop-what g l = l.self.display.lent ≡ l.initial.self.display.lent
