use Rattle.std.proofs.Common.{◌≡◌}
use Rattle.vg_driver.proofs.driver.wait_on.Given as goal

abbrev pub invariant-loop : goal.invariant-loop
invariant-loop g l = l.token ≡ l.initial.token
