use Rattle.std.proofs.Common.{subst}
use Rattle.vg_front_tests.specs.Held.{IsHeld}
use Rattle.vg_front_tests.proofs.HeldLemmas.{held_is}
use Rattle.vg_front_tests.proofs.rig.take.Goals as goal

pub returns-in-Run-clause-held : goal.returns-in-Run-clause-held
returns-in-Run-clause-held g c =
    let s = c.in-Run.ensures.steps in
    subst (λ h. IsHeld h (record { token = c.in-Run.token; right = c.chain.new.right; walked = c.in_ok-walked-in-Run.walked; cargo = c.in-Run.cargo })) c.loop-turn.invariant
    (held_is _ c.loop-turn.front.control.halted s.0 c.step.new.self c.in-Run.token c.in-Run.right c.chain.new.right c.in_ok-walked-in-Run.walked c.in-Run.cargo s.2 s.3 c.in_ok-walked-in-Run.ensures.walked c.in_ok-walked-in-Run.ensures.chain)
