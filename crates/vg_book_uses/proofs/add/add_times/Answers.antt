use Rattle.std.proofs.Common.{◌≡◌, ℕ, refl, subst, arith}
use Rattle.vg_book_uses.specs.Adding.{HasAdded}
use Rattle.vg_book_uses.specs.contracts.counter.CounterMachine.TheImpl as counter
use Rattle.vg_book_uses.proofs.AddLemmas.{added_none, added_more}
use Rattle.vg_book_uses.proofs.add.add_times.Goals as goal

pub loop-turn-init : goal.loop-turn-init
loop-turn-init g c = added_none counter.ghosts c.args.client c.requires.known

pub loop-turn-preserved : goal.loop-turn-preserved
loop-turn-preserved g c = added_more counter.ghosts (λ h r. refl) c.args.client c.loop-turn.client c.act.new.self c.loop-turn._turn _ _ _ c.loop-turn.invariant c.in_ok-act.ensures refl

pub returns : goal.returns
returns g c = let e : c.loop-turn._turn ≡ c.args.times = omega arith in subst (λ (n : ℕ). HasAdded counter.ghosts c.args.client n c.loop-turn.client) e c.loop-turn.invariant
