use Rattle.std.proofs.Common.{refl, sym, ◌∙◌}
use Rattle.vg_book_uses.specs.contracts.counter.CounterMachine.TheImpl as counter
use Rattle.vg_book_uses.proofs.MeetLemmas.{acted_call, has_met}
use Rattle.vg_book_uses.proofs.meet.exchange.Goals as goal

pub of-post-requires : goal.of-post-requires
of-post-requires g c = acted_call counter.ghosts c.args.client _ _ _ _ c.in_ok-act.ensures

pub returns : goal.returns
returns g c = has_met counter.ghosts (λ h r. refl) c.args.client _ _ _ _ _ _ _ _ _ _ c.requires c.in_ok-act.ensures c.of-post.ensures.same c.meet.ensures.met c.meet.ensures.heard (λ e. c.wait_for_other-other.ensures (sym c.meet.ensures.whose.0 ∙ (e ∙ sym c.number.ensures))) c.in_ok-act-2.ensures
