use Rattle.vg_client.proofs.AccountLemmas.{finished-all, finished-idle, finishing-more, finishing-none, first-out}
use Rattle.vg_client.proofs.tokens.finish_all.Goals as goal

pub loop-ticket-init : goal.loop-ticket-init
loop-ticket-init g c = finishing-none c.args.token.now c.args.begun.now.items c.requires.out

pub was_run-run-requires : goal.was_run-run-requires
was_run-run-requires g c =
    first-out c.args.token.now c.loop-ticket.token c.in-Some.ticket c.loop-ticket.begun.items c.pop_front.new.self.items c.loop-ticket.all_run c.loop-ticket.invariant c.in-Some.ensures.first

pub loop-ticket-preserved : goal.loop-ticket-preserved
loop-ticket-preserved g c =
    finishing-more c.args.token.now c.loop-ticket.token c.was_run-run.new.token c.in-Some.ticket c.loop-ticket.begun.items c.pop_front.new.self.items c.loop-ticket.all_run c.was_run-run.result
    c.loop-ticket.invariant c.in-Some.ensures.first c.was_run-run.ensures

pub returns-then-all_run-clause-done : goal.returns-then-all_run-clause-done
returns-then-all_run-clause-done g c =
    finished-all c.args.token.now c.loop-ticket.token c.loop-ticket.begun.items c.loop-ticket.all_run c.loop-ticket.invariant c.in_default.ensures.none c.if-all_run.true

pub returns-then-all_run-clause-idle : goal.returns-then-all_run-clause-idle
returns-then-all_run-clause-idle g c =
    finished-idle c.args.token.now c.loop-ticket.token c.loop-ticket.begun.items c.loop-ticket.all_run c.loop-ticket.invariant c.in_default.ensures.none

pub returns-else-all_run-clause-idle : goal.returns-else-all_run-clause-idle
returns-else-all_run-clause-idle g c =
    finished-idle c.args.token.now c.loop-ticket.token c.loop-ticket.begun.items c.loop-ticket.all_run c.loop-ticket.invariant c.in_default.ensures.none
