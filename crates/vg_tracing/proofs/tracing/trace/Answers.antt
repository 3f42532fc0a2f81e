use Rattle.std.proofs.lemmas.Result.{on_ok_weaker}
use Rattle.vg_tracing.proofs.TraceLemmas.{goes_on, has_next, is_of_few}
use Rattle.vg_tracing.proofs.tracing.trace.Goals as goal

pub next-requires : goal.next-requires
next-requires c =
    let (journal, in_range, few, more, t) = c.requires.journal in
    (journal, t.done, has_next _ _ _ _ in_range few more t)

pub next-requires-2-clause-client : goal.next-requires-2-clause-client
next-requires-2-clause-client c =
    let (journal, in_range, few, more, t) = c.requires.journal in
    is_of_few _ _ _ _ in_range (c.in_ok-entry.ensures journal t.done (has_next _ _ _ _ in_range few more t))

pub returns : goal.returns
returns c =
    on_ok_weaker c.next-2.result (λ over. λ journal in_range few more t.
    goes_on _ _ _ _ _ _ _ t (c.in_ok-entry.ensures journal t.done (has_next _ _ _ _ in_range few more t)) over) c.next-2.ensures
