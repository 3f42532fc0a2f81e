use Rattle.std.proofs.Common.{subst}
use Rattle.vg_journal_read.specs.PiecesWithin.{Begins}
use Rattle.vg_journal_read.proofs.PieceLemmas.{not_taken}
use Rattle.vg_journal_read.proofs.pieces.go_on.Goals as goal

pub returns-in-None-clause-ok : goal.returns-in-None-clause-ok
returns-in-None-clause-ok c =
    let begins = subst (λ head. Begins head c.args.bytes.now c.in-Some.piece.now c.in-Some.after.now) c.head_at.ensures c.in-Some.ensures in
    let none = rw c.in-None.is at c.in_ok-part.ensures.ok in
    not_taken c.args.state.now c.args.bytes.now c.in-Some.piece.now c.in-Some.after.now begins none.0
