use Rattle.std.proofs.Common.{arith}
use Rattle.vg_check.proofs.CheckerLemmas.{entries-all}
use Rattle.vg_judge.proofs.TurnLemmas.{LawsOfRight, goes_on, has_next, not_rightly, other_frames}
use Rattle.vg_judge.proofs.judging.Judging.next_is_right.Goals as goal

pub next-requires : goal.next-requires
next-requires c = (_, _, has_next _ _ _ c.requires.2)

pub next-requires-2-clause-entries : goal.next-requires-2-clause-entries
next-requires-2-clause-entries c =
    let next = c.requires.2 in
    let count = entries-all _ _ _ next.going.checked in
    let more = next.more in
    let few = next.few in
    omega (arith, count, more, few)

pub next-requires-2-clause-client : goal.next-requires-2-clause-client
next-requires-2-clause-client c = (c.in_ok-entry.ensures _ _ (has_next _ _ _ c.requires.2)).one

pub next-requires-2-clause-call : goal.next-requires-2-clause-call
next-requires-2-clause-call c = (c.in_ok-entry.ensures _ _ (has_next _ _ _ c.requires.2)).call

pub returns-then-not-branch-clause-wrong : goal.returns-then-not-branch-clause-wrong
returns-then-not-branch-clause-wrong c = λ is journal done next.
    let laws : LawsOfRight = record { right = c.right_entries_go_on.ensures.right; wrong = c.right_entries_go_on.ensures.wrong; stay = c.frames_stay.ensures } in
    let gone = c.in_ok-entry.ensures _ _ (has_next _ _ _ next) in
    not_rightly _ _ _ _ _ laws next gone (c.in_ok-next.ensures.wrong c.if-not-branch.true)

pub returns-clause-right : goal.returns-clause-right
returns-clause-right c = λ is journal done next.
    let laws : LawsOfRight = record { right = c.right_entries_go_on.ensures.right; wrong = c.right_entries_go_on.ensures.wrong; stay = c.frames_stay.ensures } in
    let gone = c.in_ok-entry.ensures _ _ (has_next _ _ _ next) in
    let checked = c.in_ok-next.ensures.right c.if-not-branch.false _ _ next.going.checked in
    (c.in_ok-entry.entry, goes_on _ _ _ _ _ _ laws next gone checked (c.frames.ensures _ _ checked.checked) (c.in_ok-met.ensures.met is))

pub returns-clause-wrong : goal.returns-clause-wrong
returns-clause-wrong c = λ is journal done next.
    let laws : LawsOfRight = record { right = c.right_entries_go_on.ensures.right; wrong = c.right_entries_go_on.ensures.wrong; stay = c.frames_stay.ensures } in
    let gone = c.in_ok-entry.ensures _ _ (has_next _ _ _ next) in
    let checked = c.in_ok-next.ensures.right c.if-not-branch.false _ _ next.going.checked in
    other_frames _ _ _ _ _ _ laws next gone (c.frames.ensures _ _ checked.checked) (c.in_ok-met.ensures.other is)
