use Rattle.std.proofs.Common.{◌≡◌, ◌+◌, false, true, arith, sym, ap, subst, ◌∙◌}
use Rattle.vg_journal_lines.specs.declared.state.State.{State}
use Rattle.vg_journal_lines.specs.Refusals.{IsJournal, IsRefusedAt}
use Rattle.vg_journal_read.specs.JournalsWithin.{journal_of}
use Rattle.vg_journal_read.specs.ScansWithin.{is_over}
use Rattle.vg_journal_read.proofs.ReadLemmas.{passed, read_is, reading_more, reading_start}
use Rattle.vg_journal_read.proofs.RunLemmas.{bytes_below, few_pieces, not_over, over_is, passed_shorter, read_whole}
use Rattle.vg_journal_read.proofs.whole.read_pieces.Goals as goal

pub loop-frames-init : goal.loop-frames-init
loop-frames-init c = rw (c.start-state.ensures, c.new-entries.ensures, c.new-frames.ensures.items) (reading_start c.args.bytes.now)

pub overflow_add-pieces : goal.overflow_add-pieces
overflow_add-pieces c =
    let few = few_pieces c.args.bytes.now c.loop-frames.state c.loop-frames.pieces c.loop-frames.rest.now c.loop-frames.invariant.at in
    let gone = rw c.in-Some.is at c.in_ok-part.ensures.ok in
    let shorter = passed_shorter c.loop-frames.state c.go_on.new.state c.loop-frames.rest.now c.in-Some.after.now (passed c.loop-frames.state c.go_on.new.state c.loop-frames.rest.now c.in-Some.part c.in-Some.piece.now c.in-Some.after.now gone) in
    omega (arith, few, shorter)

pub loop-frames-preserved : goal.loop-frames-preserved
loop-frames-preserved c =
    let gone = rw c.in-Some.is at c.in_ok-part.ensures.ok in
    reading_more c.args.bytes.now c.loop-frames.state c.go_on.new.state c.loop-frames.pieces c.loop-frames.rest.now c.in-Some.after.now c.in-Some.part c.in-Some.piece.now c.loop-frames.entries c.keep.new.entries
    c.loop-frames.frames.items c.keep.new.frames.items c.loop-frames.invariant gone c.in_ok-keep.ensures.entries c.in_ok-keep.ensures.frames

pub overflow_add-result : goal.overflow_add-result
overflow_add-result c =
    let few = few_pieces c.args.bytes.now c.loop-frames.state c.loop-frames.pieces c.loop-frames.rest.now c.loop-frames.invariant.at in
    omega (arith, few)

pub returns-then-not-is_over-clause-err : goal.returns-then-not-is_over-clause-err
returns-then-not-is_over-clause-err c =
    let at = c.loop-frames.invariant.at in
    let none = rw c.in_default.is at c.in_ok-part.ensures.ok in
    let same = rw c.in_default.is at c.in_ok-part.ensures.same in
    let other : is_over c.loop-frames.state.stage c.loop-frames.rest.now ≡ false = ap (λ (s : State). is_over s.stage c.loop-frames.rest.now) (sym same) ∙ sym c.is_over.ensures ∙ c.if-not-is_over.true in
    subst (λ n. IsRefusedAt c.args.bytes.now (n + 1)) at.counted
    (c.journals_and_their_refusals.ensures.refused c.args.bytes.now at.front c.loop-frames.rest.now (c.loop-frames.state, at.items) (bytes_below c.args.bytes.now c.type_inv.bytes) at.run_is at.begins none
    (not_over c.loop-frames.state.stage c.loop-frames.rest.now other))

pub returns-clause-ok : goal.returns-clause-ok
returns-clause-ok c =
    let at = c.loop-frames.invariant.at in
    let same = rw c.in_default.is at c.in_ok-part.ensures.same in
    let is : is_over c.loop-frames.state.stage c.loop-frames.rest.now ≡ true = ap (λ (s : State). is_over s.stage c.loop-frames.rest.now) (sym same) ∙ sym c.is_over.ensures ∙ c.if-not-is_over.false in
    let over = over_is c.loop-frames.state.stage c.loop-frames.rest.now is in
    let ended =
    c.journals_and_their_refusals.ensures.ended c.args.bytes.now at.front (c.loop-frames.state, at.items) (bytes_below c.args.bytes.now c.type_inv.bytes) at.run_is
    (read_whole c.args.bytes.now at.front c.loop-frames.rest.now at.begins over.none) over.last in
    let known =
    read_is c.args.bytes.now c.loop-frames.state c.loop-frames.pieces c.loop-frames.rest.now c.loop-frames.entries c.loop-frames.frames.items c.loop-frames.invariant ended.0 ended.1 ended.2 in
    subst (IsJournal c.args.bytes.now) (ap (λ (s : State). journal_of s c.loop-frames.entries c.loop-frames.frames.items) (sym same) ∙ sym c.journal_of.ensures) known
