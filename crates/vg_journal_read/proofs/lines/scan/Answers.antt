use Rattle.std.proofs.Common.{◌≡◌, ◌+◌, false, true, arith, sym, ap, subst, ◌∙◌}
use Rattle.vg_journal_lines.specs.declared.state.State.{State}
use Rattle.vg_journal_lines.specs.States.{start}
use Rattle.vg_journal_lines.specs.Refusals.{IsRefusedAt}
use Rattle.vg_journal_read.specs.Scans.{IsScanned}
use Rattle.vg_journal_read.specs.ScansWithin.{is_over}
use Rattle.vg_journal_read.proofs.ScanLemmas.{IsScanning, scanned, scanning_more, scanning_start}
use Rattle.vg_journal_read.proofs.RunLemmas.{bytes_below, few_pieces, not_over, over_is, passed_shorter, read_whole}
use Rattle.vg_journal_read.proofs.lines.scan.Goals as goal

pub loop-words-init : goal.loop-words-init
loop-words-init c = subst (λ state. IsScanning c.args.bytes.now state 0 c.args.bytes.now 0 0) (sym c.start-state.ensures) (scanning_start c.args.bytes.now)

pub overflow_add-pieces : goal.overflow_add-pieces
overflow_add-pieces c =
    let few = few_pieces c.args.bytes.now c.loop-words.state c.loop-words.pieces c.loop-words.rest.now c.loop-words.invariant.at in
    let passed = rw c.in-Some.is at c.in_ok-after.ensures.ok in
    let shorter = passed_shorter c.loop-words.state c.pass_on.new.state c.loop-words.rest.now c.in-Some.after.now passed in
    omega (arith, few, shorter)

pub loop-words-preserved : goal.loop-words-preserved
loop-words-preserved c =
    let passed = rw c.in-Some.is at c.in_ok-after.ensures.ok in
    let more = scanning_more c.args.bytes.now c.loop-words.state c.pass_on.new.state c.loop-words.pieces c.loop-words.rest.now c.in-Some.after.now c.loop-words.entries_at c.loop-words.frames_at c.loop-words.invariant passed in
    rw (c.place_if-entries_at.ensures, c.place_if-frames_at.ensures, c.is_at_entries.ensures, c.is_at_frames.ensures) more

pub overflow_add-result : goal.overflow_add-result
overflow_add-result c =
    let few = few_pieces c.args.bytes.now c.loop-words.state c.loop-words.pieces c.loop-words.rest.now c.loop-words.invariant.at in
    omega (arith, few)

pub returns-then-not-is_over-clause-err : goal.returns-then-not-is_over-clause-err
returns-then-not-is_over-clause-err c =
    let at = c.loop-words.invariant.at in
    let none = rw c.in_default.is at c.in_ok-after.ensures.ok in
    let same = rw c.in_default.is at c.in_ok-after.ensures.same in
    let other : is_over c.loop-words.state.stage c.loop-words.rest.now ≡ false = ap (λ (s : State). is_over s.stage c.loop-words.rest.now) (sym same) ∙ sym c.is_over.ensures ∙ c.if-not-is_over.true in
    subst (λ n. IsRefusedAt c.args.bytes.now (n + 1)) at.counted
    (c.journals_and_their_refusals.ensures.refused c.args.bytes.now at.front c.loop-words.rest.now (c.loop-words.state, at.items) (bytes_below c.args.bytes.now c.type_inv.bytes) at.run_is at.begins none
    (not_over c.loop-words.state.stage c.loop-words.rest.now other))

pub returns-clause-ok : goal.returns-clause-ok
returns-clause-ok c =
    let at = c.loop-words.invariant.at in
    let same = rw c.in_default.is at c.in_ok-after.ensures.same in
    let is : is_over c.loop-words.state.stage c.loop-words.rest.now ≡ true = ap (λ (s : State). is_over s.stage c.loop-words.rest.now) (sym same) ∙ sym c.is_over.ensures ∙ c.if-not-is_over.false in
    let over = over_is c.loop-words.state.stage c.loop-words.rest.now is in
    let ended =
    c.journals_and_their_refusals.ensures.ended c.args.bytes.now at.front (c.loop-words.state, at.items) (bytes_below c.args.bytes.now c.type_inv.bytes) at.run_is
    (read_whole c.args.bytes.now at.front c.loop-words.rest.now at.begins over.none) over.last in
    let known =
    scanned c.args.bytes.now c.loop-words.state c.loop-words.pieces c.loop-words.rest.now c.loop-words.entries_at c.loop-words.frames_at c.loop-words.invariant ended.0 over.none over.ranked ended.1 ended.2
    c.journals_and_their_pieces.ensures (c.pieces_and_their_text.ensures start) c.journals_and_their_text.ensures.read in
    subst (λ state. IsScanned c.args.bytes.now (record { state = state; entries_at = c.loop-words.entries_at; frames_at = c.loop-words.frames_at })) (sym same) known
