-- All entries of a journal are gone over.
use Rattle.std.proofs.Common.{◌≡◌, ℕ, ◌+◌, ◌<◌, ◌≤◌, ◌-◌, ◌^◌, ◌==◌, ◌&&◌, ◌↔◌, Bool, true, IsTrue, List, [], ◌∷◌, ◌++◌, length, count_by, arith, refl, sym, ap, subst, ◌∙◌, append-nil, length-append}
use Rattle.std.proofs.lemmas.Bool.{and_parts, eq-eqb, eqb-true}
use Rattle.vg_history.specs.Lines.{is_on_first, is_on_second}
use Rattle.vg_client_holds.specs.Setup.{parties}
use Rattle.vg_machine.specs.Replay as machine
use Rattle.vg_check.specs.Right.{HasLeftAll, frames_after}
use Rattle.vg_machine.specs.Entries.{Entry}
use Rattle.vg_journal.specs.declared.journal.Journal.{Journal}
use Rattle.vg_journal_lines.specs.Pieces.{JournalInRange}
use Rattle.vg_check.specs.Right.{IsWrongAt}
use Rattle.vg_judge.specs.declared.judging.Judging.{Judging}
use Rattle.vg_judge.specs.declared.verdicts.Outline.{Outline}
use Rattle.vg_judge.specs.JudgingWithin.{IsJudging, IsNext}
use Rattle.vg_judge.specs.Outline.{IsOutline}
use Rattle.vg_judge.specs.Verdicts.{FitsEntries, IsWrong}
use Rattle.vg_judge.proofs.VerdictLemmas.{wrong_at}

pub is_next : (bytes : List ℕ) (journal : Journal) (outline : Outline) (done : List Entry) (judging : Judging) (n : ℕ) → JournalInRange journal → IsOutline bytes journal outline → outline.entries ≤ 2 ^ 31 - 1 → n < outline.entries → length done ≡ n
    → IsJudging journal done judging → IsNext journal done judging
is_next bytes journal outline done judging n in_range is few more number going =
    let count = is.entries in
    record {
      in_range = in_range;
      few = omega (arith, count, few);
      more = omega (arith, count, more, number);
      going = going;
    }

pub is_wrong_next : (journal : Journal) (done : List Entry) (n m : ℕ) → IsWrongAt journal.setup journal.frames journal.entries (length done + 1) → length done ≡ n → n + 1 ≡ m → IsWrong journal m
is_wrong_next journal done n m wrong number is =
    wrong_at journal m (subst (λ k. IsWrongAt journal.setup journal.frames journal.entries k) (ap (λ k. k + 1) number ∙ is) wrong)

pub one_more : (journal : Journal) (done : List Entry) (judging : Judging) (n : ℕ) → (entry : Entry) × IsJudging journal (done ++ entry ∷ []) judging → length done ≡ n → (now : List Entry) × (length now ≡ n + 1) × IsJudging journal now judging
one_more journal done judging n found number = (done ++ found.0 ∷ [], length-append done (found.0 ∷ []) ∙ ap (λ k. k + 1) number, found.1)

pub are_all : (journal : Journal) (done left : List Entry) → journal.entries ≡ done ++ left → length journal.entries ≤ length done → done ≡ journal.entries
are_all journal done [] place few = sym (append-nil done) ∙ sym place
are_all journal done (entry ∷ left) place few =
    let size = ap length place in
    let sum = length-append done (entry ∷ left) in
    absurd (omega (arith, size, sum, few))

pub all_done : (bytes : List ℕ) (journal : Journal) (outline : Outline) (judging : Judging) (n : ℕ) → IsOutline bytes journal outline → outline.entries ≤ n → (done : List Entry) × (length done ≡ n) × IsJudging journal done judging → IsJudging journal journal.entries judging
all_done bytes journal outline judging n is end found =
    let count = is.entries in
    let number = found.1 in
    let few : length journal.entries ≤ length found.0 = omega (arith, count, end, number) in
    subst (λ es. IsJudging journal es judging) (are_all journal found.0 found.2.read.left found.2.read.place few) found.2

-- The four tests of what is said beside the entries.
four_hold : (p q l m : Bool) → (p && q && l && m) ≡ true → (p ≡ true) × (q ≡ true) × (l ≡ true) × (m ≡ true)
four_hold p q l m all =
    let last = and_parts (p && q && l) m all in
    let third = and_parts (p && q) l last.0 in
    let two = and_parts p q third.0 in
    (two.0, two.1, third.1, last.1)

four_give : (p q l m : Bool) → p ≡ true → q ≡ true → l ≡ true → m ≡ true → (p && q && l && m) ≡ true
four_give p q l m first second third last = rw (first, second, third, last) refl

pub fits_if : (bytes : List ℕ) (journal : Journal) (outline : Outline) (control cursor : ℕ) (left met : Bool) → IsOutline bytes journal outline
    → control ≡ count_by (is_on_first machine.display) journal.entries → cursor ≡ count_by (is_on_second machine.display) journal.entries
    → IsTrue left ↔ HasLeftAll (parties journal.setup.clients journal.setup.host) journal.entries → IsTrue met ↔ (frames_after journal.setup journal.entries ≡ journal.frames)
    → IsTrue ((control == outline.control) && (cursor == outline.cursor) && left && met) ↔ FitsEntries journal
fits_if bytes journal outline control cursor left met is first second third last = (
  (λ all.
      let four = four_hold (control == outline.control) (cursor == outline.cursor) left met all in
      record {
        frames = last.0 four.3;
        control = sym is.control ∙ sym (eqb-true control outline.control four.0) ∙ first;
        cursor = sym is.cursor ∙ sym (eqb-true cursor outline.cursor four.1) ∙ second;
        left = third.0 four.2;
      }),
  (λ fits.
      four_give (control == outline.control) (cursor == outline.cursor) left met
      (eq-eqb control outline.control (first ∙ sym fits.control ∙ sym is.control)) (eq-eqb cursor outline.cursor (second ∙ sym fits.cursor ∙ sym is.cursor))
      (third.1 fits.left) (last.1 fits.frames)),
)
