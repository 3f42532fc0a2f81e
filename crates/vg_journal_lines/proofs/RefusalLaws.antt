-- A text that is read to its end is a journal's, and where no piece goes on any more it is refused.
use Rattle.std.proofs.Common.{◌≡◌, inl, inr, ℕ, ◌+◌, ◌-◌, ◌<◌, ◌≤◌, List, [], ◌∷◌, ◌++◌, length, take, drop, Some, arith, refl, sym, ap, ◌∙◌, subst, append_assoc, append-nil, length-append, length-take-le}
use Rattle.std.proofs.lemmas.Bool.{cases_lt}
use Rattle.std.proofs.lemmas.List.{take-append-drop, take-append-le, take-take, take_all}
use Rattle.std.proofs.lemmas.List.Elements.{All-head, All-tail, All-cons, All-nil, All-append}
use Rattle.vg_laws.proofs.Options.{some_is}
use Rattle.vg_journal.specs.declared.journal.Journal.{Journal}
use Rattle.vg_line_words.specs.Words.{AreBelow}
use Rattle.vg_journal_lines.specs.declared.state.State.{State}
use Rattle.vg_journal_lines.specs.States.{Item, run, start, step}
use Rattle.vg_journal_lines.specs.Pieces.{IsReadAs, done_of, pieces_of, whole}
use Rattle.vg_journal_lines.specs.Refusals.{GoesNoMore, IsJournal, IsRefusedAt, Reaches}
use Rattle.vg_journal_lines.proofs.EntryLaws.{CommandsAreSaid}
use Rattle.vg_journal_lines.proofs.CutLemmas.{goes_more, goes_on, one_next, ran}
use Rattle.vg_journal_lines.proofs.TextLemmas.{text_pieces, whole_append}
use Rattle.vg_journal_lines.proofs.RunLaws.{journal_read}
use Rattle.vg_journal_lines.proofs.BackLemmas.{Bytes, IsOver, at_start, first_step, over_none}
use Rattle.vg_journal_lines.proofs.OnlyLaws.{pieces_only}
use Rattle.vg_journal_lines.proofs.EndLemmas.{can_end}

-- The bytes of a text are those of its pieces.
below_front : (xs ys : List ℕ) → AreBelow 256 (xs ++ ys) → AreBelow 256 xs × AreBelow 256 ys
below_front [] ys are = (All-nil (λ n. n < 256), are)
below_front (x ∷ xs) ys are =
    let more = below_front xs ys (All-tail (λ n. n < 256) x (xs ++ ys) are) in
    (All-cons (λ n. n < 256) x xs (All-head (λ n. n < 256) x (xs ++ ys) are) more.0, more.1)

below_pieces : (pieces : List (List ℕ)) → AreBelow 256 (whole pieces) → Bytes pieces
below_pieces [] are = All-nil (λ p. AreBelow 256 p)
below_pieces (piece ∷ pieces) are =
    let parts = below_front piece (10 ∷ whole pieces) are in
    All-cons (λ p. AreBelow 256 p) piece pieces parts.0 (below_pieces pieces (All-tail (λ n. n < 256) 10 (whole pieces) parts.1))

-- Nothing comes behind the last line.
over_stays : (pieces : List (List ℕ)) (state : State) (all : State × List Item) → IsOver state → run state pieces ≡ Some all → pieces ≡ []
over_stays [] state all over is = refl
over_stays (piece ∷ pieces) state all over is = absurd (over_none state piece pieces all over is)

-- A run over some pieces and others is one over the first.
front_run : (ps qs : List (List ℕ)) (state : State) (all : State × List Item) → run state (ps ++ qs) ≡ Some all → (front : State × List Item) × (run state ps ≡ Some front)
front_run [] qs state all is = ((state, []), refl)
front_run (p ∷ ps) qs state all is =
    let r = ran state p (ps ++ qs) all is in
    let more = front_run ps qs r.next.0 r.more r.rest in
    ((more.0.0, r.next.1 ∷ more.0.1), goes_more state r.next.0 r.next.1 p ps more.0 r.first more.1)

-- Where one of two runs over a text ends before the other, the other goes on from there.
record Ahead (a b : State × List Item) (ps qs : List (List ℕ)) (v w : List ℕ) : Type 0 where
  more : List (List ℕ)
  items : List Item
  are : qs ≡ ps ++ more
  rest : v ≡ whole more ++ w
  run_is : run a.0 more ≡ Some (b.0, items)

meet : (ps qs : List (List ℕ)) (state : State) (a b : State × List Item) (v w : List ℕ) → run state ps ≡ Some a → run state qs ≡ Some b → whole ps ++ v ≡ whole qs ++ w → length ps ≤ length qs → Ahead a b ps qs v w
meet [] qs state a b v w first second same few =
    let here : state ≡ a.0 = at_start state a first in
    record { more = qs; items = b.1; are = refl; rest = same; run_is = ap (λ s. run s qs) (sym here) ∙ second }
meet (p ∷ ps) [] state a b v w first second same few = absurd (omega (arith, few))
meet (p ∷ ps) (q ∷ qs) state a b v w first second same few =
    let left = ran state p ps a first in
    let right = ran state q qs b second in
    let flat : p ++ 10 ∷ (whole ps ++ v) ≡ q ++ 10 ∷ (whole qs ++ w) = sym (append_assoc p (10 ∷ whole ps) v) ∙ same ∙ append_assoc q (10 ∷ whole qs) w in
    let cut = one_next state p q (whole ps ++ v) (whole qs ++ w) left.next right.next left.first right.first flat in
    let next : left.next ≡ right.next = some_is left.next right.next (sym left.first ∙ ap (step state) cut.0 ∙ right.first) in
    let rest : run left.next.0 qs ≡ Some right.more = ap (λ n. run n.0 qs) next ∙ right.rest in
    let on = meet ps qs left.next.0 left.more right.more v w left.rest rest cut.1 (omega (arith, few)) in
    record {
      more = on.more;
      items = on.items;
      are = λ i. sym cut.0 i ∷ on.are i;
      rest = on.rest;
      run_is = ap (λ n. run n.0 on.more) (sym left.is) ∙ on.run_is ∙ ap (λ n. Some (n.0, on.items)) right.is;
    }

-- What is read to its end.
pub ended : CommandsAreSaid → (bytes : List ℕ) (front : List (List ℕ)) (all : State × List Item) → AreBelow 256 bytes → run start front ≡ Some all → bytes ≡ whole front → IsOver all.0
    → (journal : Journal) × IsJournal bytes journal × IsReadAs front journal
ended commands bytes front all below is text over =
    let found = pieces_only commands front all (below_pieces front (subst (AreBelow 256) text below)) is over in
    let read = journal_read commands found.0 found.1 in (
      found.0,
      record { in_range = found.1; text = text ∙ ap whole found.2 ∙ sym (text_pieces commands found.0) },
      record { items = read.items; run_is = ap (run start) found.2 ∙ read.run_is; entries = read.entries; frames = read.frames },
    )

-- A beginning of a beginning.
whole_taken : (count low : ℕ) (pieces : List (List ℕ)) → low ≤ count → count ≤ length pieces → whole (take count pieces) ≡ whole (take low pieces) ++ whole (drop low (take count pieces))
whole_taken count low pieces less within =
    let front : take low (take count pieces) ≡ take low pieces = take-take low count pieces less in
    ap whole (sym (take-append-drop low (take count pieces))) ∙ whole_append (take low (take count pieces)) (drop low (take count pieces))
    ∙ ap (λ ps. whole ps ++ whole (drop low (take count pieces))) front

reaches_less : (bytes : List ℕ) (count low : ℕ) → low ≤ count → Reaches bytes count → Reaches bytes low
reaches_less bytes count low less r =
    let pieces = pieces_of r.journal in
    let enough = r.enough in
    record {
      journal = r.journal;
      in_range = r.in_range;
      enough = omega (arith, enough, less);
      rest = whole (drop low (take count pieces)) ++ r.rest;
      begins = r.begins ∙ ap (λ l. l ++ r.rest) (whole_taken count low pieces less r.enough) ∙ append_assoc (whole (take low pieces)) (whole (drop low (take count pieces))) r.rest;
    }

not_behind : (bytes : List ℕ) (m n : ℕ) → IsRefusedAt bytes m → IsRefusedAt bytes n → m < n → ⊥
not_behind bytes m n first second less = first.here (reaches_less bytes (n - 1) m (omega (arith, less)) second.before)

pub one_refusal : (bytes : List ℕ) (m n : ℕ) → IsRefusedAt bytes m → IsRefusedAt bytes n → m ≡ n
one_refusal bytes m n first second =
    elim (cases_lt m n) [
      | inl less ↦ absurd (not_behind bytes m n first second less)
      | inr other ↦ elim (cases_lt n m) [ inl less ↦ absurd (not_behind bytes n m second first less) | inr same ↦ omega (arith, other, same) ]
    ]

-- Where no piece goes on any more.
module _ (commands : CommandsAreSaid) (bytes : List ℕ) (front : List (List ℕ)) (rest : List ℕ) (all : State × List Item)
    (is : run start front ≡ Some all) (text : bytes ≡ whole front ++ rest) (no_more : GoesNoMore all.0 rest) where
  -- So much was read.
  reached : AreBelow 256 bytes → Reaches bytes (length front + 1 - 1)
  reached below =
      let end = can_end front all is in
      let pieces = front ++ end.pieces in
      let goes : run start pieces ≡ Some (end.all.0, all.1 ++ end.all.1) = goes_on front end.pieces start all.0 end.all.0 all.1 end.all.1 is end.run_is in
      let front_below : Bytes front = below_pieces front (below_front (whole front) rest (subst (AreBelow 256) text below)).0 in
      let found = pieces_only commands pieces (end.all.0, all.1 ++ end.all.1) (All-append (λ p. AreBelow 256 p) front end.pieces front_below end.below) goes end.over in
      let size : length pieces ≡ length (pieces_of found.0) = ap length found.2 in
      let sum : length pieces ≡ length front + length end.pieces = length-append front end.pieces in
      let count : length front + 1 - 1 ≡ length front = omega arith in
      let taken : take (length front) pieces ≡ front = take-append-le (length front) front end.pieces (omega arith) ∙ take_all (length front) front (omega arith) in
      let there : Reaches bytes (length front) = record {
        journal = found.0;
        in_range = found.1;
        enough = omega (arith, size, sum);
        rest = rest;
        begins = text ∙ ap (λ ps. whole ps ++ rest) (sym taken ∙ ap (take (length front)) found.2);
      } in
      subst (Reaches bytes) (sym count) there

  -- A run that goes as far goes no farther.
  stays : (b : State × List Item) (w : List ℕ) (more : List (List ℕ)) (items : List Item) → rest ≡ whole more ++ w → run all.0 more ≡ Some (b.0, items) → more ≡ []
  stays b w [] items cut goes = refl
  stays b w (piece ∷ more) items cut goes =
      let first = first_step all.0 piece more (b.0, items) goes in
      absurd (no_more piece (whole more ++ w) first.0 (cut ∙ append_assoc piece (10 ∷ whole more) w) first.1)

  not_reached : Reaches bytes (length front + 1) → ⊥
  not_reached r =
      let pieces = pieces_of r.journal in
      let taken = take (length front + 1) pieces in
      let read = journal_read commands r.journal r.in_range in
      let goes : run start (taken ++ drop (length front + 1) pieces) ≡ Some (done_of r.journal, read.items) = ap (run start) (take-append-drop (length front + 1) pieces) ∙ read.run_is in
      let b = front_run taken (drop (length front + 1) pieces) start (done_of r.journal, read.items) goes in
      let size : length taken ≡ length front + 1 = length-take-le (length front + 1) pieces r.enough in
      let ahead = meet front taken start all b.0 rest r.rest is b.1 (sym text ∙ r.begins) (omega (arith, size)) in
      let none : ahead.more ≡ [] = stays b.0 r.rest ahead.more ahead.items ahead.rest ahead.run_is in
      let same : length taken ≡ length front = ap length (ahead.are ∙ ap (λ ps. front ++ ps) none ∙ append-nil front) in
      absurd (omega (arith, size, same))

  no_journal : (IsOver all.0 → rest ≡ [] → ⊥) → (journal : Journal) → IsJournal bytes journal → ⊥
  no_journal unended journal r =
      let pieces = pieces_of journal in
      let read = journal_read commands journal r.in_range in
      let done : State × List Item = (done_of journal, read.items) in
      let same : whole front ++ rest ≡ whole pieces ++ [] = sym text ∙ r.text ∙ text_pieces commands journal ∙ sym (append-nil (whole pieces)) in
      elim (cases_lt (length pieces) (length front)) [
        | inl less ↦ (
            let ahead = meet pieces front start done all [] rest read.run_is is (sym same) (omega (arith, less)) in
            let none : ahead.more ≡ [] = over_stays ahead.more (done_of journal) (all.0, ahead.items) refl ahead.run_is in
            let sizes : length front ≡ length pieces = ap length (ahead.are ∙ ap (λ ps. pieces ++ ps) none ∙ append-nil pieces) in
            absurd (omega (arith, less, sizes)))
        | inr other ↦ (
            let ahead = meet front pieces start all done rest [] is read.run_is same (omega (arith, other)) in
            let none : ahead.more ≡ [] = stays done [] ahead.more ahead.items ahead.rest ahead.run_is in
            let here : all.0 ≡ done_of journal = at_start all.0 (done_of journal, ahead.items) (ap (run all.0) (sym none) ∙ ahead.run_is) in
            unended (ap (λ (s : State). s.stage) here) (ahead.rest ∙ ap (λ ps. whole ps ++ []) none))
      ]

  pub refused : AreBelow 256 bytes → (IsOver all.0 → rest ≡ [] → ⊥) → IsRefusedAt bytes (length front + 1)
  refused below unended = record { from_one = omega arith; before = reached below; here = not_reached; none = no_journal unended }
