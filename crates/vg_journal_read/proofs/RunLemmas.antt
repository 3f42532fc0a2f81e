-- How far a reader is in a text.
use Rattle.std.proofs.Common.{◌≡◌, ℕ, ◌+◌, ◌-◌, ◌<◌, ◌≤◌, ◌==◌, true, false, List, [], ◌∷◌, ◌++◌, length, get_or, Some, arith, refl, sym, ap, ◌∙◌, subst, append_assoc, append-nil, length-append, Fits, w8}
use Rattle.std.proofs.lemmas.Bool.{and_parts, eqb-true}
use Rattle.std.proofs.lemmas.List.{get_or_default}
use Rattle.vg_line_words.specs.Words.{AreBelow}
use Rattle.vg_journal_lines.specs.declared.state.Stage.{Stage}
use Rattle.vg_journal_lines.specs.declared.state.Stage.TheVariants as stages
use Rattle.vg_journal_lines.specs.declared.state.State.{State}
use Rattle.vg_journal_lines.specs.States.{Item, run, start}
use Rattle.vg_journal_lines.specs.Pieces.{whole}
use Rattle.vg_journal_lines.proofs.CutLemmas.{goes_on, goes_one}
use Rattle.vg_journal_lines.proofs.TextLemmas.{whole_append}
use Rattle.vg_journal_read.specs.ScansWithin.{Passed, is_over, rank}
use Rattle.vg_journal_read.proofs.PlaceLemmas.{not_both}

-- So many pieces were read, and this is left.
pub record IsAt (bytes : List ℕ) (state : State) (pieces : ℕ) (rest : List ℕ) : Type 0 where
  pub front : List (List ℕ)
  pub items : List Item
  pub run_is : run start front ≡ Some (state, items)
  pub begins : bytes ≡ whole front ++ rest
  pub counted : length front ≡ pieces

abbrev pub at_start : (bytes : List ℕ) → IsAt bytes start 0 bytes
at_start bytes = record { front = []; items = []; run_is = refl; begins = refl; counted = refl }

pub text_more : (bytes rest after piece : List ℕ) (front : List (List ℕ)) → bytes ≡ whole front ++ rest → rest ≡ piece ++ 10 ∷ after → bytes ≡ whole (front ++ piece ∷ []) ++ after
text_more bytes rest after piece front begins cut =
    begins ∙ ap (λ l. whole front ++ l) (cut ∙ sym (append_assoc piece (10 ∷ []) after)) ∙ sym (append_assoc (whole front) (piece ++ 10 ∷ []) after)
    ∙ ap (λ l. l ++ after) (sym (whole_append front (piece ∷ [])))

-- One piece more.
abbrev pub at_more : (bytes : List ℕ) (old new : State) (pieces : ℕ) (rest after : List ℕ) → IsAt bytes old pieces rest → Passed old new rest after → IsAt bytes new (pieces + 1) after
at_more bytes old new pieces rest after at p =
    let counted = at.counted in
    let sum = length-append at.front (p.piece ∷ []) in
    record {
      front = at.front ++ p.piece ∷ [];
      items = at.items ++ p.item ∷ [];
      run_is = goes_on at.front (p.piece ∷ []) start old new at.items (p.item ∷ []) at.run_is (goes_one old new p.item p.piece p.step_is);
      begins = text_more bytes rest after p.piece at.front at.begins p.cut;
      counted = omega (arith, counted, sum);
    }

-- A piece takes a byte at least.
many_bytes : (pieces : List (List ℕ)) → length pieces ≤ length (whole pieces)
many_bytes [] = omega arith
many_bytes (piece ∷ pieces) = let more = many_bytes pieces in let sum = length-append piece (10 ∷ whole pieces) in omega (arith, more, sum)

pub few_pieces : (bytes : List ℕ) (state : State) (pieces : ℕ) (rest : List ℕ) → IsAt bytes state pieces rest → pieces + length rest ≤ length bytes
few_pieces bytes state pieces rest at =
    let size = ap length at.begins in
    let sum = length-append (whole at.front) rest in
    let many = many_bytes at.front in
    let counted = at.counted in
    omega (arith, size, sum, many, counted)

pub passed_shorter : (old new : State) (bytes after : List ℕ) → Passed old new bytes after → length after + 1 ≤ length bytes
passed_shorter old new bytes after p =
    let size = ap length p.cut in
    let sum = length-append p.piece (10 ∷ after) in
    omega (arith, size, sum)

pub read_whole : (bytes : List ℕ) (front : List (List ℕ)) (rest : List ℕ) → bytes ≡ whole front ++ rest → rest ≡ [] → bytes ≡ whole front
read_whole bytes front rest begins none = begins ∙ ap (λ l. whole front ++ l) none ∙ append-nil (whole front)

-- The place behind what was read.
pub place_is : (bytes : List ℕ) (front : List (List ℕ)) (rest : List ℕ) → bytes ≡ whole front ++ rest → length bytes - length rest ≡ length (whole front)
place_is bytes front rest begins =
    let size = ap length begins in
    let sum = length-append (whole front) rest in
    omega (arith, size, sum)

-- A byte is below 256.
pub bytes_below : (bytes : List ℕ) → ((i : ℕ) → Fits w8 (get_or bytes i 0)) → AreBelow 256 bytes
bytes_below bytes fit = λ k d within. let small = fit k in subst (λ n. n < 256) (get_or_default bytes k 0 d within) (omega (arith, small))

-- The last stage, with nothing left, and any other end.
over_stage : (stage : Stage) → rank stage ≡ 7 → stage ≡ stages.Done
over_stage stages.Title is = absurd (omega (arith, is))
over_stage stages.Displays is = absurd (omega (arith, is))
over_stage stages.Queues is = absurd (omega (arith, is))
over_stage stages.Features is = absurd (omega (arith, is))
over_stage stages.Host is = absurd (omega (arith, is))
over_stage stages.Entries is = absurd (omega (arith, is))
over_stage stages.Frames is = absurd (omega (arith, is))
over_stage (stages.Frame left) is = absurd (omega (arith, is))
over_stage (stages.Pixels head left) is = absurd (omega (arith, is))
over_stage stages.Done is = refl

pub record IsOver (stage : Stage) (rest : List ℕ) : Type 0 where
  pub ranked : rank stage ≡ 7
  pub last : stage ≡ stages.Done
  pub none : rest ≡ []

no_bytes : (rest : List ℕ) → length rest ≡ 0 → rest ≡ []
no_bytes [] none = refl
no_bytes (b ∷ rest) none = absurd (omega (arith, none))

pub over_is : (stage : Stage) (rest : List ℕ) → is_over stage rest ≡ true → IsOver stage rest
over_is stage rest is =
    let parts = and_parts (rank stage == 7) (length rest == 0) is in
    let ranked = eqb-true (rank stage) 7 parts.0 in
    record { ranked = ranked; last = over_stage stage ranked; none = no_bytes rest (eqb-true (length rest) 0 parts.1) }

pub not_over : (stage : Stage) (rest : List ℕ) → is_over stage rest ≡ false → stage ≡ stages.Done → rest ≡ [] → ⊥
not_over stage rest other last none = not_both (rank stage) 7 (length rest) 0 other (ap rank last) (ap length none)
