-- What a text is, as a reader of journals has it.
use Rattle.std.specs.Prelude.{◌≡◌, ℕ, ◌-◌, ◌≤◌, List, ◌∷◌, ◌++◌, length, take, Some}
use Rattle.vg_journal.specs.declared.journal.Journal.{Journal}
use Rattle.vg_journal.specs.Text.{text_of}
use Rattle.vg_journal_lines.specs.declared.state.State.{State}
use Rattle.vg_journal_lines.specs.States.{Next, step}
use Rattle.vg_journal_lines.specs.Pieces.{JournalInRange, pieces_of, whole}

-- The text of a journal.
pub record IsJournal (bytes : List ℕ) (journal : Journal) : Type 0 where
  pub in_range : JournalInRange journal
  pub text : bytes ≡ text_of journal

-- A text that begins with so many pieces of a journal, with the line end behind each.
pub record Reaches (bytes : List ℕ) (count : ℕ) : Type 0 where
  pub journal : Journal
  pub in_range : JournalInRange journal
  pub enough : count ≤ length (pieces_of journal)
  pub rest : List ℕ
  pub begins : bytes ≡ whole (take count (pieces_of journal)) ++ rest

-- No journal's text, where piece n, from 1, is the first with which it begins as no journal does: a frame's pixels are one piece, as
-- each line is.
pub record IsRefusedAt (bytes : List ℕ) (n : ℕ) : Type 0 where
  pub from_one : 1 ≤ n
  pub before : Reaches bytes (n - 1)
  pub here : Reaches bytes n → ⊥
  pub none : (journal : Journal) → IsJournal bytes journal → ⊥

-- No piece that the text goes on with may come next.
abbrev pub GoesNoMore : State → List ℕ → Type 0
GoesNoMore state rest = (piece more : List ℕ) (next : Next) → rest ≡ piece ++ 10 ∷ more → step state piece ≡ Some next → ⊥
