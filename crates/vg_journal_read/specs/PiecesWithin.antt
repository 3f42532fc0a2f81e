-- The next piece of a journal's bytes.
use Rattle.std.specs.Prelude.{◌≡◌, ℕ, true, List, ◌∷◌, ◌++◌, length, Option, Some, None}
use Rattle.vg_line_words.specs.Words.{lacks}
use Rattle.vg_journal_lines.specs.declared.counts.FrameHead.{FrameHead}
use Rattle.vg_journal_lines.specs.declared.state.Stage.{Stage}
use Rattle.vg_journal_lines.specs.declared.state.Stage.TheVariants as stages
use Rattle.vg_journal_lines.specs.declared.state.State.{State}
use Rattle.vg_journal_lines.specs.Read.{pixels_of}
use Rattle.vg_journal_lines.specs.States.{AFrame, AnEntry, Item, Next, Nothing, frame_with, step}
use Rattle.vg_journal_read.specs.declared.pieces.Part.{Part}
use Rattle.vg_journal_read.specs.declared.pieces.Part.TheVariants as parts

-- The frame whose pixels come next, if that is what comes.
abbrev pub head_at : Stage → Option FrameHead
head_at (stages.Pixels head left) = Some head
head_at stage = None

-- What a piece is: a line without a line end in it, or as many bytes as the pixels have.
abbrev pub MayBe : Option FrameHead → List ℕ → Type 0
MayBe None piece = lacks 10 piece ≡ true
MayBe (Some head) piece = length piece ≡ pixels_of head

-- The piece with which bytes begin, and what is behind its line end.
abbrev pub Begins : Option FrameHead → List ℕ → List ℕ → List ℕ → Type 0
Begins head bytes piece after = (bytes ≡ piece ++ 10 ∷ after) × MayBe head piece

-- The bytes begin with no piece.
abbrev pub BeginsNone : Option FrameHead → List ℕ → Type 0
BeginsNone head bytes = (piece after : List ℕ) → MayBe head piece → bytes ≡ piece ++ 10 ∷ after → ⊥

-- What a piece gave.
abbrev pub item_of : Part → List ℕ → Item
item_of parts.Nothing piece = Nothing
item_of (parts.Entry entry) piece = AnEntry entry
item_of (parts.Frame head) piece = AFrame (frame_with head piece)

-- A piece was taken, or it can't come next and nothing changed.
abbrev pub TookPiece : Option Next → State → State → List ℕ → Option Part → Type 0
TookPiece next old new piece (Some part) = next ≡ Some (new, item_of part piece)
TookPiece next old new piece None = (next ≡ None) × (new ≡ old)

-- A piece was taken off the bytes.
pub record WentOn (old new : State) (bytes : List ℕ) (part : Part) (piece after : List ℕ) : Type 0 where
  pub cut : bytes ≡ piece ++ 10 ∷ after
  pub step_is : step old piece ≡ Some (new, item_of part piece)
