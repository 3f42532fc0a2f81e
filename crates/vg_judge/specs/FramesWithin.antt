-- How far the frames of a journal were met.
use Rattle.std.specs.Prelude.{◌≡◌, ◌+◌, ℕ, List, ◌∷◌, ◌++◌, length}
use Rattle.std.specs.List.{All}
use Rattle.vg_scanout.specs.declared.scanout.Frame.{Frame}
use Rattle.vg_journal_lines.specs.Ranges.{IsCount}
use Rattle.vg_journal_lines.specs.Pieces.{FrameInRange, frame_pieces, numbered_pieces, whole}
use Rattle.vg_judge.specs.declared.frames.Frames.{Frames}

-- The bytes begin with so many pixels and a line end: they are these, and this stands behind them.
abbrev pub ArePixels : List ℕ → List ℕ → List ℕ → Type 0
ArePixels bytes pixels after = (first more : List ℕ) → length first ≡ length pixels → bytes ≡ first ++ 10 ∷ more → (first ≡ pixels) × (after ≡ more)

abbrev pub AreOthers : List ℕ → List ℕ → Type 0
AreOthers bytes pixels = (more : List ℕ) → bytes ≡ pixels ++ 10 ∷ more → ⊥

-- The bytes begin with the pieces of frame n.
pub record BeginsWith (n : ℕ) (bytes : List ℕ) (frame : Frame) (more : List ℕ) : Type 0 where
  pub number : IsCount n
  pub in_range : FrameInRange frame
  pub place : bytes ≡ whole (frame_pieces n frame) ++ more

-- Where they do, it is this frame, and this stands behind it.
abbrev pub IsMet : ℕ → List ℕ → Frame → List ℕ → Type 0
IsMet n bytes frame after = (next : Frame) (more : List ℕ) → BeginsWith n bytes next more → (next ≡ frame) × (after ≡ more)

abbrev pub IsOther : ℕ → List ℕ → Frame → Type 0
IsOther n bytes frame = (more : List ℕ) → BeginsWith n bytes frame more → ⊥

-- These frames of a journal were met, and the others stand in the bytes that are left.
pub record AreMet (all met : List Frame) (frames : Frames) : Type 0 where
  pub left : List Frame
  pub behind : List ℕ
  pub place : all ≡ met ++ left
  pub in_range : All FrameInRange left
  pub few : IsCount (length all)
  pub count : frames.count ≡ length all
  pub number : frames.met ≡ length met
  pub rest : frames.rest.now ≡ whole (numbered_pieces frame_pieces (length met + 1) left) ++ behind
