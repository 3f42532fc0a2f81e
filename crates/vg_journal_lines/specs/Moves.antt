-- What a step in code did.
use Rattle.std.specs.Prelude.{◌≡◌, ◌<◌, ◌≤◌, ◌^◌, Bool, true, false, ℕ, List, length, Option, Some, None}
use Rattle.vg_limits.specs.Limits.{version_2}
use Rattle.vg_journal_lines.specs.declared.state.State.{State}
use Rattle.vg_journal_lines.specs.declared.counts.FrameHead.{FrameHead}
use Rattle.vg_journal_lines.specs.declared.steps.Given.{Given}
use Rattle.vg_journal_lines.specs.declared.steps.Given.TheVariants as givens
use Rattle.vg_journal_lines.specs.States.{AFrame, AnEntry, Item, Next, Nothing, frame_with, pixels_step}

-- A step that gives nothing was made, or there is none and nothing changed.
abbrev pub Moved : Option Next → State → State → Bool → Type 0
Moved next old new true = next ≡ Some (new, Nothing)
Moved next old new false = (next ≡ None) × (new ≡ old)

-- The counts of a state that is reached.
abbrev pub IsKept : State → Type 0
IsKept state = (state.entries < 2 ^ 63) × (state.frames < 2 ^ 63) × (state.bytes ≤ 268435456) × (state.clients ≤ version_2.clients)

-- What a line gave: nothing, or an entry.
abbrev pub item_of : Given → Item
item_of givens.Nothing = Nothing
item_of (givens.Entry entry) = AnEntry entry

-- A line was taken, or it can't come next and nothing changed.
abbrev pub Took : Option Next → State → State → Option Given → Type 0
Took next old new (Some given) = next ≡ Some (new, item_of given)
Took next old new None = (next ≡ None) × (new ≡ old)

-- So many bytes of pixels were taken, or they can't come next and nothing changed.
abbrev pub TookPixels : ℕ → FrameHead → ℕ → State → State → Bool → Type 0
TookPixels count head left old new true = (bytes : List ℕ) → length bytes ≡ count → pixels_step head left old bytes ≡ Some (new, AFrame (frame_with head bytes))
TookPixels count head left old new false = ((bytes : List ℕ) → length bytes ≡ count → pixels_step head left old bytes ≡ None) × (new ≡ old)
