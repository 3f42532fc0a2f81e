-- How far a reader of a journal is, as a number.
use Rattle.std.specs.Prelude.{◌≡◌, ℕ, ◌==◌, ◌&&◌, Bool, List, ◌∷◌, ◌++◌, length, Some}
use Rattle.vg_journal_lines.specs.declared.state.Stage.{Stage}
use Rattle.vg_journal_lines.specs.declared.state.Stage.TheVariants as stages
use Rattle.vg_journal_lines.specs.declared.state.State.{State}
use Rattle.vg_journal_lines.specs.States.{Item, step}

-- How far a stage is: 3 and more behind the clients' line, 5 and more behind the count of frames.
abbrev pub rank : Stage → ℕ
rank stages.Title = 0
rank stages.Displays = 1
rank stages.Queues = 2
rank stages.Features = 2
rank stages.Host = 3
rank stages.Entries = 3
rank stages.Frames = 4
rank (stages.Frame left) = 5
rank (stages.Pixels head left) = 6
rank stages.Done = 7

-- Just behind the clients' line, or behind that of the host.
abbrev pub is_at_entries : State → Bool
is_at_entries state = rank state.stage == 3 && state.entries == 0

-- Just behind the count of frames.
abbrev pub is_at_frames : State → Bool
is_at_frames state = rank state.stage == 5 && state.frames == 0

-- Behind the last line, and nothing is left.
abbrev pub is_over : Stage → List ℕ → Bool
is_over stage rest = rank stage == 7 && length rest == 0

-- A piece was taken off the bytes.
pub record Passed (old new : State) (bytes after : List ℕ) : Type 0 where
  pub piece : List ℕ
  pub item : Item
  pub cut : bytes ≡ piece ++ 10 ∷ after
  pub step_is : step old piece ≡ Some (new, item)
