-- What the lines of a journal may have.
use Rattle.std.specs.Prelude.{ℕ, ◌<◌, ◌≤◌, ◌^◌}
use Rattle.vg_act_lines.specs.Ranges.{IsShort}
use Rattle.vg_journal_lines.specs.declared.counts.FrameHead.{FrameHead}
use Rattle.vg_journal_lines.specs.Read.{pixels_of}

abbrev pub IsCount : ℕ → Type 0
IsCount n = n < 2 ^ 63

-- The sides of a frame may be 0.
pub record HeadInRange (head : FrameHead) : Type 0 where
  pub scanout : IsShort head.scanout
  pub width : IsShort head.width
  pub height : IsShort head.height
  pub few : pixels_of head ≤ 33554432
  pub entry : IsCount head.entry
