-- The place of a command among those of its lane.
use Rattle.std.specs.Prelude.{ℕ, ◌≤◌, ◌<◌, ◌^◌}

pub record FenceData : Type 0 where
  pub lane : ℕ
  pub ordinal : ℕ

-- There are 66 lanes, and ordinals count from 1.
pub record IsFence (lane ordinal : ℕ) : Type 0 where
  pub lane_is : lane < 66
  pub first : 1 ≤ ordinal
  pub last : ordinal < 2 ^ 63
