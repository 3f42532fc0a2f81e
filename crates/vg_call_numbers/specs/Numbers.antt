-- The call numbers that a client has used.
use Rattle.std.specs.Prelude.{◌≡◌, ◌≤◌, ◌==◌, ◌&&◌, ◌||◌, ℕ, Bool, true, not, nat_le, List, max}
use Rattle.std.specs.List.{list_any}

-- The greatest number that is used, 0 where none is, and the ranges below it of which no number is, by first and last.
pub record UsedNumbers : Type 0 where
  pub top : ℕ
  pub gaps : List (ℕ × ℕ)

abbrev pub is_within : ℕ → ℕ × ℕ → Bool
is_within n gap = nat_le gap.0 n && nat_le n gap.1

abbrev pub is_in_gap : ℕ → List (ℕ × ℕ) → Bool
is_in_gap n gaps = list_any (is_within n) gaps

-- A number is used where it lies from 1 to the greatest and in no gap.
abbrev pub is_used : UsedNumbers → ℕ → Bool
is_used numbers n = nat_le 1 n && (nat_le n numbers.top && not (is_in_gap n numbers.gaps))

-- No greater number is used, and this one is, unless none is.
pub record IsGreatest (numbers : UsedNumbers) (top : ℕ) : Type 0 where
  pub within : (n : ℕ) → is_used numbers n ≡ true → (1 ≤ n) × (n ≤ top)
  pub used : 1 ≤ top → is_used numbers top ≡ true

-- One number more is used.
pub record IsAdded (old : UsedNumbers) (number : ℕ) (new : UsedNumbers) : Type 0 where
  pub used : (n : ℕ) → is_used new n ≡ (n == number || is_used old n)
  pub top : new.top ≡ max number old.top

-- Each number from 1 to the greatest is used.
pub record AreAllUsed (numbers : UsedNumbers) : Type 0 where
  pub each : (n : ℕ) → 1 ≤ n → n ≤ numbers.top → is_used numbers n ≡ true
