-- The gaps below a number, in a map from the first number of each to its last.
use Rattle.std.specs.Prelude.{◌≡◌, ◌≢◌, ◌≤◌, ◌<◌, ◌+◌, ◌-◌, ◌==◌, ◌&&◌, ◌||◌, ℕ, not, nat_lt, None, Some}
use Rattle.std.specs.BTreeMap.{BTreeMap, IsOrdered, get}
use Rattle.std.specs.Ordering.{nat_cmp}
use Rattle.vg_call_numbers.specs.Numbers.{is_in_gap}

-- The gaps rise, and no two of them have a number in common.
pub record AreApart (gaps : BTreeMap ℕ ℕ) : Type 0 where
  pub rising : IsOrdered nat_cmp gaps
  pub apart : (first last next end : ℕ) → get nat_cmp gaps first ≡ Some last → get nat_cmp gaps next ≡ Some end → first < next → last < next

-- Each gap has numbers, all from 1 and below this one.
pub record AreBelow (gaps : BTreeMap ℕ ℕ) (top : ℕ) : Type 0 where
  pub each : (first last : ℕ) → get nat_cmp gaps first ≡ Some last → (1 ≤ first) × (first ≤ last) × (last < top)

-- A gap, by its first and last number, has this number.
pub record IsGapOf (gaps : BTreeMap ℕ ℕ) (number : ℕ) (gap : ℕ × ℕ) : Type 0 where
  pub kept : get nat_cmp gaps gap.0 ≡ Some gap.1
  pub low : gap.0 ≤ number
  pub high : number ≤ gap.1

-- The numbers between these two lie in a gap too.
pub record IsOpened (old : BTreeMap ℕ ℕ) (top number : ℕ) (new : BTreeMap ℕ ℕ) : Type 0 where
  pub each : (n : ℕ) → is_in_gap n new.entries ≡ ((nat_lt top n && nat_lt n number) || is_in_gap n old.entries)
  pub apart : AreApart new
  pub below : AreBelow new number

-- This number doesn't lie in a gap any more.
pub record IsFilled (old : BTreeMap ℕ ℕ) (number : ℕ) (new : BTreeMap ℕ ℕ) : Type 0 where
  pub each : (n : ℕ) → is_in_gap n new.entries ≡ (is_in_gap n old.entries && not (n == number))
  pub apart : AreApart new
  pub below : (top : ℕ) → AreBelow old top → AreBelow new top

-- The numbers above this one up to the last are a gap, if there are any.
pub record IsSplit (old : BTreeMap ℕ ℕ) (number last : ℕ) (new : BTreeMap ℕ ℕ) : Type 0 where
  pub back : number < last → get nat_cmp new (number + 1) ≡ Some last
  pub whole : number ≡ last → get nat_cmp new (number + 1) ≡ get nat_cmp old (number + 1)
  pub others : (q : ℕ) → q ≢ number + 1 → get nat_cmp new q ≡ get nat_cmp old q

-- The gap that begins with the first number ends before the other one, or is gone where it would have no number.
pub record IsShortened (old : BTreeMap ℕ ℕ) (first number : ℕ) (new : BTreeMap ℕ ℕ) : Type 0 where
  pub front : first < number → get nat_cmp new first ≡ Some (number - 1)
  pub gone : number ≤ first → get nat_cmp new first ≡ None
  pub others : (q : ℕ) → q ≢ first → get nat_cmp new q ≡ get nat_cmp old q
  pub rising : IsOrdered nat_cmp new
