-- The call numbers of a client's entries, in the order of these.
use Rattle.std.specs.Prelude.{◌≡◌, ◌≢◌, ◌≤◌, ◌==◌, ℕ, Bool, nat_le, if◌then◌else◌, List, [], ◌∷◌}
use Rattle.std.specs.List.{AllByRecursion, list_any}
use Rattle.vg_call_numbers.specs.Numbers.{IsGreatest, UsedNumbers, is_used}

abbrev pub is_taken : ℕ → List ℕ → Bool
is_taken n taken = list_any (λ one. one == n) taken

-- No number stands twice.
abbrev pub AreDistinct : List ℕ → Type 0
AreDistinct [] = Unit {0}
AreDistinct (n ∷ more) = AllByRecursion (λ one. one ≢ n) more × AreDistinct more

-- These are the numbers that are used, each once.
pub record IsUsedBy (numbers : UsedNumbers) (taken : List ℕ) : Type 0 where
  pub used : (n : ℕ) → is_used numbers n ≡ is_taken n taken
  pub greatest : IsGreatest numbers numbers.top
  pub once : AreDistinct taken
  pub counted : AllByRecursion (λ n. 1 ≤ n) taken

-- A number among others that rise.
abbrev pub placed : ℕ → List ℕ → List ℕ
placed n [] = n ∷ []
placed n (next ∷ more) = if nat_le n next then n ∷ next ∷ more else next ∷ placed n more

-- Numbers, rising.
abbrev pub by_number : List ℕ → List ℕ
by_number [] = []
by_number (n ∷ more) = placed n (by_number more)
