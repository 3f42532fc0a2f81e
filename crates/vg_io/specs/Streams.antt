-- What a source gives, what a sink takes, and how faults are counted.
use Rattle.std.specs.Prelude.{ℕ, ◌≡◌, ◌<◌, ◌≤◌, ◌+◌, ◌-◌, ◌^◌, min, List, [], ◌++◌, length, take, ⊤, Option, None, Some}

-- The next value of a count, which stands still at the last value that 64 bits have.
abbrev pub next_count : ℕ → ℕ
next_count count = min (count + 1) (2 ^ 64 - 1)

-- A count that rose, or stands at its last value.
abbrev pub Rose : ℕ → ℕ → Type 0
Rose old new = new < 2 ^ 64 - 1 → old < new

-- A source that tells its bytes gives these, and has the others left.
abbrev pub Gives : Option (List ℕ) → Option (List ℕ) → List ℕ → Type 0
Gives None new bytes = ⊤
Gives (Some xs) None bytes = ⊥
Gives (Some xs) (Some ys) bytes = xs ≡ bytes ++ ys

-- It gives bytes, at most this many.
abbrev pub GivesUpTo : Option (List ℕ) → Option (List ℕ) → ℕ → Type 0
GivesUpTo old new most = (bytes : List ℕ) × Gives old new bytes × (length bytes ≤ most)

-- It gives this many bytes.
abbrev pub GivesCount : Option (List ℕ) → Option (List ℕ) → ℕ → Type 0
GivesCount old new count = (bytes : List ℕ) × Gives old new bytes × (length bytes ≡ count)

-- A source that tells its bytes has none left.
abbrev pub IsAtEnd : Option (List ℕ) → Type 0
IsAtEnd None = ⊤
IsAtEnd (Some xs) = xs ≡ []

-- A sink that tells its bytes holds these behind those from before.
abbrev pub Takes : Option (List ℕ) → Option (List ℕ) → List ℕ → Type 0
Takes None new bytes = ⊤
Takes (Some xs) None bytes = ⊥
Takes (Some xs) (Some ys) bytes = ys ≡ xs ++ bytes

-- It takes some front of these, all of them or fewer.
abbrev pub TakesSome : Option (List ℕ) → Option (List ℕ) → List ℕ → Type 0
TakesSome old new bytes = (n : ℕ) × Takes old new (take n bytes)

-- It takes some front of these, and not all of them.
abbrev pub TakesPart : Option (List ℕ) → Option (List ℕ) → List ℕ → Type 0
TakesPart old new bytes = (n : ℕ) × (n < length bytes) × Takes old new (take n bytes)
