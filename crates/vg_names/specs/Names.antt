use Rattle.std.specs.Prelude.{◌≡◌, ◌≤◌, ◌==◌, ◌+◌, ◌-◌, ℕ, Bool, not, if◌then◌else◌, List, [], ◌∷◌, ◌++◌, length, filter, find, slice_get, slice_index_or, Option, None, Some}
use Rattle.std.specs.List.{cons_option, count_by}
use Rattle.vg_names.specs.declared.names.Held.{Held}

-- The names of a client's buffers that are current, in the order in which they were defined, and how many names were defined
-- so far, those among them that never were current.
pub record NamesState : Type 0 where
  pub current : List Held
  pub made : ℕ

abbrev pub is_numbered : ℕ → Held → Bool
is_numbered number held = held.number == number

-- What the name of this number stands for, if it is current.
abbrev pub found : ℕ → NamesState → Option Held
found number names = find (is_numbered number) names.current

abbrev pub is_of_key : ℕ → Held → Bool
is_of_key key held = held.key == key

-- One current name stands for the buffer of this key, and no other.
abbrev pub has_one_name : ℕ → List Held → Bool
has_one_name key current = count_by (is_of_key key) current == 1

-- One name more: its number is its place among all that were defined, from 1.
abbrev pub with_name : ℕ → ℕ → ℕ → NamesState → NamesState
with_name key width height names = record {
  current = names.current ++ record { number = names.made + 1; key = key; width = width; height = height } ∷ [];
  made = names.made + 1;
}

-- One name more, which never is current.
abbrev pub with_none : NamesState → NamesState
with_none names = record names { made = names.made + 1 }

-- The name of this number isn't current any more.
abbrev pub without_name : ℕ → NamesState → NamesState
without_name number names = record names { current = filter (λ held. not (is_numbered number held)) names.current }

-- What a place keeps, if it is of this number.
abbrev pub of_number : ℕ → Option Held → Option Held
of_number number None = None
of_number number (Some held) = if held.number == number then Some held else None

-- What is kept where there is a place, and what of it is of this number.
abbrev pub slot_at : List (Option Held) → Option ℕ → Option Held
slot_at slots None = None
slot_at slots (Some place) = slice_index_or slots place None

abbrev pub kept_at : ℕ → List (Option Held) → Option ℕ → Option Held
kept_at number slots place = of_number number (slot_at slots place)

-- What these places keep, each of its own number, where the first place's is the first.
abbrev pub current_from : ℕ → List (Option Held) → List (Option ℕ) → List Held
current_from first slots [] = []
current_from first slots (place ∷ rest) = cons_option (kept_at first slots place) (current_from (first + 1) slots rest)

-- The place of a name, where one was defined.
abbrev pub place_in : Option (Option ℕ) → Option ℕ
place_in None = None
place_in (Some place) = place

-- Where what the name of this number stands for is or was kept, if it ever was current.
abbrev pub place_at : ℕ → List (Option ℕ) → Option ℕ
place_at number places = if number == 0 then None else place_in (slice_get places (number - 1))

-- What is kept at this place is the buffer of one of the names that were defined, at that name's place.
pub record IsKept (places : List (Option ℕ)) (place : ℕ) (held : Held) : Type 0 where
  pub from_one : 1 ≤ held.number
  pub to_made : held.number ≤ length places
  pub stands : slice_index_or places (held.number - 1) None ≡ Some place

abbrev pub AreKept : List (Option Held) → List (Option ℕ) → Type 0
AreKept slots places = (place : ℕ) (held : Held) → slice_index_or slots place None ≡ Some held → IsKept places place held
