-- What a call made: the numbers of its entries, and what the last of them was answered.
use Rattle.std.specs.Prelude.{◌≡◌, ◌<◌, ◌+◌, ℕ, List, [], ◌∷◌, ◌++◌, length, Option, Some, None}
use mathlib.Core.Option.{some}
use lib.ListN.{get_elem?}
use Rattle.vg_machine.specs.Entries.{Entry}
use Rattle.vg_history.specs.declared.entry.Entry.TheVariants as entries
use Rattle.vg_client.specs.declared.given.Given.{Given}
use Rattle.vg_client.specs.declared.given.Given.TheVariants as givens
use Rattle.vg_client.specs.declared.outcome.Last.{Last}
use Rattle.vg_client.specs.declared.outcome.Last.TheVariants as lasts
use Rattle.vg_client.specs.declared.outcome.Outcome.{Outcome}
use Rattle.vg_client.specs.declared.outcome.Played.{Played}

-- The entry stands in what was seen with this number, from 1.
abbrev pub IsNumbered : List Entry → ℕ → Entry → Type 0
IsNumbered seen number entry = (place : ℕ) × (number ≡ place + 1) × (get_elem? seen place ≡ some entry)

-- These are the numbers of the entries in what was seen, place by place; they rise, and each is above this one.
abbrev pub AreNumbered : List Entry → ℕ → List ℕ → List Entry → Type 0
AreNumbered seen above [] [] = Unit {0}
AreNumbered seen above (number ∷ numbers) (entry ∷ more) = (above < number) × IsNumbered seen number entry × AreNumbered seen number numbers more
AreNumbered seen above numbers mine = ⊥

-- What an entry of this number was answered.
abbrev pub last_of : ℕ → Entry → Last
last_of number (entries.Act client call act reply) = lasts.Act reply
last_of number (entries.Command client call request reply) = lasts.Command (record { entry = number; reply = reply })

-- There is a last entry, and it was answered so.
pub record EndsWith (numbers : List ℕ) (mine : List Entry) (last : Last) : Type 0 where
  pub numbers_before : List ℕ
  pub number : ℕ
  pub before : List Entry
  pub entry : Entry
  pub numbers_are : numbers ≡ numbers_before ++ number ∷ []
  pub mine_are : mine ≡ before ++ entry ∷ []
  pub last_is : last ≡ last_of number entry

-- The outcome of a call that made these entries: their numbers in what the client has seen now, each behind all that it had seen
-- before, and what the last of them was answered.
pub record IsOutcome (seen : List Entry) (mine : List Entry) (seen' : List Entry) (outcome : Outcome) : Type 0 where
  pub numbered : AreNumbered seen' (length seen) outcome.entries mine
  pub ends : EndsWith outcome.entries mine outcome.last

-- The same of tasks, which may have given no entry.
abbrev pub EndsAt : List ℕ → List Entry → Option Last → Type 0
EndsAt numbers mine None = mine ≡ []
EndsAt numbers mine (Some last) = EndsWith numbers mine last

pub record HasPlayed (seen : List Entry) (mine : List Entry) (seen' : List Entry) (played : Played) : Type 0 where
  pub numbered : AreNumbered seen' (length seen) played.entries.items mine
  pub ends : EndsAt played.entries.items mine played.last

-- What an entry of this number was answered, by what its maker was told.
abbrev pub last_given : ℕ → Given → Last
last_given number (givens.Denied reply) = lasts.Act reply
last_given number (givens.Act reply) = lasts.Act reply
last_given number (givens.Command queue reply) = lasts.Command (record { entry = number; reply = reply })
