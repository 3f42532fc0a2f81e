-- What is true of words as sets of clients, along a history.
use Rattle.std.specs.Prelude.{◌≡◌, ◌≤◌, ◌<◌, ℕ, List}
use Rattle.std.specs.List.{All}
use Rattle.vg_machine.specs.Entries.{Entry}
use Rattle.vg_machine.specs.Order.{client_of}
use Rattle.vg_painted.specs.Clients.{AreTagsOf, Clients}
use Rattle.vg_painted.specs.Inks.{Tag}
use Rattle.vg_drawn.specs.Words.{has_client}

-- The client of each entry has a number from 1 on.
abbrev pub AreNumbered : List Entry → Type 0
AreNumbered H = All (λ entry. 1 ≤ client_of entry) H

-- The word is that of the set.
abbrev pub IsWordOf : ℕ → Clients → Type 0
IsWordOf word set = (client : ℕ) → has_client word client ≡ set client

-- The client stored the byte of a tag at one of these places.
abbrev pub AreTagsBelow : List Entry → ℕ → (ℕ → List Tag) → ℕ → Type 0
AreTagsBelow H client tags count = (place : ℕ) × (place < count) × AreTagsOf H client (tags place)
