-- Which clients' bytes a byte comes from: the sets that are enough to say so of frames, without any entry's number.
use Rattle.std.specs.Prelude.{◌≡◌, ℕ, ◌+◌, ◌==◌, ◌||◌, Bool, false, List, Some, slice_get}
use Rattle.vg_history.specs.Lists.{Has}
use Rattle.vg_machine.specs.Entries.{Entry}
use Rattle.vg_machine.specs.Order.{client_of}
use Rattle.vg_painted.specs.Ink.{Ink}
use Rattle.vg_painted.specs.Inks.{Tag, From, Zero, Opaque}

-- A set of clients, as a test.
abbrev pub Clients : Type 0
Clients = ℕ → Bool

abbrev pub no_clients : Clients
no_clients client = false

abbrev pub in_either : Clients → Clients → Clients
in_either one other client = one client || other client

-- The clients of each byte.
abbrev pub clients : Ink Clients Clients
clients = record {
  blank = no_clients;
  opaque = no_clients;
  stored = λ entry client page byte one. one == client;
  fetched = λ entry set. set;
  shown = λ entry set. set;
  plain = λ set. set;
  blended = λ screen image a. in_either screen (in_either image a);
  solid = no_clients;
}

-- The entry of this number, from 1, is one of the client.
abbrev pub IsEntryOf : List Entry → ℕ → ℕ → Type 0
IsEntryOf H client n = (before : ℕ) × (entry : Entry) × (n ≡ before + 1) × (slice_get H before ≡ Some entry) × (client_of entry ≡ client)

-- The byte of this tag was stored by an entry of the client.
abbrev pub IsTagOf : List Entry → ℕ → Tag → Type 0
IsTagOf H client (From store page fetch show) = IsEntryOf H client store
IsTagOf H client Zero = ⊥
IsTagOf H client Opaque = ⊥

-- One of these tags is such a one.
abbrev pub AreTagsOf : List Entry → ℕ → List Tag → Type 0
AreTagsOf H client tags = (tag : Tag) × Has tags tag × IsTagOf H client tag
