use Rattle.std.specs.Prelude.{◌≡◌, ◌≤◌, ◌⊎◌, ◌+◌, ℕ, length, List, [], ◌∷◌, codes, Option, IfSome}
use Rattle.vg_io.specs.Streams.{IsAtEnd, Takes, TakesPart, TakesSome}
use Rattle.vg_machine.specs.Entries.{Entry}
use Rattle.vg_script.specs.declared.types.Script.{Script}
use Rattle.vg_script.specs.Grammar.{Parses}
use Rattle.vg_legal.specs.Legal.{Legal, journal_of}
use Rattle.vg_journal.specs.Text.{text_of}

-- The words after the program's name are `run`, or `run --workers N` with N from 1 to 8.
abbrev pub IsRun : List (List ℕ) → Type 0
IsRun words = (words ≡ codes "run" ∷ []) ⊎ ((n : ℕ) × (1 ≤ n) × (n ≤ 8) × (words ≡ codes "run" ∷ codes "--workers" ∷ ((48 + n) ∷ []) ∷ []))

-- No more bytes than a script may have.
abbrev pub IsWithin : List ℕ → Type 0
IsWithin bytes = length bytes ≤ 16777216

-- The bytes are a script, and the sink took the journal of one history that is legal for it.
abbrev pub Writes : Option (List ℕ) → Option (List ℕ) → List ℕ → Type 0
Writes held held' bytes = (script : Script) × IsWithin bytes × Parses bytes script × ((H : List Entry) × Legal script H × Takes held held' (text_of (journal_of script H)))

-- A run from a source to a sink: the source was read to its end, and what it gave was run and written.
abbrev pub Runs : Option (List ℕ) → Option (List ℕ) → Option (List ℕ) → Option (List ℕ) → Type 0
Runs left left' held held' = IsAtEnd left' × IfSome left (Writes held held')

-- The same as far as a front of the journal: nothing, or more.
abbrev pub WritesSome : Option (List ℕ) → Option (List ℕ) → List ℕ → Type 0
WritesSome held held' bytes = (script : Script) × IsWithin bytes × Parses bytes script × ((H : List Entry) × Legal script H × TakesSome held held' (text_of (journal_of script H)))

abbrev pub RunsPartly : Option (List ℕ) → Option (List ℕ) → Option (List ℕ) → Option (List ℕ) → Type 0
RunsPartly left left' held held' = IsAtEnd left' × IfSome left (WritesSome held held')

-- The same as far as a front of the journal that isn't all of it.
abbrev pub WritesPart : Option (List ℕ) → Option (List ℕ) → List ℕ → Type 0
WritesPart held held' bytes = (script : Script) × IsWithin bytes × Parses bytes script × ((H : List Entry) × Legal script H × TakesPart held held' (text_of (journal_of script H)))

abbrev pub RunsNotToItsEnd : Option (List ℕ) → Option (List ℕ) → Option (List ℕ) → Option (List ℕ) → Type 0
RunsNotToItsEnd left left' held held' = IsAtEnd left' × IfSome left (WritesPart held held')
