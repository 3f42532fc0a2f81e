-- The command `gen`, which runs a workload and says what came of it.
use Rattle.std.specs.Prelude.{◌≡◌, ◌≤◌, ◌<◌, ◌^◌, ℕ, Bool, true, false, List, [], ◌∷◌, ◌++◌, length, sum_by, count_by, codes, decimal, Option}
use Rattle.vg_io.specs.Streams.{Takes, TakesSome}
use Rattle.vg_history.specs.declared.entry.Entry.TheVariants as entries
use Rattle.vg_machine.specs.Entries.{Entry}
use Rattle.vg_script.specs.declared.types.Script.{Script}
use Rattle.vg_script.specs.Grammar.{Parses}
use Rattle.vg_scanout.specs.declared.scanout.Frame.{Frame}
use Rattle.vg_journal.specs.declared.journal.Journal.{Journal}
use Rattle.vg_legal.specs.Legal.{Legal, journal_of}
use Rattle.vg_gen.specs.Generated.{generated}

-- The words after the program's name are `gen --number N --clients C` with N below 2 ^ 64 and C from 1 to 16.
abbrev pub IsGen : List (List ℕ) → (number clients : ℕ) → Type 0
IsGen words number clients =
    (number < 2 ^ 64) × (1 ≤ clients) × (clients ≤ 16)
    × (words ≡ codes "gen" ∷ codes "--number" ∷ decimal number ∷ codes "--clients" ∷ decimal clients ∷ [])

-- They are those of the command, with some numbers.
abbrev pub IsGenOfSome : List (List ℕ) → Type 0
IsGenOfSome words = (number clients : ℕ) × IsGen words number clients

-- An entry that is no command.
abbrev pub is_act : Entry → Bool
is_act (entries.Act client call act reply) = true
is_act (entries.Command client call request reply) = false

-- The bytes of all frames.
abbrev pub frame_bytes : List Frame → ℕ
frame_bytes frames = sum_by (λ frame. length frame.pixels) frames

-- A line of a name and a number.
abbrev pub summary_line : (name : List ℕ) → (number : ℕ) → List ℕ
summary_line name number = name ++ codes " " ++ decimal number ++ codes "\n"

-- The summary of a journal of so many clients: how many there were, how many entries of its history are acts, how many commands on the control
-- queue and on the cursor queue, how many frames it has and how many bytes of pixels these have.
unfoldable pub summary_text : (clients : ℕ) → Journal → List ℕ
summary_text clients journal =
    summary_line (codes "clients") clients
    ++ summary_line (codes "acts") (count_by is_act journal.entries)
    ++ summary_line (codes "control") journal.control
    ++ summary_line (codes "cursor") journal.cursor
    ++ summary_line (codes "frames") (length journal.frames)
    ++ summary_line (codes "bytes") (frame_bytes journal.frames)

-- The workload is a script, and the sink took the summary of one history that is legal for it.
abbrev pub Sums : (number clients : ℕ) → Option (List ℕ) → Option (List ℕ) → Type 0
Sums number clients held held' = (script : Script) × Parses (generated number clients) script × ((H : List Entry) × Legal script H × Takes held held' (summary_text clients (journal_of script H)))

-- The same as far as a front of the summary: nothing, or more.
abbrev pub SumsPartly : (number clients : ℕ) → Option (List ℕ) → Option (List ℕ) → Type 0
SumsPartly number clients held held' = (script : Script) × Parses (generated number clients) script × ((H : List Entry) × Legal script H × TakesSome held held' (summary_text clients (journal_of script H)))
