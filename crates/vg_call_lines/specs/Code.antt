-- How the code's values stand for those of the other modules here.
use Rattle.std.specs.Prelude.{◌≡◌, ℕ, ◌+◌, nat_le, Bool, true, false, Option, Some, None, Result, Ok, Err, if◌then◌else◌}
use Rattle.std.specs.Bool.{⊤}
use Rattle.vg_calls.specs.declared.call.Call.{Call}
use Rattle.vg_script_words.specs.declared.kind.Kind.{Kind}
use Rattle.vg_script_words.specs.declared.kind.Kind.TheVariants.{Name}
use Rattle.vg_script_words.specs.declared.kind.Stop.{Stop}
use Rattle.vg_script_words.specs.declared.kind.Stop.TheVariants.{Memory, Fault}
use Rattle.vg_script_words.specs.Kinds.{kind_code}
use Rattle.vg_call_lines.specs.declared.names.Names.{Names}
use Rattle.vg_call_lines.specs.Tables.{NameTable, names_of, labels_in, with_label}

-- The names that are defined, and how many were, and the labels.
abbrev pub table_of : Names → NameTable
table_of names = record { names = names_of names.named; count = names.count; contexts = names.contexts; labels = labels_in names.labels; given = names.given }

-- There is such a value and the answer is it, or there is none and the answer is a fault of this kind.
abbrev pub Finds : {X : Type 0} → Option X → Kind → Result X Kind → Type 0
Finds option kind (Ok x) = option ≡ Some x
Finds option kind (Err k) = (k ≡ kind) × (option ≡ None)

-- A name was defined as it has to be and this is it, or the answer is a fault of a name, where memory may be wanting.
abbrev pub Knows : {X : Type 0} → Bool → X → Result X Stop → Type 0
Knows test name (Ok read) = (test ≡ true) × (read ≡ name)
Knows test name (Err Memory) = ⊤
Knows test name (Err (Fault kind)) = (kind ≡ Name) × (test ≡ false)

-- A label is as it has to be and this is its number, or it isn't.
abbrev pub IsNumbered : Bool → ℕ → Option ℕ → Type 0
IsNumbered test number (Some found) = (test ≡ true) × (found ≡ number)
IsNumbered test number None = test ≡ false

-- A label is as it has to be and is defined now, with this number, or it isn't and nothing has changed.
abbrev pub IsGiven : Bool → (old new : NameTable) → Option ℕ → Type 0
IsGiven test old new (Some number) = (test ≡ true) × (number ≡ old.given + 1) × (new ≡ with_label old)
IsGiven test old new None = (test ≡ false) × (new ≡ old)

-- What the reading of a line gave, where memory may be wanting: the call and the names after it, or the
-- kind of the fault.
abbrev pub Judges : NameTable → Result Call Stop → Result (Call × NameTable) Kind → Type 0
Judges after (Ok call) judged = judged ≡ Ok (call, after)
Judges after (Err Memory) judged = ⊤
Judges after (Err (Fault kind)) judged = judged ≡ Err kind

-- What the reading of a part of a line gave, where memory may be wanting.
abbrev pub Gives : {X : Type 0} → Result X Kind → Result X Stop → Type 0
Gives judged (Ok read) = judged ≡ Ok read
Gives judged (Err Memory) = ⊤
Gives judged (Err (Fault kind)) = judged ≡ Err kind

-- What two parts of a line gave, of two faults the least kind.
abbrev pub lesser : Kind → Kind → Kind
lesser one other = if nat_le (kind_code one) (kind_code other) then one else other

abbrev pub lesser_stop : Stop → Stop → Stop
lesser_stop Memory other = Memory
lesser_stop (Fault one) Memory = Memory
lesser_stop (Fault one) (Fault other) = Fault (lesser one other)

abbrev pub both_read : {X Y : Type 0} → Result X Stop → Result Y Stop → Result (X × Y) Stop
both_read (Ok one) (Ok other) = Ok (one, other)
both_read (Ok one) (Err stop) = Err stop
both_read (Err stop) (Ok other) = Err stop
both_read (Err one) (Err other) = Err (lesser_stop one other)
