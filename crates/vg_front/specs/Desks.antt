-- What the calls of a queue's desk do.
use Rattle.std.specs.Prelude.{◌≡◌, ℕ, ◌+◌, ◌-◌, ◌<◌, ◌≤◌, ◌||◌, Bool, true, false, Option, Some, None, is_none, is_some, List, [], ◌∷◌, ◌++◌, map, length, get_or, slice_index_or, set}
use Rattle.std.specs.List.{All, AllWithin, range_with_len}
use Rattle.vg_cargo.specs.declared.entries.Entry.{Entry}
use Rattle.vg_cargo.specs.Cargo.{CargoData}
use Rattle.vg_cargo.specs.Entries.{head_of, entries, answer_with, without}
use Rattle.vg_cargo.specs.DeviceEnds.{DeviceLists, Fetches, FetchesNone, RightData, IsCargoOf}
use Rattle.vg_front.specs.Lanes.{of_lane}

-- A queue at the device: the lists of its end, the number of its first lane, each lane's token where nobody works on the
-- lane, what was fetched and nobody has taken yet, and whether commands go back without being run.
pub record DeskData (P T : Type 0) : Type 0 where
  pub lists : DeviceLists
  pub first : ℕ
  pub homes : List (Option T)
  pub waiting : List (ℕ × CargoData P)
  pub halted : Bool

-- A cargo that was fetched waits; or there is none.
pub record HasFetched {P T : Type 0} (wanted : P → Bool) (old new : DeskData P T) : Type 0 where
  pub head : ℕ
  pub cargo : CargoData P
  pub fetches : Fetches wanted old.lists head cargo new.lists
  pub waiting : new.waiting ≡ old.waiting ++ (head, cargo) ∷ []
  pub same : (new.first ≡ old.first) × (new.homes ≡ old.homes) × (new.halted ≡ old.halted)

pub record HasNone {P T : Type 0} (old new : DeskData P T) : Type 0 where
  pub none : FetchesNone old.lists new.lists
  pub same : (new.first ≡ old.first) × (new.homes ≡ old.homes) × (new.waiting ≡ old.waiting) × (new.halted ≡ old.halted)

abbrev pub Looks : {P T : Type 0} → (P → Bool) → DeskData P T → DeskData P T → Bool → Type 0
Looks wanted old new true = HasFetched wanted old new
Looks wanted old new false = HasNone old new

-- Somebody works on the lane of each command that waits.
abbrev pub IsAway : {P T : Type 0} → ℕ → List (Option T) → ℕ × CargoData P → Type 0
IsAway first homes f = get_or homes (f.1.parcel.lane - first) None ≡ None

abbrev pub IsIdle : {P T : Type 0} → DeskData P T → Type 0
IsIdle d = All (IsAway d.first d.homes) d.waiting

-- The command's lane is one of so many from the first on; and the first command whose lane has its token at home.
abbrev pub IsOfLanes : {P : Type 0} → ℕ → ℕ → ℕ × CargoData P → Type 0
IsOfLanes first count f = (first ≤ f.1.parcel.lane) × (f.1.parcel.lane < first + count)

pub record IsFirstReady {P T : Type 0} (first : ℕ) (homes : List (Option T)) (waiting : List (ℕ × CargoData P)) (place : ℕ) : Type 0 where
  pub there : place < length waiting
  pub before : AllWithin (IsAway first homes) waiting 0 place
  pub ready : (d : ℕ × CargoData P) → is_some (get_or homes ((slice_index_or waiting place d).1.parcel.lane - first) None) ≡ true

-- Tokens of lanes that follow each other, none of which has run a command.
abbrev pub AreNew : {T : Type 0} → (T → ℕ) → (T → ℕ) → ℕ → List T → Type 0
AreNew lane_of count_of first [] = Unit {0}
AreNew lane_of count_of first (token ∷ more) = (lane_of token ≡ first) × (count_of token ≡ 0) × AreNew lane_of count_of (first + 1) more

-- The oldest command of a lane is taken, with its right and the lane's token.
pub record Takes {P T : Type 0} (wanted : P → Bool) (lane_of count_of : T → ℕ) (old : DeskData P T) (token : T) (right : RightData) (cargo : CargoData P) (new : DeskData P T) : Type 0 where
  pub lane : lane_of token ≡ right.entry.lane
  pub cargo_is : IsCargoOf right.entry cargo
  pub wanted_is : wanted cargo.pass ≡ true
  pub walked : right.walked ≡ false
  pub next : old.halted ≡ false → right.entry.ordinal ≡ count_of token + 1
  pub lists : new.lists ≡ record old.lists { lent = right.entry ∷ old.lists.lent }
  pub head : ℕ
  pub front : List (ℕ × CargoData P)
  pub back : List (ℕ × CargoData P)
  pub waited : old.waiting ≡ front ++ (head, cargo) ∷ back
  pub left : new.waiting ≡ front ++ back
  pub oldest : All (IsAway old.first old.homes) front
  pub home : get_or old.homes (right.entry.lane - old.first) None ≡ Some token
  pub homes : new.homes ≡ set old.homes (right.entry.lane - old.first) None
  pub same : (new.first ≡ old.first) × (new.halted ≡ old.halted)

-- A command that was taken is completed, and its lane's token is back.
pub record Finishes {P T : Type 0} (old : DeskData P T) (token : T) (right : RightData) (len : ℕ) (cargo : CargoData P) (new : DeskData P T) : Type 0 where
  pub front : List Entry
  pub back : List Entry
  pub lent : old.lists.lent ≡ front ++ right.entry ∷ back
  pub lists : new.lists ≡ record old.lists { completed = old.lists.completed ++ answer_with right.entry len cargo ∷ []; held = without (head_of right.entry) old.lists.held; lent = front ++ back }
  pub homes : new.homes ≡ set old.homes (right.entry.lane - old.first) (Some token)
  pub same : (new.first ≡ old.first) × (new.waiting ≡ old.waiting) × (new.halted ≡ old.halted)

-- Something waits, or somebody works on a lane.
abbrev pub is_some_away : {T : Type 0} → List (Option T) → Bool
is_some_away [] = false
is_some_away (home ∷ more) = is_none home || is_some_away more

abbrev pub any_waits : {A : Type 0} → List A → Bool
any_waits [] = false
any_waits (f ∷ more) = true

abbrev pub is_busy : {P T : Type 0} → DeskData P T → Bool
is_busy d = any_waits d.waiting || is_some_away d.homes

-- A lane's token at the end: until commands went back without being run, it has run all that were completed.
pub record HasRunAll {T : Type 0} (lane_of count_of : T → ℕ) (halted : Bool) (done : List Entry) (lane : ℕ) (token : T) : Type 0 where
  pub lane_is : lane_of token ≡ lane
  pub ordinals : halted ≡ false → map (λ (e : Entry). e.ordinal) (of_lane lane done) ≡ range_with_len 1 (count_of token)

pub record AddsTokens {P T : Type 0} (lane_of count_of : T → ℕ) (d : DeskData P T) (old new : List T) : Type 0 where
  pub tokens : List T
  pub added : new ≡ old ++ tokens
  pub homes : map Some tokens ≡ d.homes
  pub run : (i : ℕ) (token : T) → get_or d.homes i None ≡ Some token → HasRunAll lane_of count_of d.halted (entries d.lists.completed) (d.first + i) token
