-- What the calls of a front do.
use Rattle.std.specs.Prelude.{◌≡◌, ℕ, ◌+◌, ◌⊎◌, ◌<◌, Bool, true, false, not, Some, None, List, [], ◌++◌, map, length, get_or}
use Rattle.vg_notify.specs.Halves.{SleeperData, Listens}
use Rattle.vg_cargo.specs.Cargo.{CargoData}
use Rattle.vg_cargo.specs.Entries.{entries, Has}
use Rattle.vg_cargo.specs.DeviceEnds.{DeviceLists}
use Rattle.vg_front.specs.declared.loan.Loan.{Loan}
use Rattle.vg_front.specs.declared.loan.Loan.TheVariants as loans
use Rattle.vg_front.specs.declared.front.Work.{Work}
use Rattle.vg_front.specs.declared.front.Work.TheVariants.{Fetched, Run, Idle}
use Rattle.vg_front.specs.Loans.{right_of}
use Rattle.vg_front.specs.Desks.{DeskData, Finishes, HasFetched, HasNone, HasRunAll, IsIdle, Takes}

-- Both queues of a device, and for each a half of a bell, by which its driver kicks who dozes.
pub record FrontData (P T : Type 0) : Type 0 where
  pub control : DeskData P T
  pub cursor : DeskData P T
  pub control_bell : SleeperData
  pub cursor_bell : SleeperData

pub record IsNewFront {P T : Type 0} (control cursor : DeviceLists) (tokens : List T) (f : FrontData P T) : Type 0 where
  pub lists : (f.control.lists ≡ control) × (f.cursor.lists ≡ cursor)
  pub homes : f.control.homes ++ f.cursor.homes ≡ map Some tokens
  pub waiting : (f.control.waiting ≡ []) × (f.cursor.waiting ≡ [])
  pub halted : (f.control.halted ≡ false) × (f.cursor.halted ≡ false)

-- A command more of either queue.
abbrev pub StepsOn : {P T : Type 0} → (P → Bool) → FrontData P T → FrontData P T → Type 0
StepsOn wanted old new = (HasFetched wanted old.control new.control × (new.cursor ≡ old.cursor)) ⊎ (HasNone old.control new.control × HasFetched wanted old.cursor new.cursor)

-- Neither ring had anything new.
abbrev pub HasNothing : {P T : Type 0} → FrontData P T → FrontData P T → Type 0
HasNothing old new = HasNone old.control new.control × HasNone old.cursor new.cursor

-- A command is given out; neither ring had anything new before.
abbrev pub TakesOf : {P T N : Type 0} → (P → Bool) → (T → ℕ) → (T → ℕ) → FrontData P T → T → Loan N → CargoData P → FrontData P T → Type 0
TakesOf wanted lane_of count_of mid token (loans.Control right) cargo new = Takes wanted lane_of count_of mid.control token right cargo new.control × (new.cursor ≡ mid.cursor)
TakesOf wanted lane_of count_of mid token (loans.Cursor right) cargo new = IsIdle mid.control × Takes wanted lane_of count_of mid.cursor token right cargo new.cursor × (new.control ≡ mid.control)

-- Until the front is halted, the command is the next that its lane's token runs.
abbrev pub IsNext : {T N : Type 0} → (T → ℕ) → Bool → T → Loan N → Type 0
IsNext count_of halted token right = halted ≡ false → (right_of right).entry.ordinal ≡ count_of token + 1

abbrev pub Steps : {P T N : Type 0} → (P → Bool) → (T → ℕ) → (T → ℕ) → FrontData P T → Work P T N → FrontData P T → Type 0
Steps wanted lane_of count_of old Fetched new = StepsOn wanted old new
Steps {P} {T} {N} wanted lane_of count_of old (Run token right cargo) new = (mid : FrontData P T) × HasNothing old mid × TakesOf wanted lane_of count_of mid token right cargo new × IsNext count_of old.control.halted token right
Steps wanted lane_of count_of old Idle new = HasNothing old new × IsIdle new.control × IsIdle new.cursor

-- Neither bell was asked for anything.
abbrev pub SameBells : {P T : Type 0} → FrontData P T → FrontData P T → Type 0
SameBells old new = (new.control_bell ≡ old.control_bell) × (new.cursor_bell ≡ old.cursor_bell)

-- Both queues are as they were: neither ring was looked at, and nothing was taken or completed.
abbrev pub SameDesks : {P T : Type 0} → FrontData P T → FrontData P T → Type 0
SameDesks old new = (new.control ≡ old.control) × (new.cursor ≡ old.cursor)

-- A bell is asked for a kick where it is asleep, and it is awake then where there was one; else it is left alone.
abbrev pub AsksWhere : Bool → SleeperData → SleeperData → Type 0
AsksWhere true old new = Listens old (not new.asleep) new
AsksWhere false old new = new ≡ old

abbrev pub Asks : SleeperData → SleeperData → Type 0
Asks old new = AsksWhere old.asleep old new

abbrev pub IsLent : {P T N : Type 0} → FrontData P T → Loan N → Type 0
IsLent f (loans.Control right) = Has right.entry f.control.lists.lent
IsLent f (loans.Cursor right) = Has right.entry f.cursor.lists.lent

-- The same right, whose chain was walked.
abbrev pub walked_of : {N : Type 0} → Loan N → Loan N
walked_of (loans.Control right) = loans.Control (record right { walked = true })
walked_of (loans.Cursor right) = loans.Cursor (record right { walked = true })

abbrev pub HasWalked : {N : Type 0} → Loan N → Loan N → Type 0
HasWalked old new = new ≡ walked_of old

abbrev pub HasFinished : {P T N : Type 0} → FrontData P T → T → Loan N → ℕ → CargoData P → FrontData P T → Type 0
HasFinished old token (loans.Control right) len cargo new = Finishes old.control token right len cargo new.control × (new.cursor ≡ old.cursor)
HasFinished old token (loans.Cursor right) len cargo new = Finishes old.cursor token right len cargo new.cursor × (new.control ≡ old.control)

abbrev pub Halts : {P T : Type 0} → FrontData P T → FrontData P T → Type 0
Halts old new = new ≡ record old { control = record old.control { halted = true }; cursor = record old.cursor { halted = true } }

-- The tokens in the order of their lanes, and both ends as they are.
pub record Closes {P T : Type 0} (lane_of count_of : T → ℕ) (f : FrontData P T) (tokens : List T) (control cursor : DeviceLists) : Type 0 where
  pub tokens_are : map Some tokens ≡ f.control.homes ++ f.cursor.homes
  pub count : length tokens ≡ 66
  pub lists : (control ≡ f.control.lists) × (cursor ≡ f.cursor.lists)
  pub run : (lane : ℕ) (token : T) → lane < 65 → get_or (map Some tokens) lane None ≡ Some token → HasRunAll lane_of count_of f.control.halted (entries control.completed) lane token
  pub cursor_run : (token : T) → get_or (map Some tokens) 65 None ≡ Some token → HasRunAll lane_of count_of f.control.halted (entries cursor.completed) 65 token
