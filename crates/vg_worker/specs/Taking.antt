-- What a worker takes from a front, and what it knows of it when the front's lock is given back.
use Rattle.std.specs.Prelude.{◌≡◌, ℕ, ◌+◌, Bool, true, false, Option, Some, None, Result}
use Rattle.vg_notify.specs.Halves.{SleeperData}
use Rattle.vg_chain.specs.declared.chain.Chain.{Chain}
use Rattle.vg_chain.specs.declared.chain.ChainFault.{ChainFault}
use Rattle.vg_cargo.specs.Cargo.{CargoData}
use Rattle.vg_cargo.specs.DeviceEnds.{IsCargoOf}
use Rattle.vg_cargo.specs.Walked.{IsWalkOf}
use Rattle.vg_front.specs.declared.loan.Loan.{Loan}
use Rattle.vg_front.specs.Desks.{is_busy}
use Rattle.vg_front.specs.Loans.{right_of}
use Rattle.vg_front.specs.Fronts.{Asks, FrontData, IsLent, IsNext}
use Rattle.vg_worker.specs.declared.taken.Found.{Found}
use Rattle.vg_worker.specs.declared.taken.Found.TheVariants.{Fetched, Run, Idle}

-- A command that was given out: its lane's token, and its cargo with a wanted pass.
pub record IsOut {P T N : Type 0} (wanted : P → Bool) (lane_of : T → ℕ) (token : T) (right : Loan N) (cargo : CargoData P) : Type 0 where
  pub lane : lane_of token ≡ (right_of right).entry.lane
  pub cargo_is : IsCargoOf (right_of right).entry cargo
  pub wanted_is : wanted cargo.pass ≡ true

-- It is lent in the front now, and until the front is halted it is the next of its lane.
pub record IsOutOf {P T N : Type 0} (wanted : P → Bool) (lane_of count_of : T → ℕ) (front : FrontData P T) (token : T) (right : Loan N) (cargo : CargoData P) : Type 0 where
  pub out : IsOut wanted lane_of token right cargo
  pub lent : IsLent front right
  pub next : IsNext count_of front.control.halted token right

-- Its chain was walked, and it is the next of its lane.
pub record IsReady {T N : Type 0} (count_of : T → ℕ) (token : T) (right : Loan N) : Type 0 where
  pub walked : (right_of right).walked ≡ true
  pub next : (right_of right).entry.ordinal ≡ count_of token + 1

-- The walk is that of its cargo's chain.
abbrev pub IsReadyIf : {P T N : Type 0} → (T → ℕ) → T → Loan N → CargoData P → Option (Result Chain ChainFault) → Type 0
IsReadyIf count_of token right cargo (Some chain) = IsReady count_of token right × IsWalkOf cargo.parcel chain
IsReadyIf count_of token right cargo None = Unit {0}

abbrev pub IsFound : {P T N : Type 0} → (P → Bool) → (T → ℕ) → (T → ℕ) → Found P T N → Type 0
IsFound wanted lane_of count_of Fetched = Unit {0}
IsFound wanted lane_of count_of (Idle ended dozing) = Unit {0}
IsFound wanted lane_of count_of (Run token right cargo chain) = IsOut wanted lane_of token right cargo × IsReadyIf count_of token right cargo chain

-- What was found says that the worker may end.
abbrev pub says_ended : {P T N : Type 0} → Found P T N → Bool
says_ended Fetched = false
says_ended (Idle ended dozing) = ended
says_ended (Run token right cargo chain) = false

-- Then it was told to stop, no command waits in the front, and nobody works on a lane.
abbrev pub EndsIf : {P T N : Type 0} → Bool → FrontData P T → Found P T N → Type 0
EndsIf stopped front found = says_ended found ≡ true → (stopped ≡ true) × (is_busy front.control ≡ false) × (is_busy front.cursor ≡ false)

-- A worker that dozes asks each bell that is asleep for a kick. Where both are asleep then, it was called by neither: it finds nothing and
-- dozes on, and the front is as it was but for these bells, so neither ring was looked at.
pub record Dozes {P T N : Type 0} (old : FrontData P T) (found : Found P T N) (new : FrontData P T) : Type 0 where
  pub control_bell : SleeperData
  pub cursor_bell : SleeperData
  pub control : Asks old.control_bell control_bell
  pub cursor : Asks old.cursor_bell cursor_bell
  pub uncalled : control_bell.asleep ≡ true → cursor_bell.asleep ≡ true → (found ≡ Idle false true) × (new ≡ record old { control_bell = control_bell; cursor_bell = cursor_bell })

abbrev pub DozesIf : {P T N : Type 0} → Bool → Bool → FrontData P T → Found P T N → FrontData P T → Type 0
DozesIf stopped dozing old found new = stopped ≡ false → dozing ≡ true → Dozes old found new
