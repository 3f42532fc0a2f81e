-- A command that a worker has taken.
use Rattle.std.specs.Prelude.{◌≡◌, ℕ, ◌+◌, Bool, true, false}
use Rattle.vg_cargo.specs.DeviceEnds.{IsCargoOf}
use Rattle.vg_cargo.specs.Walked.{IsWalkOf}
use Rattle.vg_front.specs.Loans.{right_of}
use Rattle.vg_front_tests.specs.declared.rig.Held.{Held}
use Rattle.vg_front_tests.specs.declared.rig.Token.{Token}

pub record IsHeld {N : Type 0} (halted : Bool) (held : Held N) : Type 0 where
  pub lane : held.token.lane ≡ (right_of held.right).entry.lane
  pub cargo : IsCargoOf (right_of held.right).entry held.cargo
  pub walk : IsWalkOf held.cargo.parcel held.walked
  pub walked : (right_of held.right).walked ≡ true
  pub next : halted ≡ false → (right_of held.right).entry.ordinal ≡ held.token.count + 1

-- A token's lane, and how many commands it has run.
abbrev pub lane_in : Token → ℕ
lane_in token = token.lane

abbrev pub count_in : Token → ℕ
count_in token = token.count
