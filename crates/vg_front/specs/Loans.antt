use Rattle.vg_cargo.specs.DeviceEnds.{RightData}
use Rattle.vg_front.specs.declared.loan.Loan.{Loan}
use Rattle.vg_front.specs.declared.loan.Loan.TheVariants.{Control, Cursor}

-- The right that is lent, whatever its queue.
abbrev pub right_of : {N : Type 0} → Loan N → RightData
right_of (Control right) = right
right_of (Cursor right) = right
