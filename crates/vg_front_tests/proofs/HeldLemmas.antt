-- What is known of a command that was given out.
use Rattle.std.proofs.Common.{◌≡◌, Bool, refl}
use Rattle.std.specs.Prelude.{Result}
use Rattle.vg_chain.specs.declared.chain.Chain.{Chain}
use Rattle.vg_chain.specs.declared.chain.ChainFault.{ChainFault}
use Rattle.vg_cargo.specs.Cargo.{CargoData}
use Rattle.vg_cargo.specs.Walked.{IsWalkOf}
use Rattle.vg_ring_uses.specs.declared.ticket.Ticket.{Ticket}
use Rattle.vg_front.specs.declared.loan.Loan.{Loan}
use Rattle.vg_front.specs.declared.loan.Loan.TheVariants.{Control, Cursor}
use Rattle.vg_front.specs.Fronts.{FrontData, IsNext, TakesOf, walked_of}
use Rattle.vg_front_tests.specs.declared.rig.Token.{Token}
use Rattle.vg_front_tests.specs.Held.{IsHeld, count_in, lane_in}

pub held_is : {N : Type 0} (wanted : Ticket → Bool) (halted : Bool) (mid new : FrontData Ticket Token) (token : Token) (right after : Loan N) (walked : Result Chain ChainFault) (cargo : CargoData Ticket) → TakesOf wanted lane_in count_in mid token right cargo new → IsNext count_in halted token right → after ≡ walked_of right → IsWalkOf cargo.parcel walked
    → IsHeld halted (record { token = token; right = after; walked = walked; cargo = cargo })
held_is wanted halted mid new token (Control right) after walked cargo takes next same walk = rw same (record { lane = takes.0.lane; cargo = takes.0.cargo_is; walk = walk; walked = refl; next = next })
held_is wanted halted mid new token (Cursor right) after walked cargo takes next same walk = rw same (record { lane = takes.1.lane; cargo = takes.1.cargo_is; walk = walk; walked = refl; next = next })
