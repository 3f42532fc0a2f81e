-- A cargo may go to another thread, where its pass may.
use denote.RattleType.{RattleType}
use denote.Param.Send.{IsSend, sendable}
use Rattle.std.proofs.Crossing.{crosses}
use Rattle.vg_history.specs.declared.machine.Tagged as Tagged
use Rattle.vg_cargo.specs.contracts.cargo.Cargo as cargo

module _ (P : RattleType) (gp : Tagged.Ghosts P.Denot) (p : IsSend P) where
  pub cargo_send : IsSend (cargo.the_row P gp)
  cargo_send = search (sendable, crosses) depth 40
