-- A front may go to other threads, where the pass in a cargo and a lane's token may.
use denote.RattleType.{RattleType}
use denote.Param.Send.{IsSend, sendable, recorded_send, struct_send, view_send}
use denote.Struct.Declared.{shape}
use Rattle.std.proofs.Crossing.{crosses}
use Rattle.vg_history.specs.declared.machine.Tagged as Tagged
use Rattle.vg_history.specs.declared.machine.Turn as Turn
use Rattle.vg_ring.specs.declared.naming.Naming as Naming
use Rattle.vg_notify.proofs.Sent.{sleeper_send}
use Rattle.vg_cargo.proofs.Sent.{cargo_send}
use Rattle.vg_ring.proofs.Sent.{device_send}
use Rattle.vg_ring.specs.declared.rings.Rings as Rings
use Rattle.vg_ring.specs.contracts.rings.ControlOf as control
use Rattle.vg_ring.specs.contracts.rings.CursorOf as cursor
use Rattle.vg_front.specs.contracts.front.Front as front
use Rattle.vg_front.specs.contracts.front.Front.TheInside as front_in
use Rattle.vg_front.specs.contracts.desk.Desk as desk
use Rattle.vg_front.specs.contracts.desk.Desk.TheInside as desk_in

module _ (P T N : RattleType) (gp : Tagged.Ghosts P.Denot) (gt : Turn.Ghosts T.Denot) (gn : Naming.Ghosts N.Denot) (p : IsSend P) (t : IsSend T) (n : IsSend N) where
  pub desk_send : IsSend (desk.the_row P T N gp gt gn)
  desk_send = let D = desk_in.the_type P T N gp gt gn in
      view_send _ _ _ _ _ (recorded_send _ _ _ D.to_one (struct_send (shape D) (device_send P N gp gn p n, (search sendable, (search (sendable, crosses) depth 20, (search (sendable, crosses, cargo_send) depth 20, (search sendable, tt)))))))

module _ (P T N : RattleType) (gp : Tagged.Ghosts P.Denot) (gt : Turn.Ghosts T.Denot) (gn : Rings.Ghosts N.Denot) (p : IsSend P) (t : IsSend T) (n : IsSend N) where
  control_send : IsSend (control.the_row N)
  control_send = search (sendable, crosses) depth 20

  cursor_send : IsSend (cursor.the_row N)
  cursor_send = search (sendable, crosses) depth 20

  pub front_send : IsSend (front.the_row P T N gp gt gn)
  front_send = let F = front_in.the_type P T N gp gt gn in
      view_send _ _ _ _ _ (recorded_send _ _ _ F.to_one (struct_send (shape F) (desk_send P T (control.the_row N) gp gt _ p t control_send, (desk_send P T (cursor.the_row N) gp gt _ p t cursor_send, (sleeper_send, (sleeper_send, (search (sendable, crosses) depth 20, tt)))))))
