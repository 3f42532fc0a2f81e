-- A driver may be shared by threads, and what a client needs may go to them, where the names of the book and of the rings may.
use denote.RattleType.{RattleType}
use denote.Param.Send.{IsSend, sendable, recorded_send, struct_send, view_send}
use denote.Struct.Declared.{shape}
use Rattle.std.proofs.Crossing.{crosses}
use Rattle.vg_history.specs.declared.machine.Machine as Machine
use Rattle.vg_book.specs.declared.board.Naming as Naming
use Rattle.vg_book.specs.contracts.outcome.Carried as carried
use Rattle.vg_book.proofs.Sent.{done_send, note_send, pass_send}
use Rattle.vg_list.specs.contracts.seq.Seq as seq
use Rattle.vg_ring.specs.declared.naming.Naming as ring
use Rattle.vg_ring.specs.declared.rings.OfQueue as OfQueue
use Rattle.vg_notify.proofs.Sent.{ringer_send}
use Rattle.vg_ring.proofs.Sent.{driver_send}
use Rattle.vg_driver.specs.contracts.back.Back as back
use Rattle.vg_driver.specs.contracts.back.Back.TheInside as back_in
use Rattle.vg_driver.specs.contracts.heard.Heard as heard
use Rattle.vg_driver.specs.contracts.replies.Replies as replies
use Rattle.vg_driver.specs.contracts.half.Half as half
use Rattle.vg_driver.specs.contracts.half.Half.TheInside as half_in
use Rattle.vg_client_holds.specs.contracts.act.Act as act
use Rattle.vg_client_holds.specs.contracts.act.ActReply as act_reply
use Rattle.vg_device.specs.contracts.request.Reply as reply
use Rattle.vg_device.specs.contracts.request.Request as request
use Rattle.vg_client_holds.specs.contracts.holds.Holds as holds
use Rattle.vg_machine.specs.contracts.display.Display as display
use Rattle.vg_machine.specs.contracts.display.Display.TheInside as display_in
use Rattle.vg_device.specs.contracts.device.Device as device
use Rattle.vg_device.specs.contracts.device.Device.TheInside as device_in

module _ (M S A R Q P H W : RattleType) (m : IsSend M) (a : IsSend A) (r : IsSend R) (q : IsSend Q) (p : IsSend P) (B : RattleType) (gm : Machine.Ghosts M.Denot S.Denot A.Denot R.Denot Q.Denot P.Denot H.Denot W.Denot) (gb : Naming.Ghosts B.Denot) where
  heard_send : IsSend (heard.the_row M B S A R Q P H W gm gb)
  heard_send = let n = note_send M S A R Q P H W m a r q p B gm gb in search (sendable, crosses) depth 20

  back_send : IsSend (back.the_row M B S A R Q P H W gm gb)
  back_send = let T = back_in.the_type M B S A R Q P H W gm gb in
      let d = done_send M S A R Q P H W m a r q p B gm gb in
      let w = pass_send M S A R Q P H W m a r q p B gm gb in
      view_send _ _ _ _ _ (recorded_send _ _ _ T.to_one (struct_send (shape T) (search (sendable, crosses) depth 20, (search (sendable, crosses) depth 40, (search (sendable, crosses) depth 20, tt)))))

  replies_send : IsSend (replies.the_field M B S A R Q P H W gm gb).row
  replies_send = search (sendable, crosses, back_send) depth 40

  carried_send : IsSend (carried.the_row M B S A R Q P H W gm gb)
  carried_send = let d = done_send M S A R Q P H W m a r q p B gm gb in let w = pass_send M S A R Q P H W m a r q p B gm gb in search (sendable, crosses) depth 20

  module _ (N : RattleType) (gn : ring.Ghosts N.Denot) (gq : OfQueue.Ghosts N.Denot) (n : IsSend N) where
    pub half_send : IsSend (half.the_row M B N S A R Q P H W gm gb gn gq)
    half_send = let T = half_in.the_type M B N S A R Q P H W gm gb gn gq in
        view_send _ _ _ _ _ (recorded_send _ _ _ T.to_one (struct_send (shape T) (driver_send _ N _ gn carried_send n, (ringer_send, (replies_send, (search (sendable, crosses, heard_send) depth 20, tt))))))
