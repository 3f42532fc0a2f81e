-- What crosses a desk may go to another thread.
use denote.RattleType.{RattleType}
use denote.Param.Send.{IsSend, sendable, recorded_send, struct_send, view_send}
use denote.Struct.Declared.{shape}
use Rattle.std.proofs.Crossing.{crosses}
use Rattle.vg_book.specs.declared.board.Naming as Naming
use Rattle.vg_book.proofs.Sent.{pass_send, done_send}
use Rattle.vg_book_uses.specs.contracts.crossing.Sent as sent
use Rattle.vg_book_uses.specs.contracts.crossing.Sent.TheInside as sent_in
use Rattle.vg_book_uses.specs.contracts.crossing.Answered as answered
use Rattle.vg_book_uses.specs.contracts.crossing.Answered.TheInside as answered_in

module _ (B : RattleType) (g : Naming.Ghosts B.Denot) where
  pub sent_send : IsSend (sent.the_row B g)
  sent_send = let T = sent_in.the_type B g in
      view_send _ _ _ _ _ (recorded_send _ _ _ T.to_one (struct_send (shape T) (search (sendable, crosses, pass_send) depth 20, (search (sendable, crosses) depth 20, tt))))

  pub answered_send : IsSend (answered.the_row B g)
  answered_send = let T = answered_in.the_type B g in
      view_send _ _ _ _ _ (recorded_send _ _ _ T.to_one (struct_send (shape T) (search (sendable, crosses, done_send) depth 20, (search sendable depth 20, tt))))
