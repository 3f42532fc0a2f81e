-- What workers share may be shared by threads, and workers and clients may go to other threads.
use denote.RattleType.{RattleType}
use denote.Param.Send.{IsSend, IsSync, sendable, recorded_send, struct_send}
use denote.Struct.Declared.{shape}
use denote.Ref.{NamedLft}
use Rattle.std.proofs.Crossing.{crosses}
use Rattle.vg_book.specs.contracts.outcome.Carried as carried
use Rattle.vg_book.specs.contracts.lane.LaneToken as lane
use Rattle.vg_book.specs.contracts.book.Book as book
use Rattle.vg_book.specs.contracts.client.ClientToken as client
use Rattle.vg_book.specs.declared.board.Naming as Naming
use Rattle.vg_book.proofs.Sent.{book_sync, client_send, done_send, lane_send, pass_send}
use Rattle.vg_history.specs.declared.machine.Tagged as Tagged
use Rattle.vg_history.specs.declared.machine.Turn as Turn
use Rattle.vg_ring.specs.declared.rings.Rings as Rings
use Rattle.vg_front.specs.contracts.front.Front as front
use Rattle.vg_front.proofs.Sent.{front_send}
use Rattle.vg_machine.specs.contracts.machine.DisplayMachine.TheImpl as machine
use Rattle.vg_worker.specs.contracts.worker.Worker as worker
use Rattle.vg_machine.specs.contracts.display.Display as display
use Rattle.vg_machine.specs.contracts.job.Job as job
use Rattle.vg_machine.proofs.Sent.{display_send, act_send, act_reply_send, request_send, reply_send, holds_send}
use Rattle.vg_device.specs.contracts.device.Device as device
use Rattle.vg_client_holds.specs.contracts.act.Act as act
use Rattle.vg_client_holds.specs.contracts.act.ActReply as act_reply
use Rattle.vg_device.specs.contracts.request.Request as request
use Rattle.vg_device.specs.contracts.request.Reply as reply
use Rattle.vg_client_holds.specs.contracts.holds.Holds as holds

-- The rows of what a display's book lends and gives.
module _ (B : RattleType) (gb : Naming.Ghosts B.Denot) where
  abbrev pub Lane : RattleType
  Lane = lane.the_row display.the_row B device.the_row act.the_row act_reply.the_row request.the_row reply.the_row holds.the_row job.the_row machine.ghosts gb

  abbrev pub Carried : RattleType
  Carried = carried.the_row display.the_row B device.the_row act.the_row act_reply.the_row request.the_row reply.the_row holds.the_row job.the_row machine.ghosts gb

  abbrev pub Client : RattleType
  Client = client.the_row display.the_row B device.the_row act.the_row act_reply.the_row request.the_row reply.the_row holds.the_row job.the_row machine.ghosts gb

  abbrev pub Book : RattleType
  Book = book.the_row display.the_row B device.the_row act.the_row act_reply.the_row request.the_row reply.the_row holds.the_row job.the_row gb machine.ghosts

  pub lane_sent : IsSend Lane
  lane_sent = lane_send display.the_row device.the_row act.the_row act_reply.the_row request.the_row reply.the_row holds.the_row job.the_row display_send act_send act_reply_send request_send reply_send B machine.ghosts gb

  pub carried_sent : IsSend Carried
  carried_sent = search (sendable, crosses, pass_send, done_send, display_send, act_send, act_reply_send, request_send, reply_send) depth 20

  pub client_sent : IsSend Client
  client_sent = client_send display.the_row device.the_row act.the_row act_reply.the_row request.the_row reply.the_row holds.the_row job.the_row display_send act_send act_reply_send request_send reply_send B machine.ghosts gb holds_send

  pub book_shared : IsSync Book
  book_shared = book_sync display.the_row device.the_row act.the_row act_reply.the_row request.the_row reply.the_row holds.the_row job.the_row display_send act_send act_reply_send request_send reply_send B machine.ghosts gb

  module _ (N : RattleType) (gn : Rings.Ghosts N.Denot) (n : IsSend N) where
    pub front_sent : (gp : Tagged.Ghosts Carried.Denot) (gt : Turn.Ghosts Lane.Denot) → IsSend (front.the_row Carried Lane N gp gt gn)
    front_sent gp gt = front_send Carried Lane N gp gt gn carried_sent lane_sent n

    pub worker_sent : (κ : NamedLft) (G : RattleType) → IsSync G → IsSend (worker.the_row κ G B N gb gn)
    worker_sent κ G g = let T = worker.the_type κ G B N gb gn in
        recorded_send _ _ _ T.to_one (struct_send (shape T) (search (sendable, crosses) depth 20, (search (sendable, crosses, front_sent) depth 20, (search (sendable, crosses, book_shared) depth 20, (search (sendable, crosses) depth 20, (search (sendable, crosses) depth 20, tt))))))
