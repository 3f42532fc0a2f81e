-- What a client's token tells of its commands, from a submission to the reply.
use Rattle.std.specs.Prelude.{◌≡◌, ℕ, ◌+◌}
use Rattle.vg_history.specs.History.{HasFence}
use Rattle.vg_history.specs.Lists.{Has}
use Rattle.vg_book.specs.declared.board.Account as books
use Rattle.vg_book.specs.declared.board.Order as orders
use Rattle.vg_book.specs.Tokens as tokens
use Rattle.vg_book.specs.Tokens.{Acted, Drawn, TakesBack, TakesUnrun, Watched}
use Rattle.vg_history.specs.Fences.{FenceData}
use Rattle.vg_client_holds.specs.declared.act.Act.{Act}
use Rattle.vg_client_holds.specs.declared.act.Act.TheVariants.{Await}
use Rattle.vg_client_holds.specs.declared.act.ActReply.{ActReply}
use Rattle.vg_device.specs.declared.request.Reply.{Reply}
use Rattle.vg_device.specs.declared.request.Request.{Request}
use Rattle.vg_client_holds.specs.declared.holds.Holds.{Holds}
use Rattle.vg_client_holds.specs.Holds.{Allowed}
use Rattle.vg_machine.specs.Lane.{lane_of}
use Rattle.vg_device.specs.State.{State}
use Rattle.vg_machine.specs.Jobs.{Job}
use Rattle.vg_machine.specs.Lender.{Lender}
use Rattle.vg_machine.specs.Replay.{display}
use Rattle.vg_driver.specs.declared.ticket.Answer.{Answer}
use Rattle.vg_driver.specs.declared.ticket.Ticket.{Ticket}

-- The tokens of a book whose machine is a display.
abbrev pub Account : Type 0
Account = books.Account Lender State Act ActReply Request Reply Holds Job

abbrev pub Order : Type 0
Order = orders.Order Lender State Act ActReply Request Reply Holds Job

abbrev pub Token : Type 0
Token = tokens.Client Lender State Act ActReply Request Reply Holds Job

abbrev pub Pass : Type 0
Pass = tokens.Passed Lender State Act ActReply Request Reply Holds Job

abbrev pub DonePass : Type 0
DonePass = tokens.Done Lender State Act ActReply Request Reply Holds Job

-- The ticket's call, with the lane and the ordinal of its fence.
pub record IsOf (ticket : Ticket) (order : Order) : Type 0 where
  pub call : order.call ≡ ticket.call
  pub lane : order.request.lane ≡ ticket.fence.lane
  pub ordinal : order.request.ordinal ≡ ticket.fence.ordinal

-- The ticket is that of a call that is outstanding.
abbrev pub IsOut : Account → Ticket → Type 0
IsOut account ticket = (order : Order) × Has account.out order × IsOf ticket order

-- A request, a function of the ordinal that it gets, was submitted under the client's next number: it is outstanding, and the
-- ticket is its.
pub record Submitted (old : Token) (request : ℕ → Request) (ticket : Ticket) (new : Token) : Type 0 where
  pub pass : Pass
  pub drawn : Drawn display old (request ticket.fence.ordinal) new pass
  pub lane : ticket.fence.lane ≡ (request ticket.fence.ordinal).lane
  pub ordinal : ticket.fence.ordinal ≡ (request ticket.fence.ordinal).ordinal
  pub call : ticket.call ≡ old.account.used + 1
  -- The lane is that of the request's bytes, and the client may ask them.
  pub of_bytes : ticket.fence.lane ≡ lane_of (request ticket.fence.ordinal).queue (request ticket.fence.ordinal).bytes
  pub allowed : Allowed old.account.holds (request ticket.fence.ordinal).queue (request ticket.fence.ordinal).bytes

-- The ticket's call has come back: its entry stands in what the client has seen now, with the lane, the ordinal and the reply.
pub record Finished (old : Token) (ticket : Ticket) (answer : Answer) (new : Token) : Type 0 where
  pub done : DonePass
  pub back : TakesBack display old done new
  pub is : IsOf ticket done.order
  pub entry : answer.entry ≡ done.place + 1
  pub reply : answer.reply ≡ done.reply

-- It has come back without having been run, for want of memory: it has no entry, and its number is spent.
pub record Spent (old : Token) (ticket : Ticket) (new : Token) : Type 0 where
  pub pass : Pass
  pub back : TakesUnrun display old pass new
  pub is : IsOf ticket pass.order

-- The client has told of a fence.
abbrev pub IsTold : Token → FenceData → ℕ → Token → Type 0
IsTold old fence entry new = (reply : ActReply) × Acted display old (Await fence.lane fence.ordinal) new entry reply

-- The client has waited for a fence, and told so: what it had seen by then has all commands of the fence's lane up to it, and its
-- act stands behind that.
pub record Awaited (old : Token) (fence : FenceData) (entry : ℕ) (new : Token) : Type 0 where
  pub met : Token
  pub watched : Watched display old met
  pub known : HasFence display fence.lane fence.ordinal met.seen
  pub reply : ActReply
  pub acted : Acted display met (Await fence.lane fence.ordinal) new entry reply
