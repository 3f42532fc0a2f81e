use denote.Param.Send.{IsSend, IsSync, sendable, param_send}
use Rattle.std.proofs.Crossing.{crosses}
use Rattle.vg_book.proofs.Sent.{lane_send, pass_send, book_sync}
use Rattle.vg_lend.specs.contracts.waiter.Flags as flags
use Rattle.vg_lend.specs.contracts.waiter.Waiter as waiter
use Rattle.vg_lend.proofs.lanes.both_run.Lts as lts
use Rattle.vg_lend.proofs.lanes.both_run.Given.{Over}
use Rattle.vg_lend.proofs.lanes.both_run.Goals as goal

flags_send : IsSend flags.the_row
flags_send = search (sendable, crosses) depth 20

flags_sync : IsSync flags.the_row
flags_sync = search (sendable, crosses) depth 20

waiter_send : IsSend waiter.the_row
waiter_send = search (sendable, crosses, flags_send, flags_sync) depth 20

second_send : (g : Over) (κs : contract.Lifetimes.Lfts 7) → IsSend (lts.arg-9-2 g.row.B g.row.R g.B.laws g.R.laws g.B.Naming g.B.Naming-dict g.R.Threads g.R.Threads-dict g.R.Wait g.R.Wait-dict κs)
second_send g κs = search (sendable, crosses, flags_send, flags_sync, waiter_send, lane_send, pass_send, book_sync) depth 20

first_send : (g : Over) (κs : contract.Lifetimes.Lfts 7) → IsSend (lts.arg-9-3 g.row.B g.row.R g.B.laws g.R.laws g.B.Naming g.B.Naming-dict g.R.Threads g.R.Threads-dict g.R.Wait g.R.Wait-dict κs)
first_send g κs = search (sendable, crosses, flags_send, flags_sync, waiter_send, lane_send, pass_send, book_sync) depth 20

pub both-requires-send-A : goal.both-requires-send-A
both-requires-send-A g c κs = λ _. param_send _ _ (second_send g κs)

pub both-requires-send-B : goal.both-requires-send-B
both-requires-send-B g c κs = λ _. param_send _ _ (first_send g κs)
