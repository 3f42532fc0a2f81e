use denote.Param.Send.{sendable}
use Rattle.std.proofs.Crossing.{crosses}
use Rattle.vg_worker.proofs.Sent.{book_shared, client_sent, front_sent, worker_sent}
use Rattle.vg_worker.proofs.threads.workers_may_be_sent.Goals as goal

pub may_be_shared-requires-sync-T : goal.may_be_shared-requires-sync-T
may_be_shared-requires-sync-T g c κs within = let n = c.type_bounds.send-N in search (sendable, crosses, front_sent) depth 20

pub may_be_shared-requires-2-sync-T : goal.may_be_shared-requires-2-sync-T
may_be_shared-requires-2-sync-T g c κs within = search (sendable, crosses, book_shared) depth 20

pub may_be_sent-requires-send-T : goal.may_be_sent-requires-send-T
may_be_sent-requires-send-T g c κs within = let n = c.type_bounds.send-N in let y = c.type_bounds.sync-G in search (sendable, crosses, worker_sent) depth 20

pub may_be_sent-requires-2-send-T : goal.may_be_sent-requires-2-send-T
may_be_sent-requires-2-send-T g c κs within = search (sendable, crosses, client_sent) depth 20
