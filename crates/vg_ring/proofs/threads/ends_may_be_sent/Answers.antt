use denote.Param.Send.{sendable}
use Rattle.std.proofs.Crossing.{crosses}
use Rattle.vg_ring.proofs.Sent.{driver_send, device_send}
use Rattle.vg_ring.proofs.threads.ends_may_be_sent.Goals as goal

pub may_be_sent-requires-3-send-T : goal.may_be_sent-requires-3-send-T
may_be_sent-requires-3-send-T g c κs within = let p = c.type_bounds.send-P in let n = c.type_bounds.send-N in search (sendable, crosses, driver_send) depth 20

pub may_be_sent-requires-4-send-T : goal.may_be_sent-requires-4-send-T
may_be_sent-requires-4-send-T g c κs within = let p = c.type_bounds.send-P in let n = c.type_bounds.send-N in search (sendable, crosses, device_send) depth 20
