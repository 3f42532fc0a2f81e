use denote.Param.Send.{sendable}
use Rattle.std.proofs.Crossing.{crosses}
use Rattle.vg_front.proofs.Sent.{front_send}
use Rattle.vg_front.proofs.threads.fronts_may_be_sent.Goals as goal

pub may_be_sent-requires-2-send-T : goal.may_be_sent-requires-2-send-T
may_be_sent-requires-2-send-T g c κs within = let p = c.type_bounds.send-P in let t = c.type_bounds.send-T in let n = c.type_bounds.send-N in search (sendable, crosses, front_send) depth 20
