use denote.Param.Send.{sendable}
use Rattle.std.proofs.Crossing.{crosses}
use Rattle.vg_machine.proofs.Sent.{act_reply_send, act_send, display_send, reply_send, request_send}
use Rattle.vg_driver.proofs.Sent.{half_send}
use Rattle.vg_driver.proofs.threads.halves_may_be_sent.Goals as goal

pub may_be_sent-requires-send-T : goal.may_be_sent-requires-send-T
may_be_sent-requires-send-T g c κs within = let q = c.type_bounds.send-Q in search (sendable, crosses, half_send, display_send, act_send, act_reply_send, request_send, reply_send) depth 20
