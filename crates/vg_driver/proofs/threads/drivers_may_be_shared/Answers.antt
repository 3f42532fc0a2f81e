use denote.Param.Send.{sendable}
use Rattle.std.proofs.Crossing.{crosses}
use Rattle.vg_book.proofs.Sent.{book_sync, client_send}
use Rattle.vg_machine.proofs.Sent.{act_reply_send, act_send, display_send, holds_send, reply_send, request_send}
use Rattle.vg_driver.proofs.Sent.{half_send}
use Rattle.vg_driver.proofs.threads.drivers_may_be_shared.Goals as goal

pub may_be_sent-requires-send-T : goal.may_be_sent-requires-send-T
may_be_sent-requires-send-T g c κs within = search (sendable, crosses, client_send, display_send, act_send, act_reply_send, request_send, reply_send, holds_send) depth 20

pub may_be_shared-requires-sync-T : goal.may_be_shared-requires-sync-T
may_be_shared-requires-sync-T g c κs within = search (sendable, crosses, book_sync, display_send, act_send, act_reply_send, request_send, reply_send) depth 20

pub may_be_sent-requires-2-send-T : goal.may_be_sent-requires-2-send-T
may_be_sent-requires-2-send-T g c κs within = let n = c.type_bounds.send-N in search (sendable, crosses, half_send, display_send, act_send, act_reply_send, request_send, reply_send) depth 20

pub may_be_shared-requires-2-sync-T : goal.may_be_shared-requires-2-sync-T
may_be_shared-requires-2-sync-T g c κs within = let n = c.type_bounds.send-N in search (sendable, crosses, half_send, display_send, act_send, act_reply_send, request_send, reply_send) depth 20
