-- Bytes in strips may go to another thread.
use denote.Param.Send.{IsSend, sendable}
use Rattle.std.proofs.Crossing.{crosses}
use Rattle.vg_shared_bytes.specs.contracts.strips.Strips as strips

pub strips_send : IsSend strips.the_row
strips_send = search (sendable, crosses) depth 30
