-- Guest memory, and what was lent of it, may go to another thread.
use denote.Param.Send.{IsSend, sendable}
use Rattle.std.proofs.Crossing.{crosses}
use Rattle.vg_pages.specs.contracts.lent.LentBytes as lent
use Rattle.vg_pages.specs.contracts.memory.Pages as pages

pub pages_send : IsSend pages.the_row
pages_send = search (sendable, crosses) depth 30

pub lent_send : IsSend lent.the_row
lent_send = search (sendable, crosses) depth 30
