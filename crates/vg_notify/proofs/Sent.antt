-- The two halves of a bell may go to other threads, for crates above.
use denote.Param.Send.{IsSend, sendable}
use Rattle.std.proofs.Crossing.{crosses}
use Rattle.atomic_table.proofs.Seat.TheSendSync as seat
use Rattle.atomic_table.proofs.Shared.TheSendSync as shared
use Rattle.atomic_table.proofs.send_lease.SendLease.TheSendSync as lease
use Rattle.vg_notify.specs.contracts.ringer.Ringer as ringer
use Rattle.vg_notify.specs.contracts.sleeper.Sleeper as sleeper

ruleset halves_cross = (sendable, crosses, seat.the_send, shared.the_send, shared.the_sync, lease.the_send, lease.the_sync)

pub ringer_send : IsSend ringer.the_row
ringer_send = search halves_cross depth 40

pub sleeper_send : IsSend sleeper.the_row
sleeper_send = search halves_cross depth 40
