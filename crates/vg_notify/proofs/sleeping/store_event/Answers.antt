use Rattle.std.proofs.Common.{arith}
use Rattle.vg_notify.proofs.Told.{wait_step}
use Rattle.vg_notify.proofs.sleeping.store_event.Goals as goal

pub store-requires : goal.store-requires
store-requires c = (let words = c.requires.line.1 in (c.requires.line.0, omega (arith, words), wait_step c.args.line.now.shared.table_id.slots c.args.pass.now.id c.args.pass.now.me c.args.event c.requires.view c.requires.awake))
