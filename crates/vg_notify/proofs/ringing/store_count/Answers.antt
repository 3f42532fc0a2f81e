use Rattle.std.proofs.Common.{arith}
use Rattle.vg_notify.proofs.Told.{count_step}
use Rattle.vg_notify.proofs.ringing.store_count.Goals as goal

pub store-requires : goal.store-requires
store-requires c = (let words = c.requires.line.1 in (c.requires.line.0, omega (arith, words), count_step c.args.line.now.shared.table_id.slots c.args.pass.now.id c.args.pass.now.me c.args.count c.requires.view c.requires.later c.requires.near))
