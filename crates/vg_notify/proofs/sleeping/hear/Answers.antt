use Rattle.std.proofs.Common.{arith}
use Rattle.vg_notify.proofs.Told.{hear_step}
use Rattle.vg_notify.proofs.sleeping.hear.Goals as goal

pub load-requires : goal.load-requires
load-requires c = (let words = c.requires.line.1 in (c.requires.line.0, omega (arith, words), hear_step c.args.line.now.shared.table_id.slots c.args.pass.now.id c.args.pass.now.me c.requires.view c.requires.asleep))
