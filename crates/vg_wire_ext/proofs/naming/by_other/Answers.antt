use Rattle.std.proofs.Common.{rules, sym}
use Rattle.vg_wire_ext.proofs.NamedLemmas.{other-row}
use Rattle.vg_wire_ext.proofs.naming.by_other.Goals as goal

pub returns-in_default-2 : goal.returns-in_default-2
returns-in_default-2 c = sym (other-row c.args.kind c.args.context c.args.body.now (search rules) (search rules))
