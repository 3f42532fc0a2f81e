use Rattle.std.proofs.Common.{rules, sym}
use Rattle.vg_wire_ext.proofs.NamedLemmas.{other-2d}
use Rattle.vg_wire_ext.proofs.naming.by_2d.Goals as goal

pub returns-in_default-5 : goal.returns-in_default-5
returns-in_default-5 c = sym (other-2d c.args.kind c.args.body.now (search rules) (search rules) (search rules) (search rules) (search rules))
