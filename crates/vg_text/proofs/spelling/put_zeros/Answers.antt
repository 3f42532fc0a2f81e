use Rattle.std.proofs.Common.{arith}
use Rattle.vg_text.proofs.PackingLemmas.{zeros_put}
use Rattle.vg_text.proofs.spelling.put_zeros.Goals as goal

pub returns-clause-text : goal.returns-clause-text
returns-clause-text c =
    zeros_put c.resize.result c.args.out.now.items c.resize.new.self.items c.len-at.result c.saturating_add.result c.args.count (search (arith, c.len-at.ensures))
    (search (arith, c.saturating_add.ensures, c.len-at.ensures, c.requires)) (rw (c.len-at.ensures) c.resize.ensures.items)
