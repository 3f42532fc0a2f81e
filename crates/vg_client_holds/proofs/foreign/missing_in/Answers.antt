use Rattle.std.proofs.Common.{rules}
use Rattle.vg_client_holds.proofs.ForeignLemmas.{none-between}
use Rattle.vg_client_holds.proofs.foreign.missing_in.Goals as goal

pub returns-then-reaches : goal.returns-then-reaches
returns-then-reaches c =
    none-between c.args.own.now c.args.starts.now c.in_ok-first.first c.in_ok-first.end _ c.requires.starts (search rules) (c.reaches.ensures c.if-reaches.true) c.in_ok-first.ensures.pages
