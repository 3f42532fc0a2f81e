use Rattle.std.proofs.Common.{codes}
use Rattle.vg_run.proofs.WordLemmas.{same-word, five-gen}
use Rattle.vg_run.proofs.words.in_five.Goals as goal

pub returns : goal.returns
returns c =
    five-gen c.args.word.now c.args.flag.now c.args.number.now c.args.other.now c.args.clients.now (same-word c.args.word.now (codes "gen") c.if-ne.ensures)
    (same-word c.args.flag.now (codes "--number") c.if-ne-2.ensures) (same-word c.args.other.now (codes "--clients") c.if-ne-3.ensures) c.in_two.result c.in_two.ensures
