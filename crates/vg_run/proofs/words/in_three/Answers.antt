use Rattle.std.proofs.Common.{codes}
use Rattle.vg_run.proofs.WordLemmas.{same-word, three-run}
use Rattle.vg_run.proofs.words.in_three.Goals as goal

pub returns : goal.returns
returns c =
    three-run c.args.word.now c.args.flag.now c.args.count.now (same-word c.args.word.now (codes "run") c.if-ne.ensures) (same-word c.args.flag.now (codes "--workers") c.if-ne-2.ensures) c.digit.result c.digit.ensures
