use Rattle.vg_line_words.proofs.PartLemmas.{no-mark, first-mark}
use Rattle.vg_line_words.proofs.words.cut_at.Goals as goal

pub returns-in-Some-clause-parts : goal.returns-in-Some-clause-parts
returns-in-Some-clause-parts c = first-mark c.args.mark c.args.text.now c.in-Some.place c.in-Some.ensures

pub returns-in-None-clause-parts : goal.returns-in-None-clause-parts
returns-in-None-clause-parts c = no-mark c.args.mark c.args.text.now c.in-None.ensures
