use Rattle.vg_journal_read.proofs.PieceLemmas.{no_line, one_line}
use Rattle.vg_journal_read.proofs.pieces.line_in.Goals as goal

pub returns-in-Some : goal.returns-in-Some
returns-in-Some c = one_line c.args.bytes.now c.in-Some.place c.in-Some.ensures

pub returns-in-None : goal.returns-in-None
returns-in-None c = no_line c.args.bytes.now c.in-None.ensures
