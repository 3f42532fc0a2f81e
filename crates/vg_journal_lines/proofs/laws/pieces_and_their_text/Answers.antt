use Rattle.vg_journal_lines.proofs.CutLemmas.{one_run}
use Rattle.vg_journal_lines.proofs.laws.pieces_and_their_text.Goals as goal

pub returns : goal.returns
returns c = λ state ps qs a b first second same. one_run ps qs state a b first second same
