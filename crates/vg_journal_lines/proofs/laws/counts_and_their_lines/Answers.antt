use Rattle.vg_journal_lines.proofs.CountLaws.{text_counts}
use Rattle.vg_journal_lines.proofs.laws.counts_and_their_lines.Goals as goal

pub returns : goal.returns
returns c = text_counts
