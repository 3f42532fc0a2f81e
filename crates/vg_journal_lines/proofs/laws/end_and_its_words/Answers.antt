use Rattle.vg_journal_lines.proofs.CountLaws.{end_back, end_only, plain_end, text_end}
use Rattle.vg_journal_lines.proofs.laws.end_and_its_words.Goals as goal

pub returns : goal.returns
returns c = record { text = text_end; plain = plain_end; back = end_back; only = end_only }
