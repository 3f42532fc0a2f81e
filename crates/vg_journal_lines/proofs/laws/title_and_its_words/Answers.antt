use Rattle.vg_journal_lines.proofs.HeadLaws.{plain_title, text_title, title_back, title_only}
use Rattle.vg_journal_lines.proofs.laws.title_and_its_words.Goals as goal

pub returns : goal.returns
returns c = record { text = text_title; plain = plain_title; back = title_back; only = title_only }
