use Rattle.vg_journal_lines.proofs.HeadLaws.{plain_without, text_without, without_back, without_only}
use Rattle.vg_journal_lines.proofs.laws.features_and_their_words.Goals as goal

pub returns : goal.returns
returns c = record { text = text_without; plain = plain_without; back = without_back; only = without_only }
