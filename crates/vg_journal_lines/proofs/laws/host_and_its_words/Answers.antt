use Rattle.vg_journal_lines.proofs.HeadLaws.{host_back, host_only, plain_host, text_host}
use Rattle.vg_journal_lines.proofs.laws.host_and_its_words.Goals as goal

pub returns : goal.returns
returns c = record { text = text_host; plain = plain_host; back = host_back; only = host_only }
