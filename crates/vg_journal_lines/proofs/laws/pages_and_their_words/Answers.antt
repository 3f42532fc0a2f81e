use Rattle.vg_journal_lines.proofs.HeadLaws.{memory_back, memory_only, plain_memory, text_memory}
use Rattle.vg_journal_lines.proofs.laws.pages_and_their_words.Goals as goal

pub returns : goal.returns
returns c = record { text = text_memory; plain = plain_memory; back = memory_back; only = memory_only }
