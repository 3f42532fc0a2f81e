use Rattle.vg_journal_lines.proofs.HeadLaws.{plain_queues, queues_back, queues_only, text_queues}
use Rattle.vg_journal_lines.proofs.laws.queues_and_their_words.Goals as goal

pub returns : goal.returns
returns c = record { text = text_queues; plain = plain_queues; back = queues_back; only = queues_only }
