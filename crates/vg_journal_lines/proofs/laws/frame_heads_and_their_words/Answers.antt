use Rattle.vg_journal_lines.proofs.CountLaws.{frame_back, frame_only, plain_frame, text_frame}
use Rattle.vg_journal_lines.proofs.laws.frame_heads_and_their_words.Goals as goal

pub returns : goal.returns
returns c = record { text = text_frame; plain = plain_frame; back = frame_back; only = frame_only }
