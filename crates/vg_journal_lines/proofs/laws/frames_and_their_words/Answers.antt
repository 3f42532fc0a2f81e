use Rattle.vg_journal_lines.proofs.CountLaws.{frames_back, frames_only, plain_frames}
use Rattle.vg_journal_lines.proofs.laws.frames_and_their_words.Goals as goal

pub returns : goal.returns
returns c = record { plain = plain_frames; back = frames_back; only = frames_only }
