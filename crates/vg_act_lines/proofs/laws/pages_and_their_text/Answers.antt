use Rattle.vg_act_lines.proofs.ReplyLaws.{pages_text_back, pages_text_only}
use Rattle.vg_act_lines.proofs.laws.pages_and_their_text.Goals as goal

pub returns : goal.returns
returns c = record { back = pages_text_back; only = pages_text_only }
