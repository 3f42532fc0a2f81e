use Rattle.vg_act_lines.proofs.ReplyLaws.{text_reply, plain_reply, reply_said, reply_back, reply_only, one_reply}
use Rattle.vg_act_lines.proofs.laws.replies_and_their_text.Goals as goal

pub returns : goal.returns
returns c = record { text = text_reply; plain = plain_reply; said = reply_said; back = reply_back; only = reply_only; one = one_reply }
