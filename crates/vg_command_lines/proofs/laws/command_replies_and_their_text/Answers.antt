use Rattle.vg_command_lines.proofs.CommandLaws.{one_reply, plain_reply, reply_back, reply_only, reply_said, text_reply}
use Rattle.vg_command_lines.proofs.laws.command_replies_and_their_text.Goals as goal

pub returns : goal.returns
returns c = record { text = text_reply; plain = plain_reply; said = reply_said; back = reply_back; only = reply_only; one = one_reply }
