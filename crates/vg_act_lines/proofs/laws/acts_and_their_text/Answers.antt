use Rattle.vg_act_lines.proofs.ActLaws.{act_only, text_act, plain_act, act_said, act_back, one_act}
use Rattle.vg_act_lines.proofs.laws.acts_and_their_text.Goals as goal

pub returns : goal.returns
returns c = record { text = text_act; plain = plain_act; said = act_said; back = act_back; only = act_only; one = one_act }
