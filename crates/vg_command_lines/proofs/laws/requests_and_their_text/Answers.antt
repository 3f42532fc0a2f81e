use Rattle.vg_command_lines.proofs.CommandLaws.{one_request, plain_request, request_back, request_only, request_said, text_request}
use Rattle.vg_command_lines.proofs.laws.requests_and_their_text.Goals as goal

pub returns : goal.returns
returns c = record { text = text_request; plain = plain_request; said = request_said; back = request_back; only = request_only; one = one_request }
