use Rattle.std.proofs.Common.{◌∙◌, ◌+◌, ◌*◌, ap, sym}
use Rattle.vg_wire_ext.proofs.CommandLemmas.{length-command_body, size_of_command}
use Rattle.vg_wire_ext.proofs.write.size_of.Goals as goal

pub returns-in-CapsetInfo-clause-size : goal.returns-in-CapsetInfo-clause-size
returns-in-CapsetInfo-clause-size c = λ good. sym (length-command_body c.args.command.now good ∙ ap size_of_command c.in-CapsetInfo.is)

pub returns-in-Capset-clause-size : goal.returns-in-Capset-clause-size
returns-in-Capset-clause-size c = λ good. sym (length-command_body c.args.command.now good ∙ ap size_of_command c.in-Capset.is)

pub returns-in-Edid-clause-size : goal.returns-in-Edid-clause-size
returns-in-Edid-clause-size c = λ good. sym (length-command_body c.args.command.now good ∙ ap size_of_command c.in-Edid.is)

pub returns-in-AssignUuid-clause-size : goal.returns-in-AssignUuid-clause-size
returns-in-AssignUuid-clause-size c = λ good. sym (length-command_body c.args.command.now good ∙ ap size_of_command c.in-AssignUuid.is)

pub returns-in-SetScanoutBlob-clause-size : goal.returns-in-SetScanoutBlob-clause-size
returns-in-SetScanoutBlob-clause-size c = λ good. sym (length-command_body c.args.command.now good ∙ ap size_of_command c.in-SetScanoutBlob.is)

pub returns-in-CtxAttach-clause-size : goal.returns-in-CtxAttach-clause-size
returns-in-CtxAttach-clause-size c = λ good. sym (length-command_body c.args.command.now good ∙ ap size_of_command c.in-CtxAttach.is)

pub returns-in-CtxDetach-clause-size : goal.returns-in-CtxDetach-clause-size
returns-in-CtxDetach-clause-size c = λ good. sym (length-command_body c.args.command.now good ∙ ap size_of_command c.in-CtxDetach.is)

pub returns-in-Submit-clause-size : goal.returns-in-Submit-clause-size
returns-in-Submit-clause-size c = λ good. ap (λ n. 8 + n) c.len-in-Submit.ensures ∙ sym (length-command_body c.args.command.now good ∙ ap size_of_command c.in-Submit.is)

pub returns-in-UpdateCursor-clause-size : goal.returns-in-UpdateCursor-clause-size
returns-in-UpdateCursor-clause-size c = λ good. sym (length-command_body c.args.command.now good ∙ ap size_of_command c.in-UpdateCursor.is)

pub returns-in-MoveCursor-clause-size : goal.returns-in-MoveCursor-clause-size
returns-in-MoveCursor-clause-size c = λ good. sym (length-command_body c.args.command.now good ∙ ap size_of_command c.in-MoveCursor.is)

pub returns-in-CreateBlob-clause-size : goal.returns-in-CreateBlob-clause-size
returns-in-CreateBlob-clause-size c = λ good. ap (λ n. 32 + 16 * n) c.len.ensures ∙ sym (length-command_body c.args.command.now good ∙ ap size_of_command c.in-CreateBlob.is)

pub returns-in-CtxCreate-clause-size : goal.returns-in-CtxCreate-clause-size
returns-in-CtxCreate-clause-size c = λ good. sym (length-command_body c.args.command.now good ∙ ap size_of_command c.in-CtxCreate.is)
