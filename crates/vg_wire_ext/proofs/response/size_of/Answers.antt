use Rattle.std.proofs.Common.{◌∙◌, ap, sym}
use Rattle.vg_wire_ext.proofs.ResponseLemmas.{length-response_body, size_of_response}
use Rattle.vg_wire_ext.proofs.response.size_of.Goals as goal

pub returns-in-DisplayInfo : goal.returns-in-DisplayInfo
returns-in-DisplayInfo c = λ valid fits. sym (length-response_body c.args.response.now valid fits ∙ ap size_of_response c.in-DisplayInfo.is)

pub returns-in-CapsetInfo : goal.returns-in-CapsetInfo
returns-in-CapsetInfo c = λ valid fits. sym (length-response_body c.args.response.now valid fits ∙ ap size_of_response c.in-CapsetInfo.is)

pub returns-in-Edid : goal.returns-in-Edid
returns-in-Edid c = λ valid fits. sym (length-response_body c.args.response.now valid fits ∙ ap size_of_response c.in-Edid.is)

pub returns-in-Uuid : goal.returns-in-Uuid
returns-in-Uuid c = λ valid fits. sym (length-response_body c.args.response.now valid fits ∙ ap size_of_response c.in-Uuid.is)
