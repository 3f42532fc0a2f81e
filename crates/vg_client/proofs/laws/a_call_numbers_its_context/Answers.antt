use Rattle.vg_client.proofs.NumberLemmas.{contexts-counted}
use Rattle.vg_client.proofs.laws.a_call_numbers_its_context.Goals as goal

pub returns : goal.returns
returns c = contexts-counted
