use Rattle.vg_client.proofs.NumberLemmas.{call-counted}
use Rattle.vg_client.proofs.laws.a_call_numbers_its_name.Goals as goal

pub returns : goal.returns
returns c = call-counted
