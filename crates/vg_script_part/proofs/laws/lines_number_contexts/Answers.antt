use Rattle.vg_script_part.proofs.NumberLemmas.{contexts-counted}
use Rattle.vg_script_part.proofs.laws.lines_number_contexts.Goals as goal

pub returns : goal.returns
returns c = contexts-counted c.a_call_numbers_its_context.ensures
