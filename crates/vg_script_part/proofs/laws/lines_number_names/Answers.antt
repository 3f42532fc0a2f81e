use Rattle.vg_script_part.proofs.NumberLemmas.{lines-counted}
use Rattle.vg_script_part.proofs.laws.lines_number_names.Goals as goal

pub returns : goal.returns
returns c = lines-counted c.a_call_numbers_its_name.ensures
