use Rattle.vg_script.proofs.NameLaws.{names_to, names_from}
use Rattle.vg_script.proofs.laws.defined_names.Goals as goal

pub returns : goal.returns
returns c = λ labels lines name named faultless. (names_to labels lines name named faultless, names_from labels lines name named faultless)
