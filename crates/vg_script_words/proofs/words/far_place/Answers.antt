use Rattle.vg_script_words.proofs.Cuts.{first_place, no_place}
use Rattle.vg_script_words.proofs.words.far_place.Goals as goal

pub returns-in-Some-clause-place : goal.returns-in-Some-clause-place
returns-in-Some-clause-place c = first_place c.args.at c.args.bytes.now c.in-Some.place c.in-Some.ensures

pub returns-in-None-clause-place : goal.returns-in-None-clause-place
returns-in-None-clause-place c = no_place c.args.at c.args.bytes.now c.in-None.ensures
