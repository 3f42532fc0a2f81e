use Rattle.vg_machine.proofs.PlugLemmas.{plug-here, plug-left, plug-one}
use Rattle.vg_machine.proofs.laws.plugs_stay.Goals as goal

pub returns-clause-none : goal.returns-clause-none
returns-clause-none c = λ n has. absurd has.1

pub returns-clause-stays : goal.returns-clause-stays
returns-clause-stays c = plug-left

pub returns-clause-here : goal.returns-clause-here
returns-clause-here c = plug-here

pub returns-clause-one : goal.returns-clause-one
returns-clause-one c = plug-one
