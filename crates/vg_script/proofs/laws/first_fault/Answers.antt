use Rattle.vg_script.proofs.FaultLaws.{fault_to, fault_from, script_to, script_from}
use Rattle.vg_script.proofs.laws.first_fault.Goals as goal

pub returns-clause-fault : goal.returns-clause-fault
returns-clause-fault c = λ bytes line kind. (fault_to bytes line kind, fault_from bytes line kind)

pub returns-clause-script : goal.returns-clause-script
returns-clause-script c = λ bytes script. (script_to bytes script, script_from bytes script)
