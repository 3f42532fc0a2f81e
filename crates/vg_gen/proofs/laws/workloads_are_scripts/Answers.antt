use Rattle.vg_gen.proofs.ScriptLemmas.{generated_parses, generated_short}
use Rattle.vg_gen.proofs.laws.workloads_are_scripts.Goals as goal

pub returns-clause-script : goal.returns-clause-script
returns-clause-script c = generated_parses

pub returns-clause-short : goal.returns-clause-short
returns-clause-short c = λ number clients some few. generated_short number clients few
