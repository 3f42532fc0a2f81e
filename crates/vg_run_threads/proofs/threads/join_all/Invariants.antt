use Rattle.vg_run_threads.specs.Session.{HasTakenAll}
use Rattle.vg_run_threads.proofs.threads.join_all.Given as goal

abbrev pub invariant-loop-client : goal.invariant-loop-client
invariant-loop-client g l = HasTakenAll l.initial.root l.yielded l.root
