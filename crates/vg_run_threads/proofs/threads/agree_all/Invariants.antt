use Rattle.std.proofs.Common.{take}
use Rattle.vg_labels.specs.Labels.{values_of}
use Rattle.vg_run_threads.specs.Session.{AreAllTold}
use Rattle.vg_run_threads.proofs.threads.agree_all.Given as goal

abbrev pub invariant-loop-client : goal.invariant-loop-client
invariant-loop-client g l = AreAllTold (values_of l.all.items) (take l.client-index l.performed.items)
