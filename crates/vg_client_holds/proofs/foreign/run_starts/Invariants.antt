use Rattle.vg_client_holds.proofs.ForeignLemmas.{IsStarting}
use Rattle.vg_client_holds.proofs.foreign.run_starts.Given as goal

abbrev pub invariant-loop-i : goal.invariant-loop-i
invariant-loop-i l = IsStarting l.own l.starts.items l.i l.start
