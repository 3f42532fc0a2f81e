use Rattle.vg_shared_bytes.proofs.StripLemmas.{ArePlanned}
use Rattle.vg_shared_bytes.proofs.strips.Strips.cut.Given as goal

abbrev pub invariant-loop-k : goal.invariant-loop-k
invariant-loop-k l = ArePlanned l.new.items l.bytes l.plans.items l.k
