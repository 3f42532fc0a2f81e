use Rattle.vg_shared_bytes.specs.Strips.{put}
use Rattle.vg_shared_bytes.proofs.StripLemmas.{ArePlanned}
use Rattle.vg_shared_bytes.proofs.strips.Strips.with.Given as goal

abbrev pub invariant-loop-k : goal.invariant-loop-k
invariant-loop-k l = ArePlanned l.new.items (put l.at l.bytes l.self) l.plans.items l.k
