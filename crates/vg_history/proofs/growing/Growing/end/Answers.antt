use Rattle.std.proofs.Common.{◌+◌, ◌<◌, ap, refl, rules, arith}
use Rattle.vg_history.specs.Lines.{is_on_first, is_on_second}
use Rattle.vg_history.proofs.GrowthLemmas.{one_more, counted_more}
use Rattle.vg_history.proofs.growing.Growing.end.Goals as goal

pub invariant_of-self-2 : goal.invariant_of-self-2
invariant_of-self-2 g c =
    let longer = one_more c.self.inside.lines c.self.inside.whole.items c.self.inside.whole.items _ refl _ c.enter.ensures.entries in
    let counted = counted_more c.self.inside.lines c.self.inside.whole.items c.self.inside.whole.items _ refl _ c.enter.ensures.entries in
    let kept : 0 < c.self.inside.kept = search rules in (
      omega (arith, longer, c.self.invariant.0, kept),
      omega (arith, c.self.invariant.1, kept, c.enter.ensures.len, c.enter.ensures.capacity),
      counted (is_on_first g.M.Machine) c.self.inside.first (c.self.inside.first + c.counts_of-first.result.0) c.self.invariant.2 (ap (λ k. c.self.inside.first + k) c.counts_of-first.ensures.first),
      counted (is_on_second g.M.Machine) c.self.inside.second (c.self.inside.second + c.counts_of-first.result.1) c.self.invariant.3 (ap (λ k. c.self.inside.second + k) c.counts_of-first.ensures.second),
    )
