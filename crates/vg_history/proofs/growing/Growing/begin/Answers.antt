use Rattle.std.proofs.Common.{◌+◌, ◌-◌, ◌^◌, ◌<◌, ◌≤◌, ◌++◌, length, ap, rules, arith}
use Rattle.std.specs.Vec.{vec_len, vec_capacity}
use Rattle.vg_history.specs.Lines.{is_on_first, is_on_second}
use Rattle.vg_history.proofs.GrowthLemmas.{one_more, counted_more}
use Rattle.vg_history.proofs.growing.Growing.begin.Goals as goal

pub invariant_of-self-in-Ok-Whole-2 : goal.invariant_of-self-in-Ok-Whole-2
invariant_of-self-in-Ok-Whole-2 g c =
    let longer = one_more c.self.inside.lines c.self.inside.whole.items c.reserve.new.self.items _ c.reserve.ensures.items _ c.enter.ensures.entries in
    let counted = counted_more c.self.inside.lines c.self.inside.whole.items c.reserve.new.self.items _ c.reserve.ensures.items _ c.enter.ensures.entries in
    let room : length (c.self.inside.lines ++ c.self.inside.whole.items) + c.self.inside.kept < 2 ^ 31 - 1 = search rules in
    let places : vec_len c.reserve.new.self + (c.self.inside.kept + 1) ≤ vec_capacity c.reserve.new.self = search rules in (
      omega (arith, longer, room),
      omega (arith, places, c.enter.ensures.len, c.enter.ensures.capacity),
      counted (is_on_first g.M.Machine) c.self.inside.first (c.self.inside.first + c.counts_of-first.result.0) c.self.invariant.2 (ap (λ k. c.self.inside.first + k) c.counts_of-first.ensures.first),
      counted (is_on_second g.M.Machine) c.self.inside.second (c.self.inside.second + c.counts_of-first.result.1) c.self.invariant.3 (ap (λ k. c.self.inside.second + k) c.counts_of-first.ensures.second),
    )
