use Rattle.std.proofs.Common.{◌∙◌, ℕ, length, sym, ap}
use Rattle.vg_driver.proofs.HalfLemmas.{half_new}
use Rattle.vg_driver.proofs.half.Half.new.Goals as goal

pub invariant_of-result : goal.invariant_of-result
invariant_of-result g c =
    let (size, end) = c.requires.end in
    (half_new g.M.Machine g.Q.OfQueue.queue size _ c.in_ok-all_lanes.field-0.items end c.in_ok-all_lanes.ensures.0 c.in_ok-all_lanes.ensures.1, c.requires.bell ∙ sym (ap {B = ℕ} length end.published))
