use Rattle.std.proofs.Common.{◌≡◌, ◌++◌, ◌∷◌, [], ◌∙◌, ℕ, length, length-append, ap, sym, subst, refl, arith}
use Rattle.vg_front.specs.Desks.{AreNew}
use Rattle.vg_front_tests.specs.Held.{count_in, lane_in}
use Rattle.vg_front_tests.proofs.TokenLemmas.{new_more}
use Rattle.vg_front_tests.proofs.rig.tokens.Goals as goal

pub loop-lane-preserved : goal.loop-lane-preserved
loop-lane-preserved c =
    let pushed : c.push.new.self.items ≡ c.loop-lane.tokens.items ++ record { lane = c.loop-lane.lane; count = 0 } ∷ [] = rw c.in_ok-push.was at c.push.ensures.items in
    let old = c.loop-lane.invariant in
    let long = old.0 in (
      (let more = ap {B = ℕ} length pushed ∙ length-append c.loop-lane.tokens.items (record { lane = c.loop-lane.lane; count = 0 } ∷ []) in omega (arith, more, long)),
      subst (AreNew lane_in count_in 0) (sym pushed) (new_more 0 c.loop-lane.tokens.items (record { lane = c.loop-lane.lane; count = 0 }) old.1 (omega (arith, long)) refl),
    )
