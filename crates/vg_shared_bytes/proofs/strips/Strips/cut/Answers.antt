use Rattle.std.proofs.Common.{List, ℕ, ap, length, map, subst, sym, ◌∙◌, arith}
use Rattle.vg_shared_bytes.proofs.StripLemmas.{cut-all, planned-more}
use Rattle.vg_shared_bytes.specs.PlansWithin.{bytes_by}
use Rattle.vg_shared_bytes.specs.Strips.{IsCut}
use Rattle.vg_shared_bytes.proofs.strips.Strips.cut.Goals as goal

pub loop-k-preserved : goal.loop-k-preserved
loop-k-preserved c =
    planned-more c.loop-k.new.items c.planned.new.new.items c.args.bytes.now c.loop-k.plans.items c.push.new.self.items c.loop-k.k c.strip_in-piece.result.now c.in_ok-plan.plan c.loop-k.invariant
    c.strip_in-piece.ensures c.in_ok-plan.ensures.planned c.in_ok-plan.ensures.grows c.in_ok-push.ensures.items

pub invariant_of-result : goal.invariant_of-result
invariant_of-result c =
    let all = cut-all c.loop-k.new.items c.args.bytes.now c.loop-k.plans.items c.in_ok-strips.strips.items c.loop-k.k c.loop-k.invariant
    (c.in_ok-strips.ensures ∙ ap (λ (block : List ℕ). map (bytes_by block) c.loop-k.plans.items) c.in_ok-block.ensures) (omega (arith, c.loop-k-test.false, c.div_ceil-count.ensures)) in
    (ap length (sym all.0), subst (λ (bytes : List ℕ). IsCut bytes c.in_ok-strips.strips.items) (sym all.0) all.1)

pub returns : goal.returns
returns c = (cut-all c.loop-k.new.items c.args.bytes.now c.loop-k.plans.items c.in_ok-strips.strips.items c.loop-k.k c.loop-k.invariant
    (c.in_ok-strips.ensures ∙ ap (λ (block : List ℕ). map (bytes_by block) c.loop-k.plans.items) c.in_ok-block.ensures) (omega (arith, c.loop-k-test.false, c.div_ceil-count.ensures))).0
