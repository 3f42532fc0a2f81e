use Rattle.std.proofs.Common.{◌≡◌, ◌*◌, ◌/◌, List, ℕ, ap, drop, length, map, subst, sym, take, ◌∙◌, arith}
use Rattle.vg_shared_bytes.proofs.PutLemmas.{length-put, strips-with}
use Rattle.vg_shared_bytes.proofs.StripLemmas.{cut-all, planned-more}
use Rattle.vg_shared_bytes.specs.PlansWithin.{bytes_by}
use Rattle.vg_shared_bytes.specs.Strips.{IsCut, IsWide, put, strip_with}
use Rattle.vg_shared_bytes.proofs.strips.Strips.with.Goals as goal

pub loop-k-preserved : goal.loop-k-preserved
loop-k-preserved c =
    let strips = c.self.inside.strips.items in
    let cut = subst (λ (bytes : List ℕ). IsCut bytes strips) c.self.view_is c.self.invariant.1 in
    let strip = c.index.result.now in
    let here : strip ≡ take 1024 (drop (1024 * c.loop-k.k) c.args.self.now) = c.index.ensures ∙ cut.each c.loop-k.k strip (omega (arith, c.loop-k-test.true, c.len-k-end.ensures)) in
    planned-more c.loop-k.new.items c.planned_with.new.new.items (put c.args.at c.args.bytes.now c.args.self.now) c.loop-k.plans.items c.push.new.self.items c.loop-k.k
    (strip_with (c.args.at / 1024) c.as_slice.result.now c.loop-k.k strip) c.in_ok-plan.plan c.loop-k.invariant
    (strips-with c.loop-k.k c.args.at c.args.bytes.now c.args.self.now c.as_slice.result.now strip c.requires.within (subst (IsWide c.args.self.now c.args.at c.args.bytes.now) (sym c.as_slice.ensures.value) c.in_ok-wide.ensures) here)
    c.in_ok-plan.ensures.planned c.in_ok-plan.ensures.grows c.in_ok-push.ensures.items

pub invariant_of-result : goal.invariant_of-result
invariant_of-result c =
    let now = put c.args.at c.args.bytes.now c.args.self.now in
    let strips = c.self.inside.strips.items in
    let cut = subst (λ (bytes : List ℕ). IsCut bytes strips) c.self.view_is c.self.invariant.1 in
    let long = length-put c.args.at c.args.bytes.now c.args.self.now c.requires.within in
    let all = cut-all c.loop-k.new.items now c.loop-k.plans.items c.in_ok-strips.strips.items c.loop-k.k c.loop-k.invariant
    (c.in_ok-strips.ensures ∙ ap (λ (block : List ℕ). map (bytes_by block) c.loop-k.plans.items) c.in_ok-block.ensures) (omega (arith, c.loop-k-test.false, c.len-k-end.ensures, long, cut.all)) in
    (omega (arith, ap length all.0, long, c.self.invariant.0, ap length c.self.view_is), subst (λ (bytes : List ℕ). IsCut bytes c.in_ok-strips.strips.items) (sym all.0) all.1)

pub returns : goal.returns
returns c =
    let strips = c.self.inside.strips.items in
    let cut = subst (λ (bytes : List ℕ). IsCut bytes strips) c.self.view_is c.self.invariant.1 in
    let long = length-put c.args.at c.args.bytes.now c.args.self.now c.requires.within in
    (cut-all c.loop-k.new.items (put c.args.at c.args.bytes.now c.args.self.now) c.loop-k.plans.items c.in_ok-strips.strips.items c.loop-k.k c.loop-k.invariant
    (c.in_ok-strips.ensures ∙ ap (λ (block : List ℕ). map (bytes_by block) c.loop-k.plans.items) c.in_ok-block.ensures) (omega (arith, c.loop-k-test.false, c.len-k-end.ensures, long, cut.all))).0
