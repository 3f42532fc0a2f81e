use Rattle.std.proofs.Common.{◌≡◌, ◌+◌, ℕ, ◌∷◌, [], length, get_or, None, Option, ap, subst, ◌∙◌}
use Rattle.std.proofs.lemmas.List.{get_or_default, length-append}
use Rattle.vg_scanout.specs.declared.panel.Panel.{Panel}
use Rattle.vg_scanout.specs.Panels.{IsUnframed}
use Rattle.vg_scanout.proofs.TakenLemmas.{each-unframed}
use Rattle.vg_scanout.proofs.taken.own_grounds.Goals as goal

pub loop-i-preserved : goal.loop-i-preserved
loop-i-preserved c =
    let a = c.args in
    let i = c.loop-i.i in
    let panel = c.index-panels-i.result in
    let there : panel ≡ get_or a.panels.now i None = c.index-panels-i.is ∙ get_or_default a.panels.now i panel None c.loop-i-test.true in
    let own = subst (λ (p : Option Panel). IsUnframed a.frames.now c.in_ok-ground.ground p) there c.in_ok-ground.ensures in (
      ap length c.in_ok-push.ensures.items ∙ length-append c.loop-i.grounds.items (c.in_ok-ground.ground ∷ []) ∙ ap (λ (n : ℕ). n + 1) c.loop-i.invariant.0,
      each-unframed a.frames.now c.loop-i.grounds.items c.push.new.self.items c.in_ok-ground.ground a.panels.now i c.loop-i.invariant.0 c.in_ok-push.ensures.items c.loop-i.invariant.1 own,
    )
