use Rattle.std.proofs.Common.{rules, ◌≡◌, ◌<◌, ◌∙◌, List, ℕ, length, ap, sym, subst}
use Rattle.std.proofs.lemmas.List.{length-replicate}
use Rattle.vg_formats.specs.declared.rect.Rect.{Rect}
use Rattle.vg_scanout.specs.Panels.{IsGround, pixels_in}
use Rattle.vg_scanout.proofs.PanelLemmas.{whole-ground}
use Rattle.vg_scanout.proofs.panel.Panel.under.Goals as goal

pub returns : goal.returns
returns c =
    let binding = c.args.self.now.binding in
    let same : c.args.part.now ≡ binding.rect = search rules in
    let own = pixels_in c.args.frames.now c.args.self.now in
    let pixels : List ℕ = c.in_ok-pixels.pixels.items in
    let some : 0 < binding.rect.width = subst (λ (rect : Rect). 0 < rect.width) same c.requires.some.0 in
    let long = c.requires.panel.1.0 in
    let many : length pixels ≡ length own = ap length c.in_ok-pixels.ensures ∙ length-replicate _ _ ∙ c.size.ensures ∙ sym long in
    subst (λ part. IsGround binding part own pixels) (sym same) (whole-ground binding own pixels some long many)
