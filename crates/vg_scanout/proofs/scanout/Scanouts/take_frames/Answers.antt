use Rattle.std.proofs.Common.{◌≡◌, List, [], Option, ◌++◌, length, take, drop, refl, ap, ◌∙◌, subst, arith}
use Rattle.vg_scanout.specs.declared.panel.Ground.{Ground}
use Rattle.vg_scanout.specs.declared.panel.Panel.{Panel}
use Rattle.vg_scanout.specs.declared.scanout.Frame.{Frame}
use Rattle.vg_scanout.specs.Panels.{ArePanels, AreRegrounded, AreUnframed, screens_in}
use Rattle.vg_scanout.specs.Scanout.{ScanoutState}
use Rattle.vg_scanout.proofs.PanelLemmas.{are-panels, are-screens, regrounded-back}
use Rattle.vg_scanout.proofs.TakenLemmas.{stand-taken}
use Rattle.vg_scanout.proofs.scanout.Scanouts.take_frames.Goals as goal

pub invariant_of-self : goal.invariant_of-self
invariant_of-self c =
    let frames = c.self.inside.frames.items in
    let panels : List (Option Panel) = c.self.inside.panels.items in
    let grounds = c.in_ok-grounds.grounds.items in
    let now : List (Option Panel) = take c.self.inside.panels.len (c.reground_each.new.panels ++ drop (length c.reground_each.new.panels) panels) in
    let apart : AreUnframed frames grounds panels =
    subst (λ (fs : List Frame). AreUnframed fs grounds panels) c.as_slice-2.ensures.value
    (subst (λ (ps : List (Option Panel)). AreUnframed c.as_slice-2.result.now grounds ps) c.as_slice.ensures.value c.in_ok-grounds.ensures)
    in
    let re : AreRegrounded grounds panels now =
    regrounded-back grounds c.self.inside.panels.len panels c.as_mut_slice.result.now c.reground_each.new.panels c.as_mut_slice.ensures.value c.as_mut_slice.ensures.len
    (subst (λ (gs : List (Option Ground)). AreRegrounded gs c.as_mut_slice.result.now c.reground_each.new.panels) c.as_mut_slice-2.ensures.value c.reground_each.ensures)
    in
    let stand = stand-taken frames grounds panels now apart re in
    let none : c.replace.new.dest.items ≡ [] = ap (λ v. v.items) c.replace.ensures.after ∙ c.new.ensures.items in
    let are : ArePanels [] now = are-panels [] now (screens_in frames panels) stand (are-screens frames panels c.self.invariant.2) in
    rw none (refl, omega arith, are, omega (arith, re.count, c.self.invariant.3))

pub returns-clause-done : goal.returns-clause-done
returns-clause-done c =
    let frames = c.self.inside.frames.items in
    let panels : List (Option Panel) = c.self.inside.panels.items in
    let grounds = c.in_ok-grounds.grounds.items in
    let now : List (Option Panel) = take c.self.inside.panels.len (c.reground_each.new.panels ++ drop (length c.reground_each.new.panels) panels) in
    let apart : AreUnframed frames grounds panels =
    subst (λ (fs : List Frame). AreUnframed fs grounds panels) c.as_slice-2.ensures.value
    (subst (λ (ps : List (Option Panel)). AreUnframed c.as_slice-2.result.now grounds ps) c.as_slice.ensures.value c.in_ok-grounds.ensures)
    in
    let re : AreRegrounded grounds panels now =
    regrounded-back grounds c.self.inside.panels.len panels c.as_mut_slice.result.now c.reground_each.new.panels c.as_mut_slice.ensures.value c.as_mut_slice.ensures.len
    (subst (λ (gs : List (Option Ground)). AreRegrounded gs c.as_mut_slice.result.now c.reground_each.new.panels) c.as_mut_slice-2.ensures.value c.reground_each.ensures)
    in
    let stand = stand-taken frames grounds panels now apart re in
    let none : c.replace.new.dest.items ≡ [] = ap (λ v. v.items) c.replace.ensures.after ∙ c.new.ensures.items in
    let screens = ap (λ (fs : List Frame). screens_in fs now) none ∙ stand.same ∙ ap (λ (s : ScanoutState). s.screens) c.self.view_is in
    λ i. record { screens = screens i; frames = none i }
