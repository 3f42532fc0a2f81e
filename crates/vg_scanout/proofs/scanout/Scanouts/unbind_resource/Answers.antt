use Rattle.std.proofs.Common.{◌≡◌, List, Option, ◌++◌, ◌∙◌, ap, length, map, take, drop, arith}
use Rattle.std.proofs.lemmas.List.{length-map}
use Rattle.vg_scanout.specs.declared.panel.Panel.{Panel}
use Rattle.vg_scanout.specs.Panels.{screens_in, unbound_panel}
use Rattle.vg_scanout.proofs.PanelLemmas.{screens-unbound, unbound-panels}
use Rattle.vg_scanout.proofs.ScreenLemmas.{written-back}
use Rattle.vg_scanout.proofs.scanout.Scanouts.unbind_resource.Goals as goal

pub invariant_of-self : goal.invariant_of-self
invariant_of-self c =
    let frames = c.self.inside.frames.items in
    let old : List (Option Panel) = c.self.inside.panels.items in
    let now : List (Option Panel) = c.disable_each.new.panels in
    let made : take c.self.inside.panels.len (now ++ drop (length now) old) ≡ map (unbound_panel c.args.resource) old =
    written-back (unbound_panel c.args.resource) old c.as_mut_slice.result.now now c.self.inside.panels.len c.as_mut_slice.ensures.value c.as_mut_slice.ensures.len c.disable_each.ensures
    in
    (c.self.invariant.0, c.self.invariant.1, rw made (unbound-panels frames c.args.resource old c.self.invariant.2), rw made (omega (arith, length-map old (unbound_panel c.args.resource), c.self.invariant.3)))

pub returns : goal.returns
returns c =
    let frames = c.self.inside.frames.items in
    let old : List (Option Panel) = c.self.inside.panels.items in
    let now : List (Option Panel) = c.disable_each.new.panels in
    let made : take c.self.inside.panels.len (now ++ drop (length now) old) ≡ map (unbound_panel c.args.resource) old =
    written-back (unbound_panel c.args.resource) old c.as_mut_slice.result.now now c.self.inside.panels.len c.as_mut_slice.ensures.value c.as_mut_slice.ensures.len c.disable_each.ensures
    in
    rw (← c.self.view_is) (ap (λ screens. record { screens = screens; frames = frames }) (ap (screens_in frames) made ∙ screens-unbound frames c.args.resource old))
