use Rattle.std.proofs.Common.{◌≡◌, ◌+◌, ◌<◌, ℕ, List, [], ◌∷◌, ◌++◌, length, get_or, None, Option, drop, sym, ap, subst, arith, ◌∙◌}
use Rattle.std.proofs.lemmas.List.{get_or_default, get_or-map, length-append, length-map}
use Rattle.std.proofs.lemmas.List.Elements.{All-get_or}
use Rattle.vg_scanout.specs.declared.panel.Panel.{Panel}
use Rattle.vg_scanout.specs.declared.scanout.Frame.{Frame}
use Rattle.vg_scanout.specs.Fits.{FitSurface}
use Rattle.vg_scanout.specs.Panels.{IsAnew, screen_in, screens_in}
use Rattle.vg_scanout.specs.Scanout.{new_frame, new_frames}
use Rattle.vg_scanout.proofs.PanelLemmas.{each-anew}
use Rattle.vg_scanout.proofs.ScreenLemmas.{new_frames-next, new_frames-end, frames-more}
use Rattle.vg_scanout.proofs.flush.make_frames.Goals as goal

pub loop-i-preserved : goal.loop-i-preserved
loop-i-preserved c =
    let a = c.args in
    let i = c.loop-i.i in
    let screens = screens_in a.flush.now.before.now a.panels.now in
    let panel = c.index-panels-i.result in
    let screen = screen_in a.flush.now.before.now panel in
    let within : i < length screens = omega (arith, c.loop-i-test.true, length-map a.panels.now (screen_in a.flush.now.before.now)) in
    let is : screen ≡ get_or screens i screen = ap (screen_in a.flush.now.before.now) c.index-panels-i.is ∙ sym (get_or-map (screen_in a.flush.now.before.now) a.panels.now i panel screen c.loop-i-test.true) in
    let front : List Frame = new_frame a.flush.now.entry a.flush.now.resource a.flush.now.rect.now a.flush.now.surface.now a.flush.now.cursors.now i screen in
    let rest : List Frame = new_frames a.flush.now.entry a.flush.now.resource a.flush.now.rect.now a.flush.now.surface.now a.flush.now.cursors.now (i + 1) (drop (i + 1) screens) in
    let all : List Frame = new_frames a.flush.now.entry a.flush.now.resource a.flush.now.rect.now a.flush.now.surface.now a.flush.now.cursors.now 0 screens in
    let total : c.loop-i.frames.items ++ (front ++ rest) ≡ all =
    ap (λ fs. c.loop-i.frames.items ++ fs) (sym (new_frames-next a.flush.now.entry a.flush.now.resource a.flush.now.rect.now a.flush.now.surface.now a.flush.now.cursors.now i i screen screens within is)) ∙ c.loop-i.invariant.0
    in
    let more : c.add_frame.new.frames.items ≡ c.loop-i.frames.items ++ front = c.in_ok-ground.ensures.frames in
    let there : panel ≡ get_or a.panels.now i None = c.index-panels-i.is ∙ get_or_default a.panels.now i panel None c.loop-i-test.true in
    let anew = subst (λ (p : Option Panel). IsAnew a.flush.now.resource a.flush.now.rect.now a.flush.now.surface.now a.flush.now.before.now (a.flush.now.before.now ++ c.add_frame.new.frames.items) c.in_ok-ground.ground p) there c.in_ok-ground.ensures.regrounded in (
      frames-more c.loop-i.frames.items c.add_frame.new.frames.items front rest all more total,
      ap length c.in_ok-push.ensures.items ∙ length-append c.loop-i.grounds.items (c.in_ok-ground.ground ∷ []) ∙ ap (λ (n : ℕ). n + 1) c.loop-i.invariant.1,
      each-anew a.flush.now.resource a.flush.now.rect.now a.flush.now.surface.now a.flush.now.before.now c.loop-i.frames.items c.add_frame.new.frames.items front c.loop-i.grounds.items c.push.new.self.items c.in_ok-ground.ground a.panels.now i
          c.loop-i.invariant.1 c.in_ok-push.ensures.items more c.loop-i.invariant.2 anew,
    )

pub returns-clause-frames : goal.returns-clause-frames
returns-clause-frames c =
    let a = c.args in
    let screens = screens_in a.flush.now.before.now a.panels.now in
    new_frames-end a.flush.now.entry a.flush.now.resource a.flush.now.rect.now a.flush.now.surface.now a.flush.now.cursors.now c.loop-i.i c.loop-i.i screens c.loop-i.frames.items (new_frames a.flush.now.entry a.flush.now.resource a.flush.now.rect.now a.flush.now.surface.now a.flush.now.cursors.now 0 screens)
    (omega (arith, c.loop-i-test.false, length-map a.panels.now (screen_in a.flush.now.before.now))) c.loop-i.invariant.0

pub add_frame-requires-clause-surface : goal.add_frame-requires-clause-surface
add_frame-requires-clause-surface c =
    let a = c.args in
    let i = c.loop-i.i in
    let panel = c.index-panels-i.result in
    let same = get_or-map (screen_in a.flush.now.before.now) a.panels.now i panel None c.loop-i-test.true ∙ ap (screen_in a.flush.now.before.now) (sym c.index-panels-i.is) in
    subst (FitSurface a.flush.now.resource (length a.flush.now.surface.now)) same
    (All-get_or (FitSurface a.flush.now.resource (length a.flush.now.surface.now)) (screens_in a.flush.now.before.now a.panels.now) i None (omega (arith, c.loop-i-test.true, length-map a.panels.now (screen_in a.flush.now.before.now))) c.requires.surface)
