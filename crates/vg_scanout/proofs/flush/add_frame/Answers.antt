use Rattle.std.proofs.Common.{rules, ◌≡◌, ◌∙◌, ◌+◌, ℕ, cond, List, [], ◌∷◌, ◌++◌, length, Option, Some, ap, subst, sym, arith, append_assoc}
use Rattle.std.proofs.lemmas.List.{length-append}
use Rattle.vg_cursor.specs.Cursor.{cursor_of}
use Rattle.vg_scanout.specs.declared.panel.Ground.TheVariants.{Kept, Shared}
use Rattle.vg_scanout.specs.declared.panel.Panel.{Panel}
use Rattle.vg_scanout.specs.declared.scanout.Frame.{Frame}
use Rattle.vg_scanout.specs.Panels.{IsAnew, is_touched, pixels_in}
use Rattle.vg_scanout.specs.Scanout.{flushed_pixels, frame_of, pixels_with}
use Rattle.vg_scanout.proofs.PanelLemmas.{anew-touched, frame-plain, touched-some}
use Rattle.vg_scanout.proofs.flush.add_frame.Goals as goal

pub returns-clause-regrounded : goal.returns-clause-regrounded
returns-clause-regrounded c =
    let a = c.args in
    let panel : Panel = c.in-Some.panel in
    let frame : Frame = c.in_ok-frame.frame in
    let own = flushed_pixels panel.binding a.flush.now.rect.now a.flush.now.surface.now (pixels_in a.flush.now.before.now panel) in
    let here = touched-some (is_touched a.flush.now.resource a.flush.now.rect.now (Some panel)) c.in-Some-touched.common _ (sym c.in-Some-touched.is ∙ c.touched.ensures) in
    let pixels : c.in_ok-screen.screen ≡ own = c.in_ok-screen.ensures.shown ∙ ap (λ part. pixels_with panel.binding part a.flush.now.surface.now (pixels_in a.flush.now.before.now panel)) here.1 in
    let made : ◌≡◌ {A = List Frame} (frame ∷ []) (frame_of a.flush.now.entry a.flush.now.cursors.now a.scanout (Some (record { binding = panel.binding; pixels = own }))) =
    c.in_ok-frame.ensures.frame ∙ ap (λ (ps : List ℕ). frame_of a.flush.now.entry a.flush.now.cursors.now a.scanout (Some (record { binding = panel.binding; pixels = ps }))) pixels
    in
    let visible = (cursor_of a.flush.now.cursors.now a.scanout).visible in
    let counted : c.len.result ≡ length a.frames.now.items = search rules in
    let number : length a.flush.now.before.now + c.len.result ≡ length (a.flush.now.before.now ++ a.frames.now.items) = omega (arith, counted, length-append a.flush.now.before.now a.frames.now.items) in
    let stands : c.in_ok-frame.ground ≡ cond visible (Kept own) (Shared (length (a.flush.now.before.now ++ a.frames.now.items))) =
    c.in_ok-frame.ensures.ground ∙ ap (λ (ps : List ℕ). cond visible (Kept ps) (Shared (length a.flush.now.before.now + c.len.result))) pixels
    ∙ ap (λ (n : ℕ). cond visible (Kept own) (Shared n)) number
    in
    let touched = here.0 in
    let anew = anew-touched a.flush.now.resource a.flush.now.rect.now a.flush.now.surface.now a.flush.now.before.now (a.flush.now.before.now ++ a.frames.now.items) frame panel (cursor_of a.flush.now.cursors.now a.scanout).visible c.in_ok-frame.ground touched
    (frame-plain a.flush.now.entry a.flush.now.cursors.now a.scanout (record { binding = panel.binding; pixels = own }) frame made) stands in
    let all : (a.flush.now.before.now ++ a.frames.now.items) ++ (frame ∷ []) ≡ a.flush.now.before.now ++ c.push.new.self.items =
    append_assoc a.flush.now.before.now a.frames.now.items (frame ∷ []) ∙ ap (λ (fs : List Frame). a.flush.now.before.now ++ fs) (sym c.in_ok-push.ensures.items)
    in
    subst (λ (p : Option Panel). IsAnew a.flush.now.resource a.flush.now.rect.now a.flush.now.surface.now a.flush.now.before.now (a.flush.now.before.now ++ c.push.new.self.items) (Some c.in_ok-frame.ground) p) (sym c.in-Some.is)
    (subst (λ (fs : List Frame). IsAnew a.flush.now.resource a.flush.now.rect.now a.flush.now.surface.now a.flush.now.before.now fs (Some c.in_ok-frame.ground) (Some panel)) all anew)
