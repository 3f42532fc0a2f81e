use Rattle.std.proofs.Common.{◌≡◌, ◌≤◌, ◌+◌, List, Option, ◌++◌, length, map, take, drop, ap, ◌∙◌, subst, sym, arith}
use Rattle.std.proofs.lemmas.List.{length-map}
use Rattle.vg_scanout.specs.declared.panel.Ground.{Ground}
use Rattle.vg_scanout.specs.declared.panel.Panel.{Panel}
use Rattle.vg_scanout.specs.declared.scanout.Frame.{Frame}
use Rattle.vg_scanout.specs.Panels.{AreAnew, AreRegrounded, bytes_made, screen_in, screens_in}
use Rattle.vg_scanout.specs.Scanout.{after_flush, frame_bytes, new_bytes, new_frames}
use Rattle.vg_scanout.proofs.PanelLemmas.{StandFor, are-panels, are-screens, bytes-made, regrounded-back, stand-flushed}
use Rattle.vg_scanout.proofs.ScreenLemmas.{flushed-screens, flush-refused, flush-done, bytes-flushed}
use Rattle.vg_scanout.proofs.scanout.Scanouts.flush.Goals as goal

pub returns-then-bytes-gt-MOST_FRAME_BYTES-clause-done :
    goal.returns-then-bytes-gt-MOST_FRAME_BYTES-clause-done
returns-then-bytes-gt-MOST_FRAME_BYTES-clause-done c =
    let a = c.args in
    let frames = c.self.inside.frames.items in
    let panels = c.self.inside.panels.items in
    let same : bytes_made a.resource a.rect.now c.as_slice-panels.result.now ≡ new_bytes a.resource a.rect.now (screens_in frames panels) =
    rw c.as_slice-panels.ensures.value (bytes-made a.resource a.rect.now frames panels c.self.invariant.2)
    in
    rw (← c.self.view_is)
    (flush-refused a.entry a.resource a.rect.now a.surface.now a.cursors.now (record { screens = screens_in frames panels; frames = frames })
    (omega (arith, same, c.self.invariant.0, c.bytes_after-bytes.ensures, c.if-bytes-gt-MOST_FRAME_BYTES.true)))

-- what the panels are that were lent and written back
abbrev now_panels : (c : goal.After-drop-frames-2) → List (Option Panel)
now_panels c = take c.self.inside.panels.len (c.reground_each.new.panels ++ drop (length c.reground_each.new.panels) c.self.inside.panels.items)

made : (c : goal.After-drop-frames-2) → c.append.new.self.items ≡ c.self.inside.frames.items ++ new_frames c.args.entry c.args.resource c.args.rect.now c.args.surface.now c.args.cursors.now 0 (screens_in c.self.inside.frames.items c.self.inside.panels.items)
made c =
    let a = c.args in
    let new : c.in_ok-frames.frames.items ≡ new_frames a.entry a.resource a.rect.now a.surface.now a.cursors.now 0 (screens_in c.self.inside.frames.items c.self.inside.panels.items) =
    rw (← c.as_slice.ensures.value, ← c.as_slice-panels.ensures.value) c.in_ok-frames.ensures.frames
    in
    c.in_ok-append.ensures.items ∙ ap (λ fs. c.self.inside.frames.items ++ fs) new

stand : (c : goal.After-drop-frames-2)
    → StandFor c.append.new.self.items (now_panels c) (map (after_flush c.args.resource c.args.rect.now c.args.surface.now) (screens_in c.self.inside.frames.items c.self.inside.panels.items))
stand c =
    let a = c.args in
    let frames = c.self.inside.frames.items in
    let panels = c.self.inside.panels.items in
    let on : c.as_mut_slice-2.result.now ≡ c.in_ok-frames.grounds.items = c.as_mut_slice-2.ensures.value in
    let anew : AreAnew a.resource a.rect.now a.surface.now frames (frames ++ c.in_ok-frames.frames.items) c.in_ok-frames.grounds.items panels =
    subst (λ (fs : List Frame). AreAnew a.resource a.rect.now a.surface.now fs (fs ++ c.in_ok-frames.frames.items) c.in_ok-frames.grounds.items panels) c.as_slice.ensures.value
    (subst (λ (ps : List (Option Panel)). AreAnew a.resource a.rect.now a.surface.now c.as_slice.result.now (c.as_slice.result.now ++ c.in_ok-frames.frames.items) c.in_ok-frames.grounds.items ps)
    c.as_slice-panels.ensures.value c.in_ok-frames.ensures.grounds)
    in
    let re : AreRegrounded c.in_ok-frames.grounds.items panels (now_panels c) =
    regrounded-back c.in_ok-frames.grounds.items c.self.inside.panels.len panels c.as_mut_slice.result.now c.reground_each.new.panels c.as_mut_slice.ensures.value c.as_mut_slice.ensures.len
    (subst (λ (gs : List (Option Ground)). AreRegrounded gs c.as_mut_slice.result.now c.reground_each.new.panels) on c.reground_each.ensures)
    in
    subst (λ (fs : List Frame). StandFor fs (now_panels c) (map (after_flush a.resource a.rect.now a.surface.now) (screens_in frames panels))) (sym c.in_ok-append.ensures.items)
    (stand-flushed a.resource a.rect.now a.surface.now frames (frames ++ c.in_ok-frames.frames.items) c.in_ok-frames.grounds.items panels (now_panels c) anew re)

same_bytes : (c : goal.After-drop-frames-2) → bytes_made c.args.resource c.args.rect.now c.as_slice-panels.result.now ≡ new_bytes c.args.resource c.args.rect.now (screens_in c.self.inside.frames.items c.self.inside.panels.items)
same_bytes c = rw c.as_slice-panels.ensures.value (bytes-made c.args.resource c.args.rect.now c.self.inside.frames.items c.self.inside.panels.items c.self.invariant.2)

pub invariant_of-self-2 : goal.invariant_of-self-2
invariant_of-self-2 c =
    let a = c.args in
    let frames = c.self.inside.frames.items in
    let panels = c.self.inside.panels.items in
    let screens = screens_in frames panels in
    let same = same_bytes c in
    let total : frame_bytes c.append.new.self.items ≡ frame_bytes frames + new_bytes a.resource a.rect.now screens =
    ap frame_bytes (made c) ∙ bytes-flushed a.entry a.resource a.rect.now a.surface.now a.cursors.now screens frames
    in
    let shown = flushed-screens a.resource a.rect.now a.surface.now screens (are-screens frames panels c.self.invariant.2) in
    let long : length (now_panels c) ≡ length panels =
    sym (length-map (now_panels c) (screen_in c.append.new.self.items)) ∙ ap length (stand c).same
    ∙ length-map screens (after_flush a.resource a.rect.now a.surface.now) ∙ length-map panels (screen_in frames)
    in (
      omega (arith, same, total, c.self.invariant.0, c.bytes_after-bytes.ensures, c.if-bytes-gt-MOST_FRAME_BYTES.false),
      omega (arith, c.if-bytes-gt-MOST_FRAME_BYTES.false),
      are-panels _ _ _ (stand c) shown,
      omega (arith, long, c.self.invariant.3),
    )

pub returns-clause-done : goal.returns-clause-done
returns-clause-done c =
    let a = c.args in
    let frames = c.self.inside.frames.items in
    let screens = screens_in frames c.self.inside.panels.items in
    let same = same_bytes c in
    let few : frame_bytes frames + new_bytes a.resource a.rect.now screens ≤ 268435456 =
    omega (arith, same, c.self.invariant.0, c.bytes_after-bytes.ensures, c.if-bytes-gt-MOST_FRAME_BYTES.false)
    in
    rw (← c.self.view_is)
    (flush-done a.entry a.resource a.rect.now a.surface.now a.cursors.now (record { screens = screens; frames = frames }) _ _ few (stand c).same (made c))
