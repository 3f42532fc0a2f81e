use Rattle.std.proofs.Common.{◌≡◌, ◌<◌, ◌+◌, List, [], ◌∷◌, length, subst, sym, arith, Some}
use Rattle.std.proofs.lemmas.List.{length-map}
use Rattle.vg_cursor.specs.declared.cursor.Cursor.{Cursor}
use Rattle.vg_cursor.specs.Cursor.{cursor_of}
use Rattle.vg_cursor.specs.Look.{cursor_like}
use Rattle.vg_scanout.specs.declared.scanout.Frame.{Frame}
use Rattle.vg_scanout.specs.Panels.{screen_in}
use Rattle.vg_scanout.specs.Scanout.{ScanoutState, frame_bytes, frame_of}
use Rattle.vg_scanout.proofs.SnapLemmas.{bytes-snapped, cursors-like, panels-made, snap-disabled, snap-done, snap-refused}
use Rattle.vg_scanout.proofs.scanout.Scanouts.snap.Goals as goal

pub returns-in_default-clause-done : goal.returns-in_default-clause-done
returns-in_default-clause-done c =
    let there = subst (λ (s : ScanoutState). c.args.scanout < length s.screens) (sym c.self.view_is) c.requires.scanout in
    let within : c.args.scanout < length c.self.inside.panels.items = omega (arith, there, length-map c.self.inside.panels.items (screen_in c.self.inside.frames.items)) in
    λ cursors like.
    rw (← c.self.view_is)
    (snap-disabled c.args.entry cursors c.args.scanout c.self.inside.frames.items c.self.inside.panels.items c.index.result.now within c.index.ensures c.in_default.is
    (omega (arith, c.self.invariant.0, c.self.invariant.1)))

pub returns-then-bytes-gt-MOST_FRAME_BYTES-clause-done : goal.returns-then-bytes-gt-MOST_FRAME_BYTES-clause-done
returns-then-bytes-gt-MOST_FRAME_BYTES-clause-done c =
    let there = subst (λ (s : ScanoutState). c.args.scanout < length s.screens) (sym c.self.view_is) c.requires.scanout in
    let within : c.args.scanout < length c.self.inside.panels.items = omega (arith, there, length-map c.self.inside.panels.items (screen_in c.self.inside.frames.items)) in
    λ cursors like.
    rw (← c.self.view_is)
    (snap-refused c.args.entry cursors c.args.scanout c.self.inside.frames.items c.self.inside.panels.items c.index.result.now c.in-Some.panel c.size.result within c.index.ensures c.in-Some.is
    c.self.invariant.2 c.size.ensures (omega (arith, c.self.invariant.0, c.if-bytes-gt-MOST_FRAME_BYTES.true)))

pub invariant_of-self-2 : goal.invariant_of-self-2
invariant_of-self-2 c =
    let there = subst (λ (s : ScanoutState). c.args.scanout < length s.screens) (sym c.self.view_is) c.requires.scanout in
    let within : c.args.scanout < length c.self.inside.panels.items = omega (arith, there, length-map c.self.inside.panels.items (screen_in c.self.inside.frames.items)) in
    let made : (cursors : List Cursor) → cursor_of cursors c.args.scanout ≡ cursor_like c.args.look.now
    → ◌≡◌ {A = List Frame} (c.in_ok-frame.frame ∷ []) (frame_of c.args.entry cursors c.args.scanout (screen_in c.self.inside.frames.items (Some c.in-Some.panel))) =
    λ cursors like. subst (λ (fs : List Frame). ◌≡◌ {A = List Frame} (c.in_ok-frame.frame ∷ []) (frame_of c.args.entry cursors c.args.scanout (screen_in fs (Some c.in-Some.panel)))) c.as_slice.ensures.value
    (c.in_ok-frame.ensures cursors like)
    in
    let frames = c.self.inside.frames.items in
    let panels = c.self.inside.panels.items in
    let like = cursors-like c.args.scanout (cursor_like c.args.look.now) in
    let total : frame_bytes frames + c.size.result ≡ frame_bytes c.push.new.self.items =
    bytes-snapped c.args.entry like.0 c.args.scanout frames c.push.new.self.items panels c.index.result.now c.in-Some.panel c.in_ok-frame.frame c.size.result within c.index.ensures c.in-Some.is
    c.self.invariant.2 c.size.ensures (made like.0 like.1) c.in_ok-push.ensures.items
    in (
      omega (arith, total, c.self.invariant.0),
      omega (arith, c.if-bytes-gt-MOST_FRAME_BYTES.false),
      panels-made frames c.push.new.self.items panels c.in_ok-frame.frame c.in_ok-push.ensures.items c.self.invariant.2,
      c.self.invariant.3,
    )

pub returns-clause-done : goal.returns-clause-done
returns-clause-done c =
    let there = subst (λ (s : ScanoutState). c.args.scanout < length s.screens) (sym c.self.view_is) c.requires.scanout in
    let within : c.args.scanout < length c.self.inside.panels.items = omega (arith, there, length-map c.self.inside.panels.items (screen_in c.self.inside.frames.items)) in
    let made : (cursors : List Cursor) → cursor_of cursors c.args.scanout ≡ cursor_like c.args.look.now
    → ◌≡◌ {A = List Frame} (c.in_ok-frame.frame ∷ []) (frame_of c.args.entry cursors c.args.scanout (screen_in c.self.inside.frames.items (Some c.in-Some.panel))) =
    λ cursors like. subst (λ (fs : List Frame). ◌≡◌ {A = List Frame} (c.in_ok-frame.frame ∷ []) (frame_of c.args.entry cursors c.args.scanout (screen_in fs (Some c.in-Some.panel)))) c.as_slice.ensures.value
    (c.in_ok-frame.ensures cursors like)
    in
    λ cursors like.
    rw (← c.self.view_is)
    (snap-done c.args.entry cursors c.args.scanout c.self.inside.frames.items c.push.new.self.items c.self.inside.panels.items c.index.result.now c.in-Some.panel c.in_ok-frame.frame c.size.result within
    c.index.ensures c.in-Some.is c.self.invariant.2 c.size.ensures (omega (arith, c.self.invariant.0, c.if-bytes-gt-MOST_FRAME_BYTES.false)) (made cursors like) c.in_ok-push.ensures.items)
