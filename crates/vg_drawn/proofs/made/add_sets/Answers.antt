use Rattle.std.proofs.Common.{◌≡◌, ◌<◌, ◌+◌, List, length, get_or, Some, sym, ap, subst, ◌∙◌, arith}
use Rattle.std.proofs.lemmas.Option.{slice_get-get_or}
use Rattle.vg_scanout.specs.declared.scanout.Frame.{Frame}
use Rattle.vg_drawn.proofs.MadeLemmas.{AreAddedBelow, added-all, added-more}
use Rattle.vg_drawn.proofs.made.add_sets.Goals as goal

pub loop-n-preserved : goal.loop-n-preserved
loop-n-preserved c =
    let display = c.args.display.now in
    let old = c.args.sets.now.items in
    let frames = display.scanouts.frames in
    let frame = c.index-frames-n.result in
    let within : c.loop-n.n < length frames = omega (arith, c.loop-n-test.true, ap (λ (fs : List Frame). length fs) c.frames-n-end.ensures) in
    let at : frame ≡ get_or frames c.loop-n.n frame = subst (λ (fs : List Frame). frame ≡ get_or fs c.loop-n.n frame) c.frames.ensures c.index-frames-n.is in
    subst (AreAddedBelow display (c.loop-n.n + 1) old) (sym c.in_ok-push.ensures.items)
    (added-more display c.loop-n.n old c.loop-n.sets.items c.index-frames-n.result c.in_ok-set.set c.loop-n.invariant (slice_get-get_or frames c.loop-n.n frame within ∙ ap Some (sym at)) c.in_ok-set.ensures)

pub returns : goal.returns
returns c =
    let same = ap (λ (fs : List Frame). length fs) c.frames-n-end.ensures in
    let within = c.loop-n.auto.n-end (omega (arith, c.len-n.ensures, c.requires.frames, same)) in
    added-all _ c.loop-n.n _ _ c.loop-n.invariant (omega (arith, same, within, c.loop-n-test.false))
