use Rattle.std.proofs.Common.{◌≡◌, Some, sym, subst}
use mathlib.Core.List.{IsPrefix}
use Rattle.vg_book.specs.Outcomes.{tag_of}
use Rattle.vg_driver.specs.Halves.{Hears, seen_by}
use Rattle.vg_driver.proofs.HalfLemmas.{fence_at, hears_done, known_both}
use Rattle.vg_driver.proofs.heard.Heard.hear.Goals as goal

pub invariant_of-self : goal.invariant_of-self
invariant_of-self g c =
    let d = c.self.inside in
    let tag = subst (λ o. tag_of g.M.Machine c.args.pass.now ≡ (o.lane, c.args.ordinal)) (sym c.self.view_is) c.requires in
    let fence = fence_at g.M.Machine c.args.pass.now c.in-Done.done d.lane c.args.ordinal c.note.result.seen c.in-Done.is tag c.note.ensures.fence in
    let known = subst (λ k. IsPrefix (seen_by k) c.with_known.result.seen) c.take.ensures.value c.with_known.ensures.known in
    rw c.max-self-inside-in-Done.ensures (known_both g.M.Machine d.lane c.args.ordinal d.known d.note c.note.result.seen c.with_known.result.seen fence c.with_known.ensures.note c.self.invariant known)

pub returns-in-Done-clause-hears : goal.returns-in-Done-clause-hears
returns-in-Done-clause-hears g c =
    let d = c.self.inside in
    let known = subst (λ k. IsPrefix (seen_by k) c.with_known.result.seen) c.take.ensures.value c.with_known.ensures.known in
    subst (λ o. Hears g.M.Machine o c.args.pass.now c.args.ordinal (record { lane = d.lane; top = c.max-self-inside.result; known = c.max-self-inside-in-Done.result; note = Some c.with_known.result; unrun = d.unrun })) c.self.view_is
    (hears_done g.M.Machine (record { lane = d.lane; top = d.top; known = d.known; note = d.note; unrun = d.unrun }) c.args.pass.now c.in-Done.done c.args.ordinal c.max-self-inside.result c.max-self-inside-in-Done.result c.note.result.seen c.with_known.result
    c.max-self-inside.ensures c.in-Done.is c.note.ensures.entry c.with_known.ensures.note known)
