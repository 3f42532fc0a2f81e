-- A screen without pixels is the same with a cursor.
use Rattle.std.proofs.Common.{◌≡◌, ℕ, List, IfOk, subst, sym, ◌∙◌}
use Rattle.vg_cursor.specs.Look.{cursor_like}
use Rattle.vg_scanout.proofs.EmptyLemmas.{empty-blended}
use Rattle.vg_scanout.proofs.flush.with_cursor.Goals as goal

pub returns-then-len-eq0 : goal.returns-then-len-eq0
returns-then-len-eq0 c =
    subst (λ (old : List ℕ). IfOk c.share.result (λ pixels. pixels ≡ old))
    (empty-blended (cursor_like c.args.look.now) c.args.binding.now.rect.width c.args.screen.now (sym c.len.ensures ∙ c.if-len-eq0.true)) c.share.ensures
