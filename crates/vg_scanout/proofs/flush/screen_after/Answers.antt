-- All of a screen is shown, and it is one piece of the surface; or a part of it, in the rows that it touches.
use Rattle.std.proofs.Common.{rules, ◌≡◌, ◌<◌, ◌+◌, ◌*◌, ◌∙◌, ℕ, List, IfOk, length, take, drop, ap, refl, sym, subst, arith}
use Rattle.std.proofs.lemmas.List.{length-take, length-drop}
use Rattle.std.proofs.lemmas.Result.{IfOk-weaker}
use Rattle.vg_formats.specs.declared.rect.Rect.{Rect}
use Rattle.vg_scanout.specs.Panels.{pixels_in}
use Rattle.vg_scanout.specs.Scanout.{pixels_with}
use Rattle.vg_scanout.proofs.PanelLemmas.{one-piece, piece-fits}
use Rattle.vg_scanout.proofs.RowLemmas.{length-pixels}
use Rattle.vg_scanout.proofs.flush.screen_after.Goals as goal

pub piece_of-piece-requires : goal.piece_of-piece-requires
piece_of-piece-requires c =
    let binding = c.args.panel.now.binding in
    let rect = binding.rect in
    let same : c.args.part.now ≡ rect = search rules in
    let some : 0 < rect.height = subst (λ (r : Rect). 0 < r.height) same c.requires.some.1 in
    let whole = c.is_one_piece.ensures c.if-is_one_piece.true in
    piece-fits binding.offset binding.stride rect.y rect.x rect.width rect.height (length c.args.surface.now) some c.requires.surface whole.1

pub returns-then-is_one_piece-clause-long : goal.returns-then-is_one_piece-clause-long
returns-then-is_one_piece-clause-long c =
    let binding = c.args.panel.now.binding in
    let rect = binding.rect in
    let same : c.args.part.now ≡ rect = search rules in
    let some : 0 < rect.height = subst (λ (r : Rect). 0 < r.height) same c.requires.some.1 in
    let whole = c.is_one_piece.ensures c.if-is_one_piece.true in
    let size = binding.stride * rect.height in
    let start = binding.offset + binding.stride * rect.y + 4 * rect.x in
    let inside = piece-fits binding.offset binding.stride rect.y rect.x rect.width rect.height (length c.args.surface.now) some c.requires.surface whole.1 in
    let taken : length (take size (drop start c.args.surface.now)) ≡ size = omega (arith, length-take size (drop start c.args.surface.now), length-drop start c.args.surface.now, inside) in
    ap length (c.in_ok-pixels.ensures ∙ c.piece_of-piece.ensures) ∙ taken ∙ ap (λ (n : ℕ). n * rect.height) whole.1

pub returns-then-is_one_piece-clause-shown : goal.returns-then-is_one_piece-clause-shown
returns-then-is_one_piece-clause-shown c =
    let binding = c.args.panel.now.binding in
    let rect = binding.rect in
    let same : c.args.part.now ≡ rect = search rules in
    let some = subst (λ (r : Rect). (0 < r.width) × (0 < r.height)) same c.requires.some in
    let whole = c.is_one_piece.ensures c.if-is_one_piece.true in
    let own = pixels_in c.args.before.now c.args.panel.now in
    let inside = piece-fits binding.offset binding.stride rect.y rect.x rect.width rect.height (length c.args.surface.now) some.1 c.requires.surface whole.1 in
    c.in_ok-pixels.ensures
    ∙ c.piece_of-piece.ensures
    ∙ one-piece binding c.args.surface.now own c.rows_are_their_bytes.ensures whole.0 whole.1 some.0 c.requires.panel.1.0 inside
    ∙ ap (λ part. pixels_with binding part c.args.surface.now own) (sym same)

pub screen_with-requires-clause-pixels : goal.screen_with-requires-clause-pixels
screen_with-requires-clause-pixels c = ap length (c.in-Some.ensures c.in-Some.strips.now refl) ∙ c.requires.panel.1.0

pub screen_with-requires-clause-small : goal.screen_with-requires-clause-small
screen_with-requires-clause-small c = omega (arith, ap length (c.in-Some.ensures c.in-Some.strips.now refl), c.requires.panel.1.1)

pub returns-in-Some-clause-long : goal.returns-in-Some-clause-long
returns-in-Some-clause-long c =
    let binding = c.args.panel.now.binding in
    let long = length-pixels binding c.args.part.now c.args.surface.now c.in-Some.strips.now ∙ ap length (c.in-Some.ensures c.in-Some.strips.now refl) ∙ c.requires.panel.1.0 in
    IfOk-weaker c.screen_with.result _ _ (λ pixels is. ap length is ∙ long) c.screen_with.ensures

pub returns-in-Some-clause-shown : goal.returns-in-Some-clause-shown
returns-in-Some-clause-shown c =
    subst (λ (screen : List ℕ). IfOk c.screen_with.result (λ pixels. pixels ≡ pixels_with c.args.panel.now.binding c.args.part.now c.args.surface.now screen))
    (c.in-Some.ensures c.in-Some.strips.now refl) c.screen_with.ensures
