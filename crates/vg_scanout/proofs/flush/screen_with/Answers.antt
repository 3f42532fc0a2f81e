use Rattle.std.proofs.Common.{rules, ◌≡◌, ◌-◌, ◌*◌, ℕ, List, IfOk, length, vec_len, ap, subst, sym, refl, ◌∙◌}
use Rattle.vg_scanout.specs.Scanout.{pixels_with}
use Rattle.vg_scanout.proofs.RowLemmas.{all-written, length-pixels, length-rows, rows-in-place, shown-rows-alone}
use Rattle.vg_scanout.proofs.flush.screen_with.Goals as goal

pub part-requires-clause-within : goal.part-requires-clause-within
part-requires-clause-within c =
    let rect = c.args.binding.now.rect in
    (shown-rows-alone c.args.binding.now c.args.part.now c.args.surface.now c.args.screen.now _ (4 * rect.width * c.args.part.now.height) c.requires.some c.requires.within c.requires.pixels refl refl).0

pub show_part-requires-clause-pixels : goal.show_part-requires-clause-pixels
show_part-requires-clause-pixels c =
    let rect = c.args.binding.now.rect in
    let from = 4 * rect.width * (c.args.part.now.y - rect.y) in
    let n = 4 * rect.width * c.args.part.now.height in
    let inside = (shown-rows-alone c.args.binding.now c.args.part.now c.args.surface.now c.args.screen.now from n c.requires.some c.requires.within c.requires.pixels refl refl).0 in
    ap length c.as_mut_slice.ensures.value
    ∙ (length-rows c.args.screen.now c.in_ok-rows.rows.items from n inside c.in_ok-rows.ensures).0
    ∙ sym (ap (λ binding. 4 * binding.rect.width * binding.rect.height) c.rows_of.ensures)

pub returns : goal.returns
returns c =
    let rect = c.args.binding.now.rect in
    let from = 4 * rect.width * (c.args.part.now.y - rect.y) in
    let n = 4 * rect.width * c.args.part.now.height in
    let inside = (shown-rows-alone c.args.binding.now c.args.part.now c.args.surface.now c.args.screen.now from n c.requires.some c.requires.within c.requires.pixels refl refl).0 in
    let taken = length-rows c.args.screen.now c.in_ok-rows.rows.items from n inside c.in_ok-rows.ensures in
    let items = c.in_ok-rows.rows.items in
    let long : length c.show_part.new.pixels ≡ length items = ap length c.show_part.ensures ∙ length-pixels c.rows_of.result c.args.part.now c.args.surface.now c.as_mut_slice.result.now ∙ ap length c.as_mut_slice.ensures.value in
    let room : length items ≡ vec_len c.in_ok-rows.rows = search rules in
    let shown = c.as_slice.ensures.value ∙ all-written (vec_len c.in_ok-rows.rows) items c.show_part.new.pixels long room in
    subst (λ (now : List ℕ). IfOk c.with.result (λ pixels. pixels ≡ now))
    (rows-in-place c.args.binding.now c.rows_of.result c.args.part.now c.args.surface.now c.args.screen.now c.in_ok-rows.rows.items c.as_slice.result.now from n
    c.requires.some c.requires.within c.requires.pixels refl refl c.rows_of.ensures taken.1
    (shown ∙ c.show_part.ensures ∙ ap (pixels_with c.rows_of.result c.args.part.now c.args.surface.now) c.as_mut_slice.ensures.value))
    c.with.ensures
