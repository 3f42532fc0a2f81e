use Rattle.std.proofs.Common.{◌≡◌, ◌∙◌, ◌++◌, Some, ℕ, take, drop, ap, add-one}
use Rattle.std.specs.List.{position}
use Rattle.vg_share.specs.Lists.{is_number, without_at}
use Rattle.vg_share.proofs.lists.remove_number.Goals as goal

pub returns-in-Some : goal.returns-in-Some
returns-in-Some c =
    let found : Some c.in-Some.index ≡ position (is_number c.args.n) c.args.list.now =
    c.in-Some.ensures.place ∙ ap (position (is_number c.args.n)) c.as_slice.ensures
    in
    c.remove.ensures.rest
    ∙ ap (λ (i : ℕ). take c.in-Some.index c.args.list.now ++ drop i c.args.list.now) (add-one c.in-Some.index)
    ∙ ap (without_at c.args.list.now) found
