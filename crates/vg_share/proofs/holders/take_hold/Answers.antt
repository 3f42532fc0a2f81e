use Rattle.std.proofs.Common.{ℕ, ◌∙◌, ◌-◌, List, get_or, ap}
use Rattle.std.specs.List.{position, slice_set}
use Rattle.vg_share.proofs.HolderLemmas.{found, is_of, missed}
use Rattle.vg_share.proofs.holders.take_hold.Goals as goal

pub returns-in-Some : goal.returns-in-Some
returns-in-Some c =
    let client = c.args.client in
    let holders = c.args.holders.now in
    let holds = c.saturating_sub-holds.ensures ∙ ap (λ (xs : List (ℕ × ℕ)). (get_or xs c.in-Some.at (0, 0)).1 - 1) c.as_slice-in-Some.ensures in
    c.set_holder.ensures
    ∙ ap (λ n. slice_set holders c.in-Some.at (client, n)) holds
    ∙ (found client holders (0, 0) c.in-Some.at (c.in-Some.ensures.place ∙ ap (position (is_of client)) c.as_slice.ensures)).less

pub returns-in_default : goal.returns-in_default
returns-in_default c = (missed c.args.client c.args.holders.now (c.in_default.ensures.place ∙ ap (position (is_of c.args.client)) c.as_slice.ensures)).less
