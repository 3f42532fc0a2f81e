use Rattle.std.proofs.Common.{ℕ, ◌∙◌, ◌+◌, List, get_or, ap}
use Rattle.std.specs.List.{position, slice_set}
use Rattle.std.proofs.lemmas.Result.{on_ok_weaker}
use Rattle.vg_share.proofs.HolderLemmas.{found, is_of, missed}
use Rattle.vg_share.proofs.holders.add_hold.Goals as goal

pub returns-in_default-clause-ok : goal.returns-in_default-clause-ok
returns-in_default-clause-ok c =
    let more = (missed c.args.client c.args.holders.now (c.in_default.ensures.place ∙ ap (position (is_of c.args.client)) c.as_slice.ensures)).more in
    on_ok_weaker c.push.result (λ pushed. pushed ∙ more) c.push.ensures.ok

pub returns-clause-ok : goal.returns-clause-ok
returns-clause-ok c =
    let client = c.args.client in
    let holders = c.args.holders.now in
    c.set_holder.ensures
    ∙ ap (λ n. slice_set holders c.in-Some.at (client, n)) c.in-Some-checked_add.ensures.1
    ∙ ap (λ (xs : List (ℕ × ℕ)). slice_set holders c.in-Some.at (client, (get_or xs c.in-Some.at (0, 0)).1 + 1)) c.as_slice-2.ensures
    ∙ (found client holders (0, 0) c.in-Some.at (c.in-Some.ensures.place ∙ ap (position (is_of client)) c.as_slice.ensures)).more
