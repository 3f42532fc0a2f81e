use Rattle.std.proofs.Common.{◌<◌, ◌/◌, List, ℕ, get_or, length, subst, ap, ◌∙◌}
use Rattle.vg_shared_bytes.proofs.PutLemmas.{strip-behind}
use Rattle.vg_shared_bytes.specs.Strips.{IsCut}
use Rattle.vg_shared_bytes.proofs.strips.Strips.behind.Goals as goal

pub rest_of-requires : goal.rest_of-requires
rest_of-requires c =
    let strips = c.self.inside.strips.items in
    let cut = subst (λ (bytes : List ℕ). IsCut bytes strips) c.self.view_is c.self.invariant.1 in
    let all = c.deref.ensures.value in
    let look = c.in-Some.ensures.lookup in
    (strip-behind c.args.at c.args.self.now strips c.in-Some.strip.now c.as_slice.result.now cut c.requires
    (subst (λ (xs : List (List ℕ)). c.args.at / 1024 < length xs) all look.3.0)
    (look.1 ∙ ap (λ (xs : List (List ℕ)). get_or xs (c.args.at / 1024) c.in-Some.strip.now) all) c.as_slice.ensures).0

pub returns-in-Some : goal.returns-in-Some
returns-in-Some c =
    let strips = c.self.inside.strips.items in
    let cut = subst (λ (bytes : List ℕ). IsCut bytes strips) c.self.view_is c.self.invariant.1 in
    let all = c.deref.ensures.value in
    let look = c.in-Some.ensures.lookup in
    c.rest_of.ensures ∙ (strip-behind c.args.at c.args.self.now strips c.in-Some.strip.now c.as_slice.result.now cut c.requires
    (subst (λ (xs : List (List ℕ)). c.args.at / 1024 < length xs) all look.3.0)
    (look.1 ∙ ap (λ (xs : List (List ℕ)). get_or xs (c.args.at / 1024) c.in-Some.strip.now) all) c.as_slice.ensures).1
