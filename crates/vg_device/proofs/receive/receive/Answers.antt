-- What the transfer left in the pixels that were lent is the resource's.
use Rattle.std.proofs.Common.{rules, ◌≡◌, ℕ, ◌++◌, List, length, take, drop, Option, Some, None, ap, sym, false, ◌∙◌, subst}
use Rattle.std.specs.Prelude.{IfSome}
use Rattle.vg_resource.specs.declared.resource.Resource.{Resource}
use Rattle.vg_resource.specs.Resource.{resource_at, resource_of, with_lent, with_pixels}
use Rattle.vg_device.proofs.ReceiveLemmas.{all-written, as-many, here-again, not-here, received-lent, received-none}
use Rattle.vg_device.proofs.receive.receive.Goals as goal

pub returns-in_default-clause-done : goal.returns-in_default-clause-done
returns-in_default-clause-done c =
    let a = c.args in
    let none : resource_at a.id a.resources.now.resources ≡ None = search rules in
    received-none a.pages.now a.id a.rect.now a.offset a.backings.now a.resources.now.resources none

pub returns-clause-done : goal.returns-clause-done
returns-clause-done c =
    let a = c.args in
    let resource = resource_of c.in-Some.resource.now in
    let lent = c.in_ok-pixels.pixels in
    let new = c.transfer-done.new.pixels in
    let left = take lent.len (new ++ drop (length new) lent.items) in
    let found : resource_at a.id a.resources.now.resources ≡ Some resource = search rules in
    let given = subst (λ (rs : List (ℕ × Resource)). IfSome (resource_at a.id rs) (λ r. c.restore.new.self.resources ≡ with_pixels a.id r left rs)) c.lend.ensures.same c.restore.ensures.same in
    let after : c.restore.new.self.resources ≡ with_pixels a.id resource left a.resources.now.resources = subst (λ (o : Option Resource). IfSome o (λ r. c.restore.new.self.resources ≡ with_pixels a.id r left a.resources.now.resources)) found given in
    let many = as-many a.pages.now a.id a.rect.now a.offset resource.width resource.height a.backings.now c.as_mut_slice.result.now new c.transfer-done.result c.transfer-done.ensures.done in
    let whole = all-written lent.items new lent.len (many ∙ c.as_mut_slice.ensures.len) in
    ap (λ (rs : List (ℕ × Resource)). (rs, c.transfer-done.result)) (after ∙ ap (λ xs. with_pixels a.id resource xs a.resources.now.resources) whole)
    ∙ received-lent a.pages.now a.id a.rect.now a.offset a.backings.now a.resources.now.resources resource c.as_mut_slice.result.now new c.transfer-done.result found
    (ap (λ (xs : List ℕ). Some xs) c.as_mut_slice.ensures.value ∙ c.in_ok-pixels.ensures.pixels) c.transfer-done.ensures.done

pub returns-clause-loans : goal.returns-clause-loans
returns-clause-loans c =
    let a = c.args in
    c.restore.ensures.loans ∙ ap (λ lent. with_lent a.id false lent) c.lend.ensures.loans ∙ here-again a.id a.resources.now.lent (sym c.in_ok-pixels.ensures.here)

pub returns-in_err-pixels-clause-loans : goal.returns-in_err-pixels-clause-loans
returns-in_err-pixels-clause-loans c =
    let a = c.args in
    c.lend.ensures.loans ∙ not-here a.id a.resources.now.lent (sym c.in_err-pixels.ensures.here)
