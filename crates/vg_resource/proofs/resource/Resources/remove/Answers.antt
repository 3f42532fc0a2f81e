-- The sum of the pixels' bytes is without those of the resource.
use Rattle.std.proofs.Common.{ℕ, List, sym, ap, subst, ◌∙◌, arith}
use Rattle.std.specs.List.{All}
use Rattle.std.specs.Ordering.{nat_cmp}
use Rattle.std.specs.Map.{values_of}
use Rattle.std.specs.BTreeMap.{is_at}
use Rattle.std.proofs.lemmas.Map.Views.{All-map-remove_entry}
use Rattle.vg_resource.specs.declared.resource.Resource.{Resource}
use Rattle.vg_resource.specs.declared.resource.Surface.{Surface}
use Rattle.vg_resource.specs.Resource.{IsWhole, ResourceState, is_lent, on_values, pixel_bytes, resource_of}
use Rattle.vg_resource.proofs.MappedLemmas.{remove-mapped}
use Rattle.vg_resource.proofs.ResourceLemmas.{bytes-without, left-none, seen-none, seen-some, gone-some, gone-none-there}
use Rattle.vg_resource.specs.Resource.{without_lent}
use Rattle.vg_resource.proofs.resource.Resources.remove.Goals as goal

pub overflow_sub-self : goal.overflow_sub-self
overflow_sub-self c =
    let entries = c.self.inside.map.entries in
    let surface = c.in-Some.surface in
    let less = bytes-without (on_values resource_of entries) c.args.id (resource_of surface) (seen-some entries c.args.id surface (sym c.in-Some.ensures.value)) in
    omega (arith, less, c.self.invariant.0, c.len.ensures)

pub invariant_of-self : goal.invariant_of-self
invariant_of-self c =
    let entries = c.self.inside.map.entries in
    let surface = c.in-Some.surface in
    let less = bytes-without (on_values resource_of entries) c.args.id (resource_of surface) (seen-some entries c.args.id surface (sym c.in-Some.ensures.value)) in
    let seen = ap (λ (es : List (ℕ × Surface)). on_values resource_of es) c.in-Some.ensures.entries ∙ remove-mapped resource_of (is_at (nat_cmp c.args.id)) entries in
    let after = ap (λ (resources : List (ℕ × Resource)). pixel_bytes resources) seen in
    let whole = All-map-remove_entry (is_at (nat_cmp c.args.id)) (λ (entry : ℕ × Resource). entry.1) (λ resource. IsWhole resource) (on_values resource_of entries) c.self.invariant.2 in (
      omega (arith, less, after, c.self.invariant.0, c.len.ensures),
      omega (arith, c.self.invariant.1),
      subst (λ (resources : List (ℕ × Resource)). All (λ resource. IsWhole resource) (values_of resources)) (sym seen) whole,
    )

pub returns-in-Some-clause-done : goal.returns-in-Some-clause-done
returns-in-Some-clause-done c =
    let entries = c.self.inside.map.entries in
    let seen = ap (λ (es : List (ℕ × Surface)). on_values resource_of es) c.in-Some.ensures.entries ∙ remove-mapped resource_of (is_at (nat_cmp c.args.id)) entries in
    let there = seen-some entries c.args.id c.in-Some.surface (sym c.in-Some.ensures.value) in
    rw (← c.self.view_is, seen) (gone-some (on_values resource_of entries) c.args.id (resource_of c.in-Some.surface) there)

pub returns-in-Some-clause-loans : goal.returns-in-Some-clause-loans
returns-in-Some-clause-loans c =
    ap (λ (es : List (ℕ × Surface)). on_values is_lent es) c.in-Some.ensures.entries ∙ remove-mapped is_lent (is_at (nat_cmp c.args.id)) c.self.inside.map.entries
    ∙ ap (λ (state : ResourceState). without_lent c.args.id state.lent) c.self.view_is

pub returns-in-None-clause-done : goal.returns-in-None-clause-done
returns-in-None-clause-done c =
    let entries = c.self.inside.map.entries in
    let none = seen-none entries c.args.id (sym c.in-None.ensures.value) in
    let seen = ap (λ (es : List (ℕ × Surface)). on_values resource_of es) c.in-None.ensures.entries ∙ remove-mapped resource_of (is_at (nat_cmp c.args.id)) entries ∙ left-none (is_at (nat_cmp c.args.id)) (on_values resource_of entries) none in
    rw (← c.self.view_is, seen) (gone-none-there (on_values resource_of entries) c.args.id none)

pub returns-in-None-clause-loans : goal.returns-in-None-clause-loans
returns-in-None-clause-loans c =
    ap (λ (es : List (ℕ × Surface)). on_values is_lent es) c.in-None.ensures.entries ∙ remove-mapped is_lent (is_at (nat_cmp c.args.id)) c.self.inside.map.entries
    ∙ ap (λ (state : ResourceState). without_lent c.args.id state.lent) c.self.view_is
