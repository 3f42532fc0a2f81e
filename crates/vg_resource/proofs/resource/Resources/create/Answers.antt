-- The sum of the pixels' bytes is with those of the new resource, which are here.
use Rattle.std.proofs.Common.{◌≡◌, ℕ, List, None, false, length, sym, ap, subst, ◌∙◌, arith}
use Rattle.std.specs.List.{All}
use Rattle.std.specs.List.Sorted.{IsStrictlySortedBy}
use Rattle.std.specs.Ordering.{nat_cmp}
use Rattle.std.specs.Map.{values_of}
use Rattle.std.specs.BTreeMap.{insert_entry}
use Rattle.std.proofs.lemmas.Map.Views.{All-values-insert_entry}
use Rattle.vg_resource.specs.declared.resource.Resource.{Resource}
use Rattle.vg_resource.specs.declared.resource.Surface.{Surface}
use Rattle.vg_resource.specs.Resource.{IsWhole, ResourceState, is_lent, on_values, pixel_bytes, resource_at, resource_of, blank}
use Rattle.vg_resource.proofs.MappedLemmas.{insert-mapped, keys-mapped}
use Rattle.vg_resource.proofs.ResourceLemmas.{bytes-with, length-blank, whole-blank, created}
use Rattle.vg_resource.proofs.resource.Resources.create.Goals as goal

pub invariant_of-self-2 : goal.invariant_of-self-2
invariant_of-self-2 c =
    let entries = c.self.inside.map.entries in
    let id = c.args.id in
    let surface = c.in_ok-surface.surface in
    let resource = resource_of surface in
    let room = c.in-Ok.ensures.room in
    let before = ap (λ (state : ResourceState). pixel_bytes state.resources) c.self.view_is in
    let free : resource_at id (on_values resource_of entries) ≡ None = ap (λ (state : ResourceState). resource_at id state.resources) c.self.view_is ∙ c.in-Ok.ensures.free in
    let sorted = subst (λ (keys : List ℕ). IsStrictlySortedBy nat_cmp keys) (sym (keys-mapped resource_of entries)) c.in_ok-insert.ensures.was_ordered in
    let more = bytes-with (on_values resource_of entries) id resource sorted free in
    let seen = ap (λ (es : List (ℕ × Surface)). on_values resource_of es) c.in_ok-insert.ensures.entries ∙ insert-mapped resource_of entries id surface in
    let after = ap (λ (resources : List (ℕ × Resource)). pixel_bytes resources) seen in
    let long = ap (λ (r : Resource). length r.pixels) c.in_ok-surface.ensures.blank ∙ length-blank c.args.width c.args.height c.in-Ok.format in
    let new = subst (λ (r : Resource). IsWhole r) (sym c.in_ok-surface.ensures.blank) (whole-blank c.args.width c.args.height c.in-Ok.format room.0 room.1 (omega (arith, room.2))) in
    let whole = All-values-insert_entry nat_cmp id resource (λ r. IsWhole r) (on_values resource_of entries) c.self.invariant.2 new in (
      omega (arith, more, after, long, c.self.invariant.0, c.pixel_bytes-size.ensures),
      omega (arith, before, room.2, c.self.invariant.0, c.pixel_bytes-size.ensures),
      subst (λ (resources : List (ℕ × Resource)). All (λ r. IsWhole r) (values_of resources)) (sym seen) whole,
    )

pub returns-clause-done : goal.returns-clause-done
returns-clause-done c =
    let entries = c.self.inside.map.entries in
    let seen = ap (λ (es : List (ℕ × Surface)). on_values resource_of es) c.in_ok-insert.ensures.entries ∙ insert-mapped resource_of entries c.args.id c.in_ok-surface.surface in
    let new = ap (λ (resource : Resource). insert_entry nat_cmp (on_values resource_of entries) c.args.id resource) c.in_ok-surface.ensures.blank in
    let before = ap (λ (state : ResourceState). insert_entry nat_cmp state.resources c.args.id (blank c.args.width c.args.height c.in-Ok.format)) c.self.view_is in
    rw (seen ∙ new ∙ before) (created c.args.id c.args.width c.args.height c.args.format c.args.self.now.resources c.in-Ok.format c.in-Ok.ensures.ok.0 c.in-Ok.ensures.ok.1)

pub returns-clause-loans : goal.returns-clause-loans
returns-clause-loans c =
    let entries = c.self.inside.map.entries in
    ap (λ (es : List (ℕ × Surface)). on_values is_lent es) c.in_ok-insert.ensures.entries ∙ insert-mapped is_lent entries c.args.id c.in_ok-surface.surface
    ∙ ap (λ b. insert_entry nat_cmp (on_values is_lent entries) c.args.id b) c.in_ok-surface.ensures.here
    ∙ ap (λ (state : ResourceState). insert_entry nat_cmp state.lent c.args.id false) c.self.view_is
