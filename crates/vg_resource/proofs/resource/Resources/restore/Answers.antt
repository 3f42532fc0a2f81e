-- There are as many bytes of pixels as before, and they are here.
use Rattle.std.proofs.Common.{rules, ◌≡◌, ℕ, List, Some, false, length, sym, ap, subst, ◌∙◌}
use Rattle.std.specs.Option.{option_map}
use Rattle.std.specs.List.{All}
use Rattle.std.specs.Ordering.{nat_cmp}
use Rattle.std.specs.Map.{lookup, set_value, values_of}
use Rattle.std.specs.BTreeMap.{is_at}
use Rattle.vg_resource.specs.declared.resource.Resource.{Resource}
use Rattle.vg_resource.specs.declared.resource.Surface.{Surface}
use Rattle.vg_resource.specs.Resource.{IsWhole, ResourceState, is_lent, on_values, pixel_bytes, pixels_at, resource_of, with_lent}
use Rattle.vg_resource.proofs.MappedLemmas.{set-mapped}
use Rattle.vg_resource.proofs.ResourceLemmas.{as-many, restored-keeps, seen-some, there-mut}
use Rattle.vg_resource.specs.Pixels.{Seen}
use Rattle.vg_resource.specs.Resource.{with_pixels}
use Rattle.vg_resource.proofs.resource.Resources.restore.Goals as goal

pub unwrap-surface-requires : goal.unwrap-surface-requires
unwrap-surface-requires c =
    let entries = c.self.inside.map.entries in
    let asked = ap (λ (state : ResourceState). option_map (λ (xs : List ℕ). length xs) (pixels_at c.args.id state.resources)) c.self.view_is ∙ c.requires in
    there-mut c.get_mut.result (λ surface. surface.now) entries c.args.id (length c.args.pixels.items) c.get_mut.ensures.value asked

pub restore-requires : goal.restore-requires
restore-requires c =
    let entries = c.self.inside.map.entries in
    let old = c.unwrap-surface.result.now in
    let found : lookup (is_at (nat_cmp c.args.id)) entries ≡ Some old = search rules in
    let asked = ap (λ (state : ResourceState). option_map (λ (xs : List ℕ). length xs) (pixels_at c.args.id state.resources)) c.self.view_is ∙ c.requires in
    as-many (on_values resource_of entries) c.args.id (resource_of old) c.args.pixels.items (seen-some entries c.args.id old found) asked

pub invariant_of-self : goal.invariant_of-self
invariant_of-self c =
    let entries = c.self.inside.map.entries in
    let id = c.args.id in
    let old = c.unwrap-surface.result.now in
    let bytes = c.args.pixels.items in
    let new : Surface = record old { pixels = c.restore.new.self } in
    let found : lookup (is_at (nat_cmp id)) entries ≡ Some old = search rules in
    let after : (c.get_mut.follows.lender new).entries ≡ set_value (is_at (nat_cmp id)) entries new = search rules in
    let same = ap (λ (es : List (ℕ × Surface)). on_values resource_of es) after ∙ set-mapped resource_of (is_at (nat_cmp id)) entries new
    ∙ ap (λ (seen : Seen). with_pixels id (resource_of old) seen.bytes (on_values resource_of entries)) c.restore.ensures in
    let is = seen-some entries id old found in
    let asked = ap (λ (state : ResourceState). option_map (λ (xs : List ℕ). length xs) (pixels_at id state.resources)) c.self.view_is ∙ c.requires in
    let long = as-many (on_values resource_of entries) id (resource_of old) bytes is asked in
    let kept = restored-keeps (on_values resource_of entries) id (resource_of old) bytes c.self.invariant.2 is long in (
      c.self.invariant.0 ∙ sym (ap (λ (es : List (ℕ × Resource)). pixel_bytes es) same ∙ kept.0),
      c.self.invariant.1,
      subst (λ (es : List (ℕ × Resource)). All (λ r. IsWhole r) (values_of es)) (sym same) kept.1,
    )

pub returns-clause-same : goal.returns-clause-same
returns-clause-same c =
    let entries = c.self.inside.map.entries in
    let id = c.args.id in
    let old = c.unwrap-surface.result.now in
    let new : Surface = record old { pixels = c.restore.new.self } in
    let found : lookup (is_at (nat_cmp id)) entries ≡ Some old = search rules in
    let after : (c.get_mut.follows.lender new).entries ≡ set_value (is_at (nat_cmp id)) entries new = search rules in
    let same = ap (λ (es : List (ℕ × Surface)). on_values resource_of es) after ∙ set-mapped resource_of (is_at (nat_cmp id)) entries new
    ∙ ap (λ (seen : Seen). with_pixels id (resource_of old) seen.bytes (on_values resource_of entries)) c.restore.ensures in
    rw (← c.self.view_is, seen-some entries id old found) same

pub returns-clause-loans : goal.returns-clause-loans
returns-clause-loans c =
    let entries = c.self.inside.map.entries in
    let id = c.args.id in
    let old = c.unwrap-surface.result.now in
    let new : Surface = record old { pixels = c.restore.new.self } in
    let after : (c.get_mut.follows.lender new).entries ≡ set_value (is_at (nat_cmp id)) entries new = search rules in
    ap (λ (es : List (ℕ × Surface)). on_values is_lent es) after ∙ set-mapped is_lent (is_at (nat_cmp id)) entries new
    ∙ ap (λ (seen : Seen). set_value (is_at (nat_cmp id)) (on_values is_lent entries) seen.lent) c.restore.ensures
    ∙ ap (λ (state : ResourceState). with_lent id false state.lent) c.self.view_is
