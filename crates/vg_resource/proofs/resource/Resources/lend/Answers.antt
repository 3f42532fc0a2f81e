-- What is seen of the pixels stays, and so do all resources; they are lent.
use Rattle.std.proofs.Common.{rules, ◌≡◌, ℕ, List, Option, Some, None, true, sym, ap, subst, ◌∙◌}
use Rattle.std.specs.Option.{option_map}
use Rattle.std.specs.List.{All}
use Rattle.std.specs.Ordering.{nat_cmp}
use Rattle.std.specs.Map.{lookup, set_value, values_of}
use Rattle.std.specs.BTreeMap.{is_at}
use Rattle.vg_resource.specs.declared.resource.Resource.{Resource}
use Rattle.vg_resource.specs.declared.resource.Surface.{Surface}
use Rattle.vg_resource.specs.Resource.{IsWhole, ResourceState, is_here, is_lent, on_values, pixel_bytes, pixels_at, resource_of, with_lent}
use Rattle.vg_resource.proofs.MappedLemmas.{lookup-mapped, set-mapped}
use Rattle.vg_resource.proofs.ResourceLemmas.{here-of, seen-some, told-none, lent-seen, pixels-told}
use Rattle.vg_resource.specs.Pixels.{Seen}
use Rattle.vg_resource.proofs.resource.Resources.lend.Goals as goal

pub invariant_of-self-2 : goal.invariant_of-self-2
invariant_of-self-2 c =
    let entries = c.self.inside.map.entries in
    let id = c.args.id in
    let old = c.in-Some.surface.now in
    let new : Surface = record old { pixels = c.lend.new.self } in
    let found : lookup (is_at (nat_cmp id)) entries ≡ Some old = search rules in
    let after : (c.get_mut.follows.lender new).entries ≡ set_value (is_at (nat_cmp id)) entries new = search rules in
    let same = lent-seen entries id old c.lend.new.self found c.lend.ensures.lent in
    let seen = ap (λ (es : List (ℕ × Surface)). on_values resource_of es) after ∙ same in
    (c.self.invariant.0 ∙ ap (λ (es : List (ℕ × Resource)). pixel_bytes es) (sym seen), c.self.invariant.1, subst (λ (es : List (ℕ × Resource)). All (λ r. IsWhole r) (values_of es)) (sym seen) c.self.invariant.2)

pub returns-clause-same : goal.returns-clause-same
returns-clause-same c =
    let entries = c.self.inside.map.entries in
    let id = c.args.id in
    let old = c.in-Some.surface.now in
    let new : Surface = record old { pixels = c.lend.new.self } in
    let found : lookup (is_at (nat_cmp id)) entries ≡ Some old = search rules in
    let after : (c.get_mut.follows.lender new).entries ≡ set_value (is_at (nat_cmp id)) entries new = search rules in
    ap (λ (es : List (ℕ × Surface)). on_values resource_of es) after ∙ lent-seen entries id old c.lend.new.self found c.lend.ensures.lent ∙ ap (λ (state : ResourceState). state.resources) c.self.view_is

pub returns-clause-loans : goal.returns-clause-loans
returns-clause-loans c =
    let entries = c.self.inside.map.entries in
    let id = c.args.id in
    let old = c.in-Some.surface.now in
    let new : Surface = record old { pixels = c.lend.new.self } in
    let after : (c.get_mut.follows.lender new).entries ≡ set_value (is_at (nat_cmp id)) entries new = search rules in
    ap (λ (es : List (ℕ × Surface)). on_values is_lent es) after ∙ set-mapped is_lent (is_at (nat_cmp id)) entries new
    ∙ ap (λ (seen : Seen). set_value (is_at (nat_cmp id)) (on_values is_lent entries) seen.lent) c.lend.ensures.lent
    ∙ ap (λ (state : ResourceState). with_lent id true state.lent) c.self.view_is

pub returns-clause-here : goal.returns-clause-here
returns-clause-here c =
    let entries = c.self.inside.map.entries in
    let id = c.args.id in
    let old = c.in-Some.surface.now in
    let found : lookup (is_at (nat_cmp id)) entries ≡ Some old = search rules in
    c.lend.ensures.here ∙ sym (here-of entries id (Some old) found) ∙ ap (λ (state : ResourceState). is_here id state.lent) c.self.view_is

pub returns-clause-pixels : goal.returns-clause-pixels
returns-clause-pixels c =
    let entries = c.self.inside.map.entries in
    let id = c.args.id in
    let old = c.in-Some.surface.now in
    let found : lookup (is_at (nat_cmp id)) entries ≡ Some old = search rules in
    let seen = ap (λ (o : Option Resource). option_map (λ (r : Resource). r.pixels) o) (seen-some entries id old found) in
    rw (← c.self.view_is) (pixels-told c.lend.result (λ bytes. bytes.items) old.pixels.bytes (pixels_at id (on_values resource_of entries)) c.lend.ensures.bytes seen)

pub returns-in_default-clause-loans : goal.returns-in_default-clause-loans
returns-in_default-clause-loans c =
    let entries = c.self.inside.map.entries in
    let none : lookup (is_at (nat_cmp c.args.id)) entries ≡ None = search rules in
    let told : lookup (is_at (nat_cmp c.args.id)) (on_values is_lent entries) ≡ None = lookup-mapped is_lent (is_at (nat_cmp c.args.id)) entries ∙ ap (λ (o : Option Surface). option_map is_lent o) none in
    let same : c.get_mut.follows.lender-at-none.entries ≡ entries = search rules in
    rw (← c.self.view_is) (ap (λ (es : List (ℕ × Surface)). on_values is_lent es) same ∙ sym (told-none (is_at (nat_cmp c.args.id)) (on_values is_lent entries) true told))

pub returns-in_default-clause-here : goal.returns-in_default-clause-here
returns-in_default-clause-here c =
    let entries = c.self.inside.map.entries in
    let none : lookup (is_at (nat_cmp c.args.id)) entries ≡ None = search rules in
    sym (here-of entries c.args.id None none) ∙ ap (λ (state : ResourceState). is_here c.args.id state.lent) c.self.view_is
