-- The pixels' bytes of all resources, as one comes, goes or is written to.
use Rattle.std.proofs.Common.{◌≡◌, ℕ, ◌+◌, ◌*◌, ◌<◌, ◌≤◌, Bool, true, false, cond, List, [], ◌∷◌, Option, Some, None, length, refl, sym, ap, ◌∙◌, subst, arith}
use Rattle.std.specs.Prelude.{is_none, unwrap_or, IfSome, Result, Ok, Err}
use Rattle.std.specs.Option.{IsSome, option_map}
use Rattle.std.specs.List.{All}
use Rattle.std.specs.List.Sorted.{IsStrictlySortedBy}
use Rattle.std.proofs.lemmas.Cmp.{nat_cmp_total}
use Rattle.std.specs.Map.{keys_of, lookup, remove_entry, set_value, values_of}
use Rattle.std.specs.BTreeMap.{insert_entry, is_at}
use Rattle.std.specs.Ordering.{nat_cmp}
use Rattle.std.proofs.lemmas.List.{length-replicate}
use Rattle.std.proofs.lemmas.Map.Entries.{sum_by-insert_entry, sum_by-remove_entry, sum_by-set_value}
use Rattle.std.proofs.lemmas.Map.Steps.{set_value_same}
use Rattle.std.proofs.lemmas.Map.Views.{All-values-set_value, IfSome-lookup_from_All}
use Rattle.vg_laws.proofs.Options.{some-same}
use Rattle.vg_formats.specs.declared.format.Format.{Format}
use Rattle.vg_formats.specs.Formats.{format_of}
use Rattle.vg_refusals.specs.Refusals.{refusal_of, unless_refused}
use Rattle.vg_wire.specs.Kinds.{ERR_INVALID_RESOURCE_ID}
use Rattle.vg_resource.specs.declared.resource.Resource.{Resource}
use Rattle.vg_resource.specs.declared.resource.Surface.{Surface}
use Rattle.vg_resource.specs.Pixels.{Seen}
use Rattle.vg_resource.specs.Resource.{blank, create, create_refusals, flag_is_here, is_here, is_lent, on_values, pixel_bytes, resource_at, remove, resource_of, with_blank, with_pixels, without, IsWhole}
use Rattle.vg_resource.proofs.MappedLemmas.{lookup-mapped, set-mapped}

-- how many bytes the pixels of a resource have
abbrev bytes_of : Resource → ℕ
bytes_of resource = length resource.pixels

pub bytes-with : (resources : List (ℕ × Resource)) (id : ℕ) (resource : Resource) → IsStrictlySortedBy nat_cmp (keys_of resources) → resource_at id resources ≡ None
    → pixel_bytes (insert_entry nat_cmp resources id resource) ≡ pixel_bytes resources + length resource.pixels
bytes-with resources id resource sorted free =
    let none : unwrap_or (option_map bytes_of (resource_at id resources)) 0 ≡ 0 = ap (λ (r : Option Resource). unwrap_or (option_map bytes_of r) 0) free in
    omega (arith, none, sum_by-insert_entry bytes_of nat_cmp_total resources id resource sorted)

pub bytes-without : (resources : List (ℕ × Resource)) (id : ℕ) (resource : Resource) → resource_at id resources ≡ Some resource
    → pixel_bytes (without id resources) + length resource.pixels ≡ pixel_bytes resources
bytes-without resources id resource found =
    ap (λ (r : Option Resource). pixel_bytes (without id resources) + unwrap_or (option_map bytes_of r) 0) (sym found)
    ∙ sum_by-remove_entry bytes_of (is_at (nat_cmp id)) resources

pub whole-blank : (width height : ℕ) (format : Format) → 0 < width → 0 < height → 4 * width * height ≤ 134217728 → IsWhole (blank width height format)
unfolding blank
whole-blank width height format w h room =
    let long = length-replicate (4 * width * height) 0 in
    (long, omega (arith, long), w, h)

pub length-blank : (width height : ℕ) (format : Format) → length (blank width height format).pixels ≡ 4 * width * height
unfolding blank
length-blank width height format = length-replicate (4 * width * height) 0

-- ---- what is seen of entries, and what is told of them

-- an entry that there is, and one that there isn't
pub seen-some : (entries : List (ℕ × Surface)) (id : ℕ) (surface : Surface) → lookup (is_at (nat_cmp id)) entries ≡ Some surface
    → resource_at id (on_values resource_of entries) ≡ Some (resource_of surface)
seen-some entries id surface is = lookup-mapped resource_of (is_at (nat_cmp id)) entries ∙ ap (λ (o : Option Surface). option_map resource_of o) is

pub seen-none : (entries : List (ℕ × Surface)) (id : ℕ) → lookup (is_at (nat_cmp id)) entries ≡ None → resource_at id (on_values resource_of entries) ≡ None
seen-none entries id is = lookup-mapped resource_of (is_at (nat_cmp id)) entries ∙ ap (λ (o : Option Surface). option_map resource_of o) is

pub here-of : (entries : List (ℕ × Surface)) (id : ℕ) (found : Option Surface) → lookup (is_at (nat_cmp id)) entries ≡ found
    → is_here id (on_values is_lent entries) ≡ flag_is_here (option_map is_lent found)
here-of entries id found is = ap (λ (o : Option Bool). flag_is_here o) (lookup-mapped is_lent (is_at (nat_cmp id)) entries ∙ ap (λ (o : Option Surface). option_map is_lent o) is)

pub whole-at : (entries : List (ℕ × Surface)) (id : ℕ) (surface : Surface) → All (λ resource. IsWhole resource) (values_of (on_values resource_of entries))
    → lookup (is_at (nat_cmp id)) entries ≡ Some surface → IsWhole (resource_of surface)
whole-at entries id surface whole is =
    subst (λ (o : Option Resource). IfSome o (λ r. IsWhole r)) (seen-some entries id surface is)
    (IfSome-lookup_from_All (λ r. IsWhole r) (is_at (nat_cmp id)) (on_values resource_of entries) whole)

-- pixels that are lent are seen as they were
pub lent-seen : (entries : List (ℕ × Surface)) (id : ℕ) (old : Surface) (pixels : Seen) → lookup (is_at (nat_cmp id)) entries ≡ Some old → pixels ≡ record old.pixels { lent = true }
    → on_values resource_of (set_value (is_at (nat_cmp id)) entries (record old { pixels = pixels })) ≡ on_values resource_of entries
lent-seen entries id old pixels found is =
    set-mapped resource_of (is_at (nat_cmp id)) entries (record old { pixels = pixels })
    ∙ ap (λ (seen : Seen). set_value (is_at (nat_cmp id)) (on_values resource_of entries) (record (resource_of old) { pixels = seen.bytes })) is
    ∙ set_value_same (is_at (nat_cmp id)) (on_values resource_of entries) (resource_of old) (seen-some entries id old found)

-- a resource that isn't there can't be told anything, nor go
set-none : {X : Type 0} (b : Bool) (e : ℕ × X) (x : X) (es more : List (ℕ × X)) (found : Option X) → cond b (Some e.1) found ≡ None → (found ≡ None → more ≡ es)
    → cond b ((e.0, x) ∷ es) (e ∷ more) ≡ e ∷ es
set-none true e x es more found none same = cc
set-none false e x es more found none same = ap (λ l. e ∷ l) (same none)

pub told-none : {X : Type 0} (test : ℕ → Bool) (es : List (ℕ × X)) (x : X) → lookup test es ≡ None → set_value test es x ≡ es
told-none test [] x none = refl
told-none test (e ∷ es) x none = set-none (test e.0) e x es (set_value test es x) (lookup test es) none (told-none test es x)

gone-none : {X : Type 0} (b : Bool) (e : ℕ × X) (es more : List (ℕ × X)) (found : Option X) → cond b (Some e.1) found ≡ None → (found ≡ None → more ≡ es)
    → cond b es (e ∷ more) ≡ e ∷ es
gone-none true e es more found none same = cc
gone-none false e es more found none same = ap (λ l. e ∷ l) (same none)

pub left-none : {X : Type 0} (test : ℕ → Bool) (es : List (ℕ × X)) → lookup test es ≡ None → remove_entry test es ≡ es
left-none test [] none = refl
left-none test (e ∷ es) none = gone-none (test e.0) e es (remove_entry test es) (lookup test es) none (left-none test es)

pub gone-some : (resources : List (ℕ × Resource)) (id : ℕ) (resource : Resource) → resource_at id resources ≡ Some resource
    → ◌≡◌ {A = List (ℕ × Resource) × Result (Unit {0}) ℕ} (without id resources, Ok tt) (remove id resources)
unfolding remove
gone-some resources id resource found =
    sym (ap (λ (o : Option Resource). unless_refused (refusal_of ((is_none o, ERR_INVALID_RESOURCE_ID) ∷ [])) resources (without id resources)) found)

pub gone-none-there : (resources : List (ℕ × Resource)) (id : ℕ) → resource_at id resources ≡ None
    → ◌≡◌ {A = List (ℕ × Resource) × Result (Unit {0}) ℕ} (resources, Err 4611) (remove id resources)
unfolding remove
gone-none-there resources id none =
    sym (ap (λ (o : Option Resource). unless_refused (refusal_of ((is_none o, ERR_INVALID_RESOURCE_ID) ∷ [])) resources (without id resources)) none)

-- a resource that isn't refused is made
pub created : (id width height format : ℕ) (resources : List (ℕ × Resource)) (known : Format) → format_of format ≡ Some known
    → refusal_of (create_refusals id width height format resources) ≡ None
    → ◌≡◌ {A = List (ℕ × Resource) × Result (Unit {0}) ℕ} (insert_entry nat_cmp resources id (blank width height known), Ok tt) (create id width height format resources)
unfolding create
created id width height format resources known is free =
    sym (ap (λ (r : Option ℕ). unless_refused r resources (with_blank id width height (format_of format) resources)) free
    ∙ ap (λ (f : Option Format). unless_refused None resources (with_blank id width height f resources)) is)

-- what is lent is what was seen
pub pixels-told : {X : Type 0} (result : Option X) (items : X → List ℕ) (bytes : List ℕ) (seen : Option (List ℕ)) → IfSome result (λ x. items x ≡ bytes) → seen ≡ Some bytes
    → IfSome result (λ x. Some (items x) ≡ seen)
pixels-told (Some x) items bytes seen is there = ap (λ (xs : List ℕ). Some xs) is ∙ sym there
pixels-told None items bytes seen is there = tt

none-some : (count : ℕ) → ◌≡◌ {A = Option ℕ} None (Some count) → ⊥
none-some count is = cc

-- there is a resource of which so many bytes are asked for
pub there-mut : {X : Type 0} (result : Option X) (now : X → Surface) (entries : List (ℕ × Surface)) (id count : ℕ) → option_map now result ≡ lookup (is_at (nat_cmp id)) entries
    → option_map (λ (xs : List ℕ). length xs) (option_map (λ (r : Resource). r.pixels) (resource_at id (on_values resource_of entries))) ≡ Some count → IsSome result
there-mut (Some x) now entries id count is asked = refl
there-mut None now entries id count is asked =
    let none = ap (λ (o : Option Resource). option_map (λ (xs : List ℕ). length xs) (option_map (λ (r : Resource). r.pixels) o)) (seen-none entries id (sym is)) in
    absurd (none-some count (sym none ∙ asked))

-- a resource whose pixels were brought back
pub restored-keeps : (entries : List (ℕ × Resource)) (id : ℕ) (resource : Resource) (bytes : List ℕ) → All (λ resource. IsWhole resource) (values_of entries)
    → resource_at id entries ≡ Some resource → length bytes ≡ length resource.pixels
    → (pixel_bytes (with_pixels id resource bytes entries) ≡ pixel_bytes entries)
    × All (λ resource. IsWhole resource) (values_of (with_pixels id resource bytes entries))
restored-keeps entries id resource bytes whole is same =
    let test = is_at (nat_cmp id) in
    let after : Resource = record resource { pixels = bytes } in
    let was : IsWhole resource = subst (λ (o : Option Resource). IfSome o (λ r. IsWhole r)) is (IfSome-lookup_from_All (λ r. IsWhole r) test entries whole) in
    let now : IsWhole after = (same ∙ was.0, omega (arith, same, was), was.2, was.3) in
    let sums = sum_by-set_value bytes_of test entries resource after is in
    (omega (arith, sums, same), All-values-set_value test (λ r. IsWhole r) entries after whole now)

-- as many bytes as the resource has
pub as-many : (entries : List (ℕ × Resource)) (id : ℕ) (resource : Resource) (bytes : List ℕ) → resource_at id entries ≡ Some resource
    → option_map (λ (xs : List ℕ). length xs) (option_map (λ (r : Resource). r.pixels) (resource_at id entries)) ≡ Some (length bytes) → length bytes ≡ length resource.pixels
as-many entries id resource bytes is long =
    some-same (sym long ∙ ap (λ (o : Option Resource). option_map (λ (xs : List ℕ). length xs) (option_map (λ (r : Resource). r.pixels) o)) is)
