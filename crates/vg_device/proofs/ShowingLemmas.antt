-- Screens show resources that there are, after each command.
use Rattle.std.proofs.Common.{◌≡◌, ℕ, ◌+◌, ◌*◌, ◌==◌, Bool, true, false, not, ◌||◌, List, [], ◌∷◌, Option, Some, None, Result, inl, inr, sym, ap, ◌∙◌, refl, subst, get_or}
use Rattle.std.specs.Prelude.{IfSome, is_none, is_some, length, nat_lt}
use Rattle.std.specs.List.{All}
use Rattle.std.proofs.lemmas.Bool.{cases_eq}
use Rattle.vg_formats.specs.declared.entry.MemEntry.{MemEntry}
use Rattle.vg_formats.specs.declared.format.Format.{Format}
use Rattle.vg_formats.specs.declared.rect.Rect.{Rect}
use Rattle.vg_formats.specs.Formats.{format_of}
use Rattle.vg_resource.specs.declared.resource.Resource.{Resource}
use Rattle.vg_scanout.specs.declared.scanout.Binding.{Binding}
use Rattle.vg_scanout.specs.Scanout.{Screen}
use Rattle.vg_pages.specs.Memory.{Memory}
use Rattle.vg_device.specs.Receive.{receive, receive_refusal, with_received}
use Rattle.vg_refusals.specs.Refusals.{refusal_of, unless_refused}
use Rattle.vg_resource.specs.Resource as resources
use Rattle.vg_resource.specs.Resource.{blank, pixel_bytes, resource_at, with_blank, with_pixels}
use Rattle.vg_blob.specs.declared.blobs.Blob.{Blob}
use Rattle.vg_blob.specs.Blobs.{BLOB_FLAGS, BLOB_MEM_GUEST, blob_at, create, create_refusals, with_blob}
use Rattle.vg_backing.specs.Backing.{are_bad, total}
use Rattle.std.specs.Option.{option_map}
use Rattle.std.proofs.lemmas.Map.Steps.{set_value_same}
use Rattle.std.specs.Ordering.{nat_cmp}
use Rattle.std.specs.BTreeMap.{insert_entry, is_at}
use Rattle.vg_laws.proofs.Options.{some-same}
use Rattle.vg_laws.proofs.Bools.{or-second}
use Rattle.vg_device.specs.Copies.{has_as_many}
use Rattle.vg_device.specs.State.{IsShowing, ShowsEither, ShowsResource, ShowsSome}
use Rattle.vg_device.proofs.MapLemmas.{insert_other, set_itself, set_other}
use Rattle.vg_formats.specs.Pixels.{is_inside}

-- the same size and format
pub record IsLike (one other : Resource) : Type 0 where
  pub width : one.width ≡ other.width
  pub height : one.height ≡ other.height
  pub format : one.format ≡ other.format

-- what was found before is found, with the same size and format
abbrev pub Keeping : List (ℕ × Resource) → List (ℕ × Resource) → Type 0
Keeping old now = (id : ℕ) (resource : Resource) → resource_at id old ≡ Some resource → (next : Resource) × (resource_at id now ≡ Some next) × IsLike next resource

shows-like : (binding : Binding) (one other : Resource) → IsLike one other → ShowsResource binding other → ShowsResource binding one
shows-like binding one other like shows = record {
  within = ap (λ width. is_inside binding.rect width one.height) like.width ∙ ap (λ height. is_inside binding.rect other.width height) like.height ∙ shows.within;
  some_width = shows.some_width;
  some_height = shows.some_height;
  format = shows.format ∙ sym like.format;
  stride = shows.stride ∙ ap (λ width. 4 * width) (sym like.width);
  offset = shows.offset;
}

pub shown-found : (binding : Binding) (found : Option Resource) → ShowsSome binding found → (resource : Resource) × (found ≡ Some resource) × ShowsResource binding resource
shown-found binding (Some resource) shows = (resource, refl, shows)
shown-found binding None shows = absurd shows

pub found-shown : (binding : Binding) (found : Option Resource) (resource : Resource) → found ≡ Some resource → ShowsResource binding resource → ShowsSome binding found
found-shown binding found resource is shows = subst (ShowsSome binding) (sym is) shows

showing-either : (old now : List (ℕ × Resource)) → Keeping old now → (binding : Binding) (blob : Option Blob)
    → ShowsEither binding blob (resource_at binding.resource old) → ShowsEither binding blob (resource_at binding.resource now)
showing-either old now keeping binding (Some blob) showing = showing
showing-either old now keeping binding None showing =
    let (resource, is, shows) = shown-found binding (resource_at binding.resource old) showing in
    let (next, found, like) = keeping binding.resource resource is in
    found-shown binding (resource_at binding.resource now) next found (shows-like binding next resource like shows)

showing-kept : (blobs : List (ℕ × Blob)) (old now : List (ℕ × Resource)) → Keeping old now → (screen : Option Screen) → IsShowing blobs old screen → IsShowing blobs now screen
showing-kept blobs old now keeping None showing = tt
showing-kept blobs old now keeping (Some screen) showing = showing-either old now keeping screen.binding (blob_at screen.binding.resource blobs) showing

pub all-showing : (blobs : List (ℕ × Blob)) (old now : List (ℕ × Resource)) (screens : List (Option Screen)) → Keeping old now → All (IsShowing blobs old) screens → All (IsShowing blobs now) screens
all-showing blobs old now screens keeping showing = λ k d within. showing-kept blobs old now keeping (get_or screens k d) (showing k d within)

like-itself : (resource : Resource) → IsLike resource resource
like-itself resource = record { width = refl; height = refl; format = refl }

keeping-itself : (resources : List (ℕ × Resource)) → Keeping resources resources
keeping-itself resources id resource is = (resource, is, like-itself resource)

-- nothing is refused for the first of several reasons
pub first-not : {R : Type 0} (b : Bool) (refusal : R) (more : List (Bool × R)) → refusal_of ((b, refusal) ∷ more) ≡ None → b ≡ false
first-not true refusal more none = cc
first-not false refusal more none = refl

taken-free : (found : Option Resource) (resource : Resource) → found ≡ Some resource → is_some found ≡ false → ⊥
taken-free (Some other) resource is free = cc
taken-free None resource is free = cc

keeping-blank : (id width height : ℕ) (format : Option Format) (old : List (ℕ × Resource)) → is_some (resource_at id old) ≡ false → Keeping old (with_blank id width height format old)
keeping-blank id width height None old free other resource is = (resource, is, like-itself resource)
keeping-blank id width height (Some format) old free other resource is =
    elim (cases_eq other id) [
      | inl same ↦ absurd (taken-free (resource_at id old) resource (sym (ap (λ n. resource_at n old) same) ∙ is) free)
      | inr apart ↦ (resource, insert_other other id (blank width height format) apart old ∙ is, like-itself resource)
    ]

abbrev later-create : ℕ → ℕ → ℕ → List (ℕ × Resource) → List (Bool × ℕ)
later-create width height format old =
    (is_none (format_of format) || (width == 0 || height == 0), 0x1205)
    ∷ (nat_lt 134217728 (pixel_bytes old + 4 * width * height), 0x1201)
    ∷ []

create-by : (id width height format : ℕ) (old now : List (ℕ × Resource)) (done : Result (Unit {0}) ℕ) (refusal : Option ℕ)
    → refusal_of (resources.create_refusals id width height format old) ≡ refusal
    → ◌≡◌ {A = List (ℕ × Resource) × Result (Unit {0}) ℕ} (now, done) (unless_refused refusal old (with_blank id width height (format_of format) old))
    → Keeping old now
create-by id width height format old now done (Some code) is step =
    subst (Keeping old) (sym (ap (λ pair. pair.0) step)) (keeping-itself old)
create-by id width height format old now done None is step =
    let free = or-second (id == 0) (is_some (resource_at id old)) (first-not (id == 0 || is_some (resource_at id old)) 0x1203 (later-create width height format old) is) in
    subst (Keeping old) (sym (ap (λ pair. pair.0) step)) (keeping-blank id width height (format_of format) old free)

pub keeping-create : (id width height format : ℕ) (old now : List (ℕ × Resource)) (done : Result (Unit {0}) ℕ)
    → ◌≡◌ {A = List (ℕ × Resource) × Result (Unit {0}) ℕ} (now, done) (resources.create id width height format old) → Keeping old now
unfolding resources.create
keeping-create id width height format old now done step =
    create-by id width height format old now done (refusal_of (resources.create_refusals id width height format old)) refl step

like-pixels : (resource found : Resource) (pixels : List ℕ) → resource ≡ found → IsLike (record resource { pixels = pixels }) found
like-pixels resource found pixels same = record { width = ap (λ r. r.width) same; height = ap (λ r. r.height) same; format = ap (λ r. r.format) same }

pub keeping-pixels : (id : ℕ) (resource : Resource) (pixels : List ℕ) (old : List (ℕ × Resource)) → resource_at id old ≡ Some resource → Keeping old (with_pixels id resource pixels old)
keeping-pixels id resource pixels old there other found is =
    let next : Resource = record resource { pixels = pixels } in
    elim (cases_eq other id) [
      | inl same ↦ (next, ap (λ n. resource_at n (with_pixels id resource pixels old)) same ∙ set_itself id resource next old there, like-pixels resource found pixels (some-same (sym there ∙ ap (λ n. resource_at n old) (sym same) ∙ is)))
      | inr apart ↦ (found, set_other other id next apart old ∙ is, like-itself found)
    ]

received-by : (memory : Memory) (id : ℕ) (rect : Rect) (offset : ℕ) (backings : List (ℕ × List MemEntry)) (old now : List (ℕ × Resource)) (done : Result (Unit {0}) ℕ) (found : Option Resource) (refusal : Option ℕ)
    → resource_at id old ≡ found
    → ◌≡◌ {A = List (ℕ × Resource) × Result (Unit {0}) ℕ} (now, done) (unless_refused refusal old (with_received memory id rect offset backings found old))
    → Keeping old now
received-by memory id rect offset backings old now done found (Some code) is step = subst (Keeping old) (sym (ap (λ pair. pair.0) step)) (keeping-itself old)
received-by memory id rect offset backings old now done None None is step = subst (Keeping old) (sym (ap (λ pair. pair.0) step)) (keeping-itself old)
received-by memory id rect offset backings old now done (Some resource) None is step =
    subst (Keeping old) (sym (ap (λ pair. pair.0) step)) (keeping-pixels id resource _ old is)

pub keeping-receive : (memory : Memory) (id : ℕ) (rect : Rect) (offset : ℕ) (backings : List (ℕ × List MemEntry)) (old now : List (ℕ × Resource)) (done : Result (Unit {0}) ℕ)
    → ◌≡◌ {A = List (ℕ × Resource) × Result (Unit {0}) ℕ} (now, done) (receive memory id rect offset backings old) → Keeping old now
unfolding receive
keeping-receive memory id rect offset backings old now done step =
    received-by memory id rect offset backings old now done (resource_at id old) (receive_refusal id rect offset backings (resource_at id old)) refl step

-- a blob of a new number shows on no screen that showed something
shown-blob : (binding : Binding) (blob : Option Blob) (found : Option Resource) → blob ≡ None → found ≡ None → ShowsEither binding blob found → ⊥
shown-blob binding None None none gone shows = shows
shown-blob binding (Some blob) found none gone shows = cc
shown-blob binding None (Some resource) none gone shows = cc

showing-new : (id : ℕ) (blob : Blob) (blobs : List (ℕ × Blob)) (resources : List (ℕ × Resource)) → blob_at id blobs ≡ None → resource_at id resources ≡ None
    → (screen : Option Screen) → IsShowing blobs resources screen → IsShowing (insert_entry nat_cmp blobs id blob) resources screen
showing-new id blob blobs resources none gone None showing = tt
showing-new id blob blobs resources none gone (Some screen) showing =
    let binding = screen.binding in
    elim (cases_eq binding.resource id) [
      | inl same ↦ absurd (shown-blob binding (blob_at binding.resource blobs) (resource_at binding.resource resources) (ap (λ n. blob_at n blobs) same ∙ none) (ap (λ n. resource_at n resources) same ∙ gone) showing)
      | inr apart ↦ subst (λ found. ShowsEither binding found (resource_at binding.resource resources)) (sym (insert_other binding.resource id blob apart blobs)) showing
    ]

abbrev later-blob : Memory → ℕ → ℕ → ℕ → List MemEntry → List (Bool × ℕ)
later-blob memory mem flags size entries =
    (not (mem == BLOB_MEM_GUEST) || (nat_lt BLOB_FLAGS flags || size == 0), 0x1205)
    ∷ (are_bad memory entries, 0x1205)
    ∷ (nat_lt (total entries) size, 0x1205)
    ∷ []

no-blob : (found : Option Blob) → is_some found ≡ false → found ≡ None
no-blob (Some blob) none = cc
no-blob None none = refl

blob-made : (memory : Memory) (id mem flags size : ℕ) (entries : List MemEntry) (old now : List (ℕ × Blob)) (done : Result (Unit {0}) ℕ) (refusal : Option ℕ)
    → refusal_of (create_refusals memory id mem flags size entries old) ≡ refusal
    → ◌≡◌ {A = List (ℕ × Blob) × Result (Unit {0}) ℕ} (now, done) (unless_refused refusal old (with_blob id size entries old))
    → (resources : List (ℕ × Resource)) (screens : List (Option Screen)) → resource_at id resources ≡ None
    → All (IsShowing old resources) screens → All (IsShowing now resources) screens
blob-made memory id mem flags size entries old now done (Some code) is step resources screens gone showing =
    subst (λ blobs. All (IsShowing blobs resources) screens) (sym (ap (λ pair. pair.0) step)) showing
blob-made memory id mem flags size entries old now done None is step resources screens gone showing =
    let free = or-second (id == 0) (is_some (blob_at id old)) (first-not (id == 0 || is_some (blob_at id old)) 0x1203 (later-blob memory mem flags size entries) is) in
    subst (λ blobs. All (IsShowing blobs resources) screens) (sym (ap (λ pair. pair.0) step))
    (λ k d within. showing-new id (record { size = size; entries = entries }) old resources (no-blob (blob_at id old) free) gone (get_or screens k d) (showing k d within))

-- screens stay where a blob is made of whose number there is no 2D resource
pub showing-blob : (memory : Memory) (id mem flags size : ℕ) (entries : List MemEntry) (old now : List (ℕ × Blob)) (done : Result (Unit {0}) ℕ)
    → ◌≡◌ {A = List (ℕ × Blob) × Result (Unit {0}) ℕ} (now, done) (create memory id mem flags size entries old)
    → (resources : List (ℕ × Resource)) (screens : List (Option Screen)) → resource_at id resources ≡ None
    → All (IsShowing old resources) screens → All (IsShowing now resources) screens
unfolding create
showing-blob memory id mem flags size entries old now done step resources screens gone showing =
    blob-made memory id mem flags size entries old now done (refusal_of (create_refusals memory id mem flags size entries old)) refl step resources screens gone showing

-- pixels that came back
pub keeping-brought : (id : ℕ) (pixels : List ℕ) (old now : List (ℕ × Resource)) (found : Option Resource) → resource_at id old ≡ found
    → IfSome found (λ resource. now ≡ with_pixels id resource pixels old) → has_as_many (length pixels) found ≡ true → Keeping old now
keeping-brought id pixels old now None is after many = cc
keeping-brought id pixels old now (Some resource) is after many = subst (Keeping old) (sym after) (keeping-pixels id resource pixels old is)

-- pixels that came back as they were
pub brought-same : (id : ℕ) (pixels : List ℕ) (old now : List (ℕ × Resource)) (found : Option Resource) → resource_at id old ≡ found
    → option_map (λ (resource : Resource). resource.pixels) found ≡ Some pixels → IfSome found (λ resource. now ≡ with_pixels id resource pixels old) → now ≡ old
brought-same id pixels old now None is given after = cc
brought-same id pixels old now (Some resource) is given after =
    after ∙ ap (λ items. with_pixels id resource items old) (sym (some-same given)) ∙ set_value_same (is_at (nat_cmp id)) old resource is
