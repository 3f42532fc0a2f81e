-- The 2D resources by their ids, rising (VIRTIO 1.2, 5.7.6.8, RESOURCE_CREATE_2D and RESOURCE_UNREF).
use Rattle.std.specs.Prelude.{◌≡◌, ◌<◌, ◌≤◌, ℕ, ◌+◌, ◌*◌, ◌==◌, ◌||◌, Bool, false, nat_lt, is_some, is_none, List, [], ◌∷◌, length, map, not, replicate, Option, Some, None, Result, Ok, Err}
use Rattle.std.specs.List.{sum_by}
use Rattle.std.specs.Option.{option_map}
use Rattle.std.specs.Ordering.{nat_cmp}
use Rattle.std.specs.Map.{lookup, remove_entry, set_value, values_of}
use Rattle.std.specs.BTreeMap.{insert_entry, is_at}
use Rattle.vg_formats.specs.declared.format.Format.{Format}
use Rattle.vg_formats.specs.Formats.{format_of}
use Rattle.vg_resource.specs.declared.resource.Resource.{Resource}
use Rattle.vg_resource.specs.declared.resource.Surface.{Surface}
use Rattle.vg_wire.specs.Kinds.{ERR_INVALID_PARAMETER, ERR_INVALID_RESOURCE_ID, ERR_OUT_OF_MEMORY}
use Rattle.vg_refusals.specs.Refusals.{refusal_of, unless_refused}

abbrev pub resource_at : ℕ → List (ℕ × Resource) → Option Resource
resource_at id resources = lookup (is_at (nat_cmp id)) resources

-- The size of a resource in pixels, and 0 where there is none.
abbrev pub width_of : Option Resource → ℕ
width_of (Some resource) = resource.width
width_of None = 0

abbrev pub height_of : Option Resource → ℕ
height_of (Some resource) = resource.height
height_of None = 0

-- How many bytes the pixels of all resources have.
abbrev pub pixel_bytes : List (ℕ × Resource) → ℕ
pixel_bytes resources = sum_by (λ resource. length resource.pixels) (values_of resources)

-- A resource whose bytes are all 0.
unfoldable pub blank : ℕ → ℕ → Format → Resource
blank width height format = record { width = width; height = height; format = format; pixels = replicate (4 * width * height) 0 }

abbrev pub with_blank : ℕ → ℕ → ℕ → Option Format → List (ℕ × Resource) → List (ℕ × Resource)
with_blank id width height (Some format) resources = insert_entry nat_cmp resources id (blank width height format)
with_blank id width height None resources = resources

-- RESOURCE_CREATE_2D is refused for an id that is 0 or in use; an unknown format, or no pixels; too many bytes of pixels of
-- all resources with these.
abbrev pub create_refusals : ℕ → ℕ → ℕ → ℕ → List (ℕ × Resource) → List (Bool × ℕ)
create_refusals id width height format resources =
    (id == 0 || is_some (resource_at id resources), ERR_INVALID_RESOURCE_ID)
    ∷ (is_none (format_of format) || (width == 0 || height == 0), ERR_INVALID_PARAMETER)
    ∷ (nat_lt 134217728 (pixel_bytes resources + 4 * width * height), ERR_OUT_OF_MEMORY)
    ∷ []

unfoldable pub create : ℕ → ℕ → ℕ → ℕ → List (ℕ × Resource) → List (ℕ × Resource) × Result Unit ℕ
create id width height format resources =
    unless_refused (refusal_of (create_refusals id width height format resources)) resources (with_blank id width height (format_of format) resources)

abbrev pub without : ℕ → List (ℕ × Resource) → List (ℕ × Resource)
without id resources = remove_entry (is_at (nat_cmp id)) resources

-- RESOURCE_UNREF is refused for a resource that there isn't.
abbrev pub unref_refusals : ℕ → List (ℕ × Resource) → List (Bool × ℕ)
unref_refusals id resources = (is_none (resource_at id resources), ERR_INVALID_RESOURCE_ID) ∷ []

unfoldable pub remove : ℕ → List (ℕ × Resource) → List (ℕ × Resource) × Result Unit ℕ
remove id resources = unless_refused (refusal_of (unref_refusals id resources)) resources (without id resources)

-- The resource has these pixels.
abbrev pub with_pixels : ℕ → Resource → List ℕ → List (ℕ × Resource) → List (ℕ × Resource)
with_pixels id resource pixels resources = set_value (is_at (nat_cmp id)) resources (record resource { pixels = pixels })

-- The pixels of the resource with this id.
abbrev pub pixels_at : ℕ → List (ℕ × Resource) → Option (List ℕ)
pixels_at id resources = option_map (λ resource. resource.pixels) (resource_at id resources)

-- A resource has its pixels, of four bytes each, and not too many.
abbrev pub IsWhole : Resource → Type 0
IsWhole resource = (length resource.pixels ≡ 4 * resource.width * resource.height) × (length resource.pixels ≤ 134217728) × (0 < resource.width) × (0 < resource.height)

-- The 2D resources by their ids, and for each whether its pixels are lent.
pub record ResourceState : Type 0 where
  pub resources : List (ℕ × Resource)
  pub lent : List (ℕ × Bool)

-- A resource with the bytes of its pixels, whether they are lent or not.
abbrev pub resource_of : Surface → Resource
resource_of surface = record { width = surface.width; height = surface.height; format = surface.format; pixels = surface.pixels.bytes }

abbrev pub is_lent : Surface → Bool
is_lent surface = surface.pixels.lent

-- The values of entries, each as this says.
abbrev pub on_values : {X Y : Type 0} → (X → Y) → List (ℕ × X) → List (ℕ × Y)
on_values says entries = map (λ entry. (entry.0, says entry.1)) entries

-- There is such a resource, and its pixels aren't lent.
abbrev pub flag_is_here : Option Bool → Bool
flag_is_here (Some lent) = not lent
flag_is_here None = false

abbrev pub is_here : ℕ → List (ℕ × Bool) → Bool
is_here id lent = flag_is_here (lookup (is_at (nat_cmp id)) lent)

-- Whether the pixels of the resource with this id are lent is as told.
abbrev pub with_lent : ℕ → Bool → List (ℕ × Bool) → List (ℕ × Bool)
with_lent id told lent = set_value (is_at (nat_cmp id)) lent told

-- A new resource's pixels aren't lent.
abbrev pub with_new : ℕ → Result Unit ℕ → List (ℕ × Bool) → List (ℕ × Bool)
with_new id (Ok done) lent = insert_entry nat_cmp lent id false
with_new id (Err code) lent = lent

-- The resource with this id is gone.
abbrev pub without_lent : ℕ → List (ℕ × Bool) → List (ℕ × Bool)
without_lent id lent = remove_entry (is_at (nat_cmp id)) lent
