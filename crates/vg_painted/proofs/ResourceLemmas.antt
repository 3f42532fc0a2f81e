-- Pixels of resources, and what backings and blobs have in memory, as commands change them.
use Rattle.std.proofs.Common.{◌≡◌, ◌≢◌, inl, inr, ℕ, zero, suc, ◌+◌, ◌*◌, ◌<◌, ◌≤◌, ◌==◌, false, cond, List, [], ◌∷◌, length, Option, Some, None, ap, sym, subst, ◌∙◌, arith}
use Rattle.std.specs.Prelude.{is_none, slice_index}
use Rattle.std.specs.List.{list_any}
use Rattle.std.specs.Ordering.{nat_cmp}
use Rattle.std.specs.BTreeMap.{insert_entry}
use Rattle.std.proofs.lemmas.Bool.{cases_eq, eq-eqb, ne_eqb, or_parts}
use Rattle.std.proofs.lemmas.Bool.Decides.{nat_tests}
use Rattle.vg_formats.specs.declared.entry.MemEntry.{MemEntry}
use Rattle.vg_formats.specs.declared.format.Format.{Format}
use Rattle.vg_formats.specs.declared.rect.Rect.{Rect}
use Rattle.vg_pages.specs.Memory.{Memory, HoldsRange}
use Rattle.vg_backing.specs.Backing.{AreHeld, are_bad, backing_bytes, is_bad}
use Rattle.vg_resource.specs.declared.resource.Resource.{Resource}
use Rattle.vg_resource.specs.Resource.{blank, resource_at, with_blank, with_pixels, without}
use Rattle.vg_transfer.specs.Backings.{bytes_of_rect, transferred}
use Rattle.vg_device.proofs.MapLemmas.{insert-found, insert_other, remove_other, set_itself, set_other}
use Rattle.vg_painted.specs.Inks.{numbers}
use Rattle.vg_painted.specs.Paint.{byte_of_entries, filled_at, with_one}
use Rattle.vg_painted.specs.Painted.{IsAt}
use Rattle.vg_painted.proofs.OnceLemmas.{Once, removed}
use Rattle.vg_painted.proofs.PlaceLemmas.{entries-at, filled-at, zeros-at}

-- Each byte of each resource's pixels is the one at its place.
abbrev pub PixelsAt : List (ℕ × Resource) → (ℕ → ℕ → ℕ) → Type 0
PixelsAt resources at = (id : ℕ) (resource : Resource) → resource_at id resources ≡ Some resource → IsAt resource.pixels (at id)

-- ---- one of many

pub one-itself : (id : ℕ) (new : ℕ → ℕ) (old : ℕ → ℕ → ℕ) (other : ℕ) (bytes : List ℕ) → other ≡ id → IsAt bytes new → IsAt bytes (with_one id new old other)
one-itself id new old other bytes same is = λ k. is k ∙ sym (ap (λ b. cond b (new k) (old other k)) (eq-eqb other id same))

pub one-other : (id : ℕ) (new : ℕ → ℕ) (old : ℕ → ℕ → ℕ) (other : ℕ) (bytes : List ℕ) → other ≢ id → IsAt bytes (old other) → IsAt bytes (with_one id new old other)
one-other id new old other bytes apart is = λ k. is k ∙ sym (ap (λ b. cond b (new k) (old other k)) (ne_eqb other id apart))

some-same : {X : Type 0} (x y : X) → ◌≡◌ {A = Option X} (Some x) (Some y) → x ≡ y
some-same x y eq = cc

-- ---- resources

blank-at : (width height : ℕ) (format : Format) → IsAt (blank width height format).pixels (λ place. 0)
unfolding blank
blank-at width height format = zeros-at (4 * width * height)

pub created-pixels : (id width height : ℕ) (format : Option Format) (resources : List (ℕ × Resource)) (at : ℕ → ℕ → ℕ) → is_none format ≡ false → PixelsAt resources at
    → PixelsAt (with_blank id width height format resources) (with_one id (λ place. 0) at)
created-pixels id width height None resources at known are = cc
created-pixels id width height (Some format) resources at known are = λ other resource is.
    elim (cases_eq other id) [
      | inl same ↦
          let found : ◌≡◌ {A = Option Resource} (Some (blank width height format)) (Some resource) =
          sym (insert-found id (blank width height format) resources) ∙ ap (λ n. resource_at n (insert_entry nat_cmp resources id (blank width height format))) (sym same) ∙ is
          in
          one-itself id (λ place. 0) at other resource.pixels same
          (subst (λ (r : Resource). IsAt r.pixels (λ place. 0)) (some-same (blank width height format) resource found) (blank-at width height format))
      | inr apart ↦
          one-other id (λ place. 0) at other resource.pixels apart (are other resource (sym (insert_other other id (blank width height format) apart resources) ∙ is))
    ]

none-some : {X : Type 0} (x : X) → ◌≡◌ {A = Option X} None (Some x) → ⊥
none-some x eq = cc

pub without-pixels : (id : ℕ) (resources : List (ℕ × Resource)) (at : ℕ → ℕ → ℕ) → Once resources → PixelsAt resources at → PixelsAt (without id resources) at
without-pixels id resources at once are = λ other resource is.
    elim (cases_eq other id) [
      | inl same ↦ absurd (none-some resource (sym (removed id resources once) ∙ ap (λ n. resource_at n (without id resources)) (sym same) ∙ is))
      | inr apart ↦ are other resource (sym (remove_other other id apart resources) ∙ is)
    ]

-- the resource that was found gets these pixels
pub pixels-set : (id : ℕ) (found : Resource) (pixels : List ℕ) (resources : List (ℕ × Resource)) (new : ℕ → ℕ) (at : ℕ → ℕ → ℕ) → resource_at id resources ≡ Some found → IsAt pixels new
    → PixelsAt resources at → PixelsAt (with_pixels id found pixels resources) (with_one id new at)
pixels-set id found pixels resources new at there is are = λ other resource now.
    let next : Resource = record found { pixels = pixels } in
    elim (cases_eq other id) [
      | inl same ↦
          let here : ◌≡◌ {A = Option Resource} (Some next) (Some resource) =
          sym (set_itself id found next resources there) ∙ ap (λ n. resource_at n (with_pixels id found pixels resources)) (sym same) ∙ now
          in
          one-itself id new at other resource.pixels same (subst (λ (r : Resource). IsAt r.pixels new) (some-same next resource here) is)
      | inr apart ↦ one-other id new at other resource.pixels apart (are other resource (sym (set_other other id next apart resources) ∙ now))
    ]

-- a transfer's rows
pub transferred-at : (memory : Memory) (parts : List MemEntry) (rect : Rect) (offset width : ℕ) (pixels : List ℕ) (at old : ℕ → ℕ) → IsAt memory.bytes at → AreHeld memory parts → IsAt pixels old
    → IsAt (transferred memory parts rect offset width pixels)
    (filled_at (bytes_of_rect rect) (4 * width) (length pixels) (λ i c. byte_of_entries numbers at parts (offset + 4 * width * i + c)) old)
transferred-at memory parts rect offset width pixels at old is held are =
    filled-at (bytes_of_rect rect) (4 * width) (λ i c. slice_index (backing_bytes memory parts) (offset + 4 * width * i + c))
    (λ i c. byte_of_entries numbers at parts (offset + 4 * width * i + c)) pixels old (λ i c. entries-at memory at is parts held (offset + 4 * width * i + c)) are

-- ---- entries that lie in memory

held-cons : (memory : Memory) (entry : MemEntry) (more : List MemEntry) → (0 < entry.length) × HoldsRange memory entry.addr entry.length → AreHeld memory more → AreHeld memory (entry ∷ more)
held-cons memory entry more here rest zero d within = here
held-cons memory entry more here rest (suc k) d within = rest k d (omega (arith, within))

entry-good : (memory : Memory) (entry : MemEntry) → is_bad memory entry ≡ false → (0 < entry.length) × HoldsRange memory entry.addr entry.length
entry-good memory entry good =
    let some : 0 < entry.length = grind (arith, nat_tests) in
    let low : 1048576 ≤ entry.addr = grind (arith, nat_tests) in
    let high : entry.addr + entry.length ≤ 1048576 + length memory.bytes = grind (arith, nat_tests) in
    (some, (low, high))

each-good : (memory : Memory) (parts : List MemEntry) → list_any (is_bad memory) parts ≡ false → AreHeld memory parts
each-good memory [] good = λ k d within. absurd (omega (arith, within))
each-good memory (entry ∷ more) good =
    let parts = or_parts (is_bad memory entry) (list_any (is_bad memory) more) good in
    held-cons memory entry more (entry-good memory entry parts.0) (each-good memory more parts.1)

pub held-good : (memory : Memory) (parts : List MemEntry) → are_bad memory parts ≡ false → AreHeld memory parts
held-good memory parts good = each-good memory parts (or_parts (length parts == 0) (list_any (is_bad memory) parts) good).1
