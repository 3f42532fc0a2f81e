-- What is attached to a resource lies in pages of the buffer with its number, at each moment of a sound history.
use Rattle.std.proofs.Common.{◌≡◌, ⊎_elim, ◌≤◌, ◌<◌, ℕ, zero, suc, ◌+◌, ◌-◌, ◌*◌, ◌/◌, Bool, true, false, cond, List, [], ◌∷◌, ◌++◌, length, take, nat_le, Option, Some, None, refl, ap, sym, subst, ◌∙◌, arith}
use Rattle.std.specs.List.{All, AllByRecursion, range_with_len}
use Rattle.std.specs.Ordering.{nat_cmp}
use Rattle.std.specs.Option.{unwrap_or}
use Rattle.std.specs.Map.{lookup}
use Rattle.std.specs.BTreeMap.{is_at}
use Rattle.std.proofs.lemmas.Bool.Decides.{nat_tests}
use Rattle.std.proofs.lemmas.List.Elements.{All-head, All-tail}
use Rattle.vg_formats.specs.declared.entry.MemEntry.{MemEntry}
use Rattle.vg_pages.specs.Memory.{HoldsRange, Memory, is_among}
use Rattle.vg_backing.specs.Backing.{AreHeld}
use Rattle.vg_blob.specs.declared.blobs.Blob.{Blob}
use Rattle.vg_blob.specs.Blobs.{IsHeld, blob_at, entries_of}
use Rattle.vg_transfer.specs.Backings.{backing_at}
use Rattle.vg_share.specs.Share.{pages_at}
use Rattle.vg_client_holds.specs.Holds.{is_in_memory, page_of, pages_from_to, pages_in, pages_in_entry}
use Rattle.vg_client_holds.specs.declared.setup.Setup.{Setup}
use Rattle.vg_device.specs.State.{State}
use Rattle.vg_machine.specs.Entries.{Entry}
use Rattle.vg_machine.specs.Order.{Sound}
use Rattle.vg_linked.specs.Consistent.{AreInPages}
use Rattle.vg_linked.proofs.FitLemmas.{entries-held, memory-stands}
use Rattle.vg_linked.proofs.SizeLemmas.{as-many}
use Rattle.vg_linked.proofs.SoundLemmas.{of-buffers}
use Rattle.vg_origin.specs.Origin.{AreBacked, InEntries, state_at}

-- what holds of all that is found
all-found : {X : Type 0} (P : X → Type 0) (id : ℕ) (x : X) (es : List (ℕ × X)) → All (λ (e : ℕ × X). P e.1) es → lookup (is_at (nat_cmp id)) es ≡ Some x → P x
all-found P id x [] all is = cc
all-found {X} P id x (e ∷ es) all is = by (is_at (nat_cmp id) e.0) is (all-found P id x es (All-tail (λ (e : ℕ × X). P e.1) e es all))
  where
    by : (b : Bool) → cond b (Some e.1) (lookup (is_at (nat_cmp id)) es) ≡ Some x → (lookup (is_at (nat_cmp id)) es ≡ Some x → P x) → P x
    by true is rest = let same : e.1 ≡ x = cc in subst P same (All-head (λ (e : ℕ × X). P e.1) e es all)
    by false is rest = rest is

in-range : (P : ℕ → Type 0) (first count n : ℕ) → first ≤ n → n < first + count → AllByRecursion P (range_with_len first count) → P n
in-range P first zero n low high all = absurd (omega (arith, low, high))
in-range P first (suc count) n low high all = by (nat_le n first) refl (λ more. in-range P (first + 1) count n more (omega (arith, high)) all.1)
  where
    by : (b : Bool) → nat_le n first ≡ b → (first + 1 ≤ n → P n) → P n
    by true is rest = let same : first ≡ n = grind (arith, nat_tests, low, is) in subst P same all.0
    by false is rest = rest (grind (arith, nat_tests, low, is))

all-front : (P : ℕ → Type 0) (xs ys : List ℕ) → AllByRecursion P (xs ++ ys) → AllByRecursion P xs × AllByRecursion P ys
all-front P [] ys all = (tt, all)
all-front P (x ∷ xs) ys all = let rest = all-front P xs ys all.1 in ((all.0, rest.0), rest.1)

within-memory : (count : ℕ) (entry : MemEntry) → 0 < entry.length → 1048576 ≤ entry.addr → entry.addr + entry.length ≤ 1048576 + 4096 * count → is_in_memory count entry ≡ true
within-memory count entry some low high = grind (arith, nat_tests, some, low, high)

page-of-place : (P : ℕ → Type 0) (count k : ℕ) (entry : MemEntry) → k < entry.length → 1048576 ≤ entry.addr → entry.addr + entry.length ≤ 1048576 + 4096 * count
    → AllByRecursion P (pages_in_entry count entry) → P ((entry.addr - 1048576 + k) / 4096)
page-of-place P count k entry within low high all =
    let first = page_of entry.addr in
    let last = page_of (entry.addr + entry.length - 1) in
    let place = entry.addr - 1048576 + k in
    let whole : AllByRecursion P (pages_from_to entry) =
    subst (λ (b : Bool). AllByRecursion P (cond b (pages_from_to entry) [])) (within-memory count entry (omega (arith, within)) low high) all
    in
    let above : first ≤ place / 4096 = omega (arith, low) in
    let below : place / 4096 ≤ last = omega (arith, low, within) in
    in-range P first (last + 1 - first) (place / 4096) above (omega (arith, above, below)) whole

abbrev IsIn : Memory → MemEntry → Type 0
IsIn memory entry = (0 < entry.length) × HoldsRange memory entry.addr entry.length

in-pages : (P : ℕ → Type 0) (memory : Memory) (count : ℕ) (parts : List MemEntry) (place : ℕ) → length memory.bytes ≡ 4096 * count → AreHeld memory parts → AllByRecursion P (pages_in count parts) → InEntries parts place
    → P (place / 4096)
in-pages P memory count [] place size held all is = absurd is
in-pages P memory count (entry ∷ more) place size held all is =
    let parts = all-front P (pages_in_entry count entry) (pages_in count more) all in
    let here : IsIn memory entry = All-head (IsIn memory) entry more held in
    ⊎_elim
    (λ at. subst (λ n. P (n / 4096)) (sym at.2) (page-of-place P count at.0 entry at.1 here.1.0 (omega (arith, here.1.1, size)) parts.0))
    (λ later. in-pages P memory count more place size (All-tail (IsIn memory) entry more held) parts.1 later)
    is

pub are-backed : (setup : Setup) (H : List Entry) (i : ℕ) → Sound setup H → AreBacked setup H i
are-backed setup H i sound key place attached =
    let s = state_at setup H i in
    let of = of-buffers setup H i sound in
    let held = entries-held setup (take i H) in
    let size : length s.memory.bytes ≡ 4096 * s.setup.pages =
    (memory-stands setup (take i H)).bytes ∙ ap (λ (now : Setup). 4096 * now.pages) (sym (as-many setup (take i H)).setup_is)
    in
    ⊎_elim (backed s of.backings held.backings size (backing_at key s.backings) refl) (of-blob s of.blobs held.blobs size (blob_at key s.blobs) refl) attached
  where
    backed : (s : State) → ((id : ℕ) (ranges : List MemEntry) → backing_at id s.backings ≡ Some ranges → AreInPages s.setup.pages ranges (pages_at id s.share))
        → All (λ (entry : ℕ × List MemEntry). AreHeld s.memory entry.1) s.backings → length s.memory.bytes ≡ 4096 * s.setup.pages
        → (found : Option (List MemEntry)) → backing_at key s.backings ≡ found → InEntries (unwrap_or found []) place → is_among (pages_at key s.share) (place / 4096) ≡ true
    backed s of held size None is at = absurd at
    backed s of held size (Some parts) is at =
        in-pages (λ page. is_among (pages_at key s.share) page ≡ true) s.memory s.setup.pages parts place size (all-found (AreHeld s.memory) key parts s.backings held is) (of key parts is) at

    of-blob : (s : State) → ((id : ℕ) (blob : Blob) → blob_at id s.blobs ≡ Some blob → AreInPages s.setup.pages blob.entries (pages_at id s.share))
        → All (IsHeld s.memory) s.blobs → length s.memory.bytes ≡ 4096 * s.setup.pages
        → (found : Option Blob) → blob_at key s.blobs ≡ found → InEntries (entries_of found) place → is_among (pages_at key s.share) (place / 4096) ≡ true
    of-blob s of held size None is at = absurd at
    of-blob s of held size (Some blob) is at =
        in-pages (λ page. is_among (pages_at key s.share) page ≡ true) s.memory s.setup.pages blob.entries place size
        (all-found (λ (blob : Blob). AreHeld s.memory blob.entries) key blob s.blobs held is) (of key blob is) at
