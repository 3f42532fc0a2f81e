-- The resources after the pixels of one were lent to a transfer.
use Rattle.std.proofs.Common.{◌≡◌, ℕ, ◌*◌, ◌++◌, take, drop, List, [], ◌∷◌, Option, Some, None, Result, Err, Bool, true, false, cond, length, refl, sym, ap, ◌∙◌}
use Rattle.std.specs.Option.{option_map}
use Rattle.std.specs.BTreeMap.{is_at}
use Rattle.std.specs.Ordering.{nat_cmp}
use Rattle.std.specs.Map.{lookup, set_value}
use Rattle.std.proofs.lemmas.Map.Steps.{set_value_same}
use Rattle.std.proofs.Math.Seq.{take-append_seam}
use Rattle.vg_laws.proofs.Options.{some-same}
use Rattle.vg_formats.specs.declared.entry.MemEntry.{MemEntry}
use Rattle.vg_formats.specs.declared.rect.Rect.{Rect}
use Rattle.vg_pages.specs.Memory.{Memory}
use Rattle.vg_places.proofs.Filled.{length-filled}
use Rattle.vg_refusals.specs.Refusals.{refusal_of, unless_refused}
use Rattle.vg_transfer.specs.Backings.{bytes_of_rect, entries_at, transfer, transfer_refusals, transferred}
use Rattle.vg_resource.specs.declared.resource.Resource.{Resource}
use Rattle.vg_resource.specs.Resource.{flag_is_here, is_here, pixels_at, resource_at, with_lent, with_pixels}
use Rattle.vg_resource.proofs.ResourceLemmas.{told-none}
use Rattle.vg_device.specs.Receive.{receive, with_received}

-- a resource that was written to, or refused, and the resources after it
received-in : (memory : Memory) (id : ℕ) (rect : Rect) (offset : ℕ) (backings : List (ℕ × List MemEntry)) (resources : List (ℕ × Resource)) (resource : Resource) (refusal : Option ℕ)
    → resource_at id resources ≡ Some resource
    → ◌≡◌ {A = List (ℕ × Resource) × Result (Unit {0}) ℕ} (
      with_pixels id resource (unless_refused refusal resource.pixels (transferred memory (entries_at id backings) rect offset resource.width resource.pixels)).0 resources,
      (unless_refused refusal resource.pixels (transferred memory (entries_at id backings) rect offset resource.width resource.pixels)).1,
    )
    (unless_refused refusal resources (with_received memory id rect offset backings (Some resource) resources))
received-in memory id rect offset backings resources resource (Some code) found = ap (λ (rs : List (ℕ × Resource)). (rs, Err code)) (set_value_same (is_at (nat_cmp id)) resources resource found)
received-in memory id rect offset backings resources resource None found = refl

received-some : (memory : Memory) (id : ℕ) (rect : Rect) (offset : ℕ) (backings : List (ℕ × List MemEntry)) (resources : List (ℕ × Resource)) (resource : Resource)
    → resource_at id resources ≡ Some resource
    → ◌≡◌ {A = List (ℕ × Resource) × Result (Unit {0}) ℕ} (
      with_pixels id resource (transfer true memory id rect offset resource.width resource.height backings resource.pixels).0 resources,
      (transfer true memory id rect offset resource.width resource.height backings resource.pixels).1,
    )
    (receive memory id rect offset backings resources)
unfolding transfer receive
received-some memory id rect offset backings resources resource found =
    rw found (received-in memory id rect offset backings resources resource _ found)

pub received-none : (memory : Memory) (id : ℕ) (rect : Rect) (offset : ℕ) (backings : List (ℕ × List MemEntry)) (resources : List (ℕ × Resource))
    → resource_at id resources ≡ None → ◌≡◌ {A = List (ℕ × Resource) × Result (Unit {0}) ℕ} (resources, Err 0x1203) (receive memory id rect offset backings resources)
unfolding receive
received-none memory id rect offset backings resources none = rw none refl

length-unless : (refusal : Option ℕ) (old next : List ℕ) → length next ≡ length old → length (unless_refused refusal old next).0 ≡ length old
length-unless (Some code) old next same = refl
length-unless None old next same = same

length-transfer : (memory : Memory) (id : ℕ) (rect : Rect) (offset width height : ℕ) (backings : List (ℕ × List MemEntry)) (pixels : List ℕ)
    → length (transfer true memory id rect offset width height backings pixels).0 ≡ length pixels
unfolding transfer
length-transfer memory id rect offset width height backings pixels =
    length-unless (refusal_of (transfer_refusals true id rect offset width height backings)) pixels (transferred memory (entries_at id backings) rect offset width pixels)
    (length-filled (bytes_of_rect rect) (4 * width) _ pixels)

-- as many bytes written over what was lent are all of it
pub all-written : (old new : List ℕ) (n : ℕ) → length new ≡ n → take n (new ++ drop (length new) old) ≡ new
all-written old new n same = ap (λ n. take n (new ++ drop (length new) old)) (sym same) ∙ take-append_seam new (drop (length new) old)

pub received-lent : (memory : Memory) (id : ℕ) (rect : Rect) (offset : ℕ) (backings : List (ℕ × List MemEntry)) (resources : List (ℕ × Resource)) (resource : Resource) (pixels new : List ℕ) (done : Result (Unit {0}) ℕ)
    → resource_at id resources ≡ Some resource → Some pixels ≡ pixels_at id resources
    → ◌≡◌ {A = List ℕ × Result (Unit {0}) ℕ} (new, done) (transfer true memory id rect offset resource.width resource.height backings pixels)
    → ◌≡◌ {A = List (ℕ × Resource) × Result (Unit {0}) ℕ} (with_pixels id resource new resources, done) (receive memory id rect offset backings resources)
received-lent memory id rect offset backings resources resource pixels new done found lent step =
    let was : pixels ≡ resource.pixels = some-same (lent ∙ ap (option_map (λ (r : Resource). r.pixels)) found) in
    let after = step ∙ ap (λ xs. transfer true memory id rect offset resource.width resource.height backings xs) was in
    ap (λ (pair : List ℕ × Result (Unit {0}) ℕ). (with_pixels id resource pair.0 resources, pair.1)) after
    ∙ received-some memory id rect offset backings resources resource found

-- a transfer leaves as many bytes
pub as-many : (memory : Memory) (id : ℕ) (rect : Rect) (offset width height : ℕ) (backings : List (ℕ × List MemEntry)) (pixels new : List ℕ) (done : Result (Unit {0}) ℕ)
    → ◌≡◌ {A = List ℕ × Result (Unit {0}) ℕ} (new, done) (transfer true memory id rect offset width height backings pixels)
    → length new ≡ length pixels
as-many memory id rect offset width height backings pixels new done step =
    ap (λ (pair : List ℕ × Result (Unit {0}) ℕ). length pair.0) step ∙ length-transfer memory id rect offset width height backings pixels

-- ---- what is lent and brought back

again-by : {X : Type 0} (test : ℕ → Bool) (t : Bool) (e : ℕ × X) (es : List (ℕ × X)) (a b : X) → test e.0 ≡ t → set_value test (set_value test es a) b ≡ set_value test es b
    → set_value test (cond t ((e.0, a) ∷ es) (e ∷ set_value test es a)) b ≡ cond t ((e.0, b) ∷ es) (e ∷ set_value test es b)
again-by test true e es a b is same = ap (λ t. cond t ((e.0, b) ∷ es) ((e.0, a) ∷ set_value test es b)) is
again-by test false e es a b is same =
    ap (λ t. cond t ((e.0, b) ∷ set_value test es a) (e ∷ set_value test (set_value test es a) b)) is ∙ ap (λ l. e ∷ l) same

set-again : {X : Type 0} (test : ℕ → Bool) (es : List (ℕ × X)) (a b : X) → set_value test (set_value test es a) b ≡ set_value test es b
set-again test [] a b = refl
set-again test (e ∷ es) a b = again-by test (test e.0) e es a b refl (set-again test es a b)

same-here : (id : ℕ) (lent : List (ℕ × Bool)) (found : Option Bool) → lookup (is_at (nat_cmp id)) lent ≡ found → flag_is_here found ≡ true → with_lent id false lent ≡ lent
same-here id lent (Some false) is here = set_value_same (is_at (nat_cmp id)) lent false is
same-here id lent (Some true) is here = cc
same-here id lent None is here = cc

pub here-again : (id : ℕ) (lent : List (ℕ × Bool)) → is_here id lent ≡ true → with_lent id false (with_lent id true lent) ≡ lent
here-again id lent here = set-again (is_at (nat_cmp id)) lent true false ∙ same-here id lent (lookup (is_at (nat_cmp id)) lent) refl here

same-not : (id : ℕ) (lent : List (ℕ × Bool)) (found : Option Bool) → lookup (is_at (nat_cmp id)) lent ≡ found → flag_is_here found ≡ false → with_lent id true lent ≡ lent
same-not id lent (Some false) is none = cc
same-not id lent (Some true) is none = set_value_same (is_at (nat_cmp id)) lent true is
same-not id lent None is none = told-none (is_at (nat_cmp id)) lent true is

pub not-here : (id : ℕ) (lent : List (ℕ × Bool)) → is_here id lent ≡ false → with_lent id true lent ≡ lent
not-here id lent none = same-not id lent (lookup (is_at (nat_cmp id)) lent) refl none
