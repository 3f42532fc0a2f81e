-- What a list is, from what stands at each of its places.
use Rattle.std.proofs.Common.{◌≡◌, ℕ, ◌<◌, List, Some, length, get_or, slice_get, sym, ap, ◌∙◌, arith}
use Rattle.std.specs.Prelude.{unwrap_or}
use Rattle.std.proofs.lemmas.List.{same_lists}
use Rattle.std.proofs.lemmas.List.FromFn.{length-map-range_with_len, get_or-map-range_with_len, fill_by_all}
use Rattle.std.proofs.lemmas.Option.{unwrap_or-slice_get, slice_get-get_or}
use Rattle.vg_places.specs.Places.{tabulate}

pub same_from_places : {X : Type 0} (xs ys : List X) → length xs ≡ length ys → ((k : ℕ) → k < length xs → slice_get xs k ≡ slice_get ys k) → xs ≡ ys
same_from_places xs ys long agree =
    same_lists xs ys long (λ k d within.
    sym (unwrap_or-slice_get xs k d) ∙ ap (λ found. unwrap_or found d) (agree k within) ∙ unwrap_or-slice_get ys k d)

pub length-tabulate : {X : Type 0} (f : ℕ → X) → (n : ℕ) → length (tabulate n f) ≡ n
length-tabulate f n = length-map-range_with_len f 0 n

pub get_or-tabulate : {X : Type 0} (f : ℕ → X) → (n k : ℕ) (d : X) → k < n → get_or (tabulate n f) k d ≡ f k
get_or-tabulate f n k d within = get_or-map-range_with_len f 0 n k k d within (omega arith)

pub slice_get-tabulate : {X : Type 0} (f : ℕ → X) → (n k : ℕ) → k < n → slice_get (tabulate n f) k ≡ Some (f k)
slice_get-tabulate f n k within =
    let inside : k < length (tabulate n f) = omega (arith, length-tabulate f n) in
    slice_get-get_or (tabulate n f) k (f k) inside ∙ ap Some (get_or-tabulate f n k (f k) within)

-- a list of n elements that has f k at each place k
pub tabulate_from_places : {X : Type 0} (f : ℕ → X) (xs : List X) (n : ℕ) (d : X) → length xs ≡ n → ((k : ℕ) → k < n → get_or xs k d ≡ f k) → xs ≡ tabulate n f
tabulate_from_places f xs n d long at = fill_by_all f xs n d long at
