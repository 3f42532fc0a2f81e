-- Free pages, counted and listed from the first page on.
use Rattle.std.proofs.Common.{◌≡◌, ◌≢◌, ℕ, ◌+◌, ◌<◌, ◌≤◌, Bool, true, false, not, cond, zero, suc, refl, inl, inr, min, slice_index_or, List, [], ◌∷◌, ◌++◌, length, take, drop, sym, ap, ◌∙◌, arith}
use Rattle.std.specs.List.{filter, range_with_len, All, AllPairs}
use Rattle.std.proofs.lemmas.List.{map-id, take_at, take_all, take-append-drop, get_or_default, append-nil, length_push, length-take, get_or-take}
use Rattle.std.proofs.lemmas.List.Elements.{filter-append, All-filter, All-take}
use Rattle.std.proofs.lemmas.List.Kept.{AllPairs-filter}
use Rattle.std.proofs.lemmas.List.FromFn.{length-range_with_len, get_or-range_with_len, take-map-range_with_len}
use Rattle.std.proofs.lemmas.Bool.{cases_lt}
use Rattle.vg_laws.proofs.Lists.{range-more}
use Rattle.vg_pages.specs.Memory.{AreTakenBelow, is_free, free_pages}

-- the free pages among the first i
abbrev pub free_below : List Bool → ℕ → List ℕ
free_below taken i = filter (is_free taken) (range_with_len 0 i)

range-take : (n i : ℕ) → i ≤ n → take i (range_with_len 0 n) ≡ range_with_len 0 i
range-take n i within =
    ap (take i) (sym (map-id (range_with_len 0 n))) ∙ take-map-range_with_len (λ k. k) 0 n i within ∙ map-id (range_with_len 0 i)

pub free_below_more : (taken : List Bool) (i : ℕ) → free_below taken (i + 1) ≡ free_below taken i ++ cond (is_free taken i) (i ∷ []) []
free_below_more taken i = ap (filter (is_free taken)) (range-more i) ∙ filter-append (is_free taken) (range_with_len 0 i) (i ∷ [])

-- none of the first is free
pub none-below : (taken : List Bool) (i : ℕ) → AreTakenBelow taken i → free_below taken i ≡ []
none-below taken zero are = refl
none-below taken (suc i) are =
    let next : suc i ≡ i + 1 = omega arith in
    ap (free_below taken) next ∙ free_below_more taken i
    ∙ ap (λ b. free_below taken i ++ cond b (i ∷ []) []) (are.each i (omega arith))
    ∙ append-nil (free_below taken i)
    ∙ none-below taken i (record { each = λ page below. are.each page (omega (arith, below)) })

-- one page more is taken
pub taken-more : (taken : List Bool) (i : ℕ) → i < length taken → slice_index_or taken i false ≡ true → AreTakenBelow taken i → AreTakenBelow taken (i + 1)
taken-more taken i within read are = record {
  each = λ page below.
      elim (cases_lt page i) [
        | inl less ↦ are.each page less
        | inr more ↦
            let same : page ≡ i = omega (arith, below, more) in
            ap (is_free taken) same ∙ ap not (get_or_default taken i true false within ∙ read)
      ];
}

pub free_pages-from : (taken : List Bool) (i : ℕ) → i ≤ length taken → free_pages taken ≡ free_below taken i ++ filter (is_free taken) (drop i (range_with_len 0 (length taken)))
free_pages-from taken i within =
    let all = range_with_len 0 (length taken) in
    ap (filter (is_free taken)) (sym (take-append-drop i all)) ∙ filter-append (is_free taken) (take i all) (drop i all)
    ∙ ap (λ front. filter (is_free taken) front ++ filter (is_free taken) (drop i all)) (range-take (length taken) i within)

-- the first i pages have n free ones, which are the lowest
pub lowest-full : (taken : List Bool) (i n : ℕ) → i ≤ length taken → length (free_below taken i) ≡ n → free_below taken i ≡ take n (free_pages taken)
lowest-full taken i n within many =
    sym (ap (take n) (free_pages-from taken i within) ∙ take_at (free_below taken i) _ n many)

-- all pages have at most n free ones
pub lowest-all : (taken : List Bool) (n : ℕ) → length (free_pages taken) ≤ n → free_pages taken ≡ take n (free_pages taken)
lowest-all taken n few = sym (take_all n (free_pages taken) few)

pub free_below_yes : (taken : List Bool) (i : ℕ) → i < length taken → slice_index_or taken i false ≡ false → free_below taken (i + 1) ≡ free_below taken i ++ i ∷ []
free_below_yes taken i within read =
    let free : is_free taken i ≡ true = ap not (get_or_default taken i true false within ∙ read) in
    free_below_more taken i ∙ ap (λ b. free_below taken i ++ cond b (i ∷ []) []) free

pub free_below_no : (taken : List Bool) (i : ℕ) → i < length taken → slice_index_or taken i false ≡ true → free_below taken (i + 1) ≡ free_below taken i
free_below_no taken i within read =
    let kept : is_free taken i ≡ false = ap not (get_or_default taken i true false within ∙ read) in
    free_below_more taken i ∙ ap (λ b. free_below taken i ++ cond b (i ∷ []) []) kept ∙ append-nil (free_below taken i)

pub length-free_below_yes : (taken : List Bool) (i : ℕ) → i < length taken → slice_index_or taken i false ≡ false → length (free_below taken (i + 1)) ≡ length (free_below taken i) + 1
length-free_below_yes taken i within read = ap length (free_below_yes taken i within read) ∙ length_push (free_below taken i) i

-- the free pages among the first i are among the first i
pub below-inside : (taken : List Bool) (i : ℕ) → All (λ page. page < i) (free_below taken i)
below-inside taken i =
    let all = range_with_len 0 i in
    let inside : All (λ page. page < i) all =
    λ k d within.
    let short : k < i = omega (arith, within, length-range_with_len 0 i) in
    omega (arith, short, get_or-range_with_len 0 i k d short)
    in
    All-filter (is_free taken) (λ page. page < i) all inside

-- the lowest free pages are pages, and no two are one
pub lowest-inside : (taken : List Bool) (n : ℕ) → All (λ page. page < length taken) (take n (free_pages taken))
lowest-inside taken n = All-take (λ page. page < length taken) n (free_pages taken) (below-inside taken (length taken))

pub lowest-apart : (taken : List Bool) (n : ℕ) → AllPairs (λ one other. one ≢ other) (take n (free_pages taken))
lowest-apart taken n =
    let all = range_with_len 0 (length taken) in
    let apart : AllPairs (λ one other. one ≢ other) all =
    λ i j d order within.
    let short : j < length taken = omega (arith, within, length-range_with_len 0 (length taken)) in
    let low : i < length taken = omega (arith, short, order) in
    λ same. omega (arith, same, order, get_or-range_with_len 0 (length taken) i d low, get_or-range_with_len 0 (length taken) j d short)
    in
    let kept = AllPairs-filter (λ one other. one ≢ other) (is_free taken) all apart in
    λ i j d order within.
    let bound : j < min n (length (free_pages taken)) = omega (arith, within, length-take n (free_pages taken)) in
    λ same.
    kept i j d order (omega (arith, bound))
    (sym (get_or-take n (free_pages taken) i d (omega (arith, bound, order))) ∙ same ∙ get_or-take n (free_pages taken) j d (omega (arith, bound)))
