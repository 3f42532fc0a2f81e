-- Laws of lists.
use Rattle.std.proofs.Common.{◌≡◌, ℕ, ◌+◌, ◌≤◌, List, ◌++◌, length, take, drop, sym, ap, ◌∙◌, append_assoc, arith, zero, suc, get_or, replicate, refl, [], ◌∷◌, ◌<◌, Some, subst, true, rules}
use Rattle.std.proofs.Math.Seq.{take-add, take-append_seam, drop-append_seam}
use Rattle.std.proofs.lemmas.List.{length-take, drop-drop, map-id}
use borrow.Rule.Slice.PartMut.{put_mid}
use Rattle.std.specs.List.{range_with_len, All}
use Rattle.std.proofs.lemmas.List.FromFn.{map-range_with_len_more}
use Rattle.std.specs.Prelude.{slice_get, bytes_eq}
use Rattle.std.proofs.lemmas.Option.{get_or_from_slice_get, slice_get_within}
use Rattle.std.proofs.lemmas.Slice.Eq.{bytes_eq-Decides}

-- what is read on stands behind what was read
pub more-written : (xs old part : List ℕ) (done n : ℕ) → done + n ≤ length xs → done ≤ length old → part ≡ take n (drop done xs)
    → put_mid done n (take done xs ++ drop done old) part ≡ take (done + n) xs ++ drop (done + n) old
more-written xs old part done n fits room same =
    let front = take done xs in
    let long : length front ≡ done = omega (arith, length-take done xs) in
    let before : take done (front ++ drop done old) ≡ front = ap (λ m. take m (front ++ drop done old)) (sym long) ∙ take-append_seam front (drop done old) in
    let after : drop done (front ++ drop done old) ≡ drop done old = ap (λ m. drop m (front ++ drop done old)) (sym long) ∙ drop-append_seam front (drop done old) in
    ap (λ ys. ys ++ (part ++ drop n (drop done (front ++ drop done old)))) before
    ∙ ap (λ ys. front ++ (part ++ drop n ys)) after
    ∙ ap (λ ys. front ++ (part ++ ys)) (drop-drop n done old)
    ∙ ap (λ ys. front ++ (ys ++ drop (done + n) old)) same
    ∙ sym (append_assoc front (take n (drop done xs)) (drop (done + n) old))
    ∙ ap (λ ys. ys ++ drop (done + n) old) (sym (take-add done n xs))

pub zeros-at : (n i : ℕ) → ◌≡◌ {A = ℕ} (get_or (replicate n 0) i 0) 0
zeros-at zero i = refl
zeros-at (suc n) zero = refl
zeros-at (suc n) (suc i) = zeros-at n i

pub range-more : (i : ℕ) → range_with_len 0 (i + 1) ≡ range_with_len 0 i ++ i ∷ []
range-more i =
    sym (map-id (range_with_len 0 (i + 1))) ∙ map-range_with_len_more (λ k. k) 0 i i (omega arith)
    ∙ ap (λ front. front ++ i ∷ []) (map-id (range_with_len 0 i))

pub range-suc : (first count : ℕ) → range_with_len first count ++ (first + count) ∷ [] ≡ range_with_len first (suc count)
range-suc first zero = let e : first + 0 ≡ first = omega arith in ap (λ (n : ℕ). n ∷ []) e
range-suc first (suc count) =
    let e : first + suc count ≡ (first + 1) + count = omega arith in
    ap (λ (n : ℕ). first ∷ (range_with_len (first + 1) count ++ n ∷ [])) e ∙ ap (λ (rest : List ℕ). first ∷ rest) (range-suc (first + 1) count)

pub get-front : {X : Type 0} (xs more : List X) (k : ℕ) → k < length xs → slice_get (xs ++ more) k ≡ slice_get xs k
get-front [] more k within = absurd (omega arith)
get-front (x ∷ xs) more zero within = refl
get-front (x ∷ xs) more (suc k) within = get-front xs more k (omega arith)

-- what holds of each element holds of one that is found
pub holds-at : {X : Type 0} (P : X → Type 0) (xs : List X) (k : ℕ) (x : X) → All P xs → slice_get xs k ≡ Some x → P x
holds-at P xs k x all at = subst P (get_or_from_slice_get xs k x x at) (all k x (slice_get_within xs k x at))

pub all_one : {X : Type 0} (P : X → Type 0) (x : X) → P x → All P (x ∷ [])
all_one P x h zero d lt = h
all_one P x h (suc k) d lt = absurd (omega arith)

pub same_bytes : (a b : List ℕ) → bytes_eq a b ≡ true → a ≡ b
same_bytes a b h = search (rules, bytes_eq-Decides)
