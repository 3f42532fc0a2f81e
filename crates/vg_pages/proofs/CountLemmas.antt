-- How many pages are free, as pages are taken and given back.
use Rattle.std.proofs.Common.{◌≡◌, ◌≢◌, ℕ, zero, suc, ◌+◌, ◌<◌, ◌≤◌, ◌==◌, Bool, true, false, not, cond, List, [], ◌∷◌, length, get_or, slice_index_or, set, take, replicate, refl, sym, ap, ◌∙◌, arith}
use Rattle.std.proofs.lemmas.Bool.{ne_eqb}
use Rattle.std.proofs.lemmas.List.{get_or_default, get_or-take, length-append, length-take, take_all}
use Rattle.std.proofs.lemmas.List.Folds.{list_any_none}
use Rattle.std.proofs.lemmas.Option.{get_or_from_slice_get}
use Rattle.vg_places.proofs.Places.{get_or-tabulate}
use Rattle.vg_pages.specs.Memory.{AreGivable, AreTakeable, is_among, free_pages, marked}
use Rattle.vg_pages.proofs.FreePages.{free_below, free_below_more}
use Rattle.vg_pages.proofs.Marked.{inside_from_slice_get, marked_more, marked_none, takeable-inside}

-- how many flags are false
frees : List Bool → ℕ
frees [] = 0
frees (flag ∷ more) = cond flag 0 1 + frees more

frees-next : (flags : List Bool) (i : ℕ) → i < length flags → frees (take (suc i) flags) ≡ frees (take i flags) + cond (slice_index_or flags i true) 0 1
unfolding frees
frees-next [] i within = absurd (omega (arith, within))
frees-next (flag ∷ more) zero within = omega arith
frees-next (flag ∷ more) (suc i) within = omega (arith, frees-next more i (omega (arith, within)))

one-or-none : (flag : Bool) (i : ℕ) → length {A = ℕ} (cond (not flag) (i ∷ []) []) ≡ cond flag 0 1
one-or-none true i = refl
one-or-none false i = refl

frees-below : (taken : List Bool) (i : ℕ) → i ≤ length taken → length (free_below taken i) ≡ frees (take i taken)
unfolding frees
frees-below taken zero within = refl
frees-below taken (suc i) within =
    let next : suc i ≡ i + 1 = omega arith in
    let flag = slice_index_or taken i true in
    let more : length (free_below taken (suc i)) ≡ length (free_below taken i) + cond flag 0 1 =
    ap (λ n. length (free_below taken n)) next ∙ ap length (free_below_more taken i) ∙ length-append (free_below taken i) (cond (not flag) (i ∷ []) []) ∙ ap (λ n. length (free_below taken i) + n) (one-or-none flag i)
    in
    omega (arith, more, frees-below taken i (omega (arith, within)), frees-next taken i (omega (arith, within)))

-- the free pages are as many as flags are false
frees-all : (taken : List Bool) → length (free_pages taken) ≡ frees taken
frees-all taken = frees-below taken (length taken) (omega arith) ∙ ap frees (take_all (length taken) taken (omega arith))

frees-few : (flags : List Bool) → frees flags ≤ length flags
unfolding frees
frees-few [] = omega arith
frees-few (true ∷ more) = omega (arith, frees-few more)
frees-few (false ∷ more) = omega (arith, frees-few more)

frees-replicate : (n : ℕ) → frees (replicate n false) ≡ n
unfolding frees
frees-replicate zero = refl
frees-replicate (suc n) = omega (arith, frees-replicate n)

frees-taken : (flags : List Bool) (page : ℕ) → slice_index_or flags page true ≡ false → frees (set flags page true) + 1 ≡ frees flags
unfolding frees
frees-taken [] page is = cc
frees-taken (flag ∷ more) zero is = omega (arith, ap {B = ℕ} (λ (b : Bool). cond b 0 1) is)
frees-taken (flag ∷ more) (suc page) is = omega (arith, frees-taken more page is)

frees-given : (flags : List Bool) (page : ℕ) → slice_index_or flags page false ≡ true → frees (set flags page false) ≡ frees flags + 1
unfolding frees
frees-given [] page is = cc
frees-given (flag ∷ more) zero is = omega (arith, ap {B = ℕ} (λ (b : Bool). cond b 0 1) is)
frees-given (flag ∷ more) (suc page) is = omega (arith, frees-given more page is)

-- a page is none of those in front of it
not-before : (pages : List ℕ) (i : ℕ) → i < length pages → ((j k d : ℕ) → j < k → k < length pages → get_or pages j d ≢ get_or pages k d) → is_among (take i pages) (get_or pages i 0) ≡ false
not-before pages i within differ =
    list_any_none (λ one. one == get_or pages i 0) (take i pages)
    (λ k d inside.
    let before : k < i = omega (arith, inside, length-take i pages) in
    ne_eqb (get_or (take i pages) k d) (get_or pages i 0)
    (λ same. differ k i 0 before within (get_or_default pages k 0 d (omega (arith, before, within)) ∙ sym (get_or-take i pages k d before) ∙ same)))

taken-so-far : (taken : List Bool) (pages : List ℕ) → AreTakeable taken pages → (i : ℕ) → i ≤ length pages → frees (marked (take i pages) true taken) + i ≡ frees taken
unfolding marked
taken-so-far taken pages are zero few = omega (arith, ap frees (marked_none true taken))
taken-so-far taken pages are (suc i) few =
    let page = get_or pages i 0 in
    let front = take i pages in
    let within : i < length pages = omega (arith, few) in
    let inside : page < length taken = takeable-inside taken pages are i 0 within in
    let was : slice_index_or taken page true ≡ false = not-true (slice_index_or taken page true) (are.all_free i 0 within) in
    let apart = not-before pages i within are.differ in
    let read : slice_index_or (marked front true taken) page true ≡ false =
    get_or-tabulate (λ place. cond (is_among front place) true (slice_index_or taken place true)) (length taken) page true inside
    ∙ ap (λ b. cond b true (slice_index_or taken page true)) apart ∙ was
    in
    let next : suc i ≡ i + 1 = omega arith in
    let all : frees (marked (take (suc i) pages) true taken) ≡ frees (set (marked front true taken) page true) =
    ap (λ n. frees (marked (take n pages) true taken)) next ∙ ap frees (sym (marked_more pages true taken i within inside))
    in
    omega (arith, all, frees-taken (marked front true taken) page read, taken-so-far taken pages are i (omega (arith, few)))
  where
    not-true : (flag : Bool) → not flag ≡ true → flag ≡ false
    not-true true is = sym is
    not-true false is = refl

given-so-far : (taken : List Bool) (pages : List ℕ) → AreGivable taken pages → (i : ℕ) → i ≤ length pages → frees (marked (take i pages) false taken) ≡ frees taken + i
unfolding marked
given-so-far taken pages are zero few = omega (arith, ap frees (marked_none false taken))
given-so-far taken pages are (suc i) few =
    let page = get_or pages i 0 in
    let front = take i pages in
    let within : i < length pages = omega (arith, few) in
    let there : page < length taken = inside_from_slice_get taken page true (are.all_taken i 0 within) in
    let was : slice_index_or taken page false ≡ true = get_or_from_slice_get taken page true false (are.all_taken i 0 within) in
    let apart = not-before pages i within are.differ in
    let read : slice_index_or (marked front false taken) page false ≡ true =
    get_or-tabulate (λ place. cond (is_among front place) false (slice_index_or taken place false)) (length taken) page false there
    ∙ ap (λ b. cond b false (slice_index_or taken page false)) apart ∙ was
    in
    let next : suc i ≡ i + 1 = omega arith in
    let all : frees (marked (take (suc i) pages) false taken) ≡ frees (set (marked front false taken) page false) =
    ap (λ n. frees (marked (take n pages) false taken)) next ∙ ap frees (sym (marked_more pages false taken i within there))
    in
    omega (arith, all, frees-given (marked front false taken) page read, given-so-far taken pages are i (omega (arith, few)))

-- pages that are taken are free no more
pub count-taken : (taken : List Bool) (pages : List ℕ) → AreTakeable taken pages → length (free_pages (marked pages true taken)) + length pages ≡ length (free_pages taken)
count-taken taken pages are =
    let all = ap (λ ps. frees (marked ps true taken)) (take_all (length pages) pages (omega arith)) in
    omega (arith, all, frees-all taken, frees-all (marked pages true taken), taken-so-far taken pages are (length pages) (omega arith))

-- pages that are given back are free again
pub count-given : (taken : List Bool) (pages : List ℕ) → AreGivable taken pages → length (free_pages (marked pages false taken)) ≡ length (free_pages taken) + length pages
count-given taken pages are =
    let all = ap (λ ps. frees (marked ps false taken)) (take_all (length pages) pages (omega arith)) in
    omega (arith, all, frees-all taken, frees-all (marked pages false taken), given-so-far taken pages are (length pages) (omega arith))

-- there are no more than pages
pub few-free : (taken : List Bool) → length (free_pages taken) ≤ length taken
few-free taken = omega (arith, frees-all taken, frees-few taken)

-- all pages are free at first
pub all-free : (n : ℕ) → length (free_pages (replicate n false)) ≡ n
all-free n = frees-all (replicate n false) ∙ frees-replicate n
