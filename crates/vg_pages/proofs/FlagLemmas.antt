-- Flags of free pages, one page after another.
use Rattle.std.proofs.Common.{◌≡◌, ℕ, ◌+◌, ◌<◌, ◌≤◌, ◌||◌, Bool, true, false, List, [], ◌∷◌, length, take, drop, slice_index_or, sym, ap, ◌∙◌, refl, arith}
use Rattle.std.specs.List.{list_any}
use Rattle.std.proofs.lemmas.List.{take-take, take-append-drop}
use Rattle.std.proofs.lemmas.List.Folds.{list_any-append}
use Rattle.vg_laws.proofs.Bools.{left-true}
use Rattle.vg_pages.specs.Memory.{free_pages}
use Rattle.vg_pages.proofs.FreePages.{free_below, free_below_yes, length-free_below_yes, lowest-full}

or-last : (a b : Bool) → b ≡ true → (a || (b || false)) ≡ true
or-last true b is = refl
or-last false b is = ap (λ c. c || false) is

or-none : (a b : Bool) → a ≡ false → b ≡ false → (a || (b || false)) ≡ false
or-none a b one other = ap (λ c. c || (b || false)) one ∙ ap (λ c. c || false) other

-- what passes among the first passes among more
any-front : (f : ℕ → Bool) (m n : ℕ) (xs : List ℕ) → m ≤ n → list_any f (take m xs) ≡ true → list_any f (take n xs) ≡ true
any-front f m n xs few is =
    ap (list_any f) (sym (take-append-drop m (take n xs)))
    ∙ list_any-append f (take m (take n xs)) (drop m (take n xs))
    ∙ left-true (list_any f (take m (take n xs))) (list_any f (drop m (take n xs))) (ap (list_any f) (take-take m n xs few) ∙ is)

pub flagged-free : (f : ℕ → Bool) (taken : List Bool) (page n count : ℕ) → page < length taken → slice_index_or taken page false ≡ false
    → count ≡ length (free_below taken page) → count < n → f page ≡ true → true ≡ list_any f (take n (free_pages taken))
flagged-free f taken page n count inside free is few flagged =
    let more = free_below_yes taken page inside free in
    let full = lowest-full taken (page + 1) (count + 1) (omega (arith, inside)) (omega (arith, length-free_below_yes taken page inside free, is)) in
    sym (any-front f (count + 1) n (free_pages taken) (omega (arith, few))
    (ap (list_any f) (sym full) ∙ ap (list_any f) more ∙ list_any-append f (free_below taken page) (page ∷ []) ∙ or-last (list_any f (free_below taken page)) (f page) flagged))

pub none-flagged : (f : ℕ → Bool) (taken : List Bool) (page : ℕ) → page < length taken → slice_index_or taken page false ≡ false
    → list_any f (free_below taken page) ≡ false → f page ≡ false → list_any f (free_below taken (page + 1)) ≡ false
none-flagged f taken page inside free none flagged =
    ap (list_any f) (free_below_yes taken page inside free) ∙ list_any-append f (free_below taken page) (page ∷ []) ∙ or-none (list_any f (free_below taken page)) (f page) none flagged
