-- Pages by their flags, and ranges of pages.
use Rattle.std.proofs.Common.{◌≡◌, ℕ, ◌==◌, ◌||◌, ◌&&◌, ◌<◌, ◌≤◌, Bool, true, false, List, [], ◌∷◌, get_or, refl, sym, ap, ◌∙◌, arith, true≢false}
use Rattle.std.specs.Prelude.{nat_le, nat_lt}
use Rattle.std.proofs.lemmas.Bool.Decides.{nat_tests}
use Rattle.vg_pages.specs.Lending.{AreFlagged, is_flagged}
use Rattle.std.specs.List.{list_any}
use Rattle.std.proofs.lemmas.Bool.{eq-eqb, eqb-true}
use Rattle.std.proofs.lemmas.List.Folds.{Any-from_list_any, list_any_at, list_any_none}
use Rattle.vg_laws.proofs.Bools.{or-false}
use Rattle.vg_pages.specs.Memory.{is_among}

-- a page that is among them passes the test
pub any-of : (test : ℕ → Bool) (pages : List ℕ) (page : ℕ) → is_among pages page ≡ true → test page ≡ true → list_any test pages ≡ true
any-of test pages page among passes =
    let (i, one, inside, at, is) = Any-from_list_any (λ one. one == page) pages among in
    list_any_at test pages i one inside (ap test (at ∙ eqb-true one page is) ∙ passes)

-- no page that passes the test is among them
pub none-of : (test : ℕ → Bool) (pages : List ℕ) → ((page : ℕ) → is_among pages page ≡ true → test page ≡ false) → list_any test pages ≡ false
none-of test pages none = list_any_none test pages (λ k d within. none (get_or pages k d) (list_any_at (λ one. one == get_or pages k d) pages k d within (eq-eqb (get_or pages k d) (get_or pages k d) refl)))

-- what passes one test passes the other
pub any-more : (one other : ℕ → Bool) (pages : List ℕ) → ((page : ℕ) → one page ≡ true → other page ≡ true) → list_any one pages ≡ true → list_any other pages ≡ true
any-more one other pages more any =
    let (i, page, inside, at, is) = Any-from_list_any one pages any in
    list_any_at other pages i page inside (ap other at ∙ more page is)

-- a page passes one of two tests, or the other
pub none-both : (one other both : ℕ → Bool) (pages : List ℕ) → ((page : ℕ) → both page ≡ (one page || other page)) → list_any one pages ≡ false → list_any other pages ≡ false
    → list_any both pages ≡ false
none-both one other both [] is first second = refl
none-both one other both (page ∷ pages) is first second =
    let (not_one, no_ones) = or-false (one page) (list_any one pages) first in
    let (not_other, no_others) = or-false (other page) (list_any other pages) second in
    ap (λ b. b || list_any both pages) (is page ∙ ap (λ b. b || other page) not_one ∙ not_other) ∙ none-both one other both pages is no_ones no_others

-- no flag in a range is set
pub none-between : (first end : ℕ) (flags : List Bool) (pages : List ℕ) → AreFlagged flags pages → ((k : ℕ) → first ≤ k → k < end → is_flagged flags k ≡ false)
    → list_any (λ page. nat_le first page && nat_lt page end) pages ≡ false
none-between first end flags pages are none = none-of (λ page. nat_le first page && nat_lt page end) pages (λ page among. out page (sym (among) ∙ sym (are.each page)))
  where
    out : (page : ℕ) → true ≡ is_flagged flags page → (nat_le first page && nat_lt page end) ≡ false
    out page set = by_test (nat_le first page && nat_lt page end) refl
      where
        by_test : (b : Bool) → (nat_le first page && nat_lt page end) ≡ b → (nat_le first page && nat_lt page end) ≡ false
        by_test false is = is
        by_test true is =
            let low : first ≤ page = grind (arith, nat_tests, is) in
            let high : page < end = grind (arith, nat_tests, is) in
            absurd (true≢false (set ∙ none page low high))
