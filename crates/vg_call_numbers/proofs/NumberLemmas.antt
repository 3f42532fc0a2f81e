-- The numbers that are used, by the gaps between them.
use Rattle.std.proofs.Common.{◌≡◌, ◌≤◌, ◌<◌, ◌==◌, ◌&&◌, ◌||◌, ℕ, Bool, true, false, not, nat_le, nat_lt, List, [], ◌∷◌, Some, length, get_or, refl, sym, ap, subst, arith}
use Rattle.std.specs.BTreeMap.{BTreeMap, get}
use Rattle.std.specs.Ordering.{nat_cmp}
use Rattle.std.proofs.lemmas.Bool.Decides.{nat_tests}
use Rattle.std.proofs.lemmas.Cmp.{nat_cmp_total}
use Rattle.std.proofs.lemmas.Map.Lookups.{exact_unsigned}
use Rattle.std.proofs.lemmas.Map.Views.{btree_map_get_iff}
use Rattle.vg_call_numbers.specs.Numbers.{AreAllUsed, IsAdded, IsGreatest, UsedNumbers, is_in_gap, is_used}
use Rattle.vg_call_numbers.specs.GapsWithin.{AreApart, AreBelow, IsOpened}
use Rattle.vg_call_numbers.proofs.GapLemmas.{in-gap, none-from}

abbrev pub numbers_of : ℕ → BTreeMap ℕ ℕ → UsedNumbers
numbers_of top gaps = record { top = top; gaps = gaps.entries }

-- ---- a number is added

above-is : (top number n : ℕ) (was is : Bool) → top < number → (top < n → was ≡ false) → is ≡ ((nat_lt top n && nat_lt n number) || was)
    → (nat_le 1 n && (nat_le n number && not is)) ≡ (n == number || (nat_le 1 n && (nat_le n top && not was)))
above-is top number n true is above none opened = grind (arith, nat_tests)
above-is top number n false is above none opened = grind (arith, nat_tests)

pub added-above : (old new : BTreeMap ℕ ℕ) (top number : ℕ) → AreApart old → AreBelow old top → top < number → IsOpened old top number new
    → IsAdded (numbers_of top old) number (numbers_of number new)
added-above old new top number apart below above opened = record {
  used = λ n. above-is top number n (is_in_gap n old.entries) (is_in_gap n new.entries) above (λ more. none-from old top n apart below (omega arith)) (opened.each n);
  top = omega arith;
}

-- ---- the greatest one

pub used-within : (numbers : UsedNumbers) (n : ℕ) → is_used numbers n ≡ true → (1 ≤ n) × (n ≤ numbers.top)
used-within numbers n used = (grind (arith, nat_tests), grind (arith, nat_tests))

used-where : (top n : ℕ) (inside : Bool) → 1 ≤ n → n ≤ top → inside ≡ false → (nat_le 1 n && (nat_le n top && not inside)) ≡ true
used-where top n inside counted low none = grind (arith, nat_tests)

pub greatest : (gaps : BTreeMap ℕ ℕ) (top : ℕ) → AreApart gaps → AreBelow gaps top → IsGreatest (numbers_of top gaps) top
greatest gaps top apart below = record {
  within = used-within (numbers_of top gaps);
  used = λ counted. used-where top top (is_in_gap top gaps.entries) counted (omega arith) (none-from gaps top top apart below (omega arith));
}

-- ---- all of them

pub all-used : (gaps : BTreeMap ℕ ℕ) (top : ℕ) → gaps.entries ≡ [] → AreAllUsed (numbers_of top gaps)
all-used gaps top none = record {
  each = λ n counted low. used-where top n (is_in_gap n gaps.entries) counted low (ap (is_in_gap n) none);
}

not-used : (top n : ℕ) (inside : Bool) → inside ≡ true → (nat_le 1 n && (nat_le n top && not inside)) ≡ false
not-used top n inside there = grind (arith, nat_tests)

head-kept : (gaps : BTreeMap ℕ ℕ) (gap : ℕ × ℕ) (more : List (ℕ × ℕ)) → AreApart gaps → gaps.entries ≡ gap ∷ more → get nat_cmp gaps gap.0 ≡ Some gap.1
head-kept gaps gap more apart are =
    (btree_map_get_iff nat_cmp_total exact_unsigned gaps apart.rising gap.0 gap.1).1 (0, subst (λ es. 0 < length es) (sym are) (omega arith), ap (λ es. get_or es 0 gap) are)

no-first : (gaps : BTreeMap ℕ ℕ) (top : ℕ) (gap : ℕ × ℕ) (more : List (ℕ × ℕ)) → AreApart gaps → AreBelow gaps top
    → AreAllUsed (numbers_of top gaps) → gaps.entries ≡ gap ∷ more → ⊥
no-first gaps top gap more apart below all are =
    let kept = head-kept gaps gap more apart are in
    let inside = below.each gap.0 gap.1 kept in
    let there = in-gap gaps apart.rising gap.0 (record { first = gap.0; last = gap.1; kept = kept; low = omega arith; high = inside.1 }) in
    let used = all.each gap.0 inside.0 (omega arith) in
    let unused = not-used top gap.0 (is_in_gap gap.0 gaps.entries) there in cc

no-gaps : (entries : List (ℕ × ℕ)) → ((gap : ℕ × ℕ) (more : List (ℕ × ℕ)) → entries ≡ gap ∷ more → ⊥) → entries ≡ []
no-gaps [] none = refl
no-gaps (gap ∷ more) none = absurd (none gap more refl)

pub gapless : (gaps : BTreeMap ℕ ℕ) (top : ℕ) → AreApart gaps → AreBelow gaps top → AreAllUsed (numbers_of top gaps) → gaps.entries ≡ []
gapless gaps top apart below all = no-gaps gaps.entries (λ gap more are. no-first gaps top gap more apart below all are)

pub none-there : (entries : List (ℕ × ℕ)) → length entries ≡ 0 → entries ≡ []
none-there [] none = refl
none-there (gap ∷ more) none = absurd (omega arith)
