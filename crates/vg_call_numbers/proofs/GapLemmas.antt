-- Gaps in a map, read by `get`.
use Rattle.std.proofs.Common.{◌≡◌, ◌≢◌, ◌≤◌, ◌<◌, ◌+◌, ◌-◌, ◌==◌, ◌&&◌, ◌||◌, ◌⊎◌, ℕ, Bool, true, false, not, nat_lt, Option, Some, None, IsSome, IfSome, is_some, inl, inr, ⊎_elim, refl, sym, ap, subst, ◌∙◌, arith}
use Rattle.std.specs.BTreeMap.{BTreeMap, IsOrdered, UpdatesBy, get, is_at}
use Rattle.std.specs.BTreeMap.Range.{IsEntryInRange, IsInRange}
use Rattle.std.specs.Ordering.{nat_cmp, is_gt, is_lt}
use Rattle.std.specs.declared.ops.Bound.TheVariants.{Included, Unbounded}
use Rattle.std.proofs.lemmas.Bool.{cases_eq, cases_lt, or_cases, or_left, or_right}
use Rattle.std.proofs.lemmas.Bool.Decides.{nat_tests, same_from_decides}
use Rattle.std.proofs.lemmas.Cmp.{nat_cmp_total}
use Rattle.std.proofs.lemmas.List.Folds.{Any-from_list_any, list_any-from_Any}
use Rattle.std.proofs.lemmas.Map.Lookups.{exact_unsigned}
use Rattle.std.proofs.lemmas.Map.Views.{btree_map_get_iff}
use Rattle.vg_call_numbers.specs.Numbers.{is_in_gap, is_within}
use Rattle.vg_call_numbers.specs.GapsWithin.{AreApart, AreBelow, IsFilled, IsGapOf, IsOpened, IsShortened, IsSplit}

-- a gap has this number
pub record HasGap (gaps : BTreeMap ℕ ℕ) (n : ℕ) : Type 0 where
  pub first : ℕ
  pub last : ℕ
  pub kept : get nat_cmp gaps first ≡ Some last
  pub low : first ≤ n
  pub high : n ≤ last

pub same-test : (a b : Bool) → (a ≡ true → b ≡ true) → (b ≡ true → a ≡ true) → a ≡ b
same-test a b to from = same_from_decides a b ((λ h. h), (λ h. h)) (from, to)

is-low : (n first last : ℕ) → is_within n (first, last) ≡ true → first ≤ n
is-low n first last within = grind (arith, nat_tests)

is-high : (n first last : ℕ) → is_within n (first, last) ≡ true → n ≤ last
is-high n first last within = grind (arith, nat_tests)

lies-within : (n first last : ℕ) → first ≤ n → n ≤ last → is_within n (first, last) ≡ true
lies-within n first last low high = grind (arith, nat_tests)

pub gap-in : (gaps : BTreeMap ℕ ℕ) → IsOrdered nat_cmp gaps → (n : ℕ) → is_in_gap n gaps.entries ≡ true → HasGap gaps n
gap-in gaps rising n inside =
    let any = Any-from_list_any (is_within n) gaps.entries inside in
    let found = (btree_map_get_iff nat_cmp_total exact_unsigned gaps rising any.1.0 any.1.1).1 (any.0, any.2, any.3) in
    record { first = any.1.0; last = any.1.1; kept = found; low = is-low n any.1.0 any.1.1 any.4; high = is-high n any.1.0 any.1.1 any.4 }

pub in-gap : (gaps : BTreeMap ℕ ℕ) → IsOrdered nat_cmp gaps → (n : ℕ) → HasGap gaps n → is_in_gap n gaps.entries ≡ true
in-gap gaps rising n has =
    let place = (btree_map_get_iff nat_cmp_total exact_unsigned gaps rising has.first has.last).0 has.kept in
    list_any-from_Any (is_within n) gaps.entries (place.0, (has.first, has.last), place.1, place.2, lies-within n has.first has.last has.low has.high)

-- no gap has a number that is behind the one before it
pub in-no-gap : (gaps : BTreeMap ℕ ℕ) → IsOrdered nat_cmp gaps → (n : ℕ) → (HasGap gaps n → ⊥) → is_in_gap n gaps.entries ≡ false
in-no-gap gaps rising n none = elim (is_in_gap n gaps.entries) as (λ b. (b ≡ true → ⊥) → b ≡ false) [ true ↦ (λ h. absurd (h refl)) | false ↦ (λ h. refl) ] (λ h. none (gap-in gaps rising n h))

-- a number that isn't below the greatest one lies in no gap
pub none-from : (gaps : BTreeMap ℕ ℕ) (top n : ℕ) → AreApart gaps → AreBelow gaps top → top ≤ n → is_in_gap n gaps.entries ≡ false
none-from gaps top n apart below above =
    in-no-gap gaps apart.rising n (λ has. let inside = below.each has.first has.last has.kept in omega (arith, has.high, inside.2))

one-last : (last end : ℕ) (found : Option ℕ) → found ≡ Some last → found ≡ Some end → last ≡ end
one-last last end found one other = cc

-- ---- a gap is opened above all others

opened-there : (old new : BTreeMap ℕ ℕ) (top number n : ℕ) → AreBelow old top
    → get nat_cmp new (top + 1) ≡ Some (number - 1) → ((q : ℕ) → q ≢ top + 1 → get nat_cmp new q ≡ get nat_cmp old q)
    → ((top < n) × (n < number)) ⊎ HasGap old n → HasGap new n
opened-there old new top number n below here others (inl between) =
    record { first = top + 1; last = number - 1; kept = here; low = omega arith; high = omega arith }
opened-there old new top number n below here others (inr has) =
    let inside = below.each has.first has.last has.kept in
    record { first = has.first; last = has.last; kept = others has.first (λ e. omega (arith, e)) ∙ has.kept; low = has.low; high = has.high }

opened-was : (old new : BTreeMap ℕ ℕ) (top number n : ℕ) → top + 1 < number
    → get nat_cmp new (top + 1) ≡ Some (number - 1) → ((q : ℕ) → q ≢ top + 1 → get nat_cmp new q ≡ get nat_cmp old q)
    → HasGap new n → ((top < n) × (n < number)) ⊎ HasGap old n
opened-was old new top number n room here others has =
    ⊎_elim
    (λ is. let end = one-last has.last (number - 1) (get nat_cmp new has.first) has.kept (ap (λ q. get nat_cmp new q) is ∙ here) in
    inl (omega (arith, is, has.low), omega (arith, end, has.high)))
    (λ apart. inr (record { first = has.first; last = has.last; kept = sym (others has.first apart) ∙ has.kept; low = has.low; high = has.high }))
    (cases_eq has.first (top + 1))

opened-apart : (old new : BTreeMap ℕ ℕ) (top number : ℕ) → AreApart old → AreBelow old top
    → get nat_cmp new (top + 1) ≡ Some (number - 1) → ((q : ℕ) → q ≢ top + 1 → get nat_cmp new q ≡ get nat_cmp old q)
    → (first last next end : ℕ) → get nat_cmp new first ≡ Some last → get nat_cmp new next ≡ Some end → first < next → last < next
opened-apart old new top number apart below here others first last next end one other rising =
    ⊎_elim
    (λ is. ⊎_elim
    (λ same. absurd (omega (arith, is, same)))
    (λ differ. let inside = below.each next end (sym (others next differ) ∙ other) in absurd (omega arith))
    (cases_eq next (top + 1)))
    (λ differs. let was : get nat_cmp old first ≡ Some last = sym (others first differs) ∙ one in
    let inside = below.each first last was in
    ⊎_elim
    (λ is. omega (arith, is))
    (λ differ. apart.apart first last next end was (sym (others next differ) ∙ other) rising)
    (cases_eq next (top + 1)))
    (cases_eq first (top + 1))

opened-below : (old new : BTreeMap ℕ ℕ) (top number : ℕ) → top + 1 < number → AreBelow old top
    → get nat_cmp new (top + 1) ≡ Some (number - 1) → ((q : ℕ) → q ≢ top + 1 → get nat_cmp new q ≡ get nat_cmp old q)
    → (first last : ℕ) → get nat_cmp new first ≡ Some last → (1 ≤ first) × (first ≤ last) × (last < number)
opened-below old new top number room below here others first last one =
    ⊎_elim
    (λ is. let end = one-last last (number - 1) (get nat_cmp new first) one (ap (λ q. get nat_cmp new q) is ∙ here) in
    (omega (arith, is), omega (arith, is, end), omega (arith, end)))
    (λ differs. let inside = below.each first last (sym (others first differs) ∙ one) in (inside.0, inside.1, omega arith))
    (cases_eq first (top + 1))

is-between : (top number n : ℕ) → (nat_lt top n && nat_lt n number) ≡ true → (top < n) × (n < number)
is-between top number n between = (grind (arith, nat_tests), grind (arith, nat_tests))

lies-between : (top number n : ℕ) → top < n → n < number → (nat_lt top n && nat_lt n number) ≡ true
lies-between top number n low high = grind (arith, nat_tests)

pub opened : (old new : BTreeMap ℕ ℕ) (top number : ℕ) → top + 1 < number → AreApart old → AreBelow old top → IsOrdered nat_cmp new
    → get nat_cmp new (top + 1) ≡ Some (number - 1) → ((q : ℕ) → q ≢ top + 1 → get nat_cmp new q ≡ get nat_cmp old q)
    → IsOpened old top number new
opened old new top number room apart below rising here others = record {
  each = λ n. same-test (is_in_gap n new.entries) ((nat_lt top n && nat_lt n number) || is_in_gap n old.entries)
      (λ inside. ⊎_elim
      (λ between. or_left (nat_lt top n && nat_lt n number) (is_in_gap n old.entries) (lies-between top number n between.0 between.1))
      (λ has. or_right (nat_lt top n && nat_lt n number) (is_in_gap n old.entries) (in-gap old apart.rising n has))
      (opened-was old new top number n room here others (gap-in new rising n inside)))
      (λ inside. in-gap new rising n (opened-there old new top number n below here others (⊎_elim
      (λ between. inl (is-between top number n between))
      (λ has. inr (gap-in old apart.rising n has))
      (or_cases (nat_lt top n && nat_lt n number) (is_in_gap n old.entries) inside))));
  apart = record { rising = rising; apart = opened-apart old new top number apart below here others };
  below = record { each = opened-below old new top number room below here others };
}

is-apart : (k q : ℕ) → q ≢ k → is_at (nat_cmp k) q ≡ false
is-apart k q differ = grind (arith, nat_tests)

-- what an insertion or a removal leaves at other keys
pub others-stay : (old new : BTreeMap ℕ ℕ) (k : ℕ) (w : Option ℕ) → UpdatesBy nat_cmp (nat_cmp k) old new w
    → (q : ℕ) → q ≢ k → get nat_cmp new q ≡ get nat_cmp old q
others-stay old new k w updates q differ = updates.2 q (is-apart k q differ)

-- ---- the last gap that doesn't begin behind a number

goes-up-to : (n q : ℕ) → q ≤ n → is_gt (nat_cmp q n) ≡ false
goes-up-to n q low = grind (arith, nat_tests)

comes-before : (n q : ℕ) → is_gt (nat_cmp q n) ≡ false → q ≤ n
comes-before n q low = grind (arith, nat_tests)

not-above : (first q : ℕ) → is_lt (nat_cmp first q) ≡ false → q ≤ first
not-above first q low = grind (arith, nat_tests)

pub none-begins : (gaps : BTreeMap ℕ ℕ) (n : ℕ) → AreApart gaps
    → ((q : ℕ) → IsInRange nat_cmp Unbounded (Included n) q → get nat_cmp gaps q ≡ None) → is_in_gap n gaps.entries ≡ false
none-begins gaps n apart none =
    in-no-gap gaps apart.rising n (λ has. let absent = none has.first (tt, goes-up-to n has.first has.low) in let kept = has.kept in cc)

pub last-has : (gaps : BTreeMap ℕ ℕ) (n first last : ℕ) → AreApart gaps
    → IsEntryInRange nat_cmp Unbounded (Included n) gaps (first, last) → n ≤ last → is_in_gap n gaps.entries ≡ true
last-has gaps n first last apart there high =
    in-gap gaps apart.rising n (record { first = first; last = last; kept = there.1; low = comes-before n first there.0.1; high = high })

some-is : (found : Option ℕ) (last : ℕ) → found ≡ Some last → IsSome found
some-is found last is = ap is_some is

pub last-ends : (gaps : BTreeMap ℕ ℕ) (n first last : ℕ) → AreApart gaps
    → IsEntryInRange nat_cmp Unbounded (Included n) gaps (first, last)
    → ((q : ℕ) → IsInRange nat_cmp Unbounded (Included n) q → IsSome (get nat_cmp gaps q) → is_lt (nat_cmp first q) ≡ false)
    → last < n → is_in_gap n gaps.entries ≡ false
last-ends gaps n first last apart there greatest ends =
    in-no-gap gaps apart.rising n (λ has.
    let low = comes-before n first there.0.1 in
    let before = not-above first has.first (greatest has.first (tt, goes-up-to n has.first has.low) (some-is (get nat_cmp gaps has.first) has.last has.kept)) in
    ⊎_elim
    (λ is. let end = one-last has.last last (get nat_cmp gaps has.first) has.kept (ap (λ q. get nat_cmp gaps q) is ∙ there.1) in omega (arith, end, has.high))
    (λ differs. let apart = apart.apart has.first has.last first last has.kept there.1 (omega (arith, differs)) in omega (arith, has.high))
    (cases_eq has.first first))

-- ---- a number is taken out of its gap

-- what is left of the gap from first to last, and of the others
pub record IsCut (old new : BTreeMap ℕ ℕ) (first last number : ℕ) : Type 0 where
  pub front : first < number → get nat_cmp new first ≡ Some (number - 1)
  pub gone : first ≡ number → get nat_cmp new first ≡ None
  pub back : number < last → get nat_cmp new (number + 1) ≡ Some last
  pub whole : number ≡ last → get nat_cmp new (number + 1) ≡ get nat_cmp old (number + 1)
  pub others : (q : ℕ) → q ≢ first → q ≢ number + 1 → get nat_cmp new q ≡ get nat_cmp old q

-- which of these a gap is
data Origin (old : BTreeMap ℕ ℕ) (first last number from end : ℕ) : Type 0 where
  Same : get nat_cmp old from ≡ Some end → ((from < first) × (end < first)) ⊎ (last < from) → Origin old first last number from end
  Front : first < number → from ≡ first → end + 1 ≡ number → Origin old first last number from end
  Back : number < last → from ≡ number + 1 → end ≡ last → Origin old first last number from end

other-gap : (old : BTreeMap ℕ ℕ) (first last from end : ℕ) → AreApart old → get nat_cmp old first ≡ Some last
    → get nat_cmp old from ≡ Some end → from ≢ first → ((from < first) × (end < first)) ⊎ (last < from)
other-gap old first last from end apart this other differs =
    ⊎_elim
    (λ lower. inl (lower, apart.apart from end first last other this lower))
    (λ higher. inr (apart.apart first last from end this other (omega (arith, differs))))
    (cases_lt from first)

origin : (old new : BTreeMap ℕ ℕ) (first last number : ℕ) → AreApart old → get nat_cmp old first ≡ Some last → first ≤ number → number ≤ last
    → IsCut old new first last number → (from end : ℕ) → get nat_cmp new from ≡ Some end → Origin old first last number from end
origin old new first last number apart this low high cut from end one =
    ⊎_elim
    (λ is. let here : get nat_cmp new first ≡ Some end = subst (λ q. get nat_cmp new q ≡ Some end) is one in
    ⊎_elim
    (λ less. let ends = one-last end (number - 1) (get nat_cmp new first) here (cut.front less) in Front less is (omega (arith, ends, less)))
    (λ more. let gone = cut.gone (omega arith) in let none : ⊥ = cc in absurd none)
    (cases_lt first number))
    (λ differs. ⊎_elim
    (λ is. let here : get nat_cmp new (number + 1) ≡ Some end = subst (λ q. get nat_cmp new q ≡ Some end) is one in
    ⊎_elim
    (λ less. Back less is (one-last end last (get nat_cmp new (number + 1)) here (cut.back less)))
    (λ more.
    let was : get nat_cmp old from ≡ Some end = subst (λ q. get nat_cmp old q ≡ Some end) (sym is) (sym (cut.whole (omega arith)) ∙ here) in
    Same was (other-gap old first last from end apart this was differs))
    (cases_lt number last))
    (λ differs'.
    let was : get nat_cmp old from ≡ Some end = sym (cut.others from differs differs') ∙ one in
    Same was (other-gap old first last from end apart this was differs))
    (cases_eq from (number + 1)))
    (cases_eq from first)

cut-apart : (old : BTreeMap ℕ ℕ) (first last number from end next until : ℕ) → AreApart old → first ≤ number → number ≤ last
    → Origin old first last number from end → Origin old first last number next until → from < next → end < next
cut-apart old first last number from end next until apart low high (Same one _) (Same other _) rising = apart.apart from end next until one other rising
cut-apart old first last number from end next until apart low high (Same one side) (Front less is ends) rising = grind arith
cut-apart old first last number from end next until apart low high (Same one side) (Back less is ends) rising = grind arith
cut-apart old first last number from end next until apart low high (Front less is ends) (Same other side) rising = grind arith
cut-apart old first last number from end next until apart low high (Front less is ends) (Front less' is' ends') rising = omega arith
cut-apart old first last number from end next until apart low high (Front less is ends) (Back less' is' ends') rising = omega arith
cut-apart old first last number from end next until apart low high (Back less is ends) (Same other side) rising = grind arith
cut-apart old first last number from end next until apart low high (Back less is ends) (Front less' is' ends') rising = omega arith
cut-apart old first last number from end next until apart low high (Back less is ends) (Back less' is' ends') rising = omega arith

cut-below : (old : BTreeMap ℕ ℕ) (first last number from end top : ℕ) → get nat_cmp old first ≡ Some last → number ≤ last → AreBelow old top
    → Origin old first last number from end → (1 ≤ from) × (from ≤ end) × (end < top)
cut-below old first last number from end top this high below (Same one _) = below.each from end one
cut-below old first last number from end top this high below (Front less is ends) = let inside = below.each first last this in (omega arith, omega arith, omega arith)
cut-below old first last number from end top this high below (Back less is ends) = let inside = below.each first last this in (omega arith, omega arith, omega arith)

cut-was : (old : BTreeMap ℕ ℕ) (first last number n from end : ℕ) → AreApart old → get nat_cmp old first ≡ Some last → first ≤ number → number ≤ last
    → from ≤ n → n ≤ end → Origin old first last number from end → HasGap old n × (n ≢ number)
cut-was old first last number n from end apart this low high from_low to_high (Same one side) =
    (record { first = from; last = end; kept = one; low = from_low; high = to_high }, λ is. grind arith)
cut-was old first last number n from end apart this low high from_low to_high (Front less is ends) =
    (record { first = first; last = last; kept = this; low = omega arith; high = omega arith }, λ same. omega arith)
cut-was old first last number n from end apart this low high from_low to_high (Back less is ends) =
    (record { first = first; last = last; kept = this; low = omega arith; high = omega arith }, λ same. omega arith)

cut-has : (old new : BTreeMap ℕ ℕ) (first last number n : ℕ) → AreApart old → get nat_cmp old first ≡ Some last → first ≤ number → number ≤ last
    → IsCut old new first last number → HasGap old n → n ≢ number → HasGap new n
cut-has old new first last number n apart this low high cut has differs =
    ⊎_elim
    (λ is.
    let end = one-last has.last last (get nat_cmp old has.first) has.kept (ap (λ q. get nat_cmp old q) is ∙ this) in
    ⊎_elim
    (λ less. record { first = first; last = number - 1; kept = cut.front (omega (arith, is, has.low)); low = omega (arith, is, has.low); high = omega arith })
    (λ more. record { first = number + 1; last = last; kept = cut.back (omega (arith, end, has.high, differs)); low = omega (arith, differs); high = omega (arith, end, has.high) })
    (cases_lt n number))
    (λ other. ⊎_elim
    (λ is. ⊎_elim
    (λ less. let behind = apart.apart first last has.first has.last this has.kept (omega arith) in absurd (omega arith))
    (λ more.
    let same = cut.whole (omega arith) in
    record { first = number + 1; last = has.last; kept = same ∙ subst (λ q. get nat_cmp old q ≡ Some has.last) is has.kept; low = omega (arith, is, has.low); high = has.high })
    (cases_lt number last))
    (λ other'. record { first = has.first; last = has.last; kept = cut.others has.first other other' ∙ has.kept; low = has.low; high = has.high })
    (cases_eq has.first (number + 1)))
    (cases_eq has.first first)

is-other : (inside : Bool) (n number : ℕ) → (inside && not (n == number)) ≡ true → (inside ≡ true) × (n ≢ number)
is-other inside n number both = (grind (arith, nat_tests), λ same. grind (arith, nat_tests))

stays-true : (inside : Bool) (n number : ℕ) → inside ≡ true → n ≢ number → (inside && not (n == number)) ≡ true
stays-true inside n number there differs = grind (arith, nat_tests)

pub filled : (old new : BTreeMap ℕ ℕ) (first last number : ℕ) → AreApart old → IsOrdered nat_cmp new → get nat_cmp old first ≡ Some last → first ≤ number → number ≤ last
    → IsCut old new first last number → IsFilled old number new
filled old new first last number apart rising this low high cut = record {
  each = λ n. same-test (is_in_gap n new.entries) (is_in_gap n old.entries && not (n == number))
      (λ inside.
      let has = gap-in new rising n inside in
      let was = cut-was old first last number n has.first has.last apart this low high has.low has.high (origin old new first last number apart this low high cut has.first has.last has.kept) in
      stays-true (is_in_gap n old.entries) n number (in-gap old apart.rising n was.0) was.1)
      (λ inside.
      let other = is-other (is_in_gap n old.entries) n number inside in
      in-gap new rising n (cut-has old new first last number n apart this low high cut (gap-in old apart.rising n other.0) other.1));
  apart = record {
    rising = rising;
    apart = λ from end next until one other. cut-apart old first last number from end next until apart low high
        (origin old new first last number apart this low high cut from end one) (origin old new first last number apart this low high cut next until other);
  };
  below = λ top below. record {
    each = λ from end one. cut-below old first last number from end top this high below (origin old new first last number apart this low high cut from end one);
  };
}

pub cut-by : (old mid new : BTreeMap ℕ ℕ) (first last number : ℕ) → first ≤ number → number ≤ last → IsSplit old number last mid
    → IsShortened mid first number new → IsCut old new first last number
cut-by old mid new first last number low high split short = record {
  front = short.front;
  gone = λ is. short.gone (omega arith);
  back = λ less. short.others (number + 1) (λ is. omega arith) ∙ split.back less;
  whole = λ is. short.others (number + 1) (λ same. omega arith) ∙ split.whole is;
  others = λ q differs apart. short.others q differs ∙ split.others q apart;
}

pub found-gap : (gaps : BTreeMap ℕ ℕ) (number : ℕ) (found : Option (ℕ × ℕ)) (gap : ℕ × ℕ) → found ≡ Some gap → IfSome found (IsGapOf gaps number) → IsGapOf gaps number gap
found-gap gaps number found gap is there = subst (λ found. IfSome found (IsGapOf gaps number)) is there

-- the gap that is split is there still
pub there-still : (old mid : BTreeMap ℕ ℕ) (first last number : ℕ) → IsGapOf old number (first, last) → IsSplit old number last mid → IsSome (get nat_cmp mid first)
there-still old mid first last number gap split = some-is (get nat_cmp mid first) last (split.others first (λ is. omega (arith, is, gap.low)) ∙ gap.kept)
