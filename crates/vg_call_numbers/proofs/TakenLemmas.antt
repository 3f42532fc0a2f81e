-- The numbers of entries against those that are used.
use Rattle.std.proofs.Common.{◌≡◌, ◌≢◌, ◌≤◌, ◌<◌, ◌+◌, ◌==◌, ◌&&◌, ◌||◌, ℕ, zero, suc, Bool, true, false, cond, nat_le, nat_lt, List, [], ◌∷◌, ◌++◌, ⊎_elim, refl, sym, ap, subst, ◌∙◌, arith}
use Rattle.std.specs.List.{AllByRecursion, range_with_len}
use Rattle.std.proofs.lemmas.Bool.{cases_lt, eqb-true, eq-eqb, false_from_ne_true, false≢true, leb-false, leb-true, or_cases, or_left, or_right, or_from, or_parts}
use Rattle.std.proofs.lemmas.Bool.Decides.{nat_tests}
use Rattle.vg_laws.proofs.Numbers.{differs}
use Rattle.vg_call_numbers.proofs.GapLemmas.{same-test}
use Rattle.vg_call_numbers.proofs.NumberLemmas.{used-within}
use Rattle.vg_call_numbers.specs.Numbers.{AreAllUsed, IsAdded, IsGreatest, UsedNumbers, is_used}
use Rattle.vg_call_numbers.specs.Taken.{AreDistinct, IsUsedBy, by_number, is_taken, placed}

-- ---- of each number of a list, by whether it is there

pub each-taken : (P : ℕ → Type 0) (taken : List ℕ) → ((n : ℕ) → is_taken n taken ≡ true → P n) → AllByRecursion P taken
each-taken P [] holds = tt
each-taken P (one ∷ more) holds =
    (holds one (or_left (one == one) (is_taken one more) (eq-eqb one one refl)), each-taken P more (λ n there. holds n (or_right (one == n) (is_taken n more) there)))

pub at-taken : (P : ℕ → Type 0) (n : ℕ) (taken : List ℕ) → AllByRecursion P taken → is_taken n taken ≡ true → P n
at-taken P n [] all there = let none : ⊥ = cc in absurd none
at-taken P n (one ∷ more) all there =
    ⊎_elim (λ here. subst P (eqb-true one n here) all.0) (λ later. at-taken P n more all.1 later) (or_cases (one == n) (is_taken n more) there)

is-apart : (one n : ℕ) → one ≢ n → (one == n) ≡ false
is-apart one n differ = grind (arith, nat_tests)

pub not-taken : (n : ℕ) (taken : List ℕ) → is_taken n taken ≡ false → AllByRecursion (λ one. one ≢ n) taken
not-taken n [] none = tt
not-taken n (one ∷ more) none = let parts = or_parts (one == n) (is_taken n more) none in (differs one n parts.0, not-taken n more parts.1)

pub none-taken : (n : ℕ) (taken : List ℕ) → AllByRecursion (λ one. one ≢ n) taken → is_taken n taken ≡ false
none-taken n [] all = refl
none-taken n (one ∷ more) all = or_from (one == n) (is_taken n more) (is-apart one n all.0) (none-taken n more all.1)

-- ---- one number more

push-each : (P : ℕ → Type 0) (taken : List ℕ) (n : ℕ) → AllByRecursion P taken → P n → AllByRecursion P (taken ++ n ∷ [])
push-each P [] n all last = (last, tt)
push-each P (one ∷ more) n all last = (all.0, push-each P more n all.1 last)

push-distinct : (taken : List ℕ) (n : ℕ) → AreDistinct taken → AllByRecursion (λ one. one ≢ n) taken → AreDistinct (taken ++ n ∷ [])
push-distinct [] n once all = (tt, tt)
push-distinct (one ∷ more) n once all = (push-each (λ other. other ≢ one) more n once.0 (λ is. all.0 (sym is)), push-distinct more n once.1 all.1)

turned : (n m : ℕ) (rest : Bool) → (n == m || rest) ≡ (m == n || rest)
turned n m true = grind (arith, nat_tests)
turned n m false = grind (arith, nat_tests)

swapped : (one number n : ℕ) (rest : Bool) → (one == n || (n == number || rest)) ≡ (n == number || (one == n || rest))
swapped one number n true = grind (arith, nat_tests)
swapped one number n false = grind (arith, nat_tests)

same-end : (number n : ℕ) → (number == n || false) ≡ (n == number || false)
same-end number n = grind (arith, nat_tests)

push-taken : (taken : List ℕ) (number n : ℕ) → is_taken n (taken ++ number ∷ []) ≡ (n == number || is_taken n taken)
push-taken [] number n = same-end number n
push-taken (one ∷ more) number n = ap (λ rest. one == n || rest) (push-taken more number n) ∙ swapped one number n (is_taken n more)

is-itself : (n number : ℕ) (rest : Bool) → n ≡ number → (n == number || rest) ≡ true
is-itself n number rest is = or_left (n == number) rest (eq-eqb n number is)

greatest-added : (old new : UsedNumbers) (number : ℕ) → IsAdded old number new → IsGreatest old old.top → 1 ≤ new.top → is_used new new.top ≡ true
greatest-added old new number added greatest counted =
    added.used new.top
    ∙ ⊎_elim
    (λ above. is-itself new.top number (is_used old new.top) (omega (arith, added.top)))
    (λ below. let same : new.top ≡ old.top = omega (arith, added.top) in
    or_right (new.top == number) (is_used old new.top) (ap (is_used old) same ∙ greatest.used (omega arith)))
    (cases_lt old.top number)

pub one-more : (old new : UsedNumbers) (number : ℕ) (taken : List ℕ) → 1 ≤ number → is_used old number ≡ false → IsAdded old number new
    → IsUsedBy old taken → IsUsedBy new (taken ++ number ∷ [])
one-more old new number taken counted fresh added is = record {
  used = λ n. added.used n ∙ ap (λ rest. n == number || rest) (is.used n) ∙ sym (push-taken taken number n);
  greatest = record { within = used-within new; used = greatest-added old new number added is.greatest };
  once = push-distinct taken number is.once (not-taken number taken (sym (is.used number) ∙ fresh));
  counted = push-each (λ n. 1 ≤ n) taken number is.counted counted;
}

none-used : (n : ℕ) → is_used (record { top = 0; gaps = [] }) n ≡ false
none-used n = grind (arith, nat_tests)

pub none-yet : IsUsedBy (record { top = 0; gaps = [] }) []
none-yet = record {
  used = none-used;
  greatest = record { within = used-within (record { top = 0; gaps = [] }); used = λ counted. absurd (omega arith) };
  once = tt;
  counted = tt;
}

-- ---- a number above all

pub above-each : (numbers : UsedNumbers) (number : ℕ) (taken : List ℕ) → IsUsedBy numbers taken → numbers.top < number → AllByRecursion (λ one. one < number) taken
above-each numbers number taken is above =
    each-taken (λ one. one < number) taken (λ n there. let within = is.greatest.within n (is.used n ∙ there) in omega arith)

pub above-top : (numbers : UsedNumbers) (number : ℕ) (taken : List ℕ) → 1 ≤ number → IsUsedBy numbers taken → AllByRecursion (λ one. one < number) taken → numbers.top < number
above-top numbers number taken counted is all =
    ⊎_elim
    (λ none. omega arith)
    (λ some. at-taken (λ one. one < number) numbers.top taken all (sym (is.used numbers.top) ∙ is.greatest.used some))
    (cases_lt numbers.top 1)

-- ---- in rising order

-- numbers that rise, from this one on
abbrev Rising : ℕ → List ℕ → Type 0
Rising least [] = Unit {0}
Rising least (n ∷ more) = (least ≤ n) × Rising (n + 1) more

rising-least : (least n : ℕ) (ns : List ℕ) → Rising least ns → is_taken n ns ≡ true → least ≤ n
rising-least least n [] rising there = let none : ⊥ = cc in absurd none
rising-least least n (one ∷ more) rising there =
    ⊎_elim
    (λ here. let is = eqb-true one n here in omega arith)
    (λ later. let more_than = rising-least (one + 1) n more rising.1 later in omega arith)
    (or_cases (one == n) (is_taken n more) there)

none-before : (least n : ℕ) (ns : List ℕ) → Rising least ns → n < least → is_taken n ns ≡ false
none-before least n ns rising low = false_from_ne_true (is_taken n ns) (λ there. let more_than = rising-least least n ns rising there in omega arith)

placed-choice : (least n next : ℕ) (more : List ℕ) (first : Bool) → nat_le n next ≡ first → least ≤ n → n ≢ next → Rising least (next ∷ more)
    → (first ≡ false → Rising (next + 1) (placed n more)) → Rising least (cond first (n ∷ next ∷ more) (next ∷ placed n more))
placed-choice least n next more true is low apart rising rest = (low, (let below = leb-true n next is in omega (arith, apart), rising.1))
placed-choice least n next more false is low apart rising rest = (rising.0, rest refl)

placed-rising : (least n : ℕ) (ns : List ℕ) → least ≤ n → Rising least ns → is_taken n ns ≡ false → Rising least (placed n ns)
placed-rising least n [] low rising fresh = (low, tt)
placed-rising least n (next ∷ more) low rising fresh =
    let parts = or_parts (next == n) (is_taken n more) fresh in
    placed-choice least n next more (nat_le n next) refl low (λ is. differs next n parts.0 (sym is)) rising
    (λ above. placed-rising (next + 1) n more (let greater = leb-false n next above in omega arith) rising.1 parts.1)

first-choice : (m n next : ℕ) (more : List ℕ) (first : Bool) → is_taken m (placed n more) ≡ (m == n || is_taken m more)
    → is_taken m (cond first (n ∷ next ∷ more) (next ∷ placed n more)) ≡ (m == n || is_taken m (next ∷ more))
first-choice m n next more true rest = turned n m (is_taken m (next ∷ more))
first-choice m n next more false rest = ap (λ there. next == m || there) rest ∙ swapped next n m (is_taken m more)

placed-taken : (m n : ℕ) (ns : List ℕ) → is_taken m (placed n ns) ≡ (m == n || is_taken m ns)
placed-taken m n [] = same-end n m
placed-taken m n (next ∷ more) = first-choice m n next more (nat_le n next) (placed-taken m n more)

sorted-taken : (m : ℕ) (ns : List ℕ) → is_taken m (by_number ns) ≡ is_taken m ns
sorted-taken m [] = refl
sorted-taken m (n ∷ more) = placed-taken m n (by_number more) ∙ ap (λ there. m == n || there) (sorted-taken m more) ∙ sym (turned n m (is_taken m more))

sorted-rising : (ns : List ℕ) → AreDistinct ns → AllByRecursion (λ n. 1 ≤ n) ns → Rising 1 (by_number ns)
sorted-rising [] once counted = tt
sorted-rising (n ∷ more) once counted =
    placed-rising 1 n (by_number more) counted.0 (sorted-rising more once.1 counted.1) (sorted-taken n more ∙ none-taken n more once.0)

-- ---- numbers from one on, each

no-number : (lo m : ℕ) → false ≡ (nat_le lo m && nat_lt m (lo + 0))
no-number lo m = grind (arith, nat_tests)

next-number : (lo m len : ℕ) → (lo == m || (nat_le (lo + 1) m && nat_lt m (lo + 1 + len))) ≡ (nat_le lo m && nat_lt m (lo + suc len))
next-number lo m len = grind (arith, nat_tests)

range-taken : (len lo m : ℕ) → is_taken m (range_with_len lo len) ≡ (nat_le lo m && nat_lt m (lo + len))
range-taken zero lo m = no-number lo m
range-taken (suc len) lo m = ap (λ there. lo == m || there) (range-taken len (lo + 1) m) ∙ next-number lo m len

first-is-in : (lo len : ℕ) → (nat_le lo lo && nat_lt lo (lo + suc len)) ≡ true
first-is-in lo len = grind (arith, nat_tests)

rest-taken : (lo len m : ℕ) (more : List ℕ) → Rising (lo + 1) more → is_taken m (lo ∷ more) ≡ (nat_le lo m && nat_lt m (lo + suc len))
    → is_taken m more ≡ (nat_le (lo + 1) m && nat_lt m (lo + 1 + len))
rest-taken lo len m more rising are =
    ⊎_elim
    (λ before. none-before (lo + 1) m more rising (omega arith) ∙ grind (arith, nat_tests))
    (λ behind. let apart : (lo == m) ≡ false = is-apart lo m (λ is. omega (arith, is)) in
    sym (ap (λ first. first || is_taken m more) apart) ∙ are ∙ sym (next-number lo m len) ∙ ap (λ first. first || (nat_le (lo + 1) m && nat_lt m (lo + 1 + len))) apart)
    (cases_lt m (lo + 1))

rising-range : (len lo : ℕ) (ns : List ℕ) → Rising lo ns → ((m : ℕ) → is_taken m ns ≡ (nat_le lo m && nat_lt m (lo + len))) → ns ≡ range_with_len lo len
rising-range zero lo [] rising are = refl
rising-range zero lo (n ∷ more) rising are =
    let there = or_left (n == n) (is_taken n more) (eq-eqb n n refl) in
    let none : ⊥ = false≢true (no-number lo n ∙ sym (are n) ∙ there) in absurd none
rising-range (suc len) lo [] rising are = let none : ⊥ = false≢true (are lo ∙ first-is-in lo len) in absurd none
rising-range (suc len) lo (n ∷ more) rising are =
    let first : n ≡ lo = ⊎_elim (λ here. eqb-true n lo here) (λ later. let above = rising-least (n + 1) lo more rising.1 later in absurd (omega arith))
    (or_cases (n == lo) (is_taken lo more) (are lo ∙ first-is-in lo len)) in
    let after = subst (λ k. Rising (k + 1) more) first rising.1 in
    ap (λ k. k ∷ more) first
    ∙ ap (λ rest. lo ∷ rest) (rising-range len (lo + 1) more after (λ m. rest-taken lo len m more after (subst (λ k. is_taken m (k ∷ more) ≡ (nat_le lo m && nat_lt m (lo + suc len))) first (are m))))

-- ---- all of them are used

in-range : (count m : ℕ) → 1 ≤ m → m ≤ count → (nat_le 1 m && nat_lt m (1 + count)) ≡ true
in-range count m counted low = grind (arith, nat_tests)

of-range : (count m : ℕ) → (nat_le 1 m && nat_lt m (1 + count)) ≡ true → (1 ≤ m) × (m ≤ count)
of-range count m there = (grind (arith, nat_tests), grind (arith, nat_tests))

pub all-sorted : (numbers : UsedNumbers) (taken : List ℕ) (count : ℕ) → IsUsedBy numbers taken → AreAllUsed numbers × (numbers.top ≡ count)
    → by_number taken ≡ range_with_len 1 count
all-sorted numbers taken count is all =
    rising-range count 1 (by_number taken) (sorted-rising taken is.once is.counted)
    (λ m. sorted-taken m taken ∙ sym (is.used m) ∙ same-test (is_used numbers m) (nat_le 1 m && nat_lt m (1 + count))
    (λ used. let within = is.greatest.within m used in in-range count m within.0 (omega (arith, all.1)))
    (λ inside. let within = of-range count m inside in all.0.each m within.0 (omega (arith, all.1))))

pub sorted-all : (numbers : UsedNumbers) (taken : List ℕ) (count : ℕ) → IsUsedBy numbers taken → by_number taken ≡ range_with_len 1 count
    → AreAllUsed numbers × (numbers.top ≡ count)
sorted-all numbers taken count is are =
    let each : (m : ℕ) → is_used numbers m ≡ (nat_le 1 m && nat_lt m (1 + count)) =
    λ m. is.used m ∙ sym (sorted-taken m taken) ∙ ap (is_taken m) are ∙ range-taken count 1 m in
    let top : numbers.top ≡ count = ⊎_elim
    (λ none. ⊎_elim
    (λ empty. omega arith)
    (λ some. let within = is.greatest.within count (each count ∙ in-range count count some (omega arith)) in omega arith)
    (cases_lt count 1))
    (λ some. let low = of-range count numbers.top (sym (each numbers.top) ∙ is.greatest.used some) in
    let within = is.greatest.within count (each count ∙ in-range count count (omega arith) (omega arith)) in omega arith)
    (cases_lt numbers.top 1) in
    (record { each = λ n counted low. each n ∙ in-range count n counted (omega arith) }, top)
