-- As many names of a kind are current as there are of it in the places.
use Rattle.std.proofs.Common.{◌≡◌, ◌==◌, ◌≢◌, ℕ, zero, suc, ◌+◌, ◌-◌, ◌<◌, ◌≤◌, inl, inr, Bool, true, false, cond, List, [], ◌∷◌, ◌++◌, length, get_or, take, map, Option, Some, None, refl, sym, ap, subst, ◌∙◌, arith, ne_eqb, eq-eqb, length-append}
use Rattle.std.specs.Prelude.{filter, find}
use Rattle.std.specs.List.{cons_option, count_by}
use Rattle.std.proofs.lemmas.Bool.{cases_eq, cases_lt}
use Rattle.std.proofs.lemmas.List.{get_or_append_left, get_or_past, get_or_push, get_or-take, length-take, take_all, take_more}
use Rattle.std.proofs.lemmas.List.Recursion.{is_count_by}
use Rattle.std.proofs.lemmas.Option.{slice_get-get_or}
use Rattle.slab.specs.Slab.{Slab, entries, entries_from}
use Rattle.vg_names.specs.declared.names.Held.{Held}
use Rattle.vg_names.specs.Names.{AreKept, current_from, has_one_name, is_numbered, is_of_key, of_number, place_at, place_in, slot_at}
use Rattle.vg_names.proofs.NamesLemmas.{filter_none, find_later, find_some, freed_from, is_other, kept_cases, kept_same, one_place}

-- How many of these pass a test.
abbrev pub count : (Held → Bool) → List Held → ℕ
count test [] = 0
count test (held ∷ more) = cond (test held) (1 + count test more) (count test more)

pub count-is : (test : Held → Bool) (xs : List Held) → count test xs ≡ count_by test xs
count-is test xs = is_count_by (count test) test refl (λ x ys. refl) xs

abbrev pub count_slot : (Held → Bool) → Option Held → ℕ
count_slot test None = 0
count_slot test (Some held) = cond (test held) 1 0

abbrev pub count_slots : (Held → Bool) → List (Option Held) → ℕ
count_slots test [] = 0
count_slots test (slot ∷ more) = count_slot test slot + count_slots test more

count-more : (test : Held → Bool) (held : Held) (xs : List Held) → count test (held ∷ xs) ≡ cond (test held) 1 0 + count test xs
count-more test held xs = by_test (test held)
  where
    by_test : (b : Bool) → cond b (1 + count test xs) (count test xs) ≡ cond b 1 0 + count test xs
    by_test true = refl
    by_test false = omega arith

count-entries : (test : Held → Bool) (key : ℕ) (slots : List (Option Held)) → count test (map (λ e. e.1) (entries_from key slots)) ≡ count_slots test slots
count-entries test key [] = refl
count-entries test key (None ∷ more) = count-entries test (key + 1) more ∙ omega arith
count-entries test key (Some held ∷ more) =
    count-more test held (map (λ e. e.1) (entries_from (key + 1) more))
    ∙ ap (λ n. cond (test held) 1 0 + n) (count-entries test (key + 1) more)

slots-append : (test : Held → Bool) (slots : List (Option Held)) (slot : Option Held) → count_slots test (slots ++ slot ∷ []) ≡ count_slots test slots + count_slot test slot
slots-append test [] slot = omega arith
slots-append test (first ∷ more) slot = let rest = slots-append test more slot in omega (arith, rest)

-- Without the name of a number there is one less, where that passes.
count-without : (test : Held → Bool) (g first : ℕ) (held : Held) (slots : List (Option Held)) (places : List (Option ℕ)) → find (is_numbered g) (current_from first slots places) ≡ Some held
    → count test (current_from first slots places) ≡ count test (filter (is_other g) (current_from first slots places)) + count_slot test (Some held)
count-without test g first held slots [] found = absurd (cc found)
count-without test g first held slots (place ∷ rest) found =
    let xs = current_from (first + 1) slots rest in
    elim (kept_cases first (slot_at slots place)) [
      | inl none ↦
          let later : find (is_numbered g) xs ≡ Some held = rw none at found in
          rw none (count-without test g (first + 1) held slots rest later)
      | inr (one, is, same, some) ↦
          elim (cases_eq one.number g) [
            | inl here ↦
                let it : Some one ≡ Some held = rw (some, eq-eqb one.number g here) at found in
                let others : count test (filter (is_other g) xs) ≡ count test xs = ap (count test) (filter_none g xs (find_later g (first + 1) slots rest (omega arith))) in
                let value : count_slot test (Some one) ≡ count_slot test (Some held) = ap (count_slot test) it in
                let more = count-more test one xs in
                let sum : count test (one ∷ xs) ≡ count test (filter (is_other g) xs) + count_slot test (Some held) = omega (arith, more, value, others) in
                rw (some, eq-eqb one.number g here) sum
            | inr there ↦
                let later : find (is_numbered g) xs ≡ Some held = rw (some, ne_eqb one.number g there) at found in
                let rest_is = count-without test g (first + 1) held slots rest later in
                let more = count-more test one xs in
                let kept = count-more test one (filter (is_other g) xs) in
                let sum : count test (one ∷ xs) ≡ count test (one ∷ filter (is_other g) xs) + count_slot test (Some held) = omega (arith, more, rest_is, kept) in
                rw (some, ne_eqb one.number g there) sum
          ]
    ]

current-alike : (first : ℕ) (old new : List (Option Held)) (places : List (Option ℕ)) → ((q : ℕ) → get_or new q None ≡ get_or old q None) → current_from first new places ≡ current_from first old places
current-alike first old new [] same = refl
current-alike first old new (None ∷ rest) same = current-alike (first + 1) old new rest same
current-alike first old new (Some q ∷ rest) same =
    ap (λ o. cons_option (of_number first o) (current_from (first + 1) new rest)) (same q)
    ∙ ap (cons_option (of_number first (get_or old q None))) (current-alike (first + 1) old new rest same)

current-empty : (first : ℕ) (places : List (Option ℕ)) → current_from first [] places ≡ []
current-empty first [] = refl
current-empty first (None ∷ rest) = current-empty (first + 1) rest
current-empty first (Some q ∷ rest) = current-empty (first + 1) rest

-- A front of the places.
front-kept : (front : List (Option Held)) (slot : Option Held) (places : List (Option ℕ)) → AreKept (front ++ slot ∷ []) places → AreKept front places
front-kept front slot places all q held is =
    elim (cases_lt q (length front)) [
      | inl within ↦ all q held (get_or_append_left front (slot ∷ []) None q within ∙ is)
      | inr past ↦ let none : None ≡ Some held = sym (get_or_past front q None past) ∙ is in absurd (cc none)
    ]

front-elsewhere : (front : List (Option Held)) (slot : Option Held) (q : ℕ) → q ≢ length front → get_or front q None ≡ get_or (front ++ slot ∷ []) q None
front-elsewhere front slot q differs =
    elim (cases_lt q (length front)) [
      | inl within ↦ sym (get_or_append_left front (slot ∷ []) None q within)
      | inr past ↦
          let longer = length-append front (slot ∷ []) in
          get_or_past front q None past ∙ sym (get_or_past (front ++ slot ∷ []) q None (omega (arith, longer, past, differs)))
    ]

last-is : (front : List (Option Held)) (slot : Option Held) → get_or (front ++ slot ∷ []) (length front) None ≡ slot
last-is front slot = get_or_push front slot None (length front) refl

kept-found : (p : ℕ) (held : Held) (slots : List (Option Held)) (places : List (Option ℕ)) → AreKept slots places → get_or slots p None ≡ Some held → find (is_numbered held.number) (current_from 1 slots places) ≡ Some held
kept-found p held slots places all is =
    let at = all p held is in
    let within : held.number - 1 < length places = omega (arith, at.from_one, at.to_made) in
    let some : held.number ≢ 0 = λ e. omega (arith, e, at.from_one) in
    let place : place_at held.number places ≡ Some p =
    rw (ne_eqb held.number 0 some) (ap place_in (slice_get-get_or places (held.number - 1) None within) ∙ at.stands) in
    find_some held.number p slots places place ∙ ap (of_number held.number) is ∙ kept_same held.number held refl

one-more : (test : Held → Bool) (front : List (Option Held)) (slot : Option Held) (places : List (Option ℕ)) → AreKept (front ++ slot ∷ []) places → count_slots test front ≡ count test (current_from 1 front places)
    → count_slots test (front ++ slot ∷ []) ≡ count test (current_from 1 (front ++ slot ∷ []) places)
one-more test front None places all so_far =
    let p = length front in
    let same : (q : ℕ) → get_or (front ++ None ∷ []) q None ≡ get_or front q None = λ q.
    elim (cases_eq q p) [
      | inl here ↦
          let none : get_or (front ++ None ∷ []) p None ≡ get_or front p None = last-is front None ∙ sym (get_or_past front p None (omega arith)) in
          subst (λ (n : ℕ). get_or (front ++ None ∷ []) n None ≡ get_or front n None) (sym here) none
      | inr differs ↦ sym (front-elsewhere front None q differs)
    ]
    in
    let longer = slots-append test front None in
    let as_many : count_slots test (front ++ None ∷ []) ≡ count_slots test front = omega (arith, longer) in
    as_many ∙ so_far ∙ ap (count test) (sym (current-alike 1 front (front ++ None ∷ []) places same))
one-more test front (Some held) places all so_far =
    let p = length front in
    let g = held.number in
    let slots = front ++ Some held ∷ [] in
    let at : get_or slots p None ≡ Some held = last-is front (Some held) in
    let freed : current_from 1 front places ≡ filter (is_other g) (current_from 1 slots places) =
    freed_from g p held slots front at refl (get_or_past front p None (omega arith)) (front-elsewhere front (Some held)) (one_place g p held slots places all at refl) 1 places in
    let without = count-without test g 1 held slots places (kept-found p held slots places all at) in
    slots-append test front (Some held)
    ∙ ap (λ n. n + count_slot test (Some held)) (so_far ∙ ap (count test) freed)
    ∙ sym without

counted-front : (test : Held → Bool) (slots : List (Option Held)) (places : List (Option ℕ)) → AreKept slots places → (n : ℕ) → n ≤ length slots → count_slots test (take n slots) ≡ count test (current_from 1 (take n slots) places)
counted-front test slots places all zero within = sym (ap (count test) (current-empty 1 places))
counted-front test slots places all (suc n) within =
    let more : take (suc n) slots ≡ take n slots ++ get_or slots n None ∷ [] =
    let next : suc n ≡ n + 1 = omega arith in ap (λ m. take m slots) next ∙ take_more slots n None (omega (arith, within)) in
    let Kept : List (Option Held) → Type 0 = λ xs. AreKept xs places in
    let Counted : List (Option Held) → Type 0 = λ xs. count_slots test xs ≡ count test (current_from 1 xs places) in
    let kept : AreKept (take (suc n) slots) places = take-kept slots places all (suc n) in
    subst Counted (sym more)
    (one-more test (take n slots) (get_or slots n None) places (subst Kept more kept) (counted-front test slots places all n (omega (arith, within))))
  where
    take-kept : (slots : List (Option Held)) (places : List (Option ℕ)) → AreKept slots places → (n : ℕ) → AreKept (take n slots) places
    take-kept slots places all n q held is =
        elim (cases_lt q (length (take n slots))) [
          | inl below ↦ all q held (sym (get_or-take n slots q None (omega (arith, below, length-take n slots))) ∙ is)
          | inr past ↦ let none : None ≡ Some held = sym (get_or_past (take n slots) q None past) ∙ is in absurd (cc none)
        ]

pub counted : (test : Held → Bool) (slots : List (Option Held)) (places : List (Option ℕ)) → AreKept slots places → count_slots test slots ≡ count test (current_from 1 slots places)
counted test slots places all =
    let Counted : List (Option Held) → Type 0 = λ xs. count_slots test xs ≡ count test (current_from 1 xs places) in
    subst Counted (take_all (length slots) slots (omega arith)) (counted-front test slots places all (length slots) (omega arith))

-- One name is current for a buffer where the places have one.
pub one-counted : (key : ℕ) (held : Slab Held) (places : List (Option ℕ)) → AreKept held.slots places → has_one_name key (map (λ e. e.1) (entries held)) ≡ has_one_name key (current_from 1 held.slots places)
one-counted key held places all =
    ap (λ n. n == 1)
    (sym (count-is (is_of_key key) (map (λ e. e.1) (entries held))) ∙ count-entries (is_of_key key) 0 held.slots
    ∙ counted (is_of_key key) held.slots places all ∙ count-is (is_of_key key) (current_from 1 held.slots places))

-- One was found or none, and these are left.
abbrev pub IsCounting : ℕ → Bool → List (ℕ × Held) → List (ℕ × Held) → Type 0
IsCounting key found left all = cond found 1 0 + count (is_of_key key) (map (λ e. e.1) left) ≡ count (is_of_key key) (map (λ e. e.1) all)

pub counting-first : (key : ℕ) (left all : List (ℕ × Held)) → left ≡ all → IsCounting key false left all
counting-first key left all same =
    let as_many : count (is_of_key key) (map (λ e. e.1) left) ≡ count (is_of_key key) (map (λ e. e.1) all) = ap (λ (es : List (ℕ × Held)). count (is_of_key key) (map (λ e. e.1) es)) same in
    omega (arith, as_many)

counting-next : (key : ℕ) (found : Bool) (left all rest : List (ℕ × Held)) (place : ℕ) (one : Held) → IsCounting key found left all → left ≡ (place, one) ∷ rest
    → cond found 1 0 + (cond (is_of_key key one) 1 0 + count (is_of_key key) (map (λ e. e.1) rest)) ≡ count (is_of_key key) (map (λ e. e.1) all)
counting-next key found left all rest place one is next =
    ap (λ n. cond found 1 0 + n) (sym (count-more (is_of_key key) one (map (λ e. e.1) rest)))
    ∙ ap (λ (xs : List (ℕ × Held)). cond found 1 0 + count (is_of_key key) (map (λ e. e.1) xs)) (sym next)
    ∙ is

one-is : (key : ℕ) (all : List (ℕ × Held)) (n : ℕ) → n ≡ count (is_of_key key) (map (λ e. e.1) all) → (n == 1) ≡ has_one_name key (map (λ e. e.1) all)
one-is key all n is = ap (λ m. m == 1) (is ∙ count-is (is_of_key key) (map (λ e. e.1) all))

pub counting-twice : (key : ℕ) (found : Bool) (left all rest : List (ℕ × Held)) (place : ℕ) (one : Held) → IsCounting key found left all → left ≡ (place, one) ∷ rest → found ≡ true → one.key ≡ key → false ≡ has_one_name key (map (λ e. e.1) all)
counting-twice key found left all rest place one is next some same =
    let more = counting-next key found left all rest place one is next in
    let two : cond found 1 0 + (cond (is_of_key key one) 1 0 + count (is_of_key key) (map (λ e. e.1) rest)) ≡ 2 + count (is_of_key key) (map (λ e. e.1) rest) = rw (some, eq-eqb one.key key same) (omega arith) in
    let several : 2 + count (is_of_key key) (map (λ e. e.1) rest) ≢ 1 = λ e. omega (arith, e) in
    sym (ne_eqb (2 + count (is_of_key key) (map (λ e. e.1) rest)) 1 several) ∙ one-is key all (2 + count (is_of_key key) (map (λ e. e.1) rest)) (sym two ∙ more)

pub counting-one : (key : ℕ) (found : Bool) (left all rest : List (ℕ × Held)) (place : ℕ) (one : Held) → IsCounting key found left all → left ≡ (place, one) ∷ rest → found ≡ false → one.key ≡ key → IsCounting key true rest all
counting-one key found left all rest place one is next none same =
    let more = counting-next key found left all rest place one is next in
    let first : cond found 1 0 + (cond (is_of_key key one) 1 0 + count (is_of_key key) (map (λ e. e.1) rest)) ≡ 1 + count (is_of_key key) (map (λ e. e.1) rest) = rw (none, eq-eqb one.key key same) (omega arith) in
    sym first ∙ more

pub counting-other : (key : ℕ) (found : Bool) (left all rest : List (ℕ × Held)) (place : ℕ) (one : Held) → IsCounting key found left all → left ≡ (place, one) ∷ rest → one.key ≢ key → IsCounting key found rest all
counting-other key found left all rest place one is next differs =
    let more = counting-next key found left all rest place one is next in
    let same : cond found 1 0 + (cond (is_of_key key one) 1 0 + count (is_of_key key) (map (λ e. e.1) rest)) ≡ cond found 1 0 + count (is_of_key key) (map (λ e. e.1) rest) = rw (ne_eqb one.key key differs) (omega arith) in
    sym same ∙ more

pub counting-done : (key : ℕ) (found : Bool) (left all : List (ℕ × Held)) → IsCounting key found left all → left ≡ [] → found ≡ has_one_name key (map (λ e. e.1) all)
counting-done key found left all is none =
    let left_none : cond found 1 0 + count (is_of_key key) (map (λ e. e.1) left) ≡ cond found 1 0 + 0 = ap (λ (xs : List (ℕ × Held)). cond found 1 0 + count (is_of_key key) (map (λ e. e.1) xs)) none in
    by_test found ∙ one-is key all (cond found 1 0 + 0) (sym left_none ∙ is)
  where
    by_test : (b : Bool) → b ≡ (cond b 1 0 + 0 == 1)
    by_test true = refl
    by_test false = refl
