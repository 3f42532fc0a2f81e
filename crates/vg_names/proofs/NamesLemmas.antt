-- What is current, as places are taken, freed and looked at.
use Rattle.std.proofs.Common.{◌≡◌, ◌≢◌, ◌⊎◌, ℕ, zero, suc, ◌+◌, ◌-◌, ◌<◌, ◌≤◌, Bool, not, List, [], ◌∷◌, ◌++◌, length, get_or, Option, Some, None, refl, sym, ap, ◌∙◌, inl, inr, add-zero, arith, eq-eqb, ne_eqb, length-append, take}
use Rattle.std.specs.Prelude.{filter, find, slice_get, is_some, IsSome}
use Rattle.std.specs.List.{cons_option}
use Rattle.std.proofs.lemmas.Bool.{cases_eq}
use Rattle.std.proofs.lemmas.List.{append-nil, get_or_append_left, get_or_push, length-take, take_more}
use Rattle.slab.specs.Slab.{Slab, get, Updates}
use Rattle.vg_names.specs.declared.names.Held.{Held}
use Rattle.vg_names.specs.Names.{is_numbered, of_number, slot_at, kept_at, current_from, place_in, place_at, IsKept, AreKept, NamesState, with_name, with_none, without_name}

-- Not of this number.
abbrev pub is_other : ℕ → Held → Bool
is_other g held = not (is_numbered g held)

some_is : (a b : Held) → Some a ≡ Some b → a ≡ b
some_is a b e = cc

-- The place keeps something of this number, or it has nothing of it.
pub kept_cases : (g : ℕ) (slot : Option Held) → (of_number g slot ≡ None) ⊎ ((held : Held) × (slot ≡ Some held) × (held.number ≡ g) × (of_number g slot ≡ Some held))
kept_cases g None = inl refl
kept_cases g (Some held) =
    elim (cases_eq held.number g) [
      | inl same ↦ inr (held, refl, same, rw (eq-eqb held.number g same) refl)
      | inr differs ↦ inl (rw (ne_eqb held.number g differs) refl)
    ]

pub kept_other : (g : ℕ) (held : Held) → held.number ≢ g → of_number g (Some held) ≡ None
kept_other g held differs = rw (ne_eqb held.number g differs) refl

pub kept_same : (g : ℕ) (held : Held) → held.number ≡ g → of_number g (Some held) ≡ Some held
kept_same g held same = rw (eq-eqb held.number g same) refl

-- Names of later numbers aren't found.
pub find_later : (g first : ℕ) (slots : List (Option Held)) (places : List (Option ℕ)) → g < first → find (is_numbered g) (current_from first slots places) ≡ None
find_later g first slots [] below = refl
find_later g first slots (place ∷ rest) below =
    let later = find_later g (first + 1) slots rest (omega arith) in
    elim (kept_cases first (slot_at slots place)) [
      | inl none ↦ rw none later
      | inr (held, is, same, some) ↦
          let differs : held.number ≢ g = λ e. omega arith in
          rw (some, ne_eqb held.number g differs) later
    ]

-- What the name of a number stands for is what is kept at its place.
pub find_from : (g k first : ℕ) (slots : List (Option Held)) (places : List (Option ℕ)) → g ≡ first + k → find (is_numbered g) (current_from first slots places) ≡ kept_at g slots (place_in (slice_get places k))
find_from g k first slots [] at = refl
find_from g zero first slots (place ∷ rest) at =
    let here : g ≡ first = omega arith in
    let later = find_later g (first + 1) slots rest (omega arith) in
    elim (kept_cases first (slot_at slots place)) [
      | inl none ↦ rw none (later ∙ sym (ap (λ n. kept_at n slots place) here ∙ none))
      | inr (held, is, same, some) ↦
          rw (some, eq-eqb held.number g (same ∙ sym here))
          (sym (ap (λ n. kept_at n slots place) here ∙ some))
    ]
find_from g (suc k) first slots (place ∷ rest) at =
    let later = find_from g k (first + 1) slots rest (omega arith) in
    elim (kept_cases first (slot_at slots place)) [
      | inl none ↦ rw none later
      | inr (held, is, same, some) ↦
          let differs : held.number ≢ g = λ e. omega arith in
          rw (some, ne_eqb held.number g differs) later
    ]

pub find_current : (g : ℕ) (slots : List (Option Held)) (places : List (Option ℕ)) → find (is_numbered g) (current_from 1 slots places) ≡ kept_at g slots (place_at g places)
find_current g slots places =
    elim (cases_eq g 0) [
      | inl zeroth ↦ rw (eq-eqb g 0 zeroth) (find_later g 1 slots places (omega arith))
      | inr some ↦ rw (ne_eqb g 0 some) (find_from g (g - 1) 1 slots places (omega arith))
    ]

pub find_none : (g : ℕ) (slots : List (Option Held)) (places : List (Option ℕ)) → place_at g places ≡ None → find (is_numbered g) (current_from 1 slots places) ≡ None
find_none g slots places none = find_current g slots places ∙ ap (kept_at g slots) none

pub find_some : (g place : ℕ) (slots : List (Option Held)) (places : List (Option ℕ)) → place_at g places ≡ Some place → find (is_numbered g) (current_from 1 slots places) ≡ of_number g (get_or slots place None)
find_some g place slots places at = find_current g slots places ∙ ap (kept_at g slots) at

-- Where no name is of this number, none is taken away.
pub filter_none : (g : ℕ) (names : List Held) → find (is_numbered g) names ≡ None → filter (is_other g) names ≡ names
filter_none g [] none = refl
filter_none g (held ∷ rest) none =
    elim (cases_eq held.number g) [
      | inl same ↦
          let hit : Some held ≡ None = rw (eq-eqb held.number g same) at none in
          absurd (cc)
      | inr differs ↦
          let later : find (is_numbered g) rest ≡ None = rw (ne_eqb held.number g differs) at none in
          rw (ne_eqb held.number g differs) (ap (λ xs. held ∷ xs) (filter_none g rest later))
    ]

-- The model's value, from its parts.
abbrev pub state_of : List (Option Held) → List (Option ℕ) → NamesState
state_of slots places = record { current = current_from 1 slots places; made = length places }

abbrev pub state_from : List Held → ℕ → NamesState
state_from current made = record { current = current; made = made }

-- Whether a name's place is this one.
place_cases : (q : Option ℕ) (p : ℕ) → (q ≡ Some p) ⊎ (q ≢ Some p)
place_cases None p = inr (λ e. cc e)
place_cases (Some q) p = elim (cases_eq q p) [ inl same ↦ inl (ap (λ n. Some n) same) | inr differs ↦ inr (λ e. differs (place_is q p e)) ]
  where
    place_is : (q p : ℕ) → Some q ≡ Some p → q ≡ p
    place_is q p e = cc e

-- Other places keep what they kept.
slots_elsewhere : (p : ℕ) (old new : List (Option Held)) → ((q : ℕ) → q ≢ p → get_or new q None ≡ get_or old q None) → (q : Option ℕ) → q ≢ Some p → slot_at new q ≡ slot_at old q
slots_elsewhere p old new others None differs = refl
slots_elsewhere p old new others (Some q) differs = others q (λ e. differs (ap (λ n. Some n) e))

-- A place that is freed takes the name that it kept away, and no other.
pub freed_from : (g p : ℕ) (kept : Held) (old new : List (Option Held)) → get_or old p None ≡ Some kept → kept.number ≡ g → get_or new p None ≡ None → ((q : ℕ) → q ≢ p → get_or new q None ≡ get_or old q None)
    → ((q : Option ℕ) (held : Held) → slot_at old q ≡ Some held → held.number ≡ g → q ≡ Some p) → (first : ℕ) (places : List (Option ℕ)) → current_from first new places ≡ filter (is_other g) (current_from first old places)
freed_from g p kept old new was of gone others unique first [] = refl
freed_from g p kept old new was of gone others unique first (q ∷ rest) =
    let later = freed_from g p kept old new was of gone others unique (first + 1) rest in
    elim (kept_cases first (slot_at old q)) [
      | inl none ↦
          let still : kept_at first new q ≡ None =
          elim (place_cases q p) [
            | inl same ↦ ap (kept_at first new) same ∙ ap (of_number first) gone
            | inr differs ↦ ap (of_number first) (slots_elsewhere p old new others q differs) ∙ none
          ]
          in rw (none, still) later
      | inr (held, is, same, some) ↦
          elim (cases_eq held.number g) [
            | inl here ↦
                let place = unique q held is here in
                let empty : kept_at first new q ≡ None =
                ap (kept_at first new) place ∙ ap (of_number first) gone
                in rw (some, empty, eq-eqb held.number g here) later
            | inr there ↦
                let elsewhere : q ≢ Some p =
                λ e. there (ap (λ (h : Held). h.number) (some_is held kept (sym is ∙ ap (slot_at old) e ∙ was)) ∙ of)
                in
                let stays : kept_at first new q ≡ Some held = ap (of_number first) (slots_elsewhere p old new others q elsewhere) ∙ some in
                rw (some, stays, ne_eqb held.number g there) (ap (λ xs. held ∷ xs) later)
          ]
    ]

-- Names of one number have one place.
pub one_place : (g p : ℕ) (kept : Held) (slots : List (Option Held)) (places : List (Option ℕ)) → AreKept slots places → get_or slots p None ≡ Some kept → kept.number ≡ g → (q : Option ℕ) (held : Held) → slot_at slots q ≡ Some held → held.number ≡ g → q ≡ Some p
one_place g p kept slots places all is same None held there number = absurd (cc there)
one_place g p kept slots places all is same (Some q) held there number =
    sym ((all q held there).stands)
    ∙ ap (λ n. get_or places (n - 1) None) (number ∙ sym same)
    ∙ (all p kept is).stands

pub freed : (g p : ℕ) (old new : Slab Held) (kept : Held) (places : List (Option ℕ)) → AreKept old.slots places → of_number g (get old p) ≡ Some kept → Updates old new p None → current_from 1 new.slots places ≡ filter (is_other g) (current_from 1 old.slots places)
freed g p old new kept places all at updates =
    elim (kept_cases g (get old p)) [
      | inl none ↦ absurd (cc)
      | inr (held, is, same, some) ↦ freed_from g p held old.slots new.slots is same updates.changed updates.others (one_place g p held old.slots places all is same) 1 places
    ]

pub kept_after_free : (p : ℕ) (old new : Slab Held) (places : List (Option ℕ)) → AreKept old.slots places → Updates old new p None → AreKept new.slots places
kept_after_free p old new places all updates q held is =
    elim (cases_eq q p) [
      | inl same ↦
          let gone : None ≡ Some held = sym updates.changed ∙ ap (get new) (sym same) ∙ is in
          absurd (cc)
      | inr differs ↦ all q held (sym (updates.others q differs) ∙ is)
    ]

-- A place that is taken for a later number changes no earlier name.
pub taken_from : (p : ℕ) (added : Held) (old new : Slab Held) → get old p ≡ None → Updates old new p (Some added) → (first : ℕ) (places : List (Option ℕ)) → first + length places ≤ added.number → current_from first new.slots places ≡ current_from first old.slots places
taken_from p added old new vacant updates first [] past = refl
taken_from p added old new vacant updates first (q ∷ rest) past =
    let later = taken_from p added old new vacant updates (first + 1) rest (omega arith) in
    let here : kept_at first new.slots q ≡ kept_at first old.slots q =
    elim (place_cases q p) [
      | inl same ↦
          let differs : added.number ≢ first = λ e. omega arith in
          ap (kept_at first new.slots) same ∙ ap (of_number first) updates.changed ∙ kept_other first added differs
          ∙ sym (ap (kept_at first old.slots) same ∙ ap (of_number first) vacant)
      | inr differs ↦ ap (of_number first) (slots_elsewhere p old.slots new.slots updates.others q differs)
    ]
    in
    ap (λ o. cons_option o (current_from (first + 1) new.slots rest)) here
    ∙ ap (cons_option (kept_at first old.slots q)) later

pub current_append : (first : ℕ) (slots : List (Option Held)) (front back : List (Option ℕ)) → current_from first slots (front ++ back) ≡ current_from first slots front ++ current_from (first + length front) slots back
current_append first slots [] back = rw add-zero refl
current_append first slots (place ∷ rest) back =
    let shift : first + 1 + length rest ≡ first + suc (length rest) = omega arith in
    let later : current_from (first + 1) slots (rest ++ back) ≡ current_from (first + 1) slots rest ++ current_from (first + suc (length rest)) slots back =
    current_append (first + 1) slots rest back ∙ ap (λ n. current_from (first + 1) slots rest ++ current_from n slots back) shift
    in
    elim (kept_cases first (slot_at slots place)) [
      | inl none ↦ rw none later
      | inr (held, is, same, some) ↦ rw some (ap (λ xs. held ∷ xs) later)
    ]

pub current_one : (first place : ℕ) (slots : List (Option Held)) (held : Held) → get_or slots place None ≡ Some held → held.number ≡ first → current_from first slots (Some place ∷ []) ≡ held ∷ []
current_one first place slots held is same =
    ap (λ o. cons_option (of_number first o) []) is ∙ ap (λ o. cons_option o []) (kept_same first held same)

pub taken : (p : ℕ) (added : Held) (old new : Slab Held) (places : List (Option ℕ)) → get old p ≡ None → Updates old new p (Some added) → added.number ≡ length places + 1 → current_from 1 new.slots (places ++ Some p ∷ []) ≡ current_from 1 old.slots places ++ added ∷ []
taken p added old new places vacant updates next =
    let before = taken_from p added old new vacant updates 1 places (omega arith) in
    let last = current_one (1 + length places) p new.slots added updates.changed (omega arith) in
    current_append 1 new.slots places (Some p ∷ [])
    ∙ ap (λ xs. xs ++ current_from (1 + length places) new.slots (Some p ∷ [])) before
    ∙ ap (λ xs. current_from 1 old.slots places ++ xs) last

-- What is kept is so beside one name more.
kept_more : (o : Option ℕ) (places : List (Option ℕ)) (q : ℕ) (held : Held) → IsKept places q held → IsKept (places ++ o ∷ []) q held
kept_more o places q held was =
    let within : held.number - 1 < length places = omega (arith, was.from_one, was.to_made) in
    record {
      from_one = was.from_one;
      to_made = omega (arith, was.to_made, length-append places (o ∷ []));
      stands = get_or_append_left places (o ∷ []) None (held.number - 1) within ∙ was.stands;
    }

pub kept_after_take : (p : ℕ) (added : Held) (old new : Slab Held) (places : List (Option ℕ)) → AreKept old.slots places → Updates old new p (Some added) → added.number ≡ length places + 1 → AreKept new.slots (places ++ Some p ∷ [])
kept_after_take p added old new places all updates next q held is =
    elim (cases_eq q p) [
      | inl same ↦
          let one : held ≡ added = some_is held added (sym is ∙ ap (get new) same ∙ updates.changed) in
          let number : held.number ≡ length places + 1 = ap (λ (h : Held). h.number) one ∙ next in
          let place : length places ≡ held.number - 1 = omega arith in
          record {
            from_one = omega arith;
            to_made = omega (arith, length-append places (Some p ∷ []));
            stands = get_or_push places (Some p) None (held.number - 1) place ∙ ap (λ n. Some n) (sym same);
          }
      | inr differs ↦ kept_more (Some p) places q held (all q held (sym (updates.others q differs) ∙ is))
    ]

-- One name more that never is current.
pub kept_none : (slots : List (Option Held)) (places items : List (Option ℕ)) → items ≡ places ++ None ∷ [] → AreKept slots places → AreKept slots items
kept_none slots places items pushed all = rw pushed (λ q held is. kept_more None places q held (all q held is))

pub none_more : (slots : List (Option Held)) (places items : List (Option ℕ)) → items ≡ places ++ None ∷ [] → state_of slots items ≡ with_none (state_of slots places)
none_more slots places items pushed =
    let current : current_from 1 slots (places ++ None ∷ []) ≡ current_from 1 slots places = current_append 1 slots places (None ∷ []) ∙ append-nil (current_from 1 slots places) in
    ap (state_of slots) pushed ∙ ap (λ xs. state_from xs (length (places ++ None ∷ []))) current ∙ ap (state_from (current_from 1 slots places)) (length-append places (None ∷ []))

-- Nothing is kept before the first name is made.
pub none_kept : AreKept [] []
none_kept place held is = absurd (cc)

-- One place more is looked at.
pub current_more : (first i : ℕ) (place : Option ℕ) (slots : List (Option Held)) (front : List (Option ℕ)) → length front ≡ i → current_from first slots (front ++ place ∷ []) ≡ current_from first slots front ++ cons_option (kept_at (first + i) slots place) []
current_more first i place slots front size =
    current_append first slots front (place ∷ [])
    ∙ ap (λ n. current_from first slots front ++ cons_option (kept_at (first + n) slots place) []) size

pub kept_alike : (slots slots' : List (Option Held)) (places places' : List (Option ℕ)) → slots' ≡ slots → places' ≡ places → AreKept slots places → AreKept slots' places'
kept_alike slots slots' places places' same_slots same_places all = rw (same_slots, same_places) all

abbrev pub named : ℕ → ℕ → ℕ → ℕ → Held
named number key width height = record { number = number; key = key; width = width; height = height }

pub made_more : (p key width height number : ℕ) (held old new : Slab Held) (places items : List (Option ℕ)) → old.slots ≡ held.slots → get old p ≡ None → Updates old new p (Some (named number key width height)) → number ≡ length places + 1 → items ≡ places ++ Some p ∷ [] → state_of new.slots items ≡ with_name key width height (state_of held.slots places)
made_more p key width height number held old new places items reserved vacant updates next pushed =
    let current : current_from 1 new.slots items ≡ current_from 1 held.slots places ++ named (length places + 1) key width height ∷ [] =
    ap (current_from 1 new.slots) pushed
    ∙ taken p (named number key width height) old new places vacant updates next
    ∙ ap (λ slots. current_from 1 slots places ++ named number key width height ∷ []) reserved
    ∙ ap (λ g. current_from 1 held.slots places ++ named g key width height ∷ []) next
    in
    let made : length items ≡ length places + 1 = ap length pushed ∙ length-append places (Some p ∷ []) in
    ap (λ xs. state_from xs (length items)) current
    ∙ ap (λ n. state_from (current_from 1 held.slots places ++ named (length places + 1) key width height ∷ []) n) made

pub free_keeps : (g p : ℕ) (old new : Slab Held) (places : List (Option ℕ)) → AreKept old.slots places → (of_number g (get old p) ≡ None → new ≡ old) → (IsSome (of_number g (get old p)) → Updates old new p None) → AreKept new.slots places
free_keeps g p old new places all other freed =
    elim (kept_cases g (get old p)) [
      | inl none ↦ kept_alike old.slots new.slots places places (ap (λ (s : Slab Held). s.slots) (other none)) refl all
      | inr (held, slot, same, some) ↦ kept_after_free p old new places all (freed (ap is_some some))
    ]

pub ended : (g p : ℕ) (old new : Slab Held) (places : List (Option ℕ)) → AreKept old.slots places → Some p ≡ place_at g places → (of_number g (get old p) ≡ None → new ≡ old) → (IsSome (of_number g (get old p)) → Updates old new p None) → state_of new.slots places ≡ without_name g (state_of old.slots places)
ended g p old new places all at other freed_where =
    let current : current_from 1 new.slots places ≡ filter (is_other g) (current_from 1 old.slots places) =
    elim (kept_cases g (get old p)) [
      | inl none ↦
          ap (λ (s : Slab Held). current_from 1 s.slots places) (other none)
          ∙ sym (filter_none g (current_from 1 old.slots places) (find_some g p old.slots places (sym at) ∙ none))
      | inr (held, slot, same, some) ↦ freed g p old new held places all some (freed_where (ap is_some some))
    ]
    in ap (λ xs. state_from xs (length places)) current

pub ended_none : (g : ℕ) (slots : List (Option Held)) (places : List (Option ℕ)) → place_at g places ≡ None → state_of slots places ≡ without_name g (state_of slots places)
ended_none g slots places none =
    ap (λ xs. state_from xs (length places))
    (sym (filter_none g (current_from 1 slots places) (find_none g slots places none)))

-- One place more is looked at.
pub looked_at : (i : ℕ) (slots : List (Option Held)) (places : List (Option ℕ)) → i < length places → current_from 1 slots (take (i + 1) places) ≡ current_from 1 slots (take i places) ++ cons_option (kept_at (i + 1) slots (get_or places i None)) []
looked_at i slots places within =
    let size : length (take i places) ≡ i = omega (arith, length-take i places) in
    let next : 1 + i ≡ i + 1 = omega arith in
    ap (current_from 1 slots) (take_more places i None within)
    ∙ current_more 1 i (get_or places i None) slots (take i places) size
    ∙ ap (λ n. current_from 1 slots (take i places) ++ cons_option (kept_at n slots (get_or places i None)) []) next

pub looked_some : (i : ℕ) (one : Held) (xs : List Held) (slots : List (Option Held)) (places : List (Option ℕ)) → i < length places → xs ≡ current_from 1 slots (take i places) → Some one ≡ kept_at (i + 1) slots (get_or places i None) → xs ++ one ∷ [] ≡ current_from 1 slots (take (i + 1) places)
looked_some i one xs slots places within so_far is =
    ap (λ ys. ys ++ one ∷ []) so_far
    ∙ ap (λ o. current_from 1 slots (take i places) ++ cons_option o []) is
    ∙ sym (looked_at i slots places within)

pub looked_none : (i : ℕ) (xs : List Held) (slots : List (Option Held)) (places : List (Option ℕ)) → i < length places → xs ≡ current_from 1 slots (take i places) → kept_at (i + 1) slots (get_or places i None) ≡ None → xs ≡ current_from 1 slots (take (i + 1) places)
looked_none i xs slots places within so_far none =
    so_far
    ∙ sym (append-nil (current_from 1 slots (take i places)))
    ∙ ap (λ o. current_from 1 slots (take i places) ++ cons_option o []) (sym none)
    ∙ sym (looked_at i slots places within)
