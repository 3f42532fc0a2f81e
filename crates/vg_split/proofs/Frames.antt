use Rattle.std.proofs.Common.{◌≡◌, ◌≢◌, ℕ, suc, ◌+◌, ◌*◌, ◌%◌, ◌<◌, ◌≤◌, ◌⊎◌, List, [], ◌∷◌, ◌++◌, length, set, refl, ap, subst, inl, inr, ◌∙◌, arith}
use Rattle.std.proofs.lemmas.List.{get_or-set_other}
use Rattle.std.proofs.Math.Nat.{mod-lt}
use Rattle.std.proofs.lemmas.Bool.{eq-eqb}
use Rattle.std.proofs.lemmas.Bool.Decides.{eqb_tells}
use Rattle.atomic_table.proofs.Lists.{one_turn}
use Rattle.vg_chain.specs.declared.descriptor.Descriptor.{Descriptor}
use Rattle.vg_cargo.specs.declared.entries.Entry.{Entry}
use Rattle.vg_cargo.specs.declared.entries.Answer.{Answer}
use Rattle.vg_split.specs.declared.views.Stored.{Stored}
use Rattle.vg_split.specs.Words.{addr_place, rest_place, available_place, used_place, used_word}
use Rattle.vg_cargo.specs.Entries.{head_of, times, uses}
use Rattle.vg_split.specs.Rule.{stored_at, stored_of, word_at, places_of, StandStored, Stand, Offers, Returns}

times_here : (p q : ℕ) (more : List ℕ) → times p (q ∷ more) ≡ 0 → (q ≢ p) × (times p more ≡ 0)
times_here p q more unused = elim (eqb_tells q p) [
  | inl w ↦ (let one : times p (q ∷ more) ≡ 1 + times p more = rw w.0 refl in absurd (omega arith))
  | inr w ↦ (let same : times p (q ∷ more) ≡ 0 + times p more = rw w.0 refl in (w.1, omega arith))
]

-- a word that is stored elsewhere
pub word_else : (ws : List ℕ) (i j x : ℕ) → j ≢ i → word_at (set ws i x) j ≡ word_at ws j
word_else ws i j x other = get_or-set_other ws i j x 0 other

-- a word of place p
abbrev pub IsWordOf : ℕ → ℕ → Type 0
IsWordOf p i = (i ≡ addr_place p) ⊎ (i ≡ rest_place p)

apart_addr : (p q i : ℕ) → IsWordOf p i → q ≢ p → addr_place q ≢ i
apart_addr p q i is other = λ e. elim is [ inl w ↦ other (omega arith) | inr w ↦ omega arith ]

apart_rest : (p q i : ℕ) → IsWordOf p i → q ≢ p → rest_place q ≢ i
apart_rest p q i is other = λ e. elim is [ inl w ↦ omega arith | inr w ↦ other (omega arith) ]

pub stored_kept : (ws : List ℕ) (p i x : ℕ) (stored : List Stored) → IsWordOf p i → times p (places_of stored) ≡ 0 → StandStored ws stored → StandStored (set ws i x) stored
stored_kept ws p i x [] is unused stand = tt
stored_kept ws p i x (d ∷ more) is unused stand =
    let apart = times_here p d.place (places_of more) unused in (
      word_else ws i (addr_place d.place) x (apart_addr p d.place i is apart.0) ∙ stand.0,
      word_else ws i (rest_place d.place) x (apart_rest p d.place i is apart.0) ∙ stand.1,
      stored_kept ws p i x more is apart.1 stand.2,
    )

stored_at_times : (p : ℕ) (places : List ℕ) (ds : List Descriptor) → times p places ≡ 0 → times p (places_of (stored_at places ds)) ≡ 0
stored_at_times p [] [] unused = refl
stored_at_times p [] (d ∷ ds) unused = refl
stored_at_times p (q ∷ places) [] unused = refl
stored_at_times p (q ∷ places) (d ∷ ds) unused =
    let apart = times_here p q places unused in
    let rest = stored_at_times p places ds apart.1 in
    elim (eqb_tells q p) [ inl w ↦ absurd (apart.0 w.1) | inr w ↦ rw (w.0, rest) refl ]

pub stand_kept : (n : ℕ) (ws : List ℕ) (p i x : ℕ) (es : List Entry) → IsWordOf p i → uses p es ≡ 0 → Stand n ws es → Stand n (set ws i x) es
stand_kept n ws p i x [] is unused stand = tt
stand_kept n ws p i x (e ∷ es) is unused stand =
    (stored_kept ws p i x (stored_of n e) is (stored_at_times p e.places _ (omega arith)) stand.0, stand_kept n ws p i x es is (omega arith) stand.1)

pub offers_kept : (n : ℕ) (ws : List ℕ) (k i x : ℕ) (es : List Entry) → i < 2 + 2 * n → Offers n ws k es → Offers n (set ws i x) k es
offers_kept n ws k i x [] low offers = tt
offers_kept n ws k i x (e ∷ es) low offers = (word_else ws i (available_place n (k % n)) x (λ same. omega arith) ∙ offers.0, offers_kept n ws (suc k) i x es low offers.1)

pub returns_kept : (n : ℕ) (ws : List ℕ) (k i x : ℕ) (answers : List Answer) → i < 2 + 3 * n → Returns n ws k answers → Returns n (set ws i x) k answers
returns_kept n ws k i x [] low returns = tt
returns_kept n ws k i x (a ∷ more) low returns = (word_else ws i (used_place n (k % n)) x (λ same. omega arith) ∙ returns.0, returns_kept n ws (suc k) i x more low returns.1)

-- an available element past those that stand
pub offers_apart : (n : ℕ) (ws : List ℕ) (k m x : ℕ) (es : List Entry) → k + length es ≤ m → m < k + n → Offers n ws k es → Offers n (set ws (available_place n (m % n)) x) k es
offers_apart n ws k m x [] past near offers = tt
offers_apart n ws k m x (e ∷ es) past near offers =
    let other : available_place n (k % n) ≢ available_place n (m % n) = λ same. (let turn : k ≡ m = one_turn k m n (omega arith) near (omega arith) in omega arith) in
    (word_else ws (available_place n (m % n)) (available_place n (k % n)) x other ∙ offers.0, offers_apart n ws (suc k) m x es (omega arith) (omega arith) offers.1)

pub offers_snoc : (n : ℕ) (ws : List ℕ) (k : ℕ) (es : List Entry) (e : Entry) → Offers n ws k es → word_at ws (available_place n ((k + length es) % n)) ≡ head_of e → Offers n ws k (es ++ e ∷ [])
offers_snoc n ws k [] e offers here = (subst (λ (j : ℕ). word_at ws (available_place n (j % n)) ≡ head_of e) (omega arith) here, tt)
offers_snoc n ws k (f ∷ es) e offers here =
    (offers.0, offers_snoc n ws (suc k) es e offers.1 (subst (λ (j : ℕ). word_at ws (available_place n (j % n)) ≡ head_of e) (omega arith) here))

-- a word above those of the descriptors
pub stored_high : (ws : List ℕ) (n i x : ℕ) (stored : List Stored) → 2 + 2 * n ≤ i → ((h : ℕ) → 0 < times h (places_of stored) → h < n) → StandStored ws stored → StandStored (set ws i x) stored
stored_high ws n i x [] high small stand = tt
stored_high ws n i x (d ∷ more) high small stand =
    let here : times d.place (places_of (d ∷ more)) ≡ 1 + times d.place (places_of more) = rw (eq-eqb d.place d.place refl) refl in
    let below : d.place < n = small d.place (omega arith) in
    let rest : (h : ℕ) → 0 < times h (places_of more) → h < n = λ h some. small h (omega arith) in
    (word_else ws i (addr_place d.place) x (λ e. omega arith) ∙ stand.0, word_else ws i (rest_place d.place) x (λ e. omega arith) ∙ stand.1, stored_high ws n i x more high rest stand.2)

stored_at_few : (h : ℕ) (places : List ℕ) (ds : List Descriptor) → times h (places_of (stored_at places ds)) ≤ times h places
stored_at_few h [] [] = omega arith
stored_at_few h [] (d ∷ ds) = omega arith
stored_at_few h (q ∷ places) [] = omega arith
stored_at_few h (q ∷ places) (d ∷ ds) = let rest = stored_at_few h places ds in omega (arith, rest)

pub stored_of_few : (n h : ℕ) (e : Entry) → times h (places_of (stored_of n e)) ≤ times h e.places
stored_of_few n h e = stored_at_few h e.places _

pub stand_high : (n : ℕ) (ws : List ℕ) (i x : ℕ) (es : List Entry) → 2 + 2 * n ≤ i → ((h : ℕ) → 0 < uses h es → h < n) → Stand n ws es → Stand n (set ws i x) es
stand_high n ws i x [] high small stand = tt
stand_high n ws i x (e ∷ es) high small stand = (
  stored_high ws n i x (stored_of n e) high (λ h is_there. small h (let few = stored_of_few n h e in omega (arith, few))) stand.0,
  stand_high n ws i x es high (λ h some. small h (omega arith)) stand.1,
)

pub stand_snoc : (n : ℕ) (ws : List ℕ) (es : List Entry) (e : Entry) → Stand n ws es → StandStored ws (stored_of n e) → Stand n ws (es ++ e ∷ [])
stand_snoc n ws [] e stand here = (here, tt)
stand_snoc n ws (f ∷ es) e stand here = (stand.0, stand_snoc n ws es e stand.1 here)

-- words 0 and 1
pub stored_low : (ws : List ℕ) (i x : ℕ) (stored : List Stored) → i < 2 → StandStored ws stored → StandStored (set ws i x) stored
stored_low ws i x [] low stand = tt
stored_low ws i x (d ∷ more) low stand =
    (word_else ws i (addr_place d.place) x (λ e. omega arith) ∙ stand.0, word_else ws i (rest_place d.place) x (λ e. omega arith) ∙ stand.1, stored_low ws i x more low stand.2)

pub stand_low : (n : ℕ) (ws : List ℕ) (i x : ℕ) (es : List Entry) → i < 2 → Stand n ws es → Stand n (set ws i x) es
stand_low n ws i x [] low stand = tt
stand_low n ws i x (e ∷ es) low stand = (stored_low ws i x (stored_of n e) low stand.0, stand_low n ws i x es low stand.1)

pub offers_high : (n : ℕ) (ws : List ℕ) (k i x : ℕ) (es : List Entry) → 0 < n → 2 + 3 * n ≤ i → Offers n ws k es → Offers n (set ws i x) k es
offers_high n ws k i x [] large high offers = tt
offers_high n ws k i x (e ∷ es) large high offers =
    let small = mod-lt k large in
    (word_else ws i (available_place n (k % n)) x (λ same. omega (arith, small)) ∙ offers.0, offers_high n ws (suc k) i x es large high offers.1)

-- a used element past those that stand
pub returns_apart : (n : ℕ) (ws : List ℕ) (k m x : ℕ) (answers : List Answer) → k + length answers ≤ m → m < k + n → Returns n ws k answers → Returns n (set ws (used_place n (m % n)) x) k answers
returns_apart n ws k m x [] past near returns = tt
returns_apart n ws k m x (a ∷ more) past near returns =
    let other : used_place n (k % n) ≢ used_place n (m % n) = λ same. (let turn : k ≡ m = one_turn k m n (omega arith) near (omega arith) in omega arith) in
    (word_else ws (used_place n (m % n)) (used_place n (k % n)) x other ∙ returns.0, returns_apart n ws (suc k) m x more (omega arith) (omega arith) returns.1)

pub returns_snoc : (n : ℕ) (ws : List ℕ) (k : ℕ) (answers : List Answer) (a : Answer) → Returns n ws k answers → word_at ws (used_place n ((k + length answers) % n)) ≡ used_word (head_of a.entry) a.len → Returns n ws k (answers ++ a ∷ [])
returns_snoc n ws k [] a returns here = (subst (λ (j : ℕ). word_at ws (used_place n (j % n)) ≡ used_word (head_of a.entry) a.len) (omega arith) here, tt)
returns_snoc n ws k (b ∷ more) a returns here =
    (returns.0, returns_snoc n ws (suc k) more a returns.1 (subst (λ (j : ℕ). word_at ws (used_place n (j % n)) ≡ used_word (head_of a.entry) a.len) (omega arith) here))

pub stand_append : (n : ℕ) (ws : List ℕ) (es fs : List Entry) → Stand n ws es → Stand n ws fs → Stand n ws (es ++ fs)
stand_append n ws [] fs stand more = more
stand_append n ws (e ∷ es) fs stand more = (stand.0, stand_append n ws es fs stand.1 more)

pub stand_front : (n : ℕ) (ws : List ℕ) (es fs : List Entry) → Stand n ws (es ++ fs) → Stand n ws es × Stand n ws fs
stand_front n ws [] fs stand = (tt, stand)
stand_front n ws (e ∷ es) fs stand = (let rest = stand_front n ws es fs stand.1 in ((stand.0, rest.0), rest.1))

pub places-snoc : (stored : List Stored) (d : Stored) → places_of (stored ++ d ∷ []) ≡ places_of stored ++ d.place ∷ []
places-snoc [] d = refl
places-snoc (e ∷ more) d = ap (λ (xs : List ℕ). e.place ∷ xs) (places-snoc more d)

pub stored-snoc : (ws : List ℕ) (stored : List Stored) (d : Stored) → StandStored ws stored → StandStored ws (d ∷ []) → StandStored ws (stored ++ d ∷ [])
stored-snoc ws [] d stand here = here
stored-snoc ws (e ∷ more) d stand here = (stand.0, stand.1, stored-snoc ws more d stand.2 here)
