-- Writes to a list that a formula gives.
use Rattle.std.proofs.Common.{◌≡◌, ◌≢◌, ℕ, ◌+◌, ◌-◌, ◌<◌, ◌≤◌, List, ◌++◌, length, get_or, set, take, drop, sym, ap, ◌∙◌, inl, inr, arith}
use Rattle.std.proofs.lemmas.Bool.{cases_eq, cases_lt}
use Rattle.std.proofs.lemmas.List.{length-set, get_or-set_same, get_or-set_other, length-take, length-drop, length-append, get_or_append_left, get_or-append_right, get_or-take, get_or-drop}
use borrow.Rule.Slice.PartMut.{put_mid}
use Rattle.vg_places.specs.Places.{tabulate}
use Rattle.vg_places.proofs.Places.{length-tabulate, get_or-tabulate, tabulate_from_places}

-- one element is written
pub set-tabulate : {X : Type 0} (f g : ℕ → X) (n j : ℕ) (v : X) → j < n → g j ≡ v → ((k : ℕ) → k ≢ j → f k ≡ g k) → set (tabulate n f) j v ≡ tabulate n g
set-tabulate {X} f g n j v inside here others =
    let at : (k : ℕ) → k < n → get_or (set (tabulate n f) j v) k v ≡ g k =
    λ k within. elim (cases_eq k j) [
      | inl same ↦
          ap (λ p. get_or (set (tabulate n f) j v) p v) same
          ∙ get_or-set_same (tabulate n f) j v v (omega (arith, length-tabulate f n))
          ∙ sym here ∙ ap g (sym same)
      | inr different ↦ get_or-set_other (tabulate n f) j k v v different ∙ get_or-tabulate f n k v within ∙ others k different
    ]
    in
    tabulate_from_places g (set (tabulate n f) j v) n v (length-set (tabulate n f) j v ∙ length-tabulate f n) at

-- m elements from a on are written
pub put_mid-tabulate : (f g : ℕ → ℕ) (n a m : ℕ) (part : List ℕ) → a + m ≤ n → length part ≡ m → ((k : ℕ) → k < m → get_or part k 0 ≡ g (a + k)) → ((k : ℕ) → k < a → f k ≡ g k) → ((k : ℕ) → a + m ≤ k → f k ≡ g k) → put_mid a m (tabulate n f) part ≡ tabulate n g
put_mid-tabulate f g n a m part fits long inside before after =
    let old = tabulate n f in
    let new = put_mid a m old part in
    let size : length old ≡ n = length-tabulate f n in
    let front : length (take a old) ≡ a = length-take a old ∙ omega (arith, size) in
    let rest = drop m (drop a old) in
    let at : (k : ℕ) → k < n → get_or new k 0 ≡ g k =
    λ k within. elim (cases_lt k a) [
      | inl low ↦
          get_or_append_left (take a old) (part ++ rest) 0 k (omega (arith, front))
          ∙ get_or-take a old k 0 low ∙ get_or-tabulate f n k 0 within ∙ before k low
      | inr high ↦
          get_or-append_right (take a old) (part ++ rest) a k 0 front high
          ∙ (elim (cases_lt (k - a) m) [
            | inl low ↦
                get_or_append_left part rest 0 (k - a) (omega (arith, long))
                ∙ inside (k - a) low ∙ ap g (omega arith)
            | inr past ↦
                get_or-append_right part rest m (k - a) 0 long past
                ∙ get_or-drop m (drop a old) (k - a - m) 0 ∙ get_or-drop a old (m + (k - a - m)) 0
                ∙ ap (λ p. get_or old p 0) (omega arith) ∙ get_or-tabulate f n k 0 within ∙ after k (omega arith)
          ])
    ]
    in
    let whole : length new ≡ n =
    length-append (take a old) (part ++ rest)
    ∙ omega (arith, front, length-append part rest, long, length-drop m (drop a old), length-drop a old, size)
    in
    tabulate_from_places g new n 0 whole at
