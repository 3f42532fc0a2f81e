-- Elements of lists by their places, where one is put in another's place or behind all.
use Rattle.std.proofs.Common.{◌≡◌, ◌≢◌, ◌⊎◌, inl, inr, ◌<◌, ℕ, zero, suc, List, [], ◌∷◌, ◌++◌, length, set, refl, ap, arith}
use Rattle.std.specs.Prelude.{Some}
use Rattle.std.specs.List.{slice_get}

module _ {X : Type 0} where
  -- what stands at a place of a list with an element put in
  pub record IsPut (i : ℕ) (x : X) (k : ℕ) (y : X) : Type 0 where
    pub place : k ≡ i
    pub same : x ≡ y

  pub record IsOther (xs : List X) (i k : ℕ) (y : X) : Type 0 where
    pub apart : k ≢ i
    pub was : slice_get xs k ≡ Some y

  pub get-set : (xs : List X) (i : ℕ) (x : X) (k : ℕ) (y : X) → slice_get (set xs i x) k ≡ Some y → IsPut i x k y ⊎ IsOther xs i k y
  get-set [] i x k y is = let none : ⊥ = cc in absurd none
  get-set (z ∷ zs) zero x zero y is = let same : x ≡ y = cc in inl (record { place = refl; same = same })
  get-set (z ∷ zs) zero x (suc k) y is = inr (record { apart = λ e. omega (arith, e); was = is })
  get-set (z ∷ zs) (suc i) x zero y is = inr (record { apart = λ e. omega (arith, e); was = is })
  get-set (z ∷ zs) (suc i) x (suc k) y is = elim (get-set zs i x k y is) [
    | inl p ↦ inl (record { place = ap (λ (n : ℕ). suc n) p.place; same = p.same })
    | inr o ↦ inr (record { apart = λ e. o.apart (omega (arith, e)); was = o.was })
  ]

  -- and of one with an element put behind all
  pub get-pushed : (xs : List X) (x : X) (k : ℕ) (y : X) → slice_get (xs ++ x ∷ []) k ≡ Some y → IsPut (length xs) x k y ⊎ (slice_get xs k ≡ Some y)
  get-pushed [] x zero y is = let same : x ≡ y = cc in inl (record { place = refl; same = same })
  get-pushed [] x (suc k) y is = let none : ⊥ = cc in absurd none
  get-pushed (z ∷ zs) x zero y is = inr is
  get-pushed (z ∷ zs) x (suc k) y is = elim (get-pushed zs x k y is) [
    | inl p ↦ inl (record { place = ap (λ (n : ℕ). suc n) p.place; same = p.same })
    | inr was ↦ inr was
  ]

  pub get-none : (k : ℕ) (y : X) → slice_get [] k ≡ Some y → ⊥
  get-none k y is = cc

  -- there is one at each place
  pub get-some : (xs : List X) (k : ℕ) → k < length xs → (y : X) × (slice_get xs k ≡ Some y)
  get-some [] k low = absurd (omega (arith, low))
  get-some (x ∷ xs) zero low = (x, refl)
  get-some (x ∷ xs) (suc k) low = get-some xs k (omega (arith, low))
