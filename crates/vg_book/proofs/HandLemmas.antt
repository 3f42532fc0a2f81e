-- What a slot holds, and results.
use Rattle.atomic_table.specs.Table.{Me, rest}
use Rattle.std.proofs.Common.{◌≡◌, ℕ, List, [], ◌∷◌, Result, Ok, Err, IfOk, IfErr, OnErr, ap, sym, subst, ◌∙◌}
use Rattle.vg_history.specs.declared.begun.Begun.{Begun}
use Rattle.vg_history.specs.declared.begun.Begun.TheVariants.{Lent, Whole}
use Rattle.vg_history.specs.Begins.{IfLent, IfWhole}
use Rattle.vg_book.specs.declared.board.Core.{Core}
use Rattle.vg_book.specs.declared.board.Slot.{Slot}
use Rattle.vg_book.specs.declared.board.View.{View}
use Rattle.vg_book.specs.declared.board.Slot.TheVariants.{Held, Told, Asked}

module _ {T F : Type 0} where
  pub ok_map : (r : Result T F) (X Y : T → Type 0) → ((x : T) → X x → Y x) → IfOk r X → IfOk r Y
  ok_map (Ok x) X Y f h = f x h
  ok_map (Err x) X Y f h = h

  pub err_map : (r : Result T F) (X Y : F → Type 0) → ((x : F) → X x → Y x) → IfErr r X → IfErr r Y
  err_map (Ok x) X Y f h = h
  err_map (Err x) X Y f h = f x h

  pub on_err_map : (r : Result T F) (X Y : Type 0) → (X → Y) → OnErr r X → OnErr r Y
  on_err_map (Ok x) X Y f h = h
  on_err_map (Err x) X Y f h = f h

module _ {J D F : Type 0} where
  pub whole_map : (r : Result (Begun J D) F) (X Y : D → Type 0) → ((x : D) → X x → Y x) → IfOk r (λ b. IfWhole b X) → IfOk r (λ b. IfWhole b Y)
  whole_map (Ok (Whole x)) X Y f h = f x h
  whole_map (Ok (Lent x)) X Y f h = h
  whole_map (Err x) X Y f h = h

  pub lent_map : (r : Result (Begun J D) F) (X Y : J → Type 0) → ((x : J) → X x → Y x) → IfOk r (λ b. IfLent b X) → IfOk r (λ b. IfLent b Y)
  lent_map (Ok (Whole x)) X Y f h = h
  lent_map (Ok (Lent x)) X Y f h = f x h
  lent_map (Err x) X Y f h = h

module _ {J D : Type 0} where
  pub whole_of : (b : Begun J D) (x : D) (X : D → Type 0) → b ≡ Whole x → IfWhole b X → X x
  whole_of b x X e h = subst (λ (y : Begun J D). IfWhole y X) e h

  pub lent_of : (b : Begun J D) (x : J) (X : J → Type 0) → b ≡ Lent x → IfLent b X → X x
  lent_of b x X e h = subst (λ (y : Begun J D). IfLent y X) e h

module _ {M S A R Q P H W : Type 0} where
  core_or : Core M S A R Q P H W → Slot M S A R Q P H W → Core M S A R Q P H W
  core_or d (Held c) = c
  core_or d (Told x) = d
  core_or d (Asked x) = d

  pub held_same : (c d : Core M S A R Q P H W) → Held c ≡ Held d → c ≡ d
  unfolding core_or
  held_same c d e = ap (core_or c) e

  slot_or : Slot M S A R Q P H W → List (ℕ × Slot M S A R Q P H W) → Slot M S A R Q P H W
  slot_or d [] = d
  slot_or d (x ∷ xs) = x.1

  -- what `slot_mut` shows is what the seat has in hand
  pub in_hand : (c : Core M S A R Q P H W) (x : Slot M S A R Q P H W) (l : List (ℕ × Slot M S A R Q P H W)) → l ≡ (0, Held c) ∷ [] → l ≡ (0, x) ∷ rest l → x ≡ Held c
  unfolding slot_or
  in_hand c x l e f = ap (slot_or x) (sym f ∙ e)

  pub same_hand : (c d : Core M S A R Q P H W) (l : List (ℕ × Slot M S A R Q P H W)) → l ≡ (0, Held c) ∷ [] → l ≡ (0, Held d) ∷ [] → c ≡ d
  unfolding slot_or
  same_hand c d l e f = held_same c d (ap (slot_or (Held c)) (sym e ∙ f))

  pub hand_back : (me : Me (Slot M S A R Q P H W) (View M S A R Q P H W)) (x : Slot M S A R Q P H W) → me.1 ≡ (0, x) ∷ rest me.1 → (me.0, (0, x) ∷ rest me.1) ≡ me
  hand_back me x e = ap (λ (l : List (ℕ × Slot M S A R Q P H W)). (me.0, l)) (sym e)

  -- what was written to the slot is what the seat has in hand
  pub hand_put : (l : List (ℕ × Slot M S A R Q P H W)) (c : Core M S A R Q P H W) (x : Slot M S A R Q P H W) (d : Core M S A R Q P H W) → l ≡ (0, Held c) ∷ [] → x ≡ Held d → (0, x) ∷ rest l ≡ (0, Held d) ∷ []
  hand_put l c x d e f = λ i. (0, f i) ∷ rest (e i)
