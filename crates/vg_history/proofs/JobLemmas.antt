-- Jobs that are lent, lane by lane.
use Rattle.std.proofs.Common.{◌≡◌, ◌≢◌, inl, inr, ⊎_elim, ℕ, ◌+◌, cond, Bool, List, [], ◌∷◌, length, refl, ap, sym, subst, ◌∙◌, arith, eq-eqb, ne_eqb}
use mathlib.Core.Logic.{dite}
use native.Mathlib.Decide.{ℕ_discrete}
use Rattle.vg_history.specs.Lists.{Has}
use Rattle.vg_history.specs.Jobs.{of_lane, but_lane}

module _ {X : Type 0} (lane_of : X → ℕ) where
  pub of_lane_same : (l : ℕ) (x : X) (xs : List X) → lane_of x ≡ l → of_lane lane_of l (x ∷ xs) ≡ x ∷ of_lane lane_of l xs
  of_lane_same l x xs is = ap (λ (b : Bool). cond b (x ∷ of_lane lane_of l xs) (of_lane lane_of l xs)) (eq-eqb (lane_of x) l is)

  pub of_lane_else : (l : ℕ) (x : X) (xs : List X) → lane_of x ≢ l → of_lane lane_of l (x ∷ xs) ≡ of_lane lane_of l xs
  of_lane_else l x xs ne = ap (λ (b : Bool). cond b (x ∷ of_lane lane_of l xs) (of_lane lane_of l xs)) (ne_eqb (lane_of x) l ne)

  but_lane_same : (l : ℕ) (x : X) (xs : List X) → lane_of x ≡ l → but_lane lane_of l (x ∷ xs) ≡ but_lane lane_of l xs
  but_lane_same l x xs is = ap (λ (b : Bool). cond b (but_lane lane_of l xs) (x ∷ but_lane lane_of l xs)) (eq-eqb (lane_of x) l is)

  but_lane_else : (l : ℕ) (x : X) (xs : List X) → lane_of x ≢ l → but_lane lane_of l (x ∷ xs) ≡ x ∷ but_lane lane_of l xs
  but_lane_else l x xs ne = ap (λ (b : Bool). cond b (but_lane lane_of l xs) (x ∷ but_lane lane_of l xs)) (ne_eqb (lane_of x) l ne)

  pub has_of_lane : (l : ℕ) (xs : List X) (x : X) → Has (of_lane lane_of l xs) x → Has xs x
  has_of_lane l [] x h = h
  has_of_lane l (y ∷ xs) x h = dite (ℕ_discrete (lane_of y) l)
      (λ is. ⊎_elim (λ e. inl e) (λ more. inr (has_of_lane l xs x more)) (subst (λ (w : List X). Has w x) (of_lane_same l y xs is) h))
      (λ ne. inr (has_of_lane l xs x (subst (λ (w : List X). Has w x) (of_lane_else l y xs ne) h)))

  -- a lane is empty once its jobs are left out, and any other is as before
  pub none_left : (l : ℕ) (xs : List X) → of_lane lane_of l (but_lane lane_of l xs) ≡ []
  none_left l [] = refl
  none_left l (x ∷ xs) = dite (ℕ_discrete (lane_of x) l)
      (λ is. ap (of_lane lane_of l) (but_lane_same l x xs is) ∙ none_left l xs)
      (λ ne. ap (of_lane lane_of l) (but_lane_else l x xs ne) ∙ (of_lane_else l x (but_lane lane_of l xs) ne ∙ none_left l xs))

  pub others_left : (l m : ℕ) (xs : List X) → m ≢ l → of_lane lane_of m (but_lane lane_of l xs) ≡ of_lane lane_of m xs
  others_left l m [] apart = refl
  others_left l m (x ∷ xs) apart = dite (ℕ_discrete (lane_of x) l)
      (λ is. ap (of_lane lane_of m) (but_lane_same l x xs is) ∙ (others_left l m xs apart ∙ sym (of_lane_else m x xs (λ e. apart (sym e ∙ is)))))
      (λ ne. ap (of_lane lane_of m) (but_lane_else l x xs ne) ∙ dite (ℕ_discrete (lane_of x) m)
      (λ e. of_lane_same m x (but_lane lane_of l xs) e ∙ (ap (λ (w : List X). x ∷ w) (others_left l m xs apart) ∙ sym (of_lane_same m x xs e)))
      (λ other. of_lane_else m x (but_lane lane_of l xs) other ∙ (others_left l m xs apart ∙ sym (of_lane_else m x xs other))))

  -- each job is of the lane or is left
  pub lane_and_left : (l : ℕ) (xs : List X) → length xs ≡ length (of_lane lane_of l xs) + length (but_lane lane_of l xs)
  lane_and_left l [] = omega arith
  lane_and_left l (x ∷ xs) = let t = lane_and_left l xs in dite (ℕ_discrete (lane_of x) l)
      (λ is. let a = ap length (of_lane_same l x xs is) in let b = ap length (but_lane_same l x xs is) in omega (arith, t, a, b))
      (λ ne. let a = ap length (of_lane_else l x xs ne) in let b = ap length (but_lane_else l x xs ne) in omega (arith, t, a, b))

  -- where no lane has a job there is none
  pub none_at_all : (xs : List X) → ((l : ℕ) → of_lane lane_of l xs ≡ []) → xs ≡ []
  none_at_all [] none_of = refl
  none_at_all (x ∷ xs) none_of = let e = ap length (sym (of_lane_same (lane_of x) x xs refl) ∙ none_of (lane_of x)) in absurd (omega (arith, e))
