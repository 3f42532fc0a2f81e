-- Entries of one call.
use Rattle.std.proofs.Common.{◌≡◌, inl, inr, ⊎_elim, List, [], ◌∷◌, ◌++◌, refl, sym, subst, ◌∙◌}
use Rattle.vg_history.specs.declared.entry.Entry.{Entry}
use Rattle.vg_history.specs.Lists.{Has}
use Rattle.vg_history.specs.Entries.{IsSameCall, EachOnce}
use Rattle.vg_history.proofs.ListLemmas.{has_snoc}

module _ {M S A R Q P H W : Type 0} where
  -- an entry of a call that doesn't stand there yet may follow
  pub each_once_snoc : (es : List (Entry M S A R Q P H W)) (e : Entry M S A R Q P H W) → EachOnce es → ((f : Entry M S A R Q P H W) → Has es f → IsSameCall f e → ⊥) → EachOnce (es ++ e ∷ [])
  each_once_snoc [] e once apart = ((λ f h same. h), tt)
  each_once_snoc (x ∷ es) e once apart = (
    (λ f h same. ⊎_elim (λ l. once.0 f l same) (λ is. apart x (inl refl) (subst (λ (k : Entry M S A R Q P H W). IsSameCall x k) (sym is) same)) (has_snoc es e f h)),
    each_once_snoc es e once.1 (λ f h same. apart f (inr h) same),
  )

  pub one_entry : (es : List (Entry M S A R Q P H W)) (e f : Entry M S A R Q P H W) → EachOnce es → Has es e → Has es f → IsSameCall e f → e ≡ f
  one_entry [] e f once h i same = absurd h
  one_entry (x ∷ es) e f once (inl p) (inl q) same = sym p ∙ q
  one_entry (x ∷ es) e f once (inl p) (inr q) same = absurd (once.0 f q (subst (λ (k : Entry M S A R Q P H W). IsSameCall k f) (sym p) same))
  one_entry (x ∷ es) e f once (inr p) (inl q) same = absurd (once.0 e p (subst (λ (k : Entry M S A R Q P H W). IsSameCall k e) (sym q) (sym same.0, sym same.1)))
  one_entry (x ∷ es) e f once (inr p) (inr q) same = one_entry es e f once.1 p q same
