use Rattle.std.proofs.Common.{◌≡◌, ◌≢◌, ℕ, ◌≤◌, Bool, true, false, cond, eqb, List, [], ◌∷◌, ◌++◌, refl, sym, ap, subst, inl, inr, ◌∙◌, arith}
use Rattle.std.proofs.lemmas.Bool.{eq-eqb, ne_eqb}
use Rattle.std.proofs.lemmas.Bool.Decides.{eqb_tells}
use Rattle.vg_cargo.specs.declared.entries.Entry.{Entry}
use Rattle.vg_cargo.specs.DeviceEnds.{HasAt}
use Rattle.vg_cargo.specs.Entries.{head_of, head_in, heads, held_at, without, Has}

pub has_heads : (e : Entry) (es : List Entry) → Has e es → 1 ≤ heads (head_of e) es
has_heads e [] has = absurd has
has_heads e (f ∷ es) (inl same) = (let here : head_in (head_of e) f ≡ 1 = rw (eq-eqb (head_of f) (head_of e) (ap head_of same)) refl in omega (arith, here))
has_heads e (f ∷ es) (inr has) = (let rest = has_heads e es has in omega (arith, rest))

-- the entry at a head that one entry has
pub held_there : (h : ℕ) (es : List Entry) → heads h es ≡ 1 → Has (held_at h es) es × (head_of (held_at h es) ≡ h)
held_there h [] one = absurd (omega arith)
held_there h (e ∷ es) one = elim (eqb_tells (head_of e) h) [
  | inl w ↦ rw w.0 (inl refl, w.1)
  | inr w ↦ (
      let rest = held_there h es (let here : head_in h e ≡ 0 = rw w.0 refl in omega (arith, here)) in
      let same : held_at h (e ∷ es) ≡ held_at h es = rw w.0 refl in
      subst (λ (x : Entry). Has x (e ∷ es) × (head_of x ≡ h)) (sym same) (inr rest.0, rest.1)
      )
]

pub held_is : (e : Entry) (es : List Entry) → Has e es → heads (head_of e) es ≤ 1 → held_at (head_of e) es ≡ e
held_is e [] has few = absurd has
held_is e (f ∷ es) (inl same) few = rw (eq-eqb (head_of f) (head_of e) (ap head_of same)) same
held_is e (f ∷ es) (inr has) few = elim (eqb_tells (head_of f) (head_of e)) [
  | inl w ↦ (let here : head_in (head_of e) f ≡ 1 = rw w.0 refl in let some = has_heads e es has in absurd (omega (arith, here, some, few)))
  | inr w ↦ rw w.0 (held_is e es has (let here : head_in (head_of e) f ≡ 0 = rw w.0 refl in omega (arith, here, few)))
]

pub held_cut : (h : ℕ) (es : List Entry) → heads h es ≡ 1 → (xs : List Entry) × (ys : List Entry) × (es ≡ xs ++ held_at h es ∷ ys) × (without h es ≡ xs ++ ys)
held_cut h [] one = absurd (omega arith)
held_cut h (e ∷ es) one = elim (eqb_tells (head_of e) h) [
  | inl w ↦ rw w.0 ([], es, refl, refl)
  | inr w ↦ (let rest = held_cut h es (let here : head_in h e ≡ 0 = rw w.0 refl in omega (arith, here)) in
      let same : held_at h (e ∷ es) ≡ held_at h es = rw w.0 refl in
      let kept : without h (e ∷ es) ≡ e ∷ without h es = rw w.0 refl in
      (e ∷ rest.0, rest.1, subst (λ (x : Entry). e ∷ es ≡ (e ∷ rest.0) ++ x ∷ rest.1) (sym same) (ap (λ (zs : List Entry). e ∷ zs) rest.2), kept ∙ ap (λ (zs : List Entry). e ∷ zs) rest.3))
]

has_choice : (e f : Entry) (es fs : List Entry) (b : Bool) → Has e es → Has e fs → Has e (cond b es (f ∷ fs))
has_choice e f es fs true has rest = has
has_choice e f es fs false has rest = inr rest

pub has_without : (e : Entry) (h : ℕ) (es : List Entry) → head_of e ≢ h → Has e es → Has e (without h es)
has_without e h [] other has = absurd has
has_without e h (f ∷ es) other (inl same) = (let away : eqb (head_of f) h ≡ false = ne_eqb (head_of f) h (λ e'. other (ap head_of (sym same) ∙ e')) in rw away (inl same))
has_without e h (f ∷ es) other (inr has) = has_choice e f es (without h es) (eqb (head_of f) h) has (has_without e h es other has)

heads_choice : (k : ℕ) (f : Entry) (es fs : List Entry) (b : Bool) → heads k fs ≤ heads k es → heads k (cond b es (f ∷ fs)) ≤ heads k (f ∷ es)
heads_choice k f es fs true fewer = omega arith
heads_choice k f es fs false fewer = omega arith

pub heads_without : (k h : ℕ) (es : List Entry) → heads k (without h es) ≤ heads k es
heads_without k h [] = omega arith
heads_without k h (f ∷ es) = heads_choice k f es (without h es) (eqb (head_of f) h) (heads_without k h es)

pub has_one : (e : Entry) (h : ℕ) (es : List Entry) → HasAt e h es → heads h es ≤ 1 → (heads h es ≡ 1) × (held_at h es ≡ e)
has_one e h es has few =
    let some = has_heads e es has.0 in
    let same : heads (head_of e) es ≡ heads h es = ap (λ (k : ℕ). heads k es) has.1 in
    (omega (arith, some, same, few), ap (λ (k : ℕ). held_at k es) (sym has.1) ∙ held_is e es has.0 (omega (arith, same, few)))

-- the entries that are left after one is taken out were there before
pub has_left : (e : Entry) (h : ℕ) (es : List Entry) → Has e (without h es) → Has e es
has_left e h [] has = absurd has
has_left e h (f ∷ es) has = elim (eqb_tells (head_of f) h) [
  | inl w ↦ (let same : without h (f ∷ es) ≡ es = rw w.0 refl in inr (subst (Has e) same has))
  | inr w ↦ (let same : without h (f ∷ es) ≡ f ∷ without h es = rw w.0 refl in elim (subst (Has e) same has) [ inl here ↦ inl here | inr rest ↦ inr (has_left e h es rest) ])
]
