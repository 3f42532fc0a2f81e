use Rattle.std.proofs.Common.{◌≡◌, ◌≢◌, ℕ, ◌+◌, Bool, Some, List, [], ◌∷◌, ◌++◌, set, refl, inl, inr, ◌∙◌, arith}
use Rattle.std.specs.Prelude.{Option}
use lib.ListN.{get_elem?}
use mathlib.Core.Option.{some, none}
use Rattle.std.proofs.lemmas.Bool.Decides.{eqb_tells}
use Rattle.atomic_table.proofs.Lists.{set_else}
use Rattle.vg_wire.specs.declared.request.Queue.{Queue}
use Rattle.vg_cargo.specs.declared.entries.Entry.{Entry}
use Rattle.vg_cargo.specs.declared.entries.Answer.{Answer}
use Rattle.vg_cargo.specs.Cargo.{CargoData}
use Rattle.vg_cargo.specs.Entries.{head_of, entries, heads, IsFresh, IsDone}
use Rattle.vg_cargo.specs.Slots.{Homes, Wait, Lie}

pub heads_here : (h : ℕ) (e : Entry) (es : List Entry) → heads h (e ∷ es) ≡ 0 → (head_of e ≢ h) × (heads h es ≡ 0)
heads_here h e es zero_there = elim (eqb_tells (head_of e) h) [
  | inl w ↦ (let one : heads h (e ∷ es) ≡ 1 + heads h es = rw w.0 refl in absurd (omega arith))
  | inr w ↦ (let same : heads h (e ∷ es) ≡ 0 + heads h es = rw w.0 refl in (w.1, omega arith))
]

module _ {P : Type 0} (wanted : P → Bool) (queue : Queue) (n : ℕ) where
  -- a slot in which no cargo waits, or lies, has another value
  pub wait_kept : (homes : Homes wanted queue n) (h : ℕ) (x : mathlib.Core.Option.Option (Option (CargoData P))) (es : List Entry) → heads h es ≡ 0 → Wait wanted queue n homes es → Wait wanted queue n (set homes h x) es
  wait_kept homes h x [] apart wait = tt
  wait_kept homes h x (e ∷ es) apart wait =
      let other = heads_here h e es apart in
      ((wait.0.0, set_else homes h (head_of e) x other.0 ∙ wait.0.1, wait.0.2), wait_kept homes h x es other.1 wait.1)

  pub lie_kept : (homes : Homes wanted queue n) (h : ℕ) (x : mathlib.Core.Option.Option (Option (CargoData P))) (answers : List Answer) → heads h (entries answers) ≡ 0 → Lie wanted queue n homes answers → Lie wanted queue n (set homes h x) answers
  lie_kept homes h x [] apart lie = tt
  lie_kept homes h x (a ∷ more) apart lie =
      let other = heads_here h a.entry (entries more) apart in
      ((lie.0.0, set_else homes h (head_of a.entry) x other.0 ∙ lie.0.1, lie.0.2), lie_kept homes h x more other.1 lie.1)

  pub wait_snoc : (homes : Homes wanted queue n) (es : List Entry) (e : Entry) (cargo : CargoData P) → Wait wanted queue n homes es → get_elem? homes (head_of e) ≡ some (some (Some cargo)) → IsFresh wanted n e cargo
      → Wait wanted queue n homes (es ++ e ∷ [])
  wait_snoc homes [] e cargo wait here fresh = ((cargo, here, fresh), tt)
  wait_snoc homes (f ∷ es) e cargo wait here fresh = (wait.0, wait_snoc homes es e cargo wait.1 here fresh)

  pub lie_snoc : (homes : Homes wanted queue n) (answers : List Answer) (a : Answer) (cargo : CargoData P) → Lie wanted queue n homes answers → get_elem? homes (head_of a.entry) ≡ some (some (Some cargo)) → IsDone wanted a cargo
      → Lie wanted queue n homes (answers ++ a ∷ [])
  lie_snoc homes [] a cargo lie here done = ((cargo, here, done), tt)
  lie_snoc homes (b ∷ more) a cargo lie here done = (lie.0, lie_snoc homes more a cargo lie.1 here done)
