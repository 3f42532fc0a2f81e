-- A table of names after one was added, and after one was taken away.
use Rattle.std.proofs.Common.{◌≡◌, ◌+◌, ℕ, Bool, true, false, cond, List, Option, Some, None, if◌then◌else◌, refl, ◌∙◌, ap, Bor, bytes_eq}
use mathlib.Core.Path.{fun_ext}
use Rattle.std.proofs.lemmas.Map.Text.{is_eq-slice_cmp}
use Rattle.std.specs.BTreeMap.{BTreeMap, IsUnchanged, UpdatesBy}
use Rattle.std.specs.Cmp.Lexicographic.{slice_cmp}
use Rattle.std.specs.Ordering.{nat_cmp}
use Rattle.vg_call_lines.specs.declared.names.NameKind.TheVariants.{Buffer, Context}
use Rattle.vg_call_lines.specs.declared.names.Named.{Named}
use Rattle.vg_call_lines.specs.declared.names.Label.{Label}
use Rattle.vg_call_lines.specs.Tables.{NameTable, names_of, with_name, with_context, without_name}

cond-if : (b : Bool) (x y : Option Named) → cond b x y ≡ (if b then x else y)
cond-if true x y = refl
cond-if false x y = refl

-- A map with one name more, and without one.
more_names : (old new : BTreeMap (Bor (List ℕ)) Named) (name : List ℕ) (one : Option Named)
    → UpdatesBy (λ x y. slice_cmp nat_cmp x.now y.now) (λ k. slice_cmp nat_cmp name k.now) old new one
    → names_of new ≡ (λ q. if bytes_eq name q then one else names_of old q)
more_names old new name one updates =
    fun_ext (λ q. updates.0 (record { ref_ptr = (0, 0); now = q }) ∙ ap (λ b. cond b one (names_of old q)) (is_eq-slice_cmp name q) ∙ cond-if (bytes_eq name q) one (names_of old q))

-- A map whose entries stay has the names that it had.
same_names : (old new : BTreeMap (Bor (List ℕ)) Named) → IsUnchanged old new → names_of new ≡ names_of old
same_names old new same = fun_ext (λ q. rw same refl)

module _ (labels : List ℕ → Option Label) (given : ℕ) (old new : BTreeMap (Bor (List ℕ)) Named) (name : List ℕ) (count contexts : ℕ) where
  -- The table of a map and two counts.
  abbrev pub table_with : BTreeMap (Bor (List ℕ)) Named → (count contexts : ℕ) → NameTable
  table_with map count contexts = record { names = names_of map; count = count; contexts = contexts; labels = labels; given = given }

  abbrev counted : (count contexts : ℕ) → (List ℕ → Option Named) → NameTable
  counted count contexts names = record { names = names; count = count; contexts = contexts; labels = labels; given = given }

  pub named : UpdatesBy (λ x y. slice_cmp nat_cmp x.now y.now) (λ k. slice_cmp nat_cmp name k.now) old new (Some (record { kind = Buffer; number = count + 1 }))
      → table_with new (count + 1) contexts ≡ with_name name (table_with old count contexts)
  named updates = ap (counted (count + 1) contexts) (more_names old new name (Some (record { kind = Buffer; number = count + 1 })) updates)

  pub named_context : UpdatesBy (λ x y. slice_cmp nat_cmp x.now y.now) (λ k. slice_cmp nat_cmp name k.now) old new (Some (record { kind = Context; number = contexts + 1 }))
      → table_with new count (contexts + 1) ≡ with_context name (table_with old count contexts)
  named_context updates = ap (counted count (contexts + 1)) (more_names old new name (Some (record { kind = Context; number = contexts + 1 })) updates)

  pub ended : UpdatesBy (λ x y. slice_cmp nat_cmp x.now y.now) (λ k. slice_cmp nat_cmp name k.now) old new None → table_with new count contexts ≡ without_name name (table_with old count contexts)
  ended updates = ap (counted count contexts) (more_names old new name None updates)

  pub unchanged : IsUnchanged old new → table_with new count contexts ≡ table_with old count contexts
  unchanged same = ap (counted count contexts) (same_names old new same)
