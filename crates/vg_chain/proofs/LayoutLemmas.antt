use Rattle.std.proofs.Common.{◌≡◌, ℕ, zero, suc, ◌+◌, ◌<◌, ◌≤◌, true, ltb, List, [], ◌∷◌, ◌++◌, length, get_or, refl, sym, ap, ◌∙◌, arith, slice_get}
use Rattle.std.specs.List.{range_with_len}
use Rattle.std.proofs.lemmas.List.FromFn.{get_or-range_with_len}
use Rattle.std.proofs.lemmas.List.{append-nil}
use Rattle.std.proofs.lemmas.Bool.Decides.{nat_tests}
use Rattle.vg_chain.specs.declared.descriptor.Descriptor.{Descriptor}
use Rattle.vg_chain.specs.declared.form.Form.{Form}
use Rattle.vg_chain.specs.declared.part.Part.{Part}
use Rattle.vg_chain.specs.Made.{linked, in_table, bytes_of, bytes_in, table_bytes, link_of}

pub linked_is : (parts : List Part) (nexts : List ℕ) (at next : ℕ) → (at + 1 < length parts → get_or nexts at 0 ≡ next)
    → slice_get (linked parts nexts) at ≡ link_of (slice_get parts at) (ltb (at + 1) (length parts)) next
linked_is [] nexts at next e = refl
linked_is (p ∷ []) nexts zero next e = refl
linked_is (p ∷ []) nexts (suc at) next e = refl
linked_is (p ∷ other ∷ parts) nexts zero next e =
    let more : ltb (0 + 1) (length (p ∷ other ∷ parts)) ≡ true = grind (arith, nat_tests) in
    let here : get_or nexts 0 0 ≡ next = e (omega arith) in
    rw (more, here) refl
linked_is (p ∷ other ∷ parts) [] (suc at) next e =
    let rest = linked_is (other ∷ parts) [] at next (λ h. e (omega arith)) in
    let same : ltb (suc at + 1) (length (p ∷ other ∷ parts)) ≡ ltb (at + 1) (length (other ∷ parts)) = grind (arith, nat_tests) in
    rw same rest
linked_is (p ∷ other ∷ parts) (n ∷ nexts) (suc at) next e =
    let rest = linked_is (other ∷ parts) nexts at next (λ h. e (omega arith)) in
    let same : ltb (suc at + 1) (length (p ∷ other ∷ parts)) ≡ ltb (at + 1) (length (other ∷ parts)) = grind (arith, nat_tests) in
    rw same rest

pub in_table_is : (parts : List Part) (at : ℕ) → slice_get (in_table parts) at ≡ link_of (slice_get parts at) (ltb (at + 1) (length parts)) (at + 1)
in_table_is parts at = linked_is parts (range_with_len 1 (length parts)) at (at + 1) (λ h. get_or-range_with_len 1 (length parts) at 0 (omega arith) ∙ omega arith)

-- the bytes of a table of at most two descriptors
pub table_of_two : (form : Form) (table : List Descriptor) → length table ≤ 2 → bytes_in form (slice_get table 0) ++ bytes_in form (slice_get table 1) ≡ table_bytes form table
table_of_two form [] few = refl
table_of_two form (d ∷ []) few = refl
table_of_two form (d ∷ e ∷ []) few = ap (λ (xs : List ℕ). bytes_of form d ++ xs) (sym (append-nil (bytes_of form e)))
table_of_two form (d ∷ e ∷ f ∷ more) few = absurd (omega arith)
