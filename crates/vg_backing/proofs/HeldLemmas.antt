-- What holds of the value of each entry of a map, as one comes or goes.
use Rattle.std.proofs.Common.{ℕ, ◌<◌, List, length, Bool, sym, subst, arith}
use Rattle.std.specs.List.{All}
use Rattle.std.proofs.lemmas.List.{get_or-map}
use Rattle.std.proofs.lemmas.Map.Entries.{length-values_of}
use Rattle.std.proofs.lemmas.Map.Views.{All-values-insert_entry, All-map-remove_entry}
use Rattle.std.specs.Map.{remove_entry, values_of}
use Rattle.std.specs.BTreeMap.{insert_entry}
use Rattle.std.specs.Ordering.{nat_cmp}

held-values : {X : Type 0} (P : X → Type 0) (es : List (ℕ × X)) → All (λ entry. P entry.1) es → All P (values_of es)
held-values P es held = λ k d within.
    let inside : k < length es = omega (arith, length-values_of es) in
    subst P (sym (get_or-map (λ entry. entry.1) es k (0, d) d inside)) (held k (0, d) inside)

held-entries : {X : Type 0} (P : X → Type 0) (es : List (ℕ × X)) → All P (values_of es) → All (λ entry. P entry.1) es
held-entries P es held = λ k d within.
    let inside : k < length (values_of es) = omega (arith, length-values_of es) in
    subst P (get_or-map (λ entry. entry.1) es k d d.1 within) (held k d.1 inside)

pub held-with : {X : Type 0} (P : X → Type 0) (es : List (ℕ × X)) (id : ℕ) (x : X) → All (λ entry. P entry.1) es → P x → All (λ entry. P entry.1) (insert_entry nat_cmp es id x)
held-with P es id x held new = held-entries P (insert_entry nat_cmp es id x) (All-values-insert_entry nat_cmp id x P es (held-values P es held) new)

pub held-without : {X : Type 0} (P : X → Type 0) (es : List (ℕ × X)) (test : ℕ → Bool) → All (λ entry. P entry.1) es → All (λ entry. P entry.1) (remove_entry test es)
held-without P es test held = held-entries P (remove_entry test es) (All-map-remove_entry test (λ entry. entry.1) P es (held-values P es held))
