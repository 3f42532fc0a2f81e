-- Numbered texts of a list, one after another.
use Rattle.std.proofs.Common.{ℕ, ◌≡◌, ◌+◌, ◌<◌, List, ◌++◌, length, take, drop, get_or, sym, ap, subst, ◌∙◌}
use Rattle.std.proofs.lemmas.List.{take-append-drop}
use Rattle.vg_list.specs.Front.{HasFront}
use Rattle.vg_list.proofs.FrontLemmas.{front_first, front_then}
use Rattle.vg_text.specs.Text.{numbered}
use Rattle.vg_text.proofs.NumberedLemmas.{numbered_append, numbered_more}

-- A front of one text more is a front of the texts of all.
pub front_more : {X : Type 0} (text : ℕ → X → List ℕ) (n : ℕ) (xs : List X) (i j : ℕ) (x d : X) (old mid new : List ℕ) → mid ≡ old ++ numbered text n (take i xs) → HasFront mid new (text j x) → j ≡ n + i → i < length xs → x ≡ get_or xs i d → HasFront old new (numbered text n xs)
front_more text n xs i j x d old mid new so_far has place within is_read =
    let more : numbered text n (take i xs) ++ text j x ≡ numbered text n (take (i + 1) xs) =
    ap (λ k. numbered text n (take i xs) ++ text k x) place ∙ sym (numbered_more text n xs i x d within is_read) in
    let whole : numbered text n (take (i + 1) xs) ++ numbered text (n + length (take (i + 1) xs)) (drop (i + 1) xs) ≡ numbered text n xs =
    sym (numbered_append text n (take (i + 1) xs) (drop (i + 1) xs)) ∙ ap (numbered text n) (take-append-drop (i + 1) xs) in
    let front : HasFront old new (numbered text n (take (i + 1) xs)) =
    subst (HasFront old new) more (front_then old mid new (numbered text n (take i xs)) (text j x) so_far has) in
    subst (HasFront old new) whole
    (front_first old new (numbered text n (take (i + 1) xs)) (numbered text (n + length (take (i + 1) xs)) (drop (i + 1) xs)) front)
