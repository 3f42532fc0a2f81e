-- Bytes that are cut behind a line.
use Rattle.std.proofs.Common.{◌≡◌, ℕ, ◌+◌, ◌-◌, ◌==◌, true, not, List, ◌∷◌, ◌++◌, length, get_or, take, drop, arith, ap, ◌∙◌, length-append}
use Rattle.std.proofs.lemmas.List.{drop_at, take_all}
use Rattle.std.proofs.Math.ListN.{get_or-append}
use Rattle.std.proofs.Math.Seq.{drop-append-add, get_or-append_seam, take-append_seam}
use Rattle.std.proofs.lemmas.Bool.{not-true}
use Rattle.std.proofs.lemmas.List.Sums.{AllPass-from_list_all, position_or_len_is}
use Rattle.std.specs.List.{after_first, before_first, position_or_len}
use Rattle.vg_line_words.specs.Words.{lacks}

ends_at : (p v : List ℕ) → lacks 10 p ≡ true → position_or_len (λ b. b == 10) (p ++ 10 ∷ v) ≡ length p
ends_at p v lacking =
    position_or_len_is (λ b. b == 10) (p ++ 10 ∷ v) (length p) 0 (omega (arith, length-append p (10 ∷ v)))
    (λ k lt. ap (λ b. b == 10) (get_or-append p (10 ∷ v) 0 k lt) ∙ not-true (get_or p k 0 == 10) (AllPass-from_list_all (λ b. not (b == 10)) p lacking k 0 lt))
    (λ lt. ap (λ b. b == 10) (get_or-append_seam p 10 v 0))

pub before_end : (bytes p v : List ℕ) → bytes ≡ p ++ 10 ∷ v → lacks 10 p ≡ true → before_first (λ b. b == 10) bytes ≡ p
before_end bytes p v is lacking =
    ap (before_first (λ b. b == 10)) is ∙ ap (λ n. take n (p ++ 10 ∷ v)) (ends_at p v lacking) ∙ take-append_seam p (10 ∷ v)

pub behind_end : (bytes p v : List ℕ) → bytes ≡ p ++ 10 ∷ v → lacks 10 p ≡ true → after_first (λ b. b == 10) bytes ≡ v
behind_end bytes p v is lacking =
    ap (after_first (λ b. b == 10)) is ∙ ap (λ n. drop (n + 1) (p ++ 10 ∷ v)) (ends_at p v lacking) ∙ drop-append-add p (10 ∷ v) 1

-- What stands behind so many bytes.
pub behind_at : (bytes front text : List ℕ) (at : ℕ) → length front ≡ at → bytes ≡ front ++ text → take (length bytes - at) (drop at bytes) ≡ text
behind_at bytes front text at long is =
    let size : length bytes ≡ length front + length text = ap length is ∙ length-append front text in
    let rest : drop at bytes ≡ text = ap (drop at) is ∙ drop_at front text at long in
    ap (take (length bytes - at)) rest ∙ take_all (length bytes - at) text (omega (arith, size, long))
