-- Strips of bytes, what is planned of them, and the bytes of a strip from some place on.
use Rattle.std.proofs.Common.{◌≡◌, ℕ, suc, ◌+◌, ◌-◌, ◌*◌, ◌/◌, ◌%◌, ◌<◌, ◌≤◌, List, [], ◌∷◌, ◌++◌, drop, get_or, length, map, take, ap, refl, sym, subst, ◌∙◌, inl, inr, arith}
use Rattle.std.proofs.Math.Seq.{take-add}
use Rattle.std.proofs.lemmas.Bool.{cases_lt}
use Rattle.std.proofs.lemmas.List.{drop-append-le, drop-drop, drop-take, get_or-map, get_or_append_left, get_or_push, length-append, length-drop, length-map, length-take, take-append-le, take_all}
use Rattle.std.specs.List.{All, concat}
use Rattle.vg_shared_bytes.specs.declared.plan.Plan.{Plan}
use Rattle.vg_shared_bytes.specs.declared.plan.Plan.TheVariants.{New, Shared}
use Rattle.vg_shared_bytes.specs.PlansWithin.{Fits, Grows, IsPlanned, bytes_by}
use Rattle.vg_shared_bytes.specs.Strips.{IsCut}

-- what is left of a strip, from the place `at` on
pub record IsPiece (bytes : List ℕ) (at : ℕ) (rest : List ℕ) : Type 0 where
  pub bytes_are : rest ≡ take (length rest) (drop at bytes)
  pub some : 0 < length rest
  pub fits : at + length rest ≤ length bytes

-- the first bytes are as many as they are
pub own-length : (m : ℕ) (bs : List ℕ) → take (length (take m bs)) bs ≡ take m bs
own-length m bs = elim (cases_lt (length bs) m) [
  | inl less ↦ take_all (length (take m bs)) bs (omega (arith, length-take m bs, less)) ∙ sym (take_all m bs (omega (arith, less)))
  | inr not ↦ ap (λ n. take n bs) (omega (arith, length-take m bs, not))
]

-- what the strip in which a place lies has from it on
pub rest-of-strip : (bytes : List ℕ) (at : ℕ) → drop (at % 1024) (take 1024 (drop (1024 * (at / 1024)) bytes)) ≡ take (1024 - at % 1024) (drop at bytes)
rest-of-strip bytes at =
    let k = at / 1024 in
    let skip = at % 1024 in
    let place : 1024 * k + skip ≡ at = omega arith in
    let size : skip + (1024 - skip) ≡ 1024 = omega arith in
    ap (λ m. drop skip (take m (drop (1024 * k) bytes))) (sym size)
    ∙ drop-take skip (1024 - skip) (drop (1024 * k) bytes)
    ∙ ap (take (1024 - skip)) (drop-drop skip (1024 * k) bytes ∙ ap (λ m. drop m bytes) place)

piece : (bytes : List ℕ) (at : ℕ) (strip : List ℕ) → strip ≡ take 1024 (drop (1024 * (at / 1024)) bytes) → at < length bytes → IsPiece bytes at (drop (at % 1024) strip)
piece bytes at strip is inside =
    let n = 1024 - at % 1024 in
    let rest = drop (at % 1024) strip in
    let same : rest ≡ take n (drop at bytes) = ap (drop (at % 1024)) is ∙ rest-of-strip bytes at in
    let long = ap length same ∙ length-take n (drop at bytes) in
    let left = length-drop at bytes in
    let own : take (length rest) (drop at bytes) ≡ rest = ap (λ (xs : List ℕ). take (length xs) (drop at bytes)) same ∙ own-length n (drop at bytes) ∙ sym same in
    record { bytes_are = sym own; some = omega (arith, long, left, inside); fits = omega (arith, long, left, inside) }

pub piece-of : (bytes : List ℕ) (strips : List (List ℕ)) (at : ℕ) (strip shown : List ℕ) → bytes ≡ concat strips → IsCut (concat strips) strips
    → at < length bytes → strip ≡ get_or strips (at / 1024) strip → shown ≡ strip → (at % 1024 ≤ length shown) × IsPiece bytes at (drop (at % 1024) shown)
piece-of bytes strips at strip shown view are inside is same =
    let cut = subst (λ bs. IsCut bs strips) (sym view) are in
    let here = piece bytes at shown (same ∙ is ∙ cut.each (at / 1024) strip (omega (arith, inside, cut.all))) inside in
    (omega (arith, length-drop (at % 1024) shown, here.some), here)

-- a plan stays one where more is new
plan-grows : (new more bytes : List ℕ) (plan : Plan) → IsPlanned new bytes plan → IsPlanned (new ++ more) bytes plan
plan-grows new more bytes (Shared strip) is = is
plan-grows new more bytes (New from len) is =
    let long = length-append new more in (
      ap (take len) (drop-append-le from new more (omega (arith, is.1)))
          ∙ take-append-le len (drop from new) more (omega (arith, is.1, length-drop from new))
          ∙ is.0,
      omega (arith, long, is.1),
    )

pub planned-again : (new bytes : List ℕ) (from : ℕ) → from ≤ length new → drop from new ≡ bytes → IsPlanned new bytes (New from (length bytes))
planned-again new bytes from inside same = (
  ap (take (length bytes)) same ∙ take_all (length bytes) bytes (omega arith),
  omega (arith, inside, ap length same, length-drop from new),
)

pub planned-new : (old new bytes : List ℕ) → new ≡ old ++ bytes → IsPlanned new bytes (New (length old) (length bytes))
planned-new old new bytes added =
    subst (λ (now : List ℕ). IsPlanned now bytes (New (length old) (length bytes))) (sym added)
    (planned-again (old ++ bytes) bytes (length old) (omega (arith, length-append old bytes)) (dropped old bytes))
  where
    dropped : (xs ys : List ℕ) → drop (length xs) (xs ++ ys) ≡ ys
    dropped [] ys = refl
    dropped (x ∷ xs) ys = dropped xs ys

-- so many strips of these bytes are planned
pub record ArePlanned (new bytes : List ℕ) (plans : List Plan) (n : ℕ) : Type 0 where
  pub count : length plans ≡ n
  pub each : (k : ℕ) (d : Plan) → k < n → IsPlanned new (take 1024 (drop (1024 * k) bytes)) (get_or plans k d)

pub planned-none : (bytes : List ℕ) → ArePlanned [] bytes [] 0
planned-none bytes = record { count = refl; each = λ k d below. absurd (omega (arith, below)) }

pub planned-more : (old new bytes : List ℕ) (plans now : List Plan) (n : ℕ) (piece : List ℕ) (plan : Plan) → ArePlanned old bytes plans n → piece ≡ take 1024 (drop (1024 * n) bytes)
    → IsPlanned new piece plan → Grows old new → now ≡ plans ++ plan ∷ [] → ArePlanned new bytes now (n + 1)
planned-more old new bytes plans now n piece plan are is here grows added =
    subst (λ (xs : List Plan). ArePlanned new bytes xs (n + 1)) (sym added) (record {
      count = length-append plans (plan ∷ []) ∙ ap (λ m. m + 1) are.count;
      each = λ k d below. elim (cases_lt k n) [
        | inl less ↦
            let piece_k = take 1024 (drop (1024 * k) bytes) in
            let before = subst (λ (xs : List ℕ). IsPlanned xs piece_k (get_or plans k d)) (sym grows.1) (plan-grows old grows.0 piece_k (get_or plans k d) (are.each k d less)) in
            subst (IsPlanned new piece_k) (sym (get_or_append_left plans (plan ∷ []) d k (omega (arith, less, are.count)))) before
        | inr not ↦
            let last : k ≡ n = omega (arith, below, not) in
            let this = subst (λ (xs : List ℕ). IsPlanned new xs plan) (is ∙ ap (λ m. take 1024 (drop (1024 * m) bytes)) (sym last)) here in
            subst (IsPlanned new (take 1024 (drop (1024 * k) bytes))) (sym (get_or_push plans plan d k (are.count ∙ sym last))) this
      ];
    })

pub planned-fit : (new bytes : List ℕ) (plans : List Plan) (n : ℕ) → ArePlanned new bytes plans n → All (Fits new) plans
planned-fit new bytes plans n are = λ k plan below. (are.each k plan (omega (arith, below, are.count))).1

-- strips that are each the bytes of their place are all bytes
all-strips : (bytes : List ℕ) (strips : List (List ℕ)) → ((k : ℕ) (d : List ℕ) → k < length strips → get_or strips k d ≡ take 1024 (drop (1024 * k) bytes)) → concat strips ≡ take (1024 * length strips) bytes
all-strips bytes [] each = refl
all-strips bytes (strip ∷ more) each =
    let rest : (k : ℕ) (d : List ℕ) → k < length more → get_or more k d ≡ take 1024 (drop (1024 * k) (drop 1024 bytes)) = λ k d below.
    let place : 1024 + 1024 * k ≡ 1024 * suc k = omega arith in
    each (suc k) d (omega (arith, below)) ∙ sym (ap (take 1024) (drop-drop (1024 * k) 1024 bytes ∙ ap (λ m. drop m bytes) place))
    in
    let size : 1024 + 1024 * length more ≡ 1024 * suc (length more) = omega arith in
    (λ i. each 0 [] (omega arith) i ++ all-strips (drop 1024 bytes) more rest i)
    ∙ sym (take-add 1024 (1024 * length more) bytes)
    ∙ ap (λ m. take m bytes) size

pub cut-all : (new bytes : List ℕ) (plans : List Plan) (strips : List (List ℕ)) (n : ℕ) → ArePlanned new bytes plans n → strips ≡ map (bytes_by new) plans → length bytes ≤ 1024 * n
    → (concat strips ≡ bytes) × IsCut bytes strips
cut-all new bytes plans strips n are made enough =
    let long : length strips ≡ n = ap length made ∙ length-map plans (bytes_by new) ∙ are.count in
    let each : (k : ℕ) (d : List ℕ) → k < length strips → get_or strips k d ≡ take 1024 (drop (1024 * k) bytes) = λ k d below.
    ap (λ (xs : List (List ℕ)). get_or xs k d) made ∙ get_or-map (bytes_by new) plans k (Shared []) d (omega (arith, below, long, are.count)) ∙ (are.each k (Shared []) (omega (arith, below, long))).0 in
    let all : length bytes ≤ 1024 * length strips = omega (arith, long, enough) in
    (all-strips bytes strips each ∙ take_all (1024 * length strips) bytes all, record { all = all; each = each })
