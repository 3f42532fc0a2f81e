-- Where entries and frames begin.
use Rattle.std.proofs.Common.{◌≡◌, inl, inr, ℕ, ◌+◌, ◌*◌, ◌≤◌, ◌==◌, ◌&&◌, Bool, true, false, if◌then◌else◌, List, [], ◌∷◌, ◌++◌, length, take, arith, refl, sym, ap, ◌∙◌, length-append}
use Rattle.std.proofs.lemmas.Bool.{and_parts, and_from, cases_lt, eqb-true, eq-eqb, false≢true}
use Rattle.std.proofs.lemmas.List.{take-append-le, take_all}
use Rattle.vg_journal_lines.specs.Pieces.{whole}
use Rattle.vg_journal_read.proofs.SizeLemmas.{ByEnd, ByEntry, ByFrame, ByHead, ByHost, ByStage, Grew}

-- What is so of the pieces that were read, and of the places that are kept.
pub record Places (h e f r : ℕ) (front : List (List ℕ)) (entries_at frames_at : ℕ) : Type 0 where
  pub counted : r ≤ 6 → length front ≡ h + e + 2 * f + r
  pub no_entries : r ≤ 2 → e ≡ 0
  pub no_frames : r ≤ 4 → f ≡ 0
  pub entries : 3 ≤ r → entries_at ≡ length (whole (take (3 + h) front))
  pub frames : 5 ≤ r → frames_at ≡ length (whole (take (5 + h + e) front))

pub not_both : (a m b n : ℕ) → (a == m && b == n) ≡ false → a ≡ m → b ≡ n → ⊥
not_both a m b n is p q = false≢true (sym is ∙ and_from (a == m) (b == n) (eq-eqb a m p) (eq-eqb b n q))

pick : (b : Bool) (at before place : ℕ) → (b ≡ true → at ≡ place) → (b ≡ false → before ≡ place) → (if b then at else before) ≡ place
pick true at before place p q = p refl
pick false at before place p q = q refl

module _ (h e f r h' e' f' r' : ℕ) where
  was_no_end : Grew h e f r h' e' f' r' → r ≤ 6
  was_no_end (ByHead a b c d g) = omega arith
  was_no_end (ByStage a b c d g) = omega arith
  was_no_end (ByHost a b c d g k) = omega arith
  was_no_end (ByEntry a b c d g) = omega arith
  was_no_end (ByFrame a b c d g) = omega arith
  was_no_end (ByEnd a b c d g) = omega arith

  count_more : Grew h e f r h' e' f' r' → r' ≤ 6 → h' + e' + 2 * f' + r' ≡ h + e + 2 * f + r + 1
  count_more (ByHead a b c d g) on = omega arith
  count_more (ByStage a b c d g) on = omega arith
  count_more (ByHost a b c d g k) on = omega arith
  count_more (ByEntry a b c d g) on = omega arith
  count_more (ByFrame a b c d g) on = omega arith
  count_more (ByEnd a b c d g) on = absurd (omega arith)

  entries_none : Grew h e f r h' e' f' r' → (r ≤ 2 → e ≡ 0) → r' ≤ 2 → e' ≡ 0
  entries_none (ByHead a b c d g) none few = omega arith
  entries_none (ByStage a b c d g) none few = omega arith
  entries_none (ByHost a b c d g k) none few = absurd (omega arith)
  entries_none (ByEntry a b c d g) none few = absurd (omega arith)
  entries_none (ByFrame a b c d g) none few = absurd (omega arith)
  entries_none (ByEnd a b c d g) none few = absurd (omega arith)

  frames_none : Grew h e f r h' e' f' r' → (r ≤ 4 → f ≡ 0) → r' ≤ 4 → f' ≡ 0
  frames_none (ByHead a b c d g) none few = omega arith
  frames_none (ByStage a b c d g) none few = omega arith
  frames_none (ByHost a b c d g k) none few = omega arith
  frames_none (ByEntry a b c d g) none few = omega arith
  frames_none (ByFrame a b c d g) none few = absurd (omega arith)
  frames_none (ByEnd a b c d g) none few = absurd (omega arith)

  -- Where entries began before.
  entries_kept : Grew h e f r h' e' f' r' → (r ≤ 2 → e ≡ 0) → 3 ≤ r' → (r' == 3 && e' == 0) ≡ false → (3 ≤ r) × (h' ≡ h)
  entries_kept (ByHead a b c d g) none behind other = absurd (omega arith)
  entries_kept (ByStage a b c d g) none behind other =
      elim (cases_lt r 3) [
        | inl less ↦ absurd (not_both r' 3 e' 0 other (omega arith) (omega (arith, none)))
        | inr more ↦ (more, b)
      ]
  entries_kept (ByHost a b c d g k) none behind other = absurd (not_both r' 3 e' 0 other k d)
  entries_kept (ByEntry a b c d g) none behind other = (omega arith, b)
  entries_kept (ByFrame a b c d g) none behind other = (omega arith, b)
  entries_kept (ByEnd a b c d g) none behind other = (omega arith, b)

  -- Where frames began before.
  frames_kept : Grew h e f r h' e' f' r' → (r ≤ 4 → f ≡ 0) → 5 ≤ r' → (r' == 5 && f' == 0) ≡ false → (5 ≤ r) × (h' ≡ h) × (e' ≡ e)
  frames_kept (ByHead a b c d g) none behind other = absurd (omega arith)
  frames_kept (ByStage a b c d g) none behind other =
      elim (cases_lt r 5) [
        | inl less ↦ absurd (not_both r' 5 f' 0 other (omega arith) (omega (arith, none)))
        | inr more ↦ (more, b, c)
      ]
  frames_kept (ByHost a b c d g k) none behind other = absurd (omega arith)
  frames_kept (ByEntry a b c d g) none behind other = absurd (omega arith)
  frames_kept (ByFrame a b c d g) none behind other = (omega arith, b, c)
  frames_kept (ByEnd a b c d g) none behind other = (omega arith, b, c)

-- Some first pieces are there still.
still : (m n : ℕ) (front : List (List ℕ)) (piece : List ℕ) → m ≡ n → n ≤ length front
    → length (whole (take n front)) ≡ length (whole (take m (front ++ piece ∷ [])))
still m n front piece same within =
    ap (λ ps. length (whole ps)) (sym (take-append-le n front (piece ∷ []) within) ∙ ap (λ k. take k (front ++ piece ∷ [])) (sym same))

all_of : (n at : ℕ) (front : List (List ℕ)) → length front ≡ n → at ≡ length (whole front) → at ≡ length (whole (take n front))
all_of n at front size is = is ∙ ap (λ ps. length (whole ps)) (sym (take_all n front (omega (arith, size))))

pub places_more : (h e f r h' e' f' r' : ℕ) (front : List (List ℕ)) (piece : List ℕ) (at entries_at frames_at : ℕ) → Grew h e f r h' e' f' r' → Places h e f r front entries_at frames_at
    → at ≡ length (whole (front ++ piece ∷ []))
    → Places h' e' f' r' (front ++ piece ∷ []) (if r' == 3 && e' == 0 then at else entries_at) (if r' == 5 && f' == 0 then at else frames_at)
places_more h e f r h' e' f' r' front piece at entries_at frames_at grew p is =
    let sum = length-append front (piece ∷ []) in
    let before = p.counted (was_no_end h e f r h' e' f' r' grew) in
    let counted : r' ≤ 6 → length (front ++ piece ∷ []) ≡ h' + e' + 2 * f' + r' = λ on. (let more = count_more h e f r h' e' f' r' grew on in omega (arith, sum, before, more)) in
    let no_entries = entries_none h e f r h' e' f' r' grew p.no_entries in
    let no_frames = frames_none h e f r h' e' f' r' grew p.no_frames in
    record {
      counted = counted;
      no_entries = no_entries;
      no_frames = no_frames;
      entries = λ behind.
          pick (r' == 3 && e' == 0) at entries_at (length (whole (take (3 + h') (front ++ piece ∷ []))))
          (λ here.
          let parts = and_parts (r' == 3) (e' == 0) here in
          let third = eqb-true r' 3 parts.0 in
          let none = eqb-true e' 0 parts.1 in
          let none' = no_frames (omega (arith, third)) in
          let size = counted (omega (arith, third)) in
          all_of (3 + h') at (front ++ piece ∷ []) (omega (arith, third, none, none', size)) is)
          (λ other.
          let kept = entries_kept h e f r h' e' f' r' grew p.no_entries behind other in
          let same = kept.1 in
          let third = kept.0 in
          p.entries third ∙ still (3 + h') (3 + h) front piece (omega (arith, same)) (omega (arith, before, third)));
      frames = λ behind.
          pick (r' == 5 && f' == 0) at frames_at (length (whole (take (5 + h' + e') (front ++ piece ∷ []))))
          (λ here.
          let parts = and_parts (r' == 5) (f' == 0) here in
          let fifth = eqb-true r' 5 parts.0 in
          let none = eqb-true f' 0 parts.1 in
          let size = counted (omega (arith, fifth)) in
          all_of (5 + h' + e') at (front ++ piece ∷ []) (omega (arith, fifth, none, size)) is)
          (λ other.
          let kept = frames_kept h e f r h' e' f' r' grew p.no_frames behind other in
          let same = kept.1 in
          let same' = kept.2 in
          let fifth = kept.0 in
          p.frames fifth ∙ still (5 + h' + e') (5 + h + e) front piece (omega (arith, same, same')) (omega (arith, before, fifth)));
    }
