-- Bytes that are read and written segment by segment.
use Rattle.std.proofs.Common.{◌≡◌, ℕ, ◌+◌, ◌-◌, ◌<◌, ◌≤◌, List, ◌∷◌, ◌++◌, length, take, drop, min, get_or, sym, ap, subst, ◌∙◌, arith, length-take-le}
use Rattle.std.proofs.lemmas.List.{drop_more, take-take, drop-take, take-append-drop, length-drop}
use Rattle.std.proofs.lemmas.Slice.{take-put_mid}
use borrow.Rule.Slice.PartMut.{put_mid}
use Rattle.vg_chain.specs.declared.descriptor.Segment.{Segment}
use Rattle.vg_chain.specs.Made.{Covers}
use Rattle.vg_cargo.specs.Walked.{IsRead, IsFront}

-- what is known from a segment on
pub covers_at : (a n : ℕ) (segments : List Segment) (i : ℕ) (d : Segment) → i < length segments → Covers a n (drop i segments) → Covers a n (get_or segments i d ∷ drop (i + 1) segments)
covers_at a n segments i d less covers = subst (λ (xs : List Segment). Covers a n xs) (drop_more segments i d less) covers

-- a front and what stands behind it are a longer front
front_more : (xs : List ℕ) (k m : ℕ) → take k xs ++ take m (drop k xs) ≡ take (k + m) xs
front_more xs k m = ap (λ (ys : List ℕ). take k xs ++ ys) (sym (drop-take k m xs)) ∙ (ap (λ (ys : List ℕ). ys ++ drop k (take (k + m) xs)) (sym (take-take k (k + m) xs (omega arith))) ∙ take-append-drop k (take (k + m) xs))

pub read_on : (memory : List ℕ) (addr from to : ℕ) (segments : List Segment) (i : ℕ) (d : Segment) (old new : List ℕ) → i < length segments → IsRead memory addr (drop i segments) old
    → from ≡ (get_or segments i d).addr - addr → to ≡ from + (get_or segments i d).len → new ≡ old ++ take (to - from) (drop from memory) → IsRead memory addr (drop (i + 1) segments) new
read_on memory addr from to segments i d old new less read from_is to_is new_is =
    let s = get_or segments i d in
    let at = covers_at (addr + length old) (length memory - length old) segments i d less read.rest in
    let here : s.addr ≡ addr + length old = at.0 in
    let fits : s.len ≤ length memory - length old = at.1 in
    let few = read.few in
    let start : from ≡ length old = omega (arith, from_is, here) in
    let many : to - from ≡ s.len = omega (arith, to_is) in
    let whole : new ≡ take (length old + s.len) memory = new_is ∙ (ap (λ (k : ℕ). old ++ take k (drop from memory)) many ∙ (ap (λ (k : ℕ). old ++ take s.len (drop k memory)) start ∙ (ap (λ (xs : List ℕ). xs ++ take s.len (drop (length old) memory)) read.front ∙ front_more memory (length old) s.len))) in
    let long : length new ≡ length old + s.len = ap length whole ∙ length-take-le (length old + s.len) memory (omega arith) in
    let next : addr + length old + s.len ≡ addr + length new = omega (arith, long) in
    let left : length memory - length old - s.len ≡ length memory - length new = omega (arith, long) in
    record {
      few = omega (arith, long, few, fits);
      front = whole ∙ ap (λ (k : ℕ). take k memory) (sym long);
      rest = subst (λ (x : ℕ). Covers x (length memory - length new) (drop (i + 1) segments)) next (subst (λ (x : ℕ). Covers (addr + length old + s.len) x (drop (i + 1) segments)) left at.2);
    }

pub front_on : (room bytes part : List ℕ) (from to start end : ℕ) → from ≤ to → length bytes ≤ length room → start ≡ min from (length bytes) → end ≡ min to (length bytes)
    → part ≡ take (end - start) (drop start bytes) → IsFront room bytes from → IsFront (put_mid start (end - start) room part) bytes to
front_on room bytes part from to start end order few start_is end_is part_is front =
    let before : start ≤ end = omega arith in
    let rest : length (drop start bytes) ≡ length bytes - start = length-drop start bytes in
    let long : length part ≡ end - start = ap length part_is ∙ length-take-le (end - start) (drop start bytes) (omega (arith, rest)) in
    let so_far : take start room ≡ take start bytes = subst (λ (k : ℕ). take k room ≡ take k bytes) (sym start_is) front in
    let sum : start + (end - start) ≡ end = omega arith in
    let put : take end (put_mid start (end - start) room part) ≡ take start room ++ part = take-put_mid start (end - start) room part end (omega (arith, long)) (omega arith) in
    let all : take end (put_mid start (end - start) room part) ≡ take end bytes = put ∙ (ap (λ (xs : List ℕ). xs ++ part) so_far ∙ (ap (λ (xs : List ℕ). take start bytes ++ xs) part_is ∙ (front_more bytes start (end - start) ∙ ap (λ (k : ℕ). take k bytes) sum))) in
    subst (λ (k : ℕ). take k (put_mid start (end - start) room part) ≡ take k bytes) end_is all
