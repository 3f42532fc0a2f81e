-- The entries of a lane, of lists that grow and shrink.
use Rattle.std.proofs.Common.{◌≡◌, ◌≢◌, ℕ, ◌+◌, Bool, true, false, cond, eqb, List, [], ◌∷◌, ◌++◌, map, length, refl, sym, ap, subst, inl, inr, ◌∙◌, arith, length-append}
use Rattle.std.specs.List.{range_with_len}
use Rattle.std.proofs.lemmas.Bool.{eq-eqb, ne_eqb}
use Rattle.std.proofs.lemmas.Bool.Decides.{eqb_tells}
use Rattle.vg_cargo.specs.declared.entries.Entry.{Entry}
use Rattle.vg_cargo.specs.Entries.{lane_count, InOrder, Has}
use Rattle.vg_cargo.proofs.Counts.{lane_count-snoc}
use Rattle.vg_front.specs.Lanes.{of_lane}

choice : (e : Entry) (all left right : List Entry) (b : Bool) → all ≡ left ++ right → cond b (e ∷ all) all ≡ cond b (e ∷ left) left ++ right
choice e all left right true same = ap (λ (xs : List Entry). e ∷ xs) same
choice e all left right false same = same

pub of_lane-append : (lane : ℕ) (es fs : List Entry) → of_lane lane (es ++ fs) ≡ of_lane lane es ++ of_lane lane fs
of_lane-append lane [] fs = refl
of_lane-append lane (e ∷ es) fs = choice e (of_lane lane (es ++ fs)) (of_lane lane es) (of_lane lane fs) (eqb e.lane lane) (of_lane-append lane es fs)

pub of_lane-here : (lane : ℕ) (e : Entry) (es : List Entry) → e.lane ≡ lane → of_lane lane (e ∷ es) ≡ e ∷ of_lane lane es
of_lane-here lane e es same = rw (eq-eqb e.lane lane same) refl

pub of_lane-skip : (lane : ℕ) (e : Entry) (es : List Entry) → e.lane ≢ lane → of_lane lane (e ∷ es) ≡ of_lane lane es
of_lane-skip lane e es other = rw (ne_eqb e.lane lane other) refl

-- an entry in the middle
pub of_lane-mid : (lane : ℕ) (xs : List Entry) (e : Entry) (ys : List Entry) → e.lane ≡ lane → of_lane lane (xs ++ e ∷ ys) ≡ of_lane lane xs ++ e ∷ of_lane lane ys
of_lane-mid lane xs e ys same = of_lane-append lane xs (e ∷ ys) ∙ ap (λ (zs : List Entry). of_lane lane xs ++ zs) (of_lane-here lane e ys same)

pub of_lane-mid_skip : (lane : ℕ) (xs : List Entry) (e : Entry) (ys : List Entry) → e.lane ≢ lane → of_lane lane (xs ++ e ∷ ys) ≡ of_lane lane (xs ++ ys)
of_lane-mid_skip lane xs e ys other = of_lane-append lane xs (e ∷ ys) ∙ ap (λ (zs : List Entry). of_lane lane xs ++ zs) (of_lane-skip lane e ys other) ∙ sym (of_lane-append lane xs ys)

abbrev first_of : Entry → List Entry → Entry
first_of d [] = d
first_of d (x ∷ xs) = x

abbrev rest_of : List Entry → List Entry
rest_of [] = []
rest_of (x ∷ xs) = xs

pub nothing_there : (xs : List Entry) (e : Entry) (ys : List Entry) → [] ≡ xs ++ e ∷ ys → ⊥
nothing_there xs e ys same = (let long = ap {B = ℕ} length same in let two = length-append xs (e ∷ ys) in omega (arith, long, two))

at_head : (lane : ℕ) (before : List Entry) (f : Entry) (es xs : List Entry) (e : Entry) (ys : List Entry) → f.ordinal ≡ lane_count f.lane before + 1 → f ∷ of_lane lane es ≡ xs ++ e ∷ ys → f.lane ≡ lane
    → ((zs : List Entry) → of_lane lane es ≡ zs ++ e ∷ ys → e.ordinal ≡ lane_count lane (before ++ f ∷ []) + length zs + 1) → e.ordinal ≡ lane_count lane before + length xs + 1
at_head lane before f es [] e ys at same lane_is later =
    let first : f ≡ e = ap {B = Entry} (first_of f) same in
    let counted : lane_count f.lane before ≡ lane_count lane before = ap (λ (k : ℕ). lane_count k before) lane_is in
    let ordinal : f.ordinal ≡ e.ordinal = ap (λ (x : Entry). x.ordinal) first in
    omega (arith, counted, ordinal, at)
at_head lane before f es (x ∷ xs) e ys at same lane_is later =
    let rest = later xs (ap rest_of same) in
    let grown = lane_count-snoc lane before f in
    let one : lane_count lane (f ∷ []) ≡ 1 = rw (eq-eqb f.lane lane lane_is) refl in
    omega (arith, rest, grown, one)

-- the entry after so many of its lane has that ordinal
pub ordinal_at : (lane : ℕ) (before es xs : List Entry) (e : Entry) (ys : List Entry) → InOrder before es → of_lane lane es ≡ xs ++ e ∷ ys → e.ordinal ≡ lane_count lane before + length xs + 1
ordinal_at lane before [] xs e ys order is = absurd (nothing_there xs e ys is)
ordinal_at lane before (f ∷ es) xs e ys order is = elim (eqb_tells f.lane lane) [
  | inl w ↦ at_head lane before f es xs e ys order.0 (sym (of_lane-here lane f es w.1) ∙ is) w.1 (λ zs. ordinal_at lane (before ++ f ∷ []) es zs e ys order.1)
  | inr w ↦ (
      let rest = ordinal_at lane (before ++ f ∷ []) es xs e ys order.1 (sym (of_lane-skip lane f es w.1) ∙ is) in
      let grown = lane_count-snoc lane before f in
      let none : lane_count lane (f ∷ []) ≡ 0 = rw w.0 refl in
      omega (arith, rest, grown, none)
      )
]

-- the ordinals of a lane rise one by one
pub ordinals_rise : (lane : ℕ) (before es : List Entry) → InOrder before es → map (λ (e : Entry). e.ordinal) (of_lane lane es) ≡ range_with_len (lane_count lane before + 1) (length (of_lane lane es))
ordinals_rise lane before [] order = refl
ordinals_rise lane before (f ∷ es) order = elim (eqb_tells f.lane lane) [
  | inl w ↦ (
      let rest = ordinals_rise lane (before ++ f ∷ []) es order.1 in
      let grown = lane_count-snoc lane before f in
      let one : lane_count lane (f ∷ []) ≡ 1 = rw w.0 refl in
      let next : lane_count lane (before ++ f ∷ []) + 1 ≡ lane_count lane before + 1 + 1 = omega (arith, grown, one) in
      let counted : lane_count f.lane before ≡ lane_count lane before = ap (λ (k : ℕ). lane_count k before) w.1 in
      let here : f.ordinal ≡ lane_count lane before + 1 = (let at = order.0 in omega (arith, counted, at)) in
      let P : List Entry → Type 0 = λ (xs : List Entry). map (λ (e : Entry). e.ordinal) xs ≡ range_with_len (lane_count lane before + 1) (length xs) in
      subst P (sym (of_lane-here lane f es w.1))
      (ap (λ (k : ℕ). k ∷ map (λ (e : Entry). e.ordinal) (of_lane lane es)) here ∙ ap (λ (ks : List ℕ). (lane_count lane before + 1) ∷ ks) (rest ∙ ap (λ (k : ℕ). range_with_len k (length (of_lane lane es))) next))
      )
  | inr w ↦ (
      let rest = ordinals_rise lane (before ++ f ∷ []) es order.1 in
      let grown = lane_count-snoc lane before f in
      let none : lane_count lane (f ∷ []) ≡ 0 = rw w.0 refl in
      let next : lane_count lane (before ++ f ∷ []) + 1 ≡ lane_count lane before + 1 = omega (arith, grown, none) in
      let P : List Entry → Type 0 = λ (xs : List Entry). map (λ (e : Entry). e.ordinal) xs ≡ range_with_len (lane_count lane before + 1) (length xs) in
      subst P (sym (of_lane-skip lane f es w.1)) (rest ∙ ap (λ (k : ℕ). range_with_len k (length (of_lane lane es))) next)
      )
]

pub has_of_lane : (lane : ℕ) (e : Entry) (es : List Entry) → Has e es → e.lane ≡ lane → Has e (of_lane lane es)
has_of_lane lane e [] has same = absurd has
has_of_lane lane e (f ∷ es) has same = elim (eqb_tells f.lane lane) [
  | inl w ↦ subst (Has e) (sym (of_lane-here lane f es w.1)) (elim has [ inl here ↦ inl here | inr rest ↦ inr (has_of_lane lane e es rest same) ])
  | inr w ↦ subst (Has e) (sym (of_lane-skip lane f es w.1)) (elim has [ inl here ↦ absurd (w.1 (ap (λ (x : Entry). x.lane) here ∙ same)) | inr rest ↦ has_of_lane lane e es rest same ])
]

-- an entry that is alone of its lane has none around it
pub alone_of : (xs : List Entry) (e f : Entry) (ys : List Entry) → xs ++ e ∷ ys ≡ f ∷ [] → (xs ≡ []) × (ys ≡ [])
alone_of [] e f ys same = (refl, ap rest_of same)
alone_of (x ∷ xs) e f ys same = absurd (nothing_there xs e ys (sym (ap rest_of same)))
