-- The rows of a screen that a cursor lies over, as a screen of their own.
use Rattle.std.proofs.Common.{◌≡◌, ℕ, ◌+◌, ◌-◌, ◌*◌, ◌/◌, ◌%◌, ◌<◌, ◌≤◌, ◌⊎◌, true, cond, List, ◌++◌, length, get_or, take, drop, sym, ap, ◌∙◌, refl, inl, inr, arith}
use Rattle.std.specs.Prelude.{ℤ, pos, ◌-ℤ◌}
use Rattle.std.proofs.lemmas.Bool.{cases_lt}
use Rattle.std.proofs.lemmas.Int.{ints}
use Rattle.std.proofs.lemmas.List.{get_or_append_left, get_or-append-add, get_or-take, get_or-drop, length-append, length-take, length-drop}
use Rattle.std.proofs.Math.Nat.{mul-le-mul_left}
use Rattle.std.proofs.lemmas.Nat.{div-mul-add, mod-mul-add, div-add-mod', mod_below, div_below}
use Rattle.vg_places.specs.Places.{tabulate}
use Rattle.vg_places.proofs.Places.{get_or-tabulate, length-tabulate, tabulate_from_places}
use Rattle.vg_cursor.specs.declared.cursor.Cursor.{Cursor}
use Rattle.vg_cursor.specs.declared.span.Span.{Span}
use Rattle.vg_cursor.specs.Blended.{image_place, covered, blended_place, blended}
use Rattle.vg_cursor.specs.Look.{CoversRows, lowered}
use Rattle.vg_cursor.specs.SpanWithin.{IsSpan}
use Rattle.vg_cursor.proofs.BlendLemmas.{in-or-out, not-covered}

-- a screen that has a place has rows of some length, and the place is in one of them
some-columns : (width height k n : ℕ) → n ≡ 4 * width * height → k < n → 0 < 4 * width
some-columns width height k n size within = elim (cases_lt 0 (4 * width)) [
  | inl more ↦ more
  | inr none ↦
      let zero_width : width ≡ 0 = omega (arith, none) in
      let empty : n ≡ 0 = size ∙ ap (λ m. 4 * m * height) zero_width ∙ omega arith in
      absurd (omega (arith, within, empty))
]

row-below : (width height k n : ℕ) → n ≡ 4 * width * height → k < n → k / (4 * width) < height
row-below width height k n size within = div_below k (4 * width) height (some-columns width height k n size within) (grind (arith, within, size))

-- a place in a row that the image doesn't lie over
off-rows : (cursor : Cursor) (width height : ℕ) (old : List ℕ) (down : Span) (k : ℕ) → IsSpan cursor.y cursor.hot_y height down → length old ≡ 4 * width * height → k < length old
    → (k / (4 * width) < down.first) ⊎ (down.first + down.count ≤ k / (4 * width)) → blended_place cursor width old k ≡ get_or old k 0
off-rows cursor width height old down k rows size within off =
    let q = k / (4 * width) in
    not-covered cursor.image (image_place cursor.x cursor.hot_x (k % (4 * width) / 4)) (image_place cursor.y cursor.hot_y q) (k % 4) (get_or old k 0)
    (λ z w. rows.outside q (row-below width height k (length old) size within) off w)

-- a cursor that lies over no row
pub none-blended : (cursor : Cursor) (width height : ℕ) (old : List ℕ) (down : Span) → IsSpan cursor.y cursor.hot_y height down → down.count ≡ 0 → length old ≡ 4 * width * height
    → cursor.visible ≡ true → blended cursor width old ≡ old
unfolding blended
none-blended cursor width height old down rows none size shown =
    ap (λ b. cond b (tabulate (length old) (blended_place cursor width old)) old) shown
    ∙ sym (tabulate_from_places (blended_place cursor width old) old (length old) 0 refl (λ k within.
    sym (off-rows cursor width height old down k rows size within (elim (in-or-out (k / (4 * width)) down.first down.count) [
      | inl inside ↦ absurd (omega (arith, inside, none))
      | inr off ↦ off
    ]))))

-- the same place of the image, over a screen that begins some rows further down
place-lowered : (position : ℤ) (hot first place : ℕ) → image_place (position -ℤ pos first) hot place ≡ image_place position hot (first + place)
place-lowered position hot first place = omega (arith, ints)

-- a place of the rows, and the one of the whole screen
place-in-rows : (cursor : Cursor) (width first : ℕ) (old part : List ℕ) (j : ℕ) → 0 < 4 * width → get_or part j 0 ≡ get_or old (4 * width * first + j) 0
    → blended_place (lowered first cursor) width part j ≡ blended_place cursor width old (4 * width * first + j)
place-in-rows cursor width first old part j some same =
    let row_length = 4 * width in
    let k = row_length * first + j in
    let q = j / row_length in
    let r = j % row_length in
    let split : j ≡ q * row_length + r = sym (div-add-mod' j row_length) in
    let narrow : r < row_length = mod_below j row_length some in
    let all : k ≡ (first + q) * row_length + r = grind (arith, split) in
    let down : k / row_length ≡ first + q = ap (λ n. n / row_length) all ∙ div-mul-add (first + q) row_length r narrow in
    let across : k % row_length ≡ r = ap (λ n. n % row_length) all ∙ mod-mul-add (first + q) row_length r narrow in
    let fours : k ≡ (width * first + j / 4) * 4 + j % 4 = grind (arith, sym (div-add-mod' j 4)) in
    let byte : k % 4 ≡ j % 4 = ap (λ n. n % 4) fours ∙ mod-mul-add (width * first + j / 4) 4 (j % 4) (mod_below j 4 (omega arith)) in
    ap (λ z. covered cursor.image (image_place cursor.x cursor.hot_x (r / 4)) z (j % 4) (get_or part j 0)) (place-lowered cursor.y cursor.hot_y first q)
    ∙ ap (λ n. covered cursor.image (image_place cursor.x cursor.hot_x (r / 4)) (image_place cursor.y cursor.hot_y n) (j % 4) (get_or part j 0)) (sym down)
    ∙ ap (λ n. covered cursor.image (image_place cursor.x cursor.hot_x (n / 4)) (image_place cursor.y cursor.hot_y (k / row_length)) (j % 4) (get_or part j 0)) (sym across)
    ∙ ap (λ n. covered cursor.image (image_place cursor.x cursor.hot_x (k % row_length / 4)) (image_place cursor.y cursor.hot_y (k / row_length)) n (get_or part j 0)) (sym byte)
    ∙ ap (λ s. covered cursor.image (image_place cursor.x cursor.hot_x (k % row_length / 4)) (image_place cursor.y cursor.hot_y (k / row_length)) (k % 4) s) same

-- the rows of a place that stands in front of them, in them, or behind them
row-before : (row_length first k : ℕ) → 0 < row_length → k < row_length * first → k / row_length < first
row-before row_length first k some before = div_below k row_length first some (grind (arith, before))

row-behind : (row_length end k : ℕ) → 0 < row_length → row_length * end ≤ k → end ≤ k / row_length
row-behind row_length end k some behind =
    let j = k - row_length * end in
    let split : j ≡ j / row_length * row_length + j % row_length = sym (div-add-mod' j row_length) in
    let from : k ≡ row_length * end + j = omega (arith, behind) in
    let all : k ≡ (end + j / row_length) * row_length + j % row_length = grind (arith, split, from) in
    let is : k / row_length ≡ end + j / row_length = ap (λ n. n / row_length) all ∙ div-mul-add (end + j / row_length) row_length (j % row_length) (mod_below j row_length some) in
    omega (arith, is)

-- three lists, one behind another, that hold a formula's values
three-parts : (front mid behind : List ℕ) (f : ℕ → ℕ) (n : ℕ) → n ≡ length front + length mid + length behind
    → ((k : ℕ) → k < length front → get_or front k 0 ≡ f k)
    → ((j : ℕ) → j < length mid → get_or mid j 0 ≡ f (length front + j))
    → ((j : ℕ) → j < length behind → get_or behind j 0 ≡ f (length front + length mid + j))
    → front ++ mid ++ behind ≡ tabulate n f
three-parts front mid behind f n size first second third =
    let both = length-append front mid in
    tabulate_from_places f (front ++ mid ++ behind) n 0 (omega (arith, size, both, length-append (front ++ mid) behind)) (λ k within.
    elim (cases_lt k (length (front ++ mid))) [
      | inl low ↦
          get_or_append_left (front ++ mid) behind 0 k low
          ∙ (elim (cases_lt k (length front)) [
            | inl lower ↦ get_or_append_left front mid 0 k lower ∙ first k lower
            | inr more ↦
                let j = k - length front in
                let at : k ≡ length front + j = omega (arith, more) in
                ap (λ m. get_or (front ++ mid) m 0) at ∙ get_or-append-add front mid j 0 ∙ second j (omega (arith, low, both, more)) ∙ ap f (sym at)
          ])
      | inr more ↦
          let j = k - length (front ++ mid) in
          let at : k ≡ length (front ++ mid) + j = omega (arith, more) in
          let there : length front + length mid + j ≡ k = omega (arith, more, both) in
          ap (λ m. get_or (front ++ mid ++ behind) m 0) at ∙ get_or-append-add (front ++ mid) behind j 0
          ∙ third j (omega (arith, within, size, both, more)) ∙ ap f there
    ])

lowered-rows : (cursor : Cursor) (width height : ℕ) (old : List ℕ) (down : Span) → cursor.visible ≡ true → IsSpan cursor.y cursor.hot_y height down → length old ≡ 4 * width * height
    → blended cursor width old
    ≡ take (4 * width * down.first) old
    ++ blended (lowered down.first cursor) width (take (4 * width * down.count) (drop (4 * width * down.first) old))
    ++ drop (4 * width * (down.first + down.count)) old
unfolding blended
lowered-rows cursor width height old down shown rows size =
    let row_length = 4 * width in
    let a = row_length * down.first in
    let b = row_length * down.count in
    let e = row_length * (down.first + down.count) in
    let ends : e ≡ a + b = grind arith in
    let fits : e ≤ length old = grind (arith, size, mul-le-mul_left row_length rows.on_screen) in
    let front = take a old in
    let part = take b (drop a old) in
    let behind = drop e old in
    let formula = blended_place cursor width old in
    let inner = blended_place (lowered down.first cursor) width part in
    let mid = tabulate (length part) inner in
    let front_long : length front ≡ a = omega (arith, length-take a old, ends, fits) in
    let part_long : length part ≡ b = omega (arith, length-take b (drop a old), length-drop a old, ends, fits) in
    let mid_long : length mid ≡ b = length-tabulate inner (length part) ∙ part_long in
    let behind_long : length behind ≡ length old - e = length-drop e old in
    let three : front ++ mid ++ behind ≡ tabulate (length old) formula =
    three-parts front mid behind formula (length old) (omega (arith, front_long, mid_long, behind_long, ends, fits))
    (λ k within.
    let low : k < a = omega (arith, within, front_long) in
    let inside : k < length old = omega (arith, low, ends, fits) in
    let some = some-columns width height k (length old) size inside in
    get_or-take a old k 0 low
    ∙ sym (off-rows cursor width height old down k rows size inside (inl (row-before row_length down.first k some low))))
    (λ j within.
    let low : j < b = omega (arith, within, mid_long) in
    let inside : a + j < length old = omega (arith, low, ends, fits) in
    let some = some-columns width height (a + j) (length old) size inside in
    let same : get_or part j 0 ≡ get_or old (a + j) 0 = get_or-take b (drop a old) j 0 low ∙ get_or-drop a old j 0 in
    get_or-tabulate inner (length part) j 0 (omega (arith, low, part_long))
    ∙ place-in-rows cursor width down.first old part j some same
    ∙ ap (λ m. formula (m + j)) (sym front_long))
    (λ j within.
    let inside : e + j < length old = omega (arith, within, behind_long) in
    let some = some-columns width height (e + j) (length old) size inside in
    let at : length front + length mid + j ≡ e + j = omega (arith, front_long, mid_long, ends) in
    get_or-drop e old j 0
    ∙ sym (off-rows cursor width height old down (e + j) rows size inside (inr (row-behind row_length (down.first + down.count) (e + j) some (omega arith))))
    ∙ ap formula (sym at))
    in
    ap (λ v. cond v (tabulate (length old) formula) old) shown
    ∙ sym three
    ∙ ap (λ v. front ++ cond v mid part ++ behind) (sym shown)

pub covers-rows : (cursor : Cursor) (height : ℕ) (down : Span) → cursor.visible ≡ true → IsSpan cursor.y cursor.hot_y height down → 0 < down.count
    → CoversRows cursor height down.first down.count
covers-rows cursor height down shown rows some = record {
  some = some;
  within = rows.on_screen;
  blended = λ width old size. lowered-rows cursor width height old down shown rows size;
}
