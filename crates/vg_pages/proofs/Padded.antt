-- Bytes with zeros behind them, place by place: past the bytes each place has 0, whether there is one or not.
use Rattle.std.proofs.Common.{◌≡◌, ℕ, zero, suc, ◌+◌, ◌-◌, ◌<◌, ◌≤◌, List, [], ◌∷◌, ◌++◌, length, get_or, take, drop, replicate, min, sym, ap, ◌∙◌, refl, inl, inr, arith}
use Rattle.std.proofs.lemmas.Bool.{cases_lt}
use Rattle.std.proofs.lemmas.List.{get_or_past, get_or-take, get_or-drop, get_or_append_left, get_or-append_right, length-append, length-take, length-drop, length-replicate, replicate-append-replicate, append_assoc}
use Rattle.vg_laws.proofs.Lists.{zeros-at}
use Rattle.vg_places.proofs.Places.{tabulate_from_places}
use Rattle.vg_pages.specs.Memory.{padded}

behind-at : (xs : List ℕ) (n i : ℕ) → get_or (xs ++ replicate n 0) i 0 ≡ get_or xs i 0
behind-at [] n i = zeros-at n i
behind-at (x ∷ xs) n zero = refl
behind-at (x ∷ xs) n (suc i) = behind-at xs n i

padded-at : (size : ℕ) (xs : List ℕ) (i : ℕ) → get_or (padded size xs) i 0 ≡ get_or xs i 0
padded-at size xs i = behind-at xs (size - length xs) i

-- lists of one length that agree at each place are equal
pub same-places : (xs ys : List ℕ) → length xs ≡ length ys → ((i : ℕ) → get_or xs i 0 ≡ get_or ys i 0) → xs ≡ ys
same-places xs ys long at =
    tabulate_from_places (λ i. get_or ys i 0) xs (length ys) 0 long (λ i within. at i)
    ∙ sym (tabulate_from_places (λ i. get_or ys i 0) ys (length ys) 0 refl (λ i within. refl))

pub length-padded : (size : ℕ) (xs : List ℕ) → length xs ≤ size → length (padded size xs) ≡ size
length-padded size xs small = omega (arith, length-append xs (replicate (size - length xs) 0), length-replicate {A = ℕ} (size - length xs) 0, small)

-- zeros that are kept are zeros that aren't
pub padded-grown : (size more : ℕ) (xs : List ℕ) → length xs + more ≤ size → padded size (xs ++ replicate more 0) ≡ padded size xs
padded-grown size more xs small =
    let long : length (xs ++ replicate more 0) ≡ length xs + more = omega (arith, length-append xs (replicate more 0), length-replicate {A = ℕ} more 0) in
    ap (λ n. (xs ++ replicate more 0) ++ replicate (size - n) 0) long
    ∙ append_assoc xs (replicate more 0) (replicate (size - (length xs + more)) 0)
    ∙ ap (λ zs. xs ++ zs) (replicate-append-replicate more (size - (length xs + more)) 0)
    ∙ ap (λ n. xs ++ replicate n 0) (omega (arith, small))

-- a piece in the place of as many bytes
abbrev spliced : ℕ → List ℕ → List ℕ → List ℕ
spliced start piece xs = take start xs ++ (piece ++ drop (start + length piece) xs)

pub length-spliced : (start : ℕ) (piece xs : List ℕ) → start + length piece ≤ length xs → length (spliced start piece xs) ≡ length xs
length-spliced start piece xs inside =
    let front = length-append (take start xs) (piece ++ drop (start + length piece) xs) in
    let back = length-append piece (drop (start + length piece) xs) in
    omega (arith, front, back, length-take start xs, length-drop (start + length piece) xs, inside)

size-of-front : (start : ℕ) (xs : List ℕ) → start ≤ length xs → length (take start xs) ≡ start
size-of-front start xs inside = omega (arith, length-take start xs, inside)

pub spliced-low : (start : ℕ) (piece rest xs : List ℕ) (i : ℕ) → start ≤ length xs → i < start → get_or (take start xs ++ (piece ++ rest)) i 0 ≡ get_or xs i 0
spliced-low start piece rest xs i inside low =
    get_or_append_left (take start xs) (piece ++ rest) 0 i (omega (arith, size-of-front start xs inside, low)) ∙ get_or-take start xs i 0 low

pub spliced-mid : (start : ℕ) (piece rest xs : List ℕ) (i : ℕ) → start ≤ length xs → start ≤ i → i < start + length piece → get_or (take start xs ++ (piece ++ rest)) i 0 ≡ get_or piece (i - start) 0
spliced-mid start piece rest xs i inside low high =
    get_or-append_right (take start xs) (piece ++ rest) start i 0 (size-of-front start xs inside) low
    ∙ get_or_append_left piece rest 0 (i - start) (omega (arith, low, high))

pub spliced-high : (start : ℕ) (piece xs : List ℕ) (i : ℕ) → start ≤ length xs → start + length piece ≤ i → get_or (spliced start piece xs) i 0 ≡ get_or xs i 0
spliced-high start piece xs i inside high =
    get_or-append_right (take start xs) (piece ++ drop (start + length piece) xs) start i 0 (size-of-front start xs inside) (omega (arith, high))
    ∙ get_or-append_right piece (drop (start + length piece) xs) (length piece) (i - start) 0 refl (omega (arith, high))
    ∙ get_or-drop (start + length piece) xs (i - start - length piece) 0
    ∙ ap (λ k. get_or xs k 0) (omega (arith, high))

-- a piece is written where the bytes are kept
padded-spliced : (size start : ℕ) (piece xs : List ℕ) → start + length piece ≤ length xs → length xs ≤ size → padded size (spliced start piece xs) ≡ spliced start piece (padded size xs)
padded-spliced size start piece xs inside small =
    let whole = length-padded size xs small in
    let long : length (padded size (spliced start piece xs)) ≡ length (spliced start piece (padded size xs)) =
    omega (arith, length-padded size (spliced start piece xs) (omega (arith, length-spliced start piece xs inside, small)), length-spliced start piece (padded size xs) (omega (arith, whole, inside, small)), whole) in
    let in_xs : start ≤ length xs = omega (arith, inside) in
    let in_all : start ≤ length (padded size xs) = omega (arith, whole, inside, small) in
    same-places (padded size (spliced start piece xs)) (spliced start piece (padded size xs)) long (λ i.
    padded-at size (spliced start piece xs) i ∙ elim (cases_lt i start) [
      | inl low ↦ spliced-low start piece _ xs i in_xs low ∙ sym (padded-at size xs i) ∙ sym (spliced-low start piece _ (padded size xs) i in_all low)
      | inr past ↦ elim (cases_lt i (start + length piece)) [
        | inl mid ↦ spliced-mid start piece _ xs i in_xs past mid ∙ sym (spliced-mid start piece _ (padded size xs) i in_all past mid)
        | inr high ↦ spliced-high start piece xs i in_xs high ∙ sym (padded-at size xs i) ∙ sym (spliced-high start piece (padded size xs) i in_all high)
      ]
    ])

pub padded-written : (size start : ℕ) (piece xs : List ℕ) → start + length piece ≤ length xs → length xs ≤ size
    → padded size ((take start xs ++ piece) ++ drop (start + length piece) xs) ≡ (take start (padded size xs) ++ piece) ++ drop (start + length piece) (padded size xs)
padded-written size start piece xs inside small =
    ap (padded size) (append_assoc (take start xs) piece (drop (start + length piece) xs)) ∙ padded-spliced size start piece xs inside small
    ∙ sym (append_assoc (take start (padded size xs)) piece (drop (start + length piece) (padded size xs)))

-- zeros are written where the bytes end, or behind them
zeros-anywhere : (size start count : ℕ) (xs ys : List ℕ) → start + count ≤ size → length xs ≤ size → length ys ≤ size
    → ((i : ℕ) → i < start → get_or ys i 0 ≡ get_or xs i 0) → ((i : ℕ) → start ≤ i → i < start + count → get_or ys i 0 ≡ 0) → ((i : ℕ) → start + count ≤ i → get_or ys i 0 ≡ get_or xs i 0)
    → padded size ys ≡ spliced start (replicate count 0) (padded size xs)
zeros-anywhere size start count xs ys inside small small' low mid high =
    let whole = length-padded size xs small in
    let many : length (replicate {A = ℕ} count 0) ≡ count = length-replicate count 0 in
    let in_all : start ≤ length (padded size xs) = omega (arith, whole, inside) in
    let fits : start + length (replicate {A = ℕ} count 0) ≤ length (padded size xs) = omega (arith, whole, inside, many) in
    let long : length (padded size ys) ≡ length (spliced start (replicate count 0) (padded size xs)) =
    omega (arith, length-padded size ys small', length-spliced start (replicate count 0) (padded size xs) fits, whole) in
    same-places (padded size ys) (spliced start (replicate count 0) (padded size xs)) long (λ i.
    padded-at size ys i ∙ elim (cases_lt i start) [
      | inl before ↦ low i before ∙ sym (padded-at size xs i) ∙ sym (spliced-low start (replicate count 0) _ (padded size xs) i in_all before)
      | inr past ↦ elim (cases_lt i (start + count)) [
        | inl within ↦ mid i past within ∙ sym (zeros-at count (i - start)) ∙ sym (spliced-mid start (replicate count 0) _ (padded size xs) i in_all past (omega (arith, within, many)))
        | inr behind ↦ high i behind ∙ sym (padded-at size xs i) ∙ sym (spliced-high start (replicate count 0) (padded size xs) i in_all (omega (arith, behind, many)))
      ]
    ])

past-end : (xs : List ℕ) (i : ℕ) → length xs ≤ i → get_or xs i 0 ≡ 0
past-end xs i past = get_or_past xs i 0 past

-- with the zeros between what was before and behind
zeros-between : (size start count : ℕ) (xs : List ℕ) → spliced start (replicate count 0) (padded size xs) ≡ (take start (padded size xs) ++ replicate count 0) ++ drop (start + count) (padded size xs)
zeros-between size start count xs =
    ap (λ n. take start (padded size xs) ++ (replicate count 0 ++ drop (start + n) (padded size xs))) (length-replicate {A = ℕ} count 0)
    ∙ sym (append_assoc (take start (padded size xs)) (replicate count 0) (drop (start + count) (padded size xs)))

pub padded-zeroed-behind : (size start count : ℕ) (xs : List ℕ) → start + count ≤ size → length xs ≤ size → length xs ≤ start
    → padded size xs ≡ (take start (padded size xs) ++ replicate count 0) ++ drop (start + count) (padded size xs)
padded-zeroed-behind size start count xs inside small behind =
    zeros-anywhere size start count xs xs inside small small (λ i low. refl) (λ i low high. past-end xs i (omega (arith, behind, low))) (λ i high. refl)
    ∙ zeros-between size start count xs

pub padded-zeroed : (size start end count : ℕ) (xs : List ℕ) → start + count ≤ size → length xs ≤ size → start < length xs → end ≡ min (length xs) (start + count)
    → padded size ((take start xs ++ replicate (end - start) 0) ++ drop end xs) ≡ (take start (padded size xs) ++ replicate count 0) ++ drop (start + count) (padded size xs)
padded-zeroed size start end count xs inside small within is =
    let part : List ℕ = replicate (end - start) 0 in
    let many : length part ≡ end - start = length-replicate (end - start) 0 in
    let at : start + length part ≡ end = omega (arith, many, is, within) in
    let ys = take start xs ++ (part ++ drop end xs) in
    let same : spliced start part xs ≡ ys = ap (λ n. take start xs ++ (part ++ drop n xs)) at in
    let fits : start + length part ≤ length xs = omega (arith, at, is) in
    let long : length ys ≡ length xs = sym (ap length same) ∙ length-spliced start part xs fits in
    let in_xs : start ≤ length xs = omega (arith, within) in
    ap (padded size) (append_assoc (take start xs) part (drop end xs))
    ∙ zeros-anywhere size start count xs ys inside small (omega (arith, long, small))
    (λ i low. spliced-low start part (drop end xs) xs i in_xs low)
    (λ i low high. elim (cases_lt i end) [
      | inl before ↦ spliced-mid start part (drop end xs) xs i in_xs low (omega (arith, at, before)) ∙ zeros-at (end - start) (i - start)
      | inr past ↦ past-end ys i (omega (arith, long, is, past, high))
    ])
    (λ i high. elim (cases_lt i end) [
      | inl before ↦ absurd (omega (arith, is, before, high))
      | inr past ↦ ap (λ zs. get_or zs i 0) (sym same) ∙ spliced-high start part xs i in_xs (omega (arith, at, past))
    ])
    ∙ zeros-between size start count xs

-- what is read of them: the bytes that are kept, and zeros
pub padded-read : (size start n from kept : ℕ) (xs : List ℕ) → start + n ≤ size → length xs ≤ size → from ≡ min start (length xs) → kept ≡ min (length (drop from xs)) n
    → take kept (drop from xs) ++ replicate (n - kept) 0 ≡ take n (drop start (padded size xs))
padded-read size start n from kept xs inside small is_from is_kept =
    let whole = length-padded size xs small in
    let front = take kept (drop from xs) in
    let size_front : length front ≡ kept = omega (arith, length-take kept (drop from xs), is_kept) in
    let long : length (front ++ replicate (n - kept) 0) ≡ length (take n (drop start (padded size xs))) =
    omega (arith, length-append front (replicate (n - kept) 0), length-replicate {A = ℕ} (n - kept) 0, size_front, is_kept, length-take n (drop start (padded size xs)), length-drop start (padded size xs), whole, inside) in
    let size_left : length (take n (drop start (padded size xs))) ≡ n = omega (arith, length-take n (drop start (padded size xs)), length-drop start (padded size xs), whole, inside) in
    same-places (front ++ replicate (n - kept) 0) (take n (drop start (padded size xs))) long (λ i.
    behind-at front (n - kept) i ∙ elim (cases_lt i n) [
      | inl within ↦
          let right : get_or (take n (drop start (padded size xs))) i 0 ≡ get_or xs (start + i) 0 = get_or-take n (drop start (padded size xs)) i 0 within ∙ get_or-drop start (padded size xs) i 0 ∙ padded-at size xs (start + i) in
          elim (cases_lt i kept) [
            | inl here ↦
                let same : from + i ≡ start + i = omega (arith, is_from, is_kept, here, length-drop from xs) in
                get_or-take kept (drop from xs) i 0 here ∙ get_or-drop from xs i 0 ∙ ap (λ k. get_or xs k 0) same ∙ sym right
            | inr there ↦
                let end : length xs ≤ start + i = omega (arith, is_from, is_kept, there, within, length-drop from xs) in
                past-end front i (omega (arith, size_front, there)) ∙ sym (past-end xs (start + i) end) ∙ sym right
          ]
      | inr past ↦ past-end front i (omega (arith, size_front, is_kept, past)) ∙ sym (past-end (take n (drop start (padded size xs))) i (omega (arith, size_left, past)))
    ])
