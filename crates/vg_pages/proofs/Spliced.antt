-- Pieces written over bytes, and the bytes of pages with blocks, place by place.
use Rattle.std.proofs.Common.{◌≡◌, ◌⊎◌, ◌≢◌, ℕ, zero, suc, ◌+◌, ◌*◌, ◌-◌, ◌/◌, ◌%◌, ◌<◌, ◌≤◌, List, [], ◌++◌, Option, Some, None, length, get_or, set, take, drop, replicate, sym, ap, ◌∙◌, refl, inl, inr, append_assoc, arith}
use Rattle.std.proofs.Math.Seq.{take-add, take-append_seam, drop-append_seam}
use Rattle.std.proofs.lemmas.Bool.{cases_lt}
use Rattle.std.proofs.lemmas.List.{get_or-take, get_or-drop, get_or-set_same, get_or-set_other, length-take, length-drop, length-replicate, drop-drop, drop_all, append-nil, take-append-drop}
use borrow.Rule.Slice.PartMut.{put_mid}
use Rattle.vg_places.specs.Places.{tabulate}
use Rattle.vg_places.proofs.Places.{length-tabulate, get_or-tabulate, tabulate_from_places}
use Rattle.vg_places.proofs.Tabulated.{put_mid-tabulate}
use Rattle.vg_pages.specs.BlocksWithin.{IsWritten, byte_in, byte_of, overlaid, page_of, spliced}
use Rattle.vg_pages.proofs.Padded.{same-places, length-spliced, spliced-low, spliced-mid, spliced-high}

pub length-overlaid : (blocks : List (Option (List ℕ))) (base : List ℕ) → length (overlaid blocks base) ≡ length base
unfolding overlaid
length-overlaid blocks base = length-tabulate (byte_of blocks base) (length base)

pub overlaid-at : (blocks : List (Option (List ℕ))) (base : List ℕ) (k : ℕ) → k < length base → get_or (overlaid blocks base) k 0 ≡ byte_of blocks base k
unfolding overlaid
overlaid-at blocks base k within = get_or-tabulate (byte_of blocks base) (length base) k 0 within

pub spliced-is : (start : ℕ) (piece xs : List ℕ) → spliced start piece xs ≡ put_mid start (length piece) xs piece
spliced-is start piece xs =
    append_assoc (take start xs) piece (drop (start + length piece) xs)
    ∙ ap (λ rest. take start xs ++ (piece ++ rest)) (sym (drop-drop (length piece) start xs))

-- what stands where after a piece was written
pub splice-low : (start : ℕ) (piece xs : List ℕ) (k : ℕ) → start ≤ length xs → k < start → get_or (spliced start piece xs) k 0 ≡ get_or xs k 0
splice-low start piece xs k inside low =
    ap (λ ys. get_or ys k 0) (append_assoc (take start xs) piece (drop (start + length piece) xs)) ∙ spliced-low start piece (drop (start + length piece) xs) xs k inside low

pub splice-mid : (start : ℕ) (piece xs : List ℕ) (k : ℕ) → start ≤ length xs → k < length piece → get_or (spliced start piece xs) (start + k) 0 ≡ get_or piece k 0
splice-mid start piece xs k inside low =
    ap (λ ys. get_or ys (start + k) 0) (append_assoc (take start xs) piece (drop (start + length piece) xs))
    ∙ spliced-mid start piece (drop (start + length piece) xs) xs (start + k) inside (omega arith) (omega (arith, low))
    ∙ ap (λ j. get_or piece j 0) (omega arith)

pub splice-high : (start : ℕ) (piece xs : List ℕ) (k : ℕ) → start ≤ length xs → start + length piece ≤ k → get_or (spliced start piece xs) k 0 ≡ get_or xs k 0
splice-high start piece xs k inside high =
    ap (λ ys. get_or ys k 0) (append_assoc (take start xs) piece (drop (start + length piece) xs)) ∙ spliced-high start piece xs k inside high

pub length-splice : (start : ℕ) (piece xs : List ℕ) → start + length piece ≤ length xs → length (spliced start piece xs) ≡ length xs
length-splice start piece xs inside = ap length (append_assoc (take start xs) piece (drop (start + length piece) xs)) ∙ length-spliced start piece xs inside

-- a piece is written further
pub splice-on : (start done n : ℕ) (piece xs : List ℕ) → done + n ≤ length piece → start + length piece ≤ length xs
    → spliced (start + done) (take n (drop done piece)) (spliced start (take done piece) xs) ≡ spliced start (take (done + n) piece) xs
splice-on start done n piece xs fits inside =
    let front = take done piece in
    let next = take n (drop done piece) in
    let both = take (done + n) piece in
    let few : length front ≡ done = omega (arith, length-take done piece, fits) in
    let more : length next ≡ n = omega (arith, length-take n (drop done piece), length-drop done piece, fits) in
    let all : length both ≡ done + n = omega (arith, length-take (done + n) piece, fits) in
    let once = spliced start front xs in
    let long : length once ≡ length xs = length-splice start front xs (omega (arith, few, fits, inside)) in
    let at : start ≤ length xs = omega (arith, inside) in
    let at_next : start + done ≤ length once = omega (arith, long, fits, inside) in
    let sizes : length (spliced (start + done) next once) ≡ length (spliced start both xs) =
    length-splice (start + done) next once (omega (arith, long, more, fits, inside)) ∙ long ∙ sym (length-splice start both xs (omega (arith, all, fits, inside))) in
    same-places (spliced (start + done) next once) (spliced start both xs) sizes (λ k.
    elim (cases_lt k start) [
      | inl low ↦ splice-low (start + done) next once k at_next (omega (arith, low)) ∙ splice-low start front xs k at low ∙ sym (splice-low start both xs k at low)
      | inr past ↦
          let j = k - start in
          let is : start + j ≡ k = omega (arith, past) in
          elim (cases_lt j done) [
            | inl mid ↦
                splice-low (start + done) next once k at_next (omega (arith, past, mid))
                ∙ ap (λ i. get_or once i 0) (sym is) ∙ splice-mid start front xs j at (omega (arith, few, mid))
                ∙ get_or-take done piece j 0 mid ∙ sym (get_or-take (done + n) piece j 0 (omega (arith, mid)))
                ∙ sym (splice-mid start both xs j at (omega (arith, all, mid))) ∙ ap (λ i. get_or (spliced start both xs) i 0) is
            | inr behind ↦
                let i = j - done in
                let here : start + done + i ≡ k = omega (arith, past, behind) in
                let there : done + i ≡ j = omega (arith, behind) in
                elim (cases_lt i n) [
                  | inl within ↦
                      ap (λ m. get_or (spliced (start + done) next once) m 0) (sym here) ∙ splice-mid (start + done) next once i at_next (omega (arith, more, within))
                      ∙ get_or-take n (drop done piece) i 0 within ∙ get_or-drop done piece i 0 ∙ ap (λ m. get_or piece m 0) there
                      ∙ sym (get_or-take (done + n) piece j 0 (omega (arith, there, within)))
                      ∙ sym (splice-mid start both xs j at (omega (arith, all, there, within))) ∙ ap (λ m. get_or (spliced start both xs) m 0) is
                  | inr high ↦
                      splice-high (start + done) next once k at_next (omega (arith, more, here, high))
                      ∙ splice-high start front xs k at (omega (arith, few, here, high))
                      ∙ sym (splice-high start both xs k at (omega (arith, all, here, high)))
                ]
          ]
    ])

pub splice-none : (start : ℕ) (piece xs : List ℕ) → spliced start (take 0 piece) xs ≡ xs
splice-none start piece xs =
    let same : start + 0 ≡ start = omega arith in
    ap (λ front. front ++ drop (start + 0) xs) (append-nil (take start xs))
    ∙ ap (λ n. take start xs ++ drop n xs) same ∙ take-append-drop start xs

-- a byte of a page, of which `start` is the place of the first
pub in-page : (block : Option (List ℕ)) (base : List ℕ) (page j : ℕ) → j < 4096 → byte_in block base (page * 4096 + j) ≡ get_or (page_of block base (page * 4096)) j 0
in-page (Some block) base page j low =
    let is : (page * 4096 + j) % 4096 ≡ j = omega (arith, low) in
    ap (λ k. get_or block k 0) is
in-page None base page j low = sym (get_or-take 4096 (drop (page * 4096) base) j 0 low ∙ get_or-drop (page * 4096) base j 0)

pub page-at : (blocks : List (Option (List ℕ))) (base : List ℕ) (page j : ℕ) → j < 4096
    → byte_of blocks base (page * 4096 + j) ≡ get_or (page_of (get_or blocks page None) base (page * 4096)) j 0
page-at blocks base page j low =
    let is : (page * 4096 + j) / 4096 ≡ page = omega (arith, low) in
    ap (λ p. byte_in (get_or blocks p None) base (page * 4096 + j)) is ∙ in-page (get_or blocks page None) base page j low

-- a page gets another block, and its bytes of the base may be others
pub page-set : (blocks : List (Option (List ℕ))) (block : Option (List ℕ)) (base : List ℕ) (page j : ℕ) → page < length blocks → j < 4096
    → byte_of (set blocks page block) base (page * 4096 + j) ≡ get_or (page_of block base (page * 4096)) j 0
page-set blocks block base page j within low =
    page-at (set blocks page block) base page j low
    ∙ ap (λ b. get_or (page_of b base (page * 4096)) j 0) (get_or-set_same blocks page block None within)

kept-byte : (block : Option (List ℕ)) (base after : List ℕ) (k : ℕ) → get_or after k 0 ≡ get_or base k 0 → byte_in block after k ≡ byte_in block base k
kept-byte (Some block) base after k same = refl
kept-byte None base after k same = same

pub page-other : (blocks : List (Option (List ℕ))) (block : Option (List ℕ)) (base after : List ℕ) (page k : ℕ) → k / 4096 ≢ page → get_or after k 0 ≡ get_or base k 0
    → byte_of (set blocks page block) after k ≡ byte_of blocks base k
page-other blocks block base after page k other same =
    ap (λ b. byte_in b after k) (get_or-set_other blocks page (k / 4096) block None other) ∙ kept-byte (get_or blocks (k / 4096) None) base after k same

-- a piece is written within a page
pub page-written : (blocks : List (Option (List ℕ))) (block : Option (List ℕ)) (base after piece : List ℕ) (page from : ℕ) → page < length blocks → length base ≡ 4096 * length blocks
    → from + length piece ≤ 4096
    → IsWritten (page * 4096) from piece (get_or blocks page None) block base after
    → overlaid (set blocks page block) after ≡ spliced (page * 4096 + from) piece (overlaid blocks base)
unfolding overlaid
page-written blocks block base after piece page from within whole fits is =
    let old = page_of (get_or blocks page None) base (page * 4096) in
    let start = page * 4096 in
    let inside : from ≤ length old = omega (arith, is.long, fits) in
    let now : (j : ℕ) → j < 4096 → byte_of (set blocks page block) after (start + j) ≡ get_or (spliced from piece old) j 0 =
    λ j low. page-set blocks block after page j within low ∙ ap (λ xs. get_or xs j 0) is.page in
    let was : (j : ℕ) → j < 4096 → byte_of blocks base (start + j) ≡ get_or old j 0 = λ j low. page-at blocks base page j low in
    let away : (k : ℕ) → (k < start) ⊎ (start + 4096 ≤ k) → byte_of blocks base k ≡ byte_of (set blocks page block) after k =
    λ k out.
    let other : k / 4096 ≢ page = λ same. elim out [ inl low ↦ omega (arith, low, same) | inr high ↦ omega (arith, high, same) ] in
    sym (page-other blocks block base after page k other (is.rest k out)) in
    ap (λ n. tabulate n (byte_of (set blocks page block) after)) is.size
    ∙ sym (put_mid-tabulate (byte_of blocks base) (byte_of (set blocks page block) after) (length base) (start + from) (length piece) piece
    (omega (arith, within, whole, fits)) refl
    (λ k low.
    let at : start + from + k ≡ start + (from + k) = omega arith in
    sym (ap (λ m. byte_of (set blocks page block) after m) at ∙ now (from + k) (omega (arith, low, fits)) ∙ splice-mid from piece old k inside low))
    (λ k low. elim (cases_lt k start) [
      | inl before ↦ away k (inl before)
      | inr past ↦
          let at : start + (k - start) ≡ k = omega (arith, past) in
          ap (λ m. byte_of blocks base m) (sym at) ∙ was (k - start) (omega (arith, low, past, fits))
          ∙ sym (splice-low from piece old (k - start) inside (omega (arith, low, past)))
          ∙ sym (now (k - start) (omega (arith, low, past, fits))) ∙ ap (λ m. byte_of (set blocks page block) after m) at
    ])
    (λ k high. elim (cases_lt k (start + 4096)) [
      | inl here ↦
          let at : start + (k - start) ≡ k = omega (arith, high) in
          ap (λ m. byte_of blocks base m) (sym at) ∙ was (k - start) (omega (arith, here, high))
          ∙ sym (splice-high from piece old (k - start) inside (omega (arith, high)))
          ∙ sym (now (k - start) (omega (arith, here, high))) ∙ ap (λ m. byte_of (set blocks page block) after m) at
      | inr behind ↦ away k (inr behind)
    ]))
    ∙ sym (spliced-is (start + from) piece (overlaid blocks base))

-- a page has no block any more, and is zero in the base
pub page-zeroed : (blocks : List (Option (List ℕ))) (base after : List ℕ) (page : ℕ) → page < length blocks → length base ≡ 4096 * length blocks
    → after ≡ (take (page * 4096) base ++ replicate 4096 0) ++ drop (page * 4096 + 4096) base
    → overlaid (set blocks page None) after ≡ (take (page * 4096) (overlaid blocks base) ++ replicate 4096 0) ++ drop (page * 4096 + 4096) (overlaid blocks base)
unfolding overlaid
page-zeroed blocks base after page within whole is =
    let start = page * 4096 in
    let zeros : List ℕ = replicate 4096 0 in
    let many : length zeros ≡ 4096 = length-replicate {A = ℕ} 4096 0 in
    let room : start + 4096 ≤ length base = omega (arith, within, whole) in
    let Spliced : ℕ → List ℕ → List ℕ = λ n xs. (take start xs ++ zeros) ++ drop (start + n) xs in
    let same : after ≡ spliced start zeros base = is ∙ ap (λ n. Spliced n base) (sym many) in
    let at : start ≤ length base = omega (arith, room) in
    let size : length after ≡ length base = ap length same ∙ length-splice start zeros base (omega (arith, many, room)) in
    let away : (k : ℕ) → (k < start) ⊎ (start + 4096 ≤ k) → byte_of blocks base k ≡ byte_of (set blocks page None) after k =
    λ k out.
    let other : k / 4096 ≢ page = λ eq. elim out [ inl low ↦ omega (arith, low, eq) | inr high ↦ omega (arith, high, eq) ] in
    let kept : get_or after k 0 ≡ get_or base k 0 = ap (λ xs. get_or xs k 0) same ∙ elim out [ inl low ↦ splice-low start zeros base k at low | inr high ↦ splice-high start zeros base k at (omega (arith, high, many)) ] in
    sym (page-other blocks None base after page k other kept) in
    ap (λ n. tabulate n (byte_of (set blocks page None) after)) size
    ∙ sym (put_mid-tabulate (byte_of blocks base) (byte_of (set blocks page None) after) (length base) start (length zeros) zeros
    (omega (arith, room, many)) refl
    (λ k low.
    let few : k < 4096 = omega (arith, low, many) in
    let here = get_or-take 4096 (drop start after) k 0 few ∙ get_or-drop start after k 0 ∙ ap (λ xs. get_or xs (start + k) 0) same ∙ splice-mid start zeros base k at low in
    sym (page-set blocks None after page k within few ∙ here))
    (λ k low. away k (inl low))
    (λ k high. away k (inr (omega (arith, high, many)))))
    ∙ sym (spliced-is start zeros (overlaid blocks base)) ∙ ap (λ n. Spliced n (overlaid blocks base)) many

-- what is read within a page
pub page-read : (blocks : List (Option (List ℕ))) (base out : List ℕ) (at page from : ℕ) → at ≡ page * 4096 + from → from + length out ≤ 4096 → at + length out ≤ length base
    → ((k : ℕ) → k < length out → get_or out k 0 ≡ get_or (page_of (get_or blocks page None) base (page * 4096)) (from + k) 0)
    → out ≡ take (length out) (drop at (overlaid blocks base))
page-read blocks base out at page from is fits inside each =
    let all = overlaid blocks base in
    let n = length out in
    let whole = length-overlaid blocks base in
    let long : length (take n (drop at all)) ≡ n = omega (arith, length-take n (drop at all), length-drop at all, whole, inside) in
    tabulate_from_places (λ k. get_or (take n (drop at all)) k 0) out n 0 refl (λ k within.
    each k within
    ∙ sym (page-at blocks base page (from + k) (omega (arith, within, fits)))
    ∙ ap (λ m. byte_of blocks base m) (omega (arith, is))
    ∙ sym (overlaid-at blocks base (at + k) (omega (arith, within, inside)))
    ∙ sym (get_or-drop at all k 0) ∙ sym (get_or-take n (drop at all) k 0 within))
    ∙ sym (tabulate_from_places (λ k. get_or (take n (drop at all)) k 0) (take n (drop at all)) n 0 long (λ k within. refl))

none-at : (count i : ℕ) → ◌≡◌ {A = Option (List ℕ)} (get_or (replicate count None) i None) None
none-at zero i = refl
none-at (suc n) zero = refl
none-at (suc n) (suc i) = none-at n i

-- pages without a block, and nothing in the base
pub overlaid-none : (n count : ℕ) → overlaid (replicate count None) (replicate n 0) ≡ replicate n 0
unfolding overlaid
overlaid-none n count =
    let base : List ℕ = replicate n 0 in
    let none : (k : ℕ) → byte_of (replicate count None) base k ≡ get_or base k 0 = λ k. ap (λ b. byte_in b base k) (none-at count (k / 4096)) in
    sym (tabulate_from_places (byte_of (replicate count None) base) base (length base) 0 refl (λ k within. sym (none k)))

-- what was written in front, and then this page
pub written-in_base : (base after piece : List ℕ) (start from : ℕ) → start + 4096 ≤ length base → from + length piece ≤ 4096
    → after ≡ spliced (start + from) piece base → IsWritten start from piece None None base after
written-in_base base after piece start from inside fits is =
    let old = take 4096 (drop start base) in
    let at : start + from ≤ length base = omega (arith, inside, fits) in
    let size : length after ≡ length base = ap length is ∙ length-splice (start + from) piece base (omega (arith, inside, fits)) in
    let long : length old ≡ 4096 = omega (arith, length-take 4096 (drop start base), length-drop start base, inside) in
    let more : length (take 4096 (drop start after)) ≡ 4096 = omega (arith, length-take 4096 (drop start after), length-drop start after, size, inside) in
    let in_old : from ≤ length old = omega (arith, long, fits) in
    let many : length (spliced from piece old) ≡ 4096 = length-splice from piece old (omega (arith, long, fits)) ∙ long in
    record {
      size = size;
      long = long;
      page =
          tabulate_from_places (λ j. get_or (spliced from piece old) j 0) (take 4096 (drop start after)) 4096 0 more (λ j low.
          get_or-take 4096 (drop start after) j 0 low ∙ get_or-drop start after j 0 ∙ ap (λ xs. get_or xs (start + j) 0) is
          ∙ elim (cases_lt j from) [
            | inl before ↦
                splice-low (start + from) piece base (start + j) at (omega (arith, before))
                ∙ sym (get_or-drop start base j 0) ∙ sym (get_or-take 4096 (drop start base) j 0 low) ∙ sym (splice-low from piece old j in_old before)
            | inr past ↦
                let i = j - from in
                let here : start + from + i ≡ start + j = omega (arith, past) in
                let there : from + i ≡ j = omega (arith, past) in
                elim (cases_lt i (length piece)) [
                  | inl within ↦
                      ap (λ m. get_or (spliced (start + from) piece base) m 0) (sym here) ∙ splice-mid (start + from) piece base i at within
                      ∙ sym (splice-mid from piece old i in_old within) ∙ ap (λ m. get_or (spliced from piece old) m 0) there
                  | inr high ↦
                      splice-high (start + from) piece base (start + j) at (omega (arith, past, high))
                      ∙ sym (get_or-drop start base j 0) ∙ sym (get_or-take 4096 (drop start base) j 0 low) ∙ sym (splice-high from piece old j in_old (omega (arith, past, high)))
                ]
          ])
          ∙ sym (tabulate_from_places (λ j. get_or (spliced from piece old) j 0) (spliced from piece old) 4096 0 many (λ j low. refl));
      rest = λ k out. ap (λ xs. get_or xs k 0) is ∙ elim out [
        | inl low ↦ splice-low (start + from) piece base k at (omega (arith, low))
        | inr high ↦ splice-high (start + from) piece base k at (omega (arith, high, fits))
      ];
    }

-- a block that others share goes into the base first
pub written-behind : (base between after block piece : List ℕ) (new : Option (List ℕ)) (start from : ℕ) → start + 4096 ≤ length base → length block ≡ 4096
    → between ≡ spliced start block base → IsWritten start from piece None new between after → IsWritten start from piece (Some block) new base after
written-behind base between after block piece new start from inside long is then =
    let at : start ≤ length base = omega (arith, inside) in
    let fits : start + length block ≤ length base = omega (arith, inside, long) in
    let size : length between ≡ length base = ap length is ∙ length-splice start block base fits in
    let more : length (take 4096 (drop start between)) ≡ length block = omega (arith, length-take 4096 (drop start between), length-drop start between, size, inside, long) in
    let same : take 4096 (drop start between) ≡ block =
    tabulate_from_places (λ j. get_or block j 0) (take 4096 (drop start between)) (length block) 0 more (λ j low.
    get_or-take 4096 (drop start between) j 0 (omega (arith, low, long)) ∙ get_or-drop start between j 0 ∙ ap (λ xs. get_or xs (start + j) 0) is ∙ splice-mid start block base j at low)
    ∙ sym (tabulate_from_places (λ j. get_or block j 0) block (length block) 0 refl (λ j low. refl)) in
    record {
      size = then.size ∙ size;
      long = long;
      page = then.page ∙ ap (λ xs. spliced from piece xs) same;
      rest = λ k out. then.rest k out ∙ ap (λ xs. get_or xs k 0) is ∙ elim out [
        | inl low ↦ splice-low start block base k at low
        | inr high ↦ splice-high start block base k at (omega (arith, high, long))
      ];
    }

-- the same where the part has what stood behind it too
pub read-on : (xs old out part : List ℕ) (done n : ℕ) → out ≡ take done xs ++ drop done old → done ≤ length old → done + n ≤ length xs
    → part ≡ take n (drop done xs) ++ drop n (drop done out) → put_mid done (length out - done) out part ≡ take (done + n) xs ++ drop (done + n) old
read-on xs old out part done n is room fits same =
    let front = take done xs in
    let long : length front ≡ done = omega (arith, length-take done xs, fits) in
    let before : take done out ≡ front = ap (take done) is ∙ ap (λ m. take m (front ++ drop done old)) (sym long) ∙ take-append_seam front (drop done old) in
    let after : drop done out ≡ drop done old = ap (drop done) is ∙ ap (λ m. drop m (front ++ drop done old)) (sym long) ∙ drop-append_seam front (drop done old) in
    let none : drop (length out - done) (drop done out) ≡ [] = drop_all (length out - done) (drop done out) (omega (arith, length-drop done out)) in
    ap (λ ys. ys ++ (part ++ drop (length out - done) (drop done out))) before
    ∙ ap (λ ys. front ++ (part ++ ys)) none
    ∙ ap (λ ys. front ++ ys) (append-nil part ∙ same)
    ∙ ap (λ ys. front ++ (take n (drop done xs) ++ drop n ys)) after
    ∙ ap (λ ys. front ++ (take n (drop done xs) ++ ys)) (drop-drop n done old)
    ∙ sym (append_assoc front (take n (drop done xs)) (drop (done + n) old))
    ∙ ap (λ ys. ys ++ drop (done + n) old) (sym (take-add done n xs))
