-- A buffer's bytes in guest memory, piece by piece.
use Rattle.std.proofs.Common.{◌≡◌, ◌≢◌, ℕ, zero, suc, append-nil, ◌+◌, ◌-◌, ◌*◌, ◌/◌, ◌%◌, ◌<◌, ◌≤◌, ◌==◌, ◌&&◌, Bool, true, cond, nat_le, nat_lt, List, [], ◌++◌, length, get_or, slice_index, take, drop, append_assoc, sym, ap, ◌∙◌, refl, inl, inr, arith}
use Rattle.std.proofs.Math.Nat.{div-add-mod}
use Rattle.std.proofs.Math.Seq.{take-append_seam}
use Rattle.std.specs.List.{AllPairs, position_or_len}
use Rattle.std.proofs.lemmas.Bool.{cases_lt, eq-eqb, ne_eqb}
use Rattle.std.proofs.lemmas.Bool.Decides.{nat_tests}
use Rattle.std.proofs.lemmas.List.{get_or-take, get_or-drop, get_or_append_left, get_or-append_right, length-append, length-take, length-drop, drop-drop}
use Rattle.std.proofs.lemmas.List.Sums.{position_or_len_is, passes_at_first}
use Rattle.std.proofs.lemmas.Nat.{mod-mul-add, mod_below}
use borrow.Rule.Slice.PartMut.{put_mid}
use Rattle.vg_places.specs.Places.{tabulate}
use Rattle.vg_places.proofs.Places.{length-tabulate, get_or-tabulate, tabulate_from_places}
use Rattle.vg_places.proofs.Tabulated.{put_mid-tabulate}
use Rattle.vg_pages.specs.Memory.{Memory, written_at}
use Rattle.vg_share.specs.Cells.{place_in_buffer, place_in_memory, repeated, stored, stored_byte}

pub repeated_none : (bytes : List ℕ) (times : ℕ) → length bytes * times ≡ 0 → [] ≡ repeated bytes times
unfolding repeated
repeated_none bytes times none =
    tabulate_from_places (λ k. slice_index bytes (k % length bytes)) [] (length bytes * times) 0 (sym none) (λ k within. absurd (omega (arith, none, within)))

-- the bytes once more
pub repeated_more : (bytes : List ℕ) (i : ℕ) → repeated bytes i ++ bytes ≡ repeated bytes (i + 1)
unfolding repeated
repeated_more bytes i =
    let n = length bytes in
    let byte : ℕ → ℕ = λ k. slice_index bytes (k % n) in
    let so_far = tabulate (n * i) byte in
    let size : length so_far ≡ n * i = length-tabulate byte (n * i) in
    let long : length (so_far ++ bytes) ≡ n * (i + 1) = length-append so_far bytes ∙ grind (arith, size) in
    tabulate_from_places byte (so_far ++ bytes) (n * (i + 1)) 0 long (λ k within.
    elim (cases_lt k (n * i)) [
      | inl low ↦ get_or_append_left so_far bytes 0 k (omega (arith, size, low)) ∙ get_or-tabulate byte (n * i) k 0 low
      | inr high ↦
          let below : k - n * i < n = grind (arith, within, high) in
          let split : k ≡ i * n + (k - n * i) = grind (arith, high) in
          let at : k % n ≡ k - n * i = ap (λ p. p % n) split ∙ mod-mul-add i n (k - n * i) below in
          get_or-append_right so_far bytes (n * i) k 0 size high ∙ ap (λ p. slice_index bytes p) (sym at)
    ])

-- the bytes so many times, and then more times
pub repeated_append : (bytes : List ℕ) (m n : ℕ) → repeated bytes m ++ repeated bytes n ≡ repeated bytes (m + n)
repeated_append bytes m zero =
    ap (λ xs. repeated bytes m ++ xs) (sym (repeated_none bytes 0 (omega arith))) ∙ append-nil (repeated bytes m) ∙ ap (repeated bytes) (omega arith)
repeated_append bytes m (suc n) =
    let last : repeated bytes n ++ bytes ≡ repeated bytes (suc n) = repeated_more bytes n ∙ ap (repeated bytes) (omega arith) in
    ap (λ xs. repeated bytes m ++ xs) (sym last) ∙ sym (append_assoc (repeated bytes m) (repeated bytes n) bytes)
    ∙ ap (λ xs. xs ++ bytes) (repeated_append bytes m n) ∙ repeated_more bytes (m + n) ∙ ap (repeated bytes) (omega arith)

-- a block of so many times, so many times
pub repeated_block : (bytes : List ℕ) (m n : ℕ) → repeated (repeated bytes m) n ≡ repeated bytes (m * n)
repeated_block bytes m zero =
    sym (repeated_none (repeated bytes m) 0 (omega arith)) ∙ repeated_none bytes 0 (omega arith) ∙ ap (repeated bytes) (omega arith)
repeated_block bytes m (suc n) =
    let block = repeated bytes m in
    let last : repeated block n ++ block ≡ repeated block (suc n) = repeated_more block n ∙ ap (repeated block) (omega arith) in
    sym last ∙ ap (λ xs. xs ++ block) (repeated_block bytes m n) ∙ repeated_append bytes (m * n) m ∙ ap (repeated bytes) (grind (arith))

pub stored_none : (pages : List ℕ) (offset : ℕ) (bytes : List ℕ) → bytes ≡ stored pages offset [] bytes
unfolding stored
stored_none pages offset bytes =
    tabulate_from_places (stored_byte pages offset [] bytes) bytes (length bytes) 0 refl (λ k within. grind (arith, nat_tests))

pub length-stored : (pages : List ℕ) (offset : ℕ) (piece bytes : List ℕ) → length (stored pages offset piece bytes) ≡ length bytes
unfolding stored
length-stored pages offset piece bytes = length-tabulate (stored_byte pages offset piece bytes) (length bytes)

-- a byte that lies in what is stored
stored-here : (offset b : ℕ) (piece : List ℕ) (old : ℕ) → offset ≤ b → b < offset + length piece
    → cond (nat_le offset b && nat_lt b (offset + length piece)) (slice_index piece (b - offset)) old ≡ slice_index piece (b - offset)
stored-here offset b piece old low high = grind (arith, nat_tests)

stored-before : (offset b : ℕ) (piece : List ℕ) (old : ℕ) → b < offset
    → cond (nat_le offset b && nat_lt b (offset + length piece)) (slice_index piece (b - offset)) old ≡ old
stored-before offset b piece old low = grind (arith, nat_tests)

stored-past : (offset b : ℕ) (piece : List ℕ) (old : ℕ) → offset + length piece ≤ b
    → cond (nat_le offset b && nat_lt b (offset + length piece)) (slice_index piece (b - offset)) old ≡ old
stored-past offset b piece old high = grind (arith, nat_tests)

-- a byte that isn't among the next n ones of the piece
stored-other : (offset b done n : ℕ) (piece : List ℕ) (old : ℕ) → done + n ≤ length piece → (offset + done ≤ b → b < offset + done + n → ⊥)
    → cond (nat_le offset b && nat_lt b (offset + length (take done piece))) (slice_index (take done piece) (b - offset)) old
    ≡ cond (nat_le offset b && nat_lt b (offset + length (take (done + n) piece))) (slice_index (take (done + n) piece) (b - offset)) old
stored-other offset b done n piece old fits other =
    let some : length (take done piece) ≡ done = omega (arith, length-take done piece) in
    let more : length (take (done + n) piece) ≡ done + n = omega (arith, length-take (done + n) piece) in
    elim (cases_lt b offset) [
      | inl low ↦ stored-before offset b (take done piece) old low ∙ sym (stored-before offset b (take (done + n) piece) old low)
      | inr high ↦ elim (cases_lt b (offset + done)) [
        | inl inside ↦
            stored-here offset b (take done piece) old high (omega (arith, some, inside))
            ∙ get_or-take done piece (b - offset) 0 (omega arith)
            ∙ sym (get_or-take (done + n) piece (b - offset) 0 (omega arith))
            ∙ sym (stored-here offset b (take (done + n) piece) old high (omega (arith, more, inside)))
        | inr past ↦ elim (cases_lt b (offset + done + n)) [
          | inl here ↦ absurd (other past here)
          | inr after ↦
              stored-past offset b (take done piece) old (omega (arith, some, past))
              ∙ sym (stored-past offset b (take (done + n) piece) old (omega (arith, more, after)))
        ]
      ]
    ]

-- the place of a page among pages of which no two are one
page-position : (pages : List ℕ) (q : ℕ) → AllPairs (λ one other. one ≢ other) pages → q < length pages → position_or_len (λ page. page == slice_index pages q) pages ≡ q
page-position pages q differ within =
    position_or_len_is (λ page. page == slice_index pages q) pages q 0 (omega (arith, within))
    (λ k before. ne_eqb (get_or pages k 0) (get_or pages q 0) (differ k q 0 before within))
    (λ inside. eq-eqb (get_or pages q 0) (get_or pages q 0) refl)

-- byte `at` and the next ones on its page, by where they stand in memory
same-page : (pages : List ℕ) (at k place : ℕ) → place ≡ place_in_memory pages at → at % 4096 + k < 4096 → (place + k) / 4096 ≡ slice_index pages (at / 4096)
same-page pages at k place stands below = omega (arith, stands, below)

next-in-buffer : (pages : List ℕ) (at k place : ℕ) → AllPairs (λ one other. one ≢ other) pages → at < 4096 * length pages → place ≡ place_in_memory pages at → at % 4096 + k < 4096
    → place_in_buffer pages (place + k) ≡ at + k
next-in-buffer pages at k place differ inside stands below =
    let page = same-page pages at k place stands below in
    let rest : (place + k) % 4096 ≡ at % 4096 + k = omega (arith, stands, below, page) in
    let position : position_or_len (λ one. one == (place + k) / 4096) pages ≡ at / 4096 =
    ap (λ p. position_or_len (λ one. one == p) pages) page ∙ page-position pages (at / 4096) differ (omega (arith, inside))
    in
    omega (arith, position, rest)

-- a place that holds one of the next bytes on the page of byte `at` is one of the next places
next-in-memory : (pages : List ℕ) (at n place k : ℕ) → at < 4096 * length pages → place ≡ place_in_memory pages at → at % 4096 + n ≤ 4096
    → at ≤ place_in_buffer pages k → place_in_buffer pages k < at + n → (place ≤ k) × (k < place + n)
next-in-memory pages at n place k inside stands below from upto =
    let test : ℕ → Bool = λ page. page == k / 4096 in
    let q = position_or_len test pages in
    let same : q ≡ at / 4096 = omega (arith, from, upto, below) in
    let found : (get_or pages q 0 == k / 4096) ≡ true = passes_at_first test pages 0 (omega (arith, same, inside)) in
    let here : get_or pages q 0 ≡ k / 4096 = grind (arith, nat_tests, found) in
    let page : slice_index pages (at / 4096) ≡ k / 4096 = ap (λ i. get_or pages i 0) (sym same) ∙ here in
    (omega (arith, stands, page, from, upto, same, below), omega (arith, stands, page, from, upto, same, below))

-- the next n bytes of the piece, which lie on one page, are written
pub stored_more : (pages : List ℕ) (offset : ℕ) (piece bytes : List ℕ) (done n place : ℕ)
    → AllPairs (λ one other. one ≢ other) pages → offset + length piece ≤ 4096 * length pages → done < length piece → done + n ≤ length piece
    → (offset + done) % 4096 + n ≤ 4096 → place ≡ place_in_memory pages (offset + done) → place + n ≤ length bytes
    → put_mid place n (stored pages offset (take done piece) bytes) (take n (drop done piece)) ≡ stored pages offset (take (done + n) piece) bytes
unfolding stored
stored_more pages offset piece bytes done n place differ inside more fits below stands room =
    let at = offset + done in
    let part = take n (drop done piece) in
    let size : length part ≡ n = omega (arith, length-take n (drop done piece), length-drop done piece, fits) in
    let whole : length (take (done + n) piece) ≡ done + n = omega (arith, length-take (done + n) piece, fits) in
    let in_buffer : at < 4096 * length pages = omega (arith, inside, more) in
    let b : ℕ → ℕ = λ k. place_in_buffer pages k in
    put_mid-tabulate (stored_byte pages offset (take done piece) bytes) (stored_byte pages offset (take (done + n) piece) bytes) (length bytes) place n part room size
    (λ k low.
    let next : b (place + k) ≡ at + k = next-in-buffer pages at k place differ in_buffer stands (omega (arith, below, low)) in
    let index : b (place + k) - offset ≡ done + k = omega (arith, next) in
    get_or-take n (drop done piece) k 0 low ∙ get_or-drop done piece k 0
    ∙ sym (
    stored-here offset (b (place + k)) (take (done + n) piece) (slice_index bytes (place + k)) (omega (arith, next)) (omega (arith, next, whole, low))
    ∙ ap (λ i. get_or (take (done + n) piece) i 0) index
    ∙ get_or-take (done + n) piece (done + k) 0 (omega (arith, low))))
    (λ k before. stored-other offset (b k) done n piece (slice_index bytes k) fits (λ from upto.
    omega (arith, before, (next-in-memory pages at n place k in_buffer stands below from upto).0)))
    (λ k after. stored-other offset (b k) done n piece (slice_index bytes k) fits (λ from upto.
    omega (arith, after, (next-in-memory pages at n place k in_buffer stands below from upto).1)))

-- the same, as memory writes it
pub stored_more-written : (pages : List ℕ) (offset : ℕ) (piece bytes : List ℕ) (done n addr : ℕ)
    → AllPairs (λ one other. one ≢ other) pages → offset + length piece ≤ 4096 * length pages → done < length piece → done + n ≤ length piece
    → (offset + done) % 4096 + n ≤ 4096 → addr ≡ 1048576 + place_in_memory pages (offset + done) → place_in_memory pages (offset + done) + n ≤ length bytes
    → written_at (stored pages offset (take done piece) bytes) addr (take n (drop done piece)) ≡ stored pages offset (take (done + n) piece) bytes
stored_more-written pages offset piece bytes done n addr differ inside more fits below stands room =
    let old = stored pages offset (take done piece) bytes in
    let part = take n (drop done piece) in
    let place = addr - 1048576 in
    let size : length part ≡ n = omega (arith, length-take n (drop done piece), length-drop done piece, fits) in
    let start : place ≡ place_in_memory pages (offset + done) = omega (arith, stands) in
    let rest : drop (place + length part) old ≡ drop n (drop place old) =
    ap (λ m. drop (place + m) old) size ∙ sym (drop-drop n place old)
    in
    ap (λ (xs : List ℕ). take place old ++ part ++ xs) rest
    ∙ append_assoc (take place old) part (drop n (drop place old))
    ∙ stored_more pages offset piece bytes done n place differ inside more fits below start (omega (arith, start, room))

-- the same over a list that is what was stored so far
stored_next : (pages : List ℕ) (offset : ℕ) (piece first old : List ℕ) (done n addr : ℕ)
    → AllPairs (λ one other. one ≢ other) pages → offset + length piece ≤ 4096 * length pages → done < length piece → done + n ≤ length piece
    → (offset + done) % 4096 + n ≤ 4096 → addr ≡ 1048576 + place_in_memory pages (offset + done)
    → place_in_memory pages (offset + done) - (offset + done) % 4096 + 4096 ≤ length old
    → old ≡ stored pages offset (take done piece) first
    → written_at old addr (take (done + n - done) (drop done piece)) ≡ stored pages offset (take (done + n) piece) first
stored_next pages offset piece first old done n addr differ inside more fits below stands room was =
    let count : done + n - done ≡ n = omega arith in
    let size : length old ≡ length first = ap length was ∙ length-stored pages offset (take done piece) first in
    ap (λ m. written_at old addr (take m (drop done piece))) count
    ∙ ap (λ xs. written_at xs addr (take n (drop done piece))) was
    ∙ stored_more-written pages offset piece first done n addr differ inside more fits below stands (omega (arith, room, below, size))

-- one turn of the loop that stores
pub stored_turn : (first old new : Memory) (pages : List ℕ) (offset : ℕ) (piece : List ℕ) (done n addr : ℕ)
    → AllPairs (λ one other. one ≢ other) pages → offset + length piece ≤ 4096 * length pages → done < length piece → done + n ≤ length piece
    → (offset + done) % 4096 + n ≤ 4096 → addr ≡ 1048576 + place_in_memory pages (offset + done)
    → place_in_memory pages (offset + done) - (offset + done) % 4096 + 4096 ≤ length old.bytes
    → old ≡ record first { bytes = stored pages offset (take done piece) first.bytes }
    → new ≡ record old { bytes = written_at old.bytes addr (take (done + n - done) (drop done piece)) }
    → new ≡ record first { bytes = stored pages offset (take (done + n) piece) first.bytes }
stored_turn first old new pages offset piece done n addr differ inside more fits below stands room was is =
    is
    ∙ ap (λ xs. record { bytes = xs; taken = old.taken })
    (stored_next pages offset piece first.bytes old.bytes done n addr differ inside more fits below stands room (ap (λ (memory : Memory). memory.bytes) was))
    ∙ ap (λ flags. record { bytes = stored pages offset (take (done + n) piece) first.bytes; taken = flags }) (ap (λ (memory : Memory). memory.taken) was)

-- a byte, once one piece was stored and another behind it
two-pieces : (offset b : ℕ) (xs ys : List ℕ) (old : ℕ)
    → cond (nat_le (offset + length xs) b && nat_lt b (offset + length xs + length ys)) (slice_index ys (b - (offset + length xs)))
    (cond (nat_le offset b && nat_lt b (offset + length xs)) (slice_index xs (b - offset)) old)
    ≡ cond (nat_le offset b && nat_lt b (offset + length (xs ++ ys))) (slice_index (xs ++ ys) (b - offset)) old
two-pieces offset b xs ys old =
    let inner = cond (nat_le offset b && nat_lt b (offset + length xs)) (slice_index xs (b - offset)) old in
    let both : length (xs ++ ys) ≡ length xs + length ys = length-append xs ys in
    elim (cases_lt b (offset + length xs)) [
      | inl front ↦ stored-before (offset + length xs) b ys inner front ∙ elim (cases_lt b offset) [
        | inl low ↦ stored-before offset b xs old low ∙ sym (stored-before offset b (xs ++ ys) old low)
        | inr high ↦
            stored-here offset b xs old high front
            ∙ sym (get_or_append_left xs ys 0 (b - offset) (omega (arith, front, high)))
            ∙ sym (stored-here offset b (xs ++ ys) old high (omega (arith, front, both)))
      ]
      | inr behind ↦ elim (cases_lt b (offset + length xs + length ys)) [
        | inl inside ↦
            stored-here (offset + length xs) b ys inner behind inside
            ∙ ap (λ n. get_or ys n 0) (omega (arith, behind))
            ∙ sym (get_or-append_right xs ys (length xs) (b - offset) 0 refl (omega (arith, behind)))
            ∙ sym (stored-here offset b (xs ++ ys) old (omega (arith, behind)) (omega (arith, inside, both)))
        | inr after ↦
            stored-past (offset + length xs) b ys inner after
            ∙ stored-past offset b xs old behind
            ∙ sym (stored-past offset b (xs ++ ys) old (omega (arith, after, both)))
      ]
    ]

-- one piece was stored, and another behind it
pub stored_append : (pages : List ℕ) (offset : ℕ) (xs ys bytes : List ℕ) → stored pages (offset + length xs) ys (stored pages offset xs bytes) ≡ stored pages offset (xs ++ ys) bytes
unfolding stored
stored_append pages offset xs ys bytes =
    let first = tabulate (length bytes) (stored_byte pages offset xs bytes) in
    let long : length first ≡ length bytes = length-tabulate (stored_byte pages offset xs bytes) (length bytes) in
    let next = stored_byte pages (offset + length xs) ys first in
    tabulate_from_places (stored_byte pages offset (xs ++ ys) bytes) (tabulate (length first) next) (length bytes) 0 (length-tabulate next (length first) ∙ long) (λ k within.
    let b = place_in_buffer pages k in
    get_or-tabulate next (length first) k 0 (omega (arith, within, long))
    ∙ ap (λ old. cond (nat_le (offset + length xs) b && nat_lt b (offset + length xs + length ys)) (slice_index ys (b - (offset + length xs))) old)
    (get_or-tabulate (stored_byte pages offset xs bytes) (length bytes) k 0 within)
    ∙ two-pieces offset b xs ys (slice_index bytes k))

pub length-repeated : (bytes : List ℕ) (times : ℕ) → length (repeated bytes times) ≡ length bytes * times
unfolding repeated
length-repeated bytes times = length-tabulate (λ k. slice_index bytes (k % length bytes)) (length bytes * times)

-- the front of a block is fewer turns
take-repeated : (bytes : List ℕ) (m n : ℕ) → m ≤ n → take (m * length bytes) (repeated bytes n) ≡ repeated bytes m
take-repeated bytes m n less =
    let rest : m + (n - m) ≡ n = omega (arith, less) in
    let size : m * length bytes ≡ length (repeated bytes m) = omega (arith, length-repeated bytes m) in
    ap (λ xs. take (m * length bytes) xs) (ap (repeated bytes) (sym rest) ∙ sym (repeated_append bytes m (n - m)))
    ∙ ap (λ count. take count (repeated bytes m ++ repeated bytes (n - m))) size
    ∙ take-append_seam (repeated bytes m) (repeated bytes (n - m))

pub front-of-block : (bytes block : List ℕ) (turns times : ℕ) → 0 < turns → block ≡ repeated bytes turns → take (times % turns * length bytes) block ≡ repeated bytes (times % turns)
front-of-block bytes block turns times some is =
    let fewer : times % turns ≤ turns = omega (arith, mod_below times turns some) in
    ap (take (times % turns * length bytes)) is ∙ take-repeated bytes (times % turns) turns fewer

-- the sizes of whole blocks and of the front of one more
pub blocks-and-rest : (len turns times n : ℕ) → n ≡ len * turns → n * (times / turns) + times % turns * len ≡ len * times
blocks-and-rest len turns times n is =
    ap (λ m. m * (times / turns) + times % turns * len) is
    ∙ (grind (arith))
    ∙ ap (λ m. len * m) (div-add-mod times turns)

-- one turn more is stored
pub stored_each : (first old new : Memory) (pages : List ℕ) (offset at : ℕ) (bytes : List ℕ) (turn : ℕ)
    → at ≡ offset + length bytes * turn
    → old ≡ record first { bytes = stored pages offset (repeated bytes turn) first.bytes }
    → new ≡ record old { bytes = stored pages at bytes old.bytes }
    → new ≡ record first { bytes = stored pages offset (repeated bytes (turn + 1)) first.bytes }
stored_each first old new pages offset at bytes turn stands was is =
    let start : at ≡ offset + length (repeated bytes turn) = omega (arith, stands, length-repeated bytes turn) in
    let more : stored pages at bytes old.bytes ≡ stored pages offset (repeated bytes (turn + 1)) first.bytes =
    ap (stored pages at bytes) (ap (λ (memory : Memory). memory.bytes) was)
    ∙ ap (λ n. stored pages n bytes (stored pages offset (repeated bytes turn) first.bytes)) start
    ∙ stored_append pages offset (repeated bytes turn) bytes first.bytes
    ∙ ap (λ xs. stored pages offset xs first.bytes) (repeated_more bytes turn)
    in
    is
    ∙ ap (λ xs. record { bytes = xs; taken = old.taken }) more
    ∙ ap (λ flags. record { bytes = stored pages offset (repeated bytes (turn + 1)) first.bytes; taken = flags }) (ap (λ (memory : Memory). memory.taken) was)

-- whole blocks are stored, and the front of one more
pub stored_blocks : (first blocks new : Memory) (pages : List ℕ) (offset end : ℕ) (bytes block rest : List ℕ) (turns times : ℕ)
    → 0 < turns
    → block ≡ repeated bytes turns
    → blocks ≡ record first { bytes = stored pages offset (repeated block (times / turns)) first.bytes }
    → end ≡ offset + length block * (times / turns)
    → rest ≡ repeated bytes (times % turns)
    → new ≡ record blocks { bytes = stored pages end rest blocks.bytes }
    → new ≡ record first { bytes = stored pages offset (repeated bytes times) first.bytes }
stored_blocks first blocks new pages offset end bytes block rest turns times some is was stands left now =
    let m = times / turns in
    let front : repeated block m ≡ repeated bytes (turns * m) = ap (λ xs. repeated xs m) is ∙ repeated_block bytes turns m in
    let size : length (repeated block m) ≡ length block * m = length-repeated block m in
    let start : end ≡ offset + length (repeated block m) = stands ∙ ap (λ n. offset + n) (sym size) in
    let whole : repeated block m ++ rest ≡ repeated bytes times =
    ap (λ xs. xs ++ rest) front ∙ ap (λ xs. repeated bytes (turns * m) ++ xs) left ∙ repeated_append bytes (turns * m) (times % turns) ∙ ap (repeated bytes) (div-add-mod times turns)
    in
    let more : stored pages end rest blocks.bytes ≡ stored pages offset (repeated bytes times) first.bytes =
    ap (stored pages end rest) (ap (λ (memory : Memory). memory.bytes) was)
    ∙ ap (λ n. stored pages n rest (stored pages offset (repeated block m) first.bytes)) start
    ∙ stored_append pages offset (repeated block m) rest first.bytes
    ∙ ap (λ xs. stored pages offset xs first.bytes) whole
    in
    now
    ∙ ap (λ xs. record { bytes = xs; taken = blocks.taken }) more
    ∙ ap (λ flags. record { bytes = stored pages offset (repeated bytes times) first.bytes; taken = flags }) (ap (λ (memory : Memory). memory.taken) was)
