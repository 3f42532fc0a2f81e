-- Packed text, a part behind another.
use Rattle.std.proofs.Common.{◌≡◌, ℕ, zero, suc, ◌+◌, ◌-◌, ◌*◌, ◌≤◌, ◌<◌, Bool, true, false, List, [], ◌∷◌, ◌++◌, length, take, drop, get_or, replicate, Result, Ok, Err, OnOk, refl, sym, ap, subst, ◌∙◌, arith, append_assoc, append-nil, add-one, length-append}
use Rattle.std.specs.Prelude.{nat_lt, decimal, ◌^◌, ◌%◌, if◌then◌else◌, is_ok, OnErr}
use Rattle.std.specs.declared.alloc.AllocError.{AllocError}
use Rattle.std.proofs.lemmas.Bool.{and_parts}
use Rattle.std.proofs.lemmas.Fmt.{decimal_by_steps}
use Rattle.std.proofs.lemmas.List.{length-take-le, length-drop, length-replicate, get_or-drop, take-append-drop, take_all}
use Rattle.std.proofs.lemmas.Grind.{replicate_next}
use Rattle.hex.proofs.HexLemmas.{length-encode_with}
use Rattle.std.proofs.Math.Seq.{take-add, take-suc}
use Rattle.hex.specs.Hex.{encode_with, encode_lower, lower_digits}
use Rattle.vg_list.specs.Front.{HasFront}
use Rattle.vg_text.specs.Text.{are_characters, hex_text}
use Rattle.vg_text.specs.Packing.{said, next, unpacked, left}

pub unpacked_append : (n : ℕ) (xs ys : List ℕ) → unpacked n (xs ++ ys) ≡ unpacked n xs ++ unpacked (left n xs) ys
unpacked_append n [] ys = refl
unpacked_append n (x ∷ xs) ys = ap (λ t. said n x ++ t) (unpacked_append (next n x) xs ys) ∙ sym (append_assoc (said n x) _ _)

pub left_append : (n : ℕ) (xs ys : List ℕ) → left n (xs ++ ys) ≡ left (left n xs) ys
left_append n [] ys = refl
left_append n (x ∷ xs) ys = left_append (next n x) xs ys

-- What is whole stays whole, and says the one and then the other.
pub whole_append : (xs ys : List ℕ) → left 0 xs ≡ 0 → left 0 ys ≡ 0 → left 0 (xs ++ ys) ≡ 0
whole_append xs ys is also = left_append 0 xs ys ∙ ap (λ n. left n ys) is ∙ also

pub text_append : (xs ys : List ℕ) → left 0 xs ≡ 0 → unpacked 0 (xs ++ ys) ≡ unpacked 0 xs ++ unpacked 0 ys
text_append xs ys is = unpacked_append 0 xs ys ∙ ap (λ n. unpacked 0 xs ++ unpacked n ys) is

-- Characters stand for themselves.
pub characters_said : (xs : List ℕ) → are_characters xs ≡ true → (unpacked 0 xs ≡ xs) × (left 0 xs ≡ 0)
characters_said [] are = (refl, refl)
characters_said (x ∷ xs) are =
    let is = and_parts (nat_lt x 128) (are_characters xs) are in
    let more = characters_said xs is.1 in
    (rw (is.0) (ap (λ l. x ∷ l) more.0), rw (is.0) (more.1))

-- Bytes that are spelled, all of them.
pub spelled_all : (xs : List ℕ) → (unpacked (length xs) xs ≡ encode_lower xs) × (left (length xs) xs ≡ 0)
unfolding encode_with
spelled_all [] = (refl, refl)
spelled_all (x ∷ xs) =
    let more = spelled_all xs in
    (ap (λ l. encode_lower (x ∷ []) ++ l) more.0, more.1)

pub encode_append : (xs ys : List ℕ) → encode_lower (xs ++ ys) ≡ encode_lower xs ++ encode_lower ys
unfolding encode_with
encode_append [] ys = refl
encode_append (x ∷ xs) ys = ap (λ l. encode_lower (x ∷ []) ++ l) (encode_append xs ys)

-- A word that is put, or for which there was no memory.
pub put_whole : (r : Result (Unit {0}) AllocError) (xs ys zs : List ℕ) → zs ≡ (if is_ok r then xs ++ ys else xs) → left 0 xs ≡ 0 → left 0 ys ≡ 0 → left 0 zs ≡ 0
put_whole (Ok x) xs ys zs is whole also = subst (λ l. left 0 l ≡ 0) (sym is) (whole_append xs ys whole also)
put_whole (Err e) xs ys zs is whole also = subst (λ l. left 0 l ≡ 0) (sym is) whole

pub put_text : (r : Result (Unit {0}) AllocError) (xs ys zs : List ℕ) → zs ≡ (if is_ok r then xs ++ ys else xs) → left 0 xs ≡ 0 → OnOk r (unpacked 0 zs ≡ unpacked 0 xs ++ unpacked 0 ys)
put_text (Ok x) xs ys zs is whole = ap (unpacked 0) is ∙ text_append xs ys whole
put_text (Err e) xs ys zs is whole = tt

pub put_same : (r : Result (Unit {0}) AllocError) (xs ys zs : List ℕ) → zs ≡ (if is_ok r then xs ++ ys else xs) → OnErr r (unpacked 0 zs ≡ unpacked 0 xs)
put_same (Ok x) xs ys zs is = tt
put_same (Err e) xs ys zs is = ap (unpacked 0) is

-- Bytes behind one that says how many.
pub piece_said : (first : ℕ) (xs : List ℕ) → said 0 first ≡ [] → next 0 first ≡ length xs → (unpacked 0 (first ∷ xs) ≡ encode_lower xs) × (left 0 (first ∷ xs) ≡ 0)
piece_said first xs says count =
    let all = spelled_all xs in
    (ap (λ t. t ++ unpacked (next 0 first) xs) says ∙ ap (λ n. unpacked n xs) count ∙ all.0, ap (λ n. left n xs) count ∙ all.1)

-- Bytes of 0.
pub zeros_said : (n : ℕ) → 1 ≤ n → (unpacked 0 ((223 + n) ∷ []) ≡ encode_lower (replicate n 0)) × (left 0 ((223 + n) ∷ []) ≡ 0)
zeros_said n some =
    let large : nat_lt (223 + n) 128 ≡ false = search arith in
    let larger : nat_lt (223 + n) 192 ≡ false = search arith in
    let largest : nat_lt (223 + n) 224 ≡ false = search arith in
    let back : 223 + n - 223 ≡ n = omega arith in
    (rw (large, largest, back) (append-nil (encode_lower (replicate n 0))), rw (large, larger, largest) refl)

-- Bytes of 0 as digits.
zeros_digits : (n : ℕ) → encode_lower (replicate n 0) ≡ replicate (2 * n) 48
unfolding encode_with
zeros_digits zero = refl
zeros_digits (suc n) =
    let two : 2 * suc n ≡ suc (suc (2 * n)) = omega arith in
    rw two (ap (λ l. 48 ∷ 48 ∷ l) (zeros_digits n))

pub zeros_put : (r : Result (Unit {0}) AllocError) (xs zs : List ℕ) (len end n : ℕ) → len ≡ length xs → end ≡ len + 2 * n → zs ≡ (if is_ok r then take end xs ++ replicate (end - len) 48 else xs) → OnOk r (zs ≡ xs ++ encode_lower (replicate n 0))
zeros_put (Ok x) xs zs len end n size to is =
    let all : take end xs ≡ xs = take_all end xs (omega (arith, size, to)) in
    let rest : end - len ≡ 2 * n = omega (arith, to) in
    is ∙ rw (all, rest, zeros_digits n) refl
zeros_put (Err e) xs zs len end n size to is = tt

pub snoc_characters : (xs : List ℕ) (x : ℕ) → are_characters xs ≡ true → nat_lt x 128 ≡ true → are_characters (xs ++ x ∷ []) ≡ true
snoc_characters [] x are is = rw is refl
snoc_characters (y ∷ xs) x are is = let b = and_parts (nat_lt y 128) (are_characters xs) are in rw (b.0) (snoc_characters xs x b.1 is)

pub decimal_characters : (n : ℕ) → n < 2 ^ 64 → are_characters (decimal n) ≡ true
decimal_characters n fits = decimal_by_steps (λ n ds. are_characters ds ≡ true) (λ n small. search arith) (λ n ds large are. snoc_characters ds (48 + n % 10) are (search arith)) n fits

-- Bytes that are spelled, put behind the one that says how many, for which there is room.
pub piece_whole : (r : Result (Unit {0}) AllocError) (xs ps zs bs : List ℕ) (first : ℕ) → said 0 first ≡ [] → next 0 first ≡ length bs → ps ≡ xs ++ first ∷ [] → zs ≡ (if is_ok r then ps ++ bs else ps) → is_ok r ≡ true → left 0 xs ≡ 0 → (unpacked 0 zs ≡ unpacked 0 xs ++ encode_lower bs) × (left 0 zs ≡ 0)
piece_whole r xs ps zs bs first says count pushed put ok whole =
    let piece = piece_said first bs says count in
    let all : zs ≡ xs ++ first ∷ bs = put ∙ ap (λ b. if b then ps ++ bs else ps) ok ∙ ap (λ l. l ++ bs) pushed ∙ append_assoc xs (first ∷ []) bs in (
      ap (unpacked 0) all ∙ text_append xs (first ∷ bs) whole ∙ ap (λ l. unpacked 0 xs ++ l) piece.0,
      subst (λ l. left 0 l ≡ 0) (sym all) (whole_append xs (first ∷ bs) whole piece.1),
    )

pub on_ok : {T E : Type 0} {P : Type 0} (r : Result T E) → P → OnOk r P
on_ok (Ok x) p = p
on_ok (Err e) p = tt

-- A spelled part more.
pub spelled_more : (at end : ℕ) (xs old before after : List ℕ) → before ≡ old ++ encode_lower (take at xs) → after ≡ before ++ encode_lower (take (end - at) (drop at xs)) → at < end → after ≡ old ++ encode_lower (take end xs)
spelled_more at end xs old before after was is behind =
    let whole : at + (end - at) ≡ end = omega (arith, behind) in
    let part : take at xs ++ take (end - at) (drop at xs) ≡ take end xs = sym (take-add at (end - at) xs) ∙ ap (λ n. take n xs) whole in
    is ∙ ap (λ l. l ++ encode_lower (take (end - at) (drop at xs))) was ∙ append_assoc old _ _
    ∙ ap (λ l. old ++ l) (sym (encode_append (take at xs) (take (end - at) (drop at xs))) ∙ ap encode_lower part)

-- A byte of 0 more.
pub zeros_more : (at i : ℕ) (xs : List ℕ) → at + i < length xs → take i (drop at xs) ≡ replicate i 0 → get_or xs (at + i) 0 ≡ 0 → take (i + 1) (drop at xs) ≡ replicate (i + 1) 0
zeros_more at i xs within are is =
    let size : i < length (drop at xs) = (let d = length-drop at xs in omega (arith, d, within)) in
    let front : take (i + 1) (drop at xs) ≡ take i (drop at xs) ++ (get_or (drop at xs) i 0 ∷ []) = rw add-one (take-suc (drop at xs) i 0 size) in
    front ∙ ap (λ l. l ++ (get_or (drop at xs) i 0 ∷ [])) are ∙ ap (λ x. replicate i 0 ++ (x ∷ [])) (get_or-drop at xs i 0 ∙ is) ∙ sym (replicate_next i 0)

pub are_more : (xs : List ℕ) (i : ℕ) (x d : ℕ) → i < length xs → are_characters (take i xs) ≡ true → x ≡ get_or xs i d → nat_lt x 128 ≡ true → are_characters (take (i + 1) xs) ≡ true
are_more xs i x d within are is small =
    let front : take (i + 1) xs ≡ take i xs ++ (x ∷ []) = rw add-one (take-suc xs i d within ∙ ap (λ y. take i xs ++ (y ∷ [])) (sym is)) in
    subst (λ l. are_characters l ≡ true) (sym front) (snoc_characters (take i xs) x are small)

-- The digits of the bytes before a place are a front of those of all.
pub spelled_front : (at : ℕ) (xs old now new : List ℕ) → now ≡ old ++ encode_lower (take at xs) → new ≡ now → at < length xs → HasFront old new (hex_text xs)
spelled_front at [] old now new is same some = absurd (omega (arith, some))
spelled_front at (x ∷ xs) old now new is same some =
    record {
      front = encode_lower (take at (x ∷ xs));
      rest = encode_lower (drop at (x ∷ xs));
      added = same ∙ is;
      whole = sym (encode_append (take at (x ∷ xs)) (drop at (x ∷ xs))) ∙ ap encode_lower (take-append-drop at (x ∷ xs));
    }

pub nothing_spelled : (xs : List ℕ) → xs ≡ xs ++ encode_lower []
unfolding encode_with
nothing_spelled xs = sym (append-nil xs)

-- The bytes that are to come are there.
pub left_within : (n : ℕ) (xs : List ℕ) → left n xs ≡ 0 → n ≤ length xs
left_within zero xs whole = omega arith
left_within (suc n) [] whole = omega (arith, whole)
left_within (suc n) (x ∷ xs) whole = let more = left_within n xs whole in omega (arith, more)

-- What a byte that tells of others says itself, and that there are some.
some_next : (b : Bool) (x : ℕ) → nat_lt x 192 ≡ b → nat_lt x 128 ≡ false → nat_lt x 224 ≡ true → 0 < next 0 x
some_next true x is large small = rw (large, is) (search (arith, large))
some_next false x is large small = rw (large, is, small) (search (arith, is))

pub tells : (x : ℕ) → nat_lt x 128 ≡ false → nat_lt x 224 ≡ true → (said 0 x ≡ []) × (0 < next 0 x)
tells x large small = (rw (large, small) refl, some_next (nat_lt x 192) x refl large small)

-- What is whole and not empty says something.
some_digits : (n : ℕ) (xs : List ℕ) → 0 < n → left n xs ≡ 0 → 0 < length (unpacked n xs)
unfolding encode_with
some_digits zero xs some whole = absurd (omega (arith, some))
some_digits (suc n) [] some whole = omega (arith, whole)
some_digits (suc n) (x ∷ xs) some whole = omega arith

some_zeros : (n : ℕ) (xs : List ℕ) → 0 < n → 0 < length (encode_lower (replicate n 0) ++ xs)
some_zeros n xs some =
    let size = length-append (encode_lower (replicate n 0)) xs in
    let two = length-encode_with lower_digits (replicate n 0) in
    let count = length-replicate {A = ℕ} n 0 in
    omega (arith, size, two, count, some)

some_byte : (a b : Bool) (x : ℕ) (xs : List ℕ) → nat_lt x 128 ≡ a → nat_lt x 224 ≡ b → left 0 (x ∷ xs) ≡ 0 → 0 < length (unpacked 0 (x ∷ xs))
some_byte true b x xs is also whole = rw is (omega arith)
some_byte false true x xs is also whole = rw ((tells x is also).0) (some_digits (next 0 x) xs (tells x is also).1 whole)
some_byte false false x xs is also whole = rw (is, also) (some_zeros (x - 223) _ (search (arith, also)))

pub some_said : (xs : List ℕ) → left 0 xs ≡ 0 → 0 < length xs → 0 < length (unpacked 0 xs)
some_said [] whole some = omega (arith, some)
some_said (x ∷ xs) whole some = some_byte (nat_lt x 128) (nat_lt x 224) x xs refl refl whole

-- What stands behind a whole part is whole, and what is left to say.
pub rest_whole : (n : ℕ) (xs : List ℕ) → left 0 xs ≡ 0 → left 0 (take n xs) ≡ 0 → left 0 (drop n xs) ≡ 0
rest_whole n xs whole part = ap (λ k. left k (drop n xs)) (sym part) ∙ sym (left_append 0 (take n xs) (drop n xs)) ∙ ap (left 0) (take-append-drop n xs) ∙ whole

pub rest_said : (n : ℕ) (xs : List ℕ) → left 0 (take n xs) ≡ 0 → unpacked 0 (take n xs) ++ unpacked 0 (drop n xs) ≡ unpacked 0 xs
rest_said n xs part = sym (text_append (take n xs) (drop n xs) part) ∙ ap (unpacked 0) (take-append-drop n xs)

-- A part in digits.
pub digits_part : (packed : List ℕ) (first n : ℕ) → first ≡ get_or packed 0 0 → n ≡ next 0 first → nat_lt first 128 ≡ false → nat_lt first 224 ≡ true → 0 < length packed → left 0 packed ≡ 0 → (1 + n ≤ length packed) × (unpacked 0 (take (1 + n) packed) ≡ encode_lower (take n (drop 1 packed))) × (left 0 (take (1 + n) packed) ≡ 0)
digits_part [] first n is count large small some whole = absurd (omega (arith, some))
digits_part (x ∷ xs) first n is count large small some whole =
    let same : n ≡ next 0 x = count ∙ ap (next 0) is in
    let within : n ≤ length xs = left_within n xs (ap (λ k. left k xs) same ∙ whole) in
    let says : said 0 x ≡ [] = (tells x (ap (λ y. nat_lt y 128) (sym is) ∙ large) (ap (λ y. nat_lt y 224) (sym is) ∙ small)).0 in
    let at = piece_said x (take n xs) says (sym same ∙ sym (length-take-le n xs within)) in
    let one : 1 + n ≡ suc n = omega arith in (
      omega (arith, within),
      subst (λ e. unpacked 0 (take e (x ∷ xs)) ≡ encode_lower (take n (drop 1 (x ∷ xs)))) (sym one) at.0,
      subst (λ e. left 0 (take e (x ∷ xs)) ≡ 0) (sym one) at.1,
    )

-- A part of bytes of 0.
pub zeros_part : (packed : List ℕ) (first n : ℕ) → first ≡ get_or packed 0 0 → 223 + n ≡ first → 1 ≤ n → 0 < length packed → (unpacked 0 (take 1 packed) ≡ encode_lower (replicate n 0)) × (left 0 (take 1 packed) ≡ 0)
zeros_part [] first n is count some size = absurd (omega (arith, size))
zeros_part (x ∷ xs) first n is count some size =
    subst (λ y. (unpacked 0 (y ∷ []) ≡ encode_lower (replicate n 0)) × (left 0 (y ∷ []) ≡ 0)) (count ∙ is) (zeros_said n some)

pub rest_falls : (n : ℕ) (xs : List ℕ) → left 0 (take n xs) ≡ 0 → 0 < n → n ≤ length xs → length (unpacked 0 (drop n xs)) < length (unpacked 0 xs)
rest_falls n xs part some within =
    let size : length (take n xs) ≡ n = length-take-le n xs within in
    let says = some_said (take n xs) part (omega (arith, size, some)) in
    let all = ap length (rest_said n xs part) in
    let sum = length-append (unpacked 0 (take n xs)) (unpacked 0 (drop n xs)) in
    omega (arith, says, all, sum)
