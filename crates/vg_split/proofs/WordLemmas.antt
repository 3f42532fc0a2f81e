use Rattle.std.proofs.Common.{◌≡◌, ℕ, zero, suc, ◌+◌, ◌*◌, ◌/◌, ◌%◌, ◌^◌, ◌<◌, List, [], ◌∷◌, ◌++◌, map, slice_index, refl, ap, arith}
use Rattle.std.specs.List.{range_with_len, flat_map}
use Rattle.vg_numbers.specs.Numbers.{le}
use Rattle.vg_chain.specs.declared.form.Form.TheVariants.{Split}
use Rattle.vg_chain.specs.Made.{split_bytes, table_bytes}
use Rattle.vg_split.specs.Words.{addr_place, rest_place, used_word}
use Rattle.vg_cargo.specs.Descriptors.{descriptor_from}

pub used_bytes : (head len : ℕ) → head < 2 ^ 16 → len < 2 ^ 32 → le 8 (used_word head len) ≡ le 4 head ++ le 4 len
unfolding le
used_bytes head len small fits =
    let e0 : (head + len * 2 ^ 32) % 256 ≡ head % 256 = omega arith in
    let e1 : (head + len * 2 ^ 32) / 256 % 256 ≡ head / 256 % 256 = omega arith in
    let e2 : (head + len * 2 ^ 32) / 65536 % 256 ≡ head / 65536 % 256 = omega arith in
    let e3 : (head + len * 2 ^ 32) / 16777216 % 256 ≡ head / 16777216 % 256 = omega arith in
    let e4 : (head + len * 2 ^ 32) / 4294967296 % 256 ≡ len % 256 = omega arith in
    let e5 : (head + len * 2 ^ 32) / 1099511627776 % 256 ≡ len / 256 % 256 = omega arith in
    let e6 : (head + len * 2 ^ 32) / 281474976710656 % 256 ≡ len / 65536 % 256 = omega arith in
    let e7 : (head + len * 2 ^ 32) / 72057594037927936 % 256 ≡ len / 16777216 % 256 = omega arith in
    λ k. e0 k ∷ e1 k ∷ e2 k ∷ e3 k ∷ e4 k ∷ e5 k ∷ e6 k ∷ e7 k ∷ []

pub rest_bytes : (addr rest : ℕ) → rest < 2 ^ 64 → le 8 addr ++ le 8 rest ≡ split_bytes (descriptor_from addr rest)
unfolding le split_bytes
rest_bytes addr rest fits =
    let e0 : rest % 256 ≡ rest % 2 ^ 32 % 256 = omega arith in
    let e1 : rest / 256 % 256 ≡ rest % 2 ^ 32 / 256 % 256 = omega arith in
    let e2 : rest / 65536 % 256 ≡ rest % 2 ^ 32 / 65536 % 256 = omega arith in
    let e3 : rest / 16777216 % 256 ≡ rest % 2 ^ 32 / 16777216 % 256 = omega arith in
    let e4 : rest / 4294967296 % 256 ≡ rest / 2 ^ 32 % 2 ^ 16 % 256 = omega arith in
    let e5 : rest / 1099511627776 % 256 ≡ rest / 2 ^ 32 % 2 ^ 16 / 256 % 256 = omega arith in
    let e6 : rest / 281474976710656 % 256 ≡ rest / 2 ^ 48 % 256 = omega arith in
    let e7 : rest / 72057594037927936 % 256 ≡ rest / 2 ^ 48 / 256 % 256 = omega arith in
    let same : le 8 rest ≡ le 4 (rest % 2 ^ 32) ++ le 2 (rest / 2 ^ 32 % 2 ^ 16) ++ le 2 (rest / 2 ^ 48) = λ k. e0 k ∷ e1 k ∷ e2 k ∷ e3 k ∷ e4 k ∷ e5 k ∷ e6 k ∷ e7 k ∷ [] in
    ap (λ (xs : List ℕ). le 8 addr ++ xs) same

pub image_bytes : (a n : ℕ) (words : List ℕ) → ((i : ℕ) → slice_index words i < 2 ^ 64)
    → flat_map (λ h. le 8 (slice_index words (addr_place h)) ++ le 8 (slice_index words (rest_place h))) (range_with_len a n)
    ≡ table_bytes Split (map (λ h. descriptor_from (slice_index words (addr_place h)) (slice_index words (rest_place h))) (range_with_len a n))
image_bytes a zero words fits = refl
image_bytes a (suc n) words fits =
    let first = rest_bytes (slice_index words (addr_place a)) (slice_index words (rest_place a)) (fits (rest_place a)) in
    let rest = image_bytes (a + 1) n words fits in
    cc (first, rest)
