use Rattle.std.proofs.Common.{◌≡◌, ℕ, ◌+◌, ◌%◌, ◌<◌, List, [], ◌∷◌, ◌++◌, length, take, get_or, sum, arith}
use Rattle.std.proofs.lemmas.List.Sums.{sum_by_more, sum_by_push}
use Rattle.vg_edid.specs.Edid.{checksum, unsummed, edid_bytes}

-- the sum of one byte more
pub sum-more : (bytes : List ℕ) (i total now : ℕ) → i < length bytes → total ≡ sum (take i bytes) % 256
    → now ≡ (total + get_or bytes i 0) % 256 → now ≡ sum (take (i + 1) bytes) % 256
sum-more bytes i total now inside so_far added =
    let more : sum (take (i + 1) bytes) ≡ sum (take i bytes) + get_or bytes i 0 = sum_by_more (λ x. x) bytes i 0 inside in
    omega arith

-- with its checksum a list of bytes has the sum 0
pub sum-checksum : (bytes : List ℕ) → sum (bytes ++ checksum bytes ∷ []) % 256 ≡ 0
unfolding checksum
sum-checksum bytes =
    let more : sum (bytes ++ checksum bytes ∷ []) ≡ sum bytes + checksum bytes = sum_by_push (λ x. x) bytes (checksum bytes) in
    omega arith

pub sum-edid_bytes : (width height scanout : ℕ) → sum (edid_bytes width height scanout) % 256 ≡ 0
unfolding edid_bytes
sum-edid_bytes width height scanout = sum-checksum (unsummed width height scanout)
