use Rattle.std.proofs.Common.{◌≡◌, ℕ, List, [], ◌∷◌, ◌++◌, length, get_or, refl, arith, append_assoc, length-append}
use Rattle.std.proofs.lemmas.List.{get_or_at}
use Rattle.vg_wire.specs.declared.header.Header.{Header}
use Rattle.vg_numbers.specs.Numbers.{number_at, le}
use Rattle.vg_wire.specs.Header.{header_of, header_bytes, IsHeader}
use Rattle.vg_numbers.proofs.NumberLemmas.{length-le, number_at-le}

pub length-header_bytes : (header : Header) → length (header_bytes header) ≡ 24
unfolding header_bytes
length-header_bytes header =
    simp length-append (omega (arith, length-le 4 header.kind, length-le 4 header.flags, length-le 8 header.fence_id, length-le 4 header.ctx_id))

-- what is written of a header is read as itself, whatever follows
pub header_of-header_bytes : (header : Header) (rest : List ℕ) → IsHeader header → header_of (header_bytes header ++ rest) ≡ header
unfolding header_bytes
header_of-header_bytes header rest fits =
    let a = le 4 header.kind in
    let b = le 4 header.flags in
    let d = le 8 header.fence_id in
    let e = le 4 header.ctx_id in
    let f : List ℕ = header.ring_idx ∷ 0 ∷ 0 ∷ 0 ∷ [] in
    let bytes : List ℕ = ((((a ++ b) ++ d) ++ e) ++ f) ++ rest in
    let two : length (a ++ b) ≡ 8 = simp length-append (omega (arith, length-le 4 header.kind, length-le 4 header.flags)) in
    let three : length ((a ++ b) ++ d) ≡ 16 = simp length-append (omega (arith, length-le 4 header.kind, length-le 4 header.flags, length-le 8 header.fence_id)) in
    let four : length (((a ++ b) ++ d) ++ e) ≡ 20 = simp length-append (omega (arith, length-le 4 header.kind, length-le 4 header.flags, length-le 8 header.fence_id, length-le 4 header.ctx_id)) in
    let kind : number_at 4 0 bytes ≡ header.kind = simp append_assoc (number_at-le 4 [] (b ++ (d ++ (e ++ (f ++ rest)))) 0 header.kind refl fits.kind) in
    let flags : number_at 4 4 bytes ≡ header.flags = simp append_assoc (number_at-le 4 a (d ++ (e ++ (f ++ rest))) 4 header.flags (length-le 4 header.kind) fits.flags) in
    let fence_id : number_at 8 8 bytes ≡ header.fence_id = simp append_assoc (simp append_assoc at (number_at-le 8 (a ++ b) (e ++ (f ++ rest)) 8 header.fence_id two fits.fence_id)) in
    let ctx_id : number_at 4 16 bytes ≡ header.ctx_id = simp append_assoc (simp append_assoc at (number_at-le 4 ((a ++ b) ++ d) (f ++ rest) 16 header.ctx_id three fits.ctx_id)) in
    let ring_idx : get_or bytes 20 0 ≡ header.ring_idx = simp append_assoc (simp append_assoc at (get_or_at (((a ++ b) ++ d) ++ e) header.ring_idx (0 ∷ 0 ∷ 0 ∷ rest) 0 20 four)) in
    rw (kind, flags, fence_id, ctx_id, ring_idx) refl
