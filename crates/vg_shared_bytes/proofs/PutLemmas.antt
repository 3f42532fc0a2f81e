-- Bytes with others in place of some of them, strip by strip.
use Rattle.std.proofs.Common.{◌≡◌, ℕ, ◌+◌, ◌-◌, ◌*◌, ◌/◌, ◌%◌, ◌<◌, ◌≤◌, ◌⊎◌, ◌&&◌, Bool, true, false, List, [], ◌∷◌, ◌++◌, drop, get_or, length, min, take, nat_le, nat_lt, if◌then◌else◌, ap, refl, sym, ◌∙◌, inl, inr, arith}
use Rattle.std.proofs.Math.Seq.{take-add, take-append-add}
use Rattle.std.proofs.lemmas.Bool.{cases_lt}
use Rattle.std.proofs.lemmas.Bool.Decides.{nat_tests}
use Rattle.std.proofs.lemmas.List.{drop-append-le, drop-drop, drop-take, drop_all, length-append, length-drop, length-take, take-append-le, take-take, take_all}
use Rattle.vg_shared_bytes.proofs.StripLemmas.{own-length, rest-of-strip}
use Rattle.vg_shared_bytes.specs.Strips.{IsCut, IsWide, put, strip_with}

of-piece : (m p : ℕ) (bs : List ℕ) → take (length (take m (take p bs))) bs ≡ take m (take p bs)
of-piece m p bs = elim (cases_lt p m) [
  | inl less ↦
      (let all : take m (take p bs) ≡ take p bs = take_all m (take p bs) (omega (arith, length-take p bs, less)) in
      ap (λ xs. take (length xs) bs) all ∙ own-length p bs ∙ sym all)
  | inr not ↦
      (let first = take-take m p bs (omega (arith, not)) in
      ap (λ xs. take (length xs) bs) first ∙ own-length m bs ∙ sym first)
]

-- a part that goes on with the start of a piece
pub part-more : (bytes front piece now : List ℕ) (from m : ℕ) → front ≡ take (length front) (drop from bytes) → piece ≡ take (length piece) (drop (from + length front) bytes) → now ≡ front ++ take m piece
    → now ≡ take (length now) (drop from bytes)
part-more bytes front piece now from m is here added =
    let n = length front in
    let rest = drop from bytes in
    let part = take m piece in
    let piece_is : part ≡ take m (take (length piece) (drop n rest)) = ap (take m) (here ∙ ap (take (length piece)) (sym (drop-drop n from bytes))) in
    let part_is : part ≡ take (length part) (drop n rest) = sym (ap (λ (xs : List ℕ). take (length xs) (drop n rest)) piece_is ∙ of-piece m (length piece) (drop n rest) ∙ sym piece_is) in
    let size : length now ≡ n + length part = ap length added ∙ length-append front part in
    added
    ∙ ap (λ (xs : List ℕ). xs ++ part) is
    ∙ ap (λ (xs : List ℕ). take n rest ++ xs) part_is
    ∙ sym (take-add n (length part) rest)
    ∙ ap (λ k. take k rest) (sym size)

pub length-put : (at : ℕ) (others bytes : List ℕ) → at + length others ≤ length bytes → length (put at others bytes) ≡ length bytes
length-put at others bytes inside = omega (
  arith,
  inside,
  length-append (take at bytes ++ others) (drop (at + length others) bytes),
  length-append (take at bytes) others,
  length-take at bytes,
  length-drop (at + length others) bytes,
)

-- what the strip in which a place lies has in front of it
pub start-of-strip : (bytes : List ℕ) (at : ℕ) → take (at % 1024) (take 1024 (drop (1024 * (at / 1024)) bytes)) ≡ take (at % 1024) (drop (1024 * (at / 1024)) bytes)
start-of-strip bytes at = take-take (at % 1024) 1024 (drop (1024 * (at / 1024)) bytes) (omega arith)

-- all from the strip on in which the others begin
from-strip : (at : ℕ) (others bytes : List ℕ) → at + length others ≤ length bytes
    → drop (1024 * (at / 1024)) (put at others bytes) ≡ take (at % 1024) (drop (1024 * (at / 1024)) bytes) ++ others ++ drop (at + length others) bytes
from-strip at others bytes inside =
    let start = 1024 * (at / 1024) in
    let rest = drop (at + length others) bytes in
    let place : start + at % 1024 ≡ at = omega arith in
    let long = length-take at bytes in
    drop-append-le start (take at bytes ++ others) rest (omega (arith, place, long, inside, length-append (take at bytes) others))
    ∙ ap (λ front. front ++ rest) (drop-append-le start (take at bytes) others (omega (arith, place, long, inside)))
    ∙ ap (λ front. front ++ others ++ rest) (ap (λ m. drop start (take m bytes)) (sym place) ∙ drop-take start (at % 1024) bytes)

-- to the end of a strip, or to that of all
pub wide-is : (at m : ℕ) (others bytes wide : List ℕ) → at + length others ≤ length bytes
    → wide ≡ take (at % 1024) (drop (1024 * (at / 1024)) bytes) ++ others ++ take m (drop (at + length others) bytes)
    → (m ≡ 1024 - (at + length others) % 1024) ⊎ (at + length others ≡ length bytes) → IsWide bytes at others wide
wide-is at m others bytes wide inside is far =
    let start = 1024 * (at / 1024) in
    let end = at + length others in
    let front = take (at % 1024) (drop start bytes) in
    let back = take m (drop end bytes) in
    let place : start + at % 1024 ≡ at = omega arith in
    let left : length (drop start bytes) ≡ length bytes - start = length-drop start bytes in
    let fronts : length front ≡ at % 1024 = omega (arith, length-take (at % 1024) (drop start bytes), left, place, inside) in
    let size : length wide ≡ length (front ++ others) + length back = ap length is ∙ length-append (front ++ others) back in
    let both : length (front ++ others) ≡ at % 1024 + length others = omega (arith, length-append front others, fronts) in
    let own : take (length back) (drop end bytes) ≡ back = own-length m (drop end bytes) in
    record {
      is = sym (
          ap (take (length wide)) (from-strip at others bytes inside)
          ∙ ap (λ n. take n (front ++ others ++ drop end bytes)) size
          ∙ take-append-add (front ++ others) (drop end bytes) (length back)
          ∙ ap (λ bs. front ++ others ++ bs) own
          ∙ sym is);
      far = omega (arith, place, size, both);
      whole = ends m end (length bytes) start (length wide) (length back) (length (drop end bytes)) far (length-take m (drop end bytes)) (length-drop end bytes) (omega (arith, size, both, place)) inside;
    }
  where
    ends : (m end n start wide back left : ℕ) → (m ≡ 1024 - end % 1024) ⊎ (end ≡ n) → back ≡ min m left → left ≡ n - end → start + wide ≡ end + back → end ≤ n → ((k : ℕ) × (start + wide ≡ 1024 * k)) ⊎ (start + wide ≡ n)
    ends m end n start wide back left (inr all) is rest sum inside = inr (omega (arith, all, is, rest, sum))
    ends m end n start wide back left (inl full) is rest sum inside = elim (cases_lt left m) [
      | inl less ↦ inr (omega (arith, less, is, rest, sum, inside))
      | inr not ↦ inl (end / 1024 + 1, omega (arith, full, is, not, sum))
    ]

either : {X : Type 0} (b : Bool) (x y z : X) → (b ≡ true → x ≡ z) → (b ≡ false → y ≡ z) → (if b then x else y) ≡ z
either true x y z a b = a refl
either false x y z a b = b refl

in-front : (k at : ℕ) (others bytes : List ℕ) → at + length others ≤ length bytes → 1024 * k + 1024 ≤ at → take 1024 (drop (1024 * k) bytes) ≡ take 1024 (drop (1024 * k) (put at others bytes))
in-front k at others bytes inside before =
    let start = 1024 * k in
    let rest = drop (at + length others) bytes in
    let long = length-take at bytes in
    let n = at - start in
    let split : at ≡ start + n = omega (arith, before) in
    sym (
    ap (take 1024) (drop-append-le start (take at bytes ++ others) rest (omega (arith, before, long, inside, length-append (take at bytes) others))
    ∙ ap (λ front. front ++ rest) (drop-append-le start (take at bytes) others (omega (arith, before, long, inside)))
    ∙ ap (λ m. drop start (take m bytes) ++ others ++ rest) split
    ∙ ap (λ front. front ++ others ++ rest) (drop-take start n bytes))
    ∙ take-append-le 1024 (take n (drop start bytes) ++ others) rest (omega (arith, split, before, inside, length-append (take n (drop start bytes)) others, length-take n (drop start bytes), length-drop start bytes))
    ∙ take-append-le 1024 (take n (drop start bytes)) others (omega (arith, split, before, inside, length-take n (drop start bytes), length-drop start bytes))
    ∙ take-take 1024 n (drop start bytes) (omega (arith, split, before)))

behind : (k at : ℕ) (others bytes : List ℕ) → at + length others ≤ length bytes → at + length others ≤ 1024 * k → take 1024 (drop (1024 * k) bytes) ≡ take 1024 (drop (1024 * k) (put at others bytes))
behind k at others bytes inside after =
    let end = at + length others in
    let more = 1024 * k - end in
    let split : 1024 * k ≡ end + more = omega (arith, after) in
    let front = take at bytes ++ others in
    let long : length front ≡ end = omega (arith, length-append (take at bytes) others, length-take at bytes, inside) in
    let gone : drop end (front ++ drop end bytes) ≡ drop end bytes = ap (λ n. drop n (front ++ drop end bytes)) (sym long) ∙ seam front (drop end bytes) in
    sym (
    ap (λ n. take 1024 (drop n (put at others bytes))) split
    ∙ ap (take 1024) (sym (drop-drop more end (put at others bytes)) ∙ ap (drop more) gone ∙ drop-drop more end bytes)
    ∙ ap (λ n. take 1024 (drop n bytes)) (sym split))
  where
    seam : (xs ys : List ℕ) → drop (length xs) (xs ++ ys) ≡ ys
    seam [] ys = refl
    seam (x ∷ xs) ys = seam xs ys

-- each strip once the wide bytes stand in their place
pub strips-with : (k at : ℕ) (others bytes wide strip : List ℕ) → at + length others ≤ length bytes → IsWide bytes at others wide → strip ≡ take 1024 (drop (1024 * k) bytes)
    → strip_with (at / 1024) wide k strip ≡ take 1024 (drop (1024 * k) (put at others bytes))
strips-with k at others bytes wide strip inside is here =
    let first = at / 1024 in
    either (nat_le first k && nat_lt (1024 * (k - first)) (length wide)) _ _ _
    (λ holds.
    let low : first ≤ k = grind (arith, nat_tests) in
    let high : 1024 * (k - first) < length wide = grind (arith, nat_tests) in
    within low high)
    (λ fails. here ∙ elim (cases_lt k first) [
      | inl less ↦ in-front k at others bytes inside (omega (arith, less))
      | inr not ↦
          (let past : length wide ≤ 1024 * (k - first) = grind (arith, nat_tests) in
          behind k at others bytes inside (omega (arith, past, not, is.far)))
    ])
  where
    within : at / 1024 ≤ k → 1024 * (k - at / 1024) < length wide → take 1024 (drop (1024 * (k - at / 1024)) wide) ≡ take 1024 (drop (1024 * k) (put at others bytes))
    within low high =
        let start = 1024 * (at / 1024) in
        let from = 1024 * (k - at / 1024) in
        let all = put at others bytes in
        let rest = length wide - from in
        let split : length wide ≡ from + rest = omega (arith, high) in
        let place : start + from ≡ 1024 * k = omega (arith, low) in
        ap (λ bs. take 1024 (drop from bs)) (is.is ∙ ap (λ n. take n (drop start all)) split)
        ∙ ap (take 1024) (drop-take from rest (drop start all) ∙ ap (take rest) (drop-drop from start all ∙ ap (λ n. drop n all) place))
        ∙ enough is.whole rest split place
      where
        enough : ((n : ℕ) × (1024 * (at / 1024) + length wide ≡ 1024 * n)) ⊎ (1024 * (at / 1024) + length wide ≡ length bytes) → (rest : ℕ)
            → length wide ≡ 1024 * (k - at / 1024) + rest → 1024 * (at / 1024) + 1024 * (k - at / 1024) ≡ 1024 * k
            → take 1024 (take rest (drop (1024 * k) (put at others bytes))) ≡ take 1024 (drop (1024 * k) (put at others bytes))
        enough (inl (n, ends)) rest split place = take-take 1024 rest (drop (1024 * k) (put at others bytes)) (omega (arith, ends, split, place, high))
        enough (inr ends) rest split place =
            ap (take 1024) (take_all rest (drop (1024 * k) (put at others bytes)) (omega (arith, length-drop (1024 * k) (put at others bytes), length-put at others bytes inside, ends, split, place)))

-- a strip, as far as it stands in front of a place and from it on
pub strip-in-front : (at : ℕ) (bytes : List ℕ) (strips : List (List ℕ)) (strip shown : List ℕ) → IsCut bytes strips → at < length bytes → strip ≡ get_or strips (at / 1024) strip → shown ≡ strip
    → take (at % 1024) shown ≡ take (at % 1024) (drop (1024 * (at / 1024)) bytes)
strip-in-front at bytes strips strip shown cut inside is same =
    ap (take (at % 1024)) (same ∙ is ∙ cut.each (at / 1024) strip (omega (arith, cut.all, inside))) ∙ start-of-strip bytes at

pub strip-behind : (at : ℕ) (bytes : List ℕ) (strips : List (List ℕ)) (strip shown : List ℕ) → IsCut bytes strips → at ≤ length bytes → at / 1024 < length strips
    → strip ≡ get_or strips (at / 1024) strip → shown ≡ strip → (at % 1024 ≤ length shown) × (drop (at % 1024) shown ≡ take (1024 - at % 1024) (drop at bytes))
strip-behind at bytes strips strip shown cut inside within is same =
    let whole = same ∙ is ∙ cut.each (at / 1024) strip within in (
      omega (arith, inside, ap length whole, length-take 1024 (drop (1024 * (at / 1024)) bytes), length-drop (1024 * (at / 1024)) bytes),
      ap (drop (at % 1024)) whole ∙ rest-of-strip bytes at,
    )

pub none-behind : (at : ℕ) (bytes : List ℕ) (strips : List (List ℕ)) → IsCut bytes strips → at ≤ length bytes → length strips ≤ at / 1024 → [] ≡ take (1024 - at % 1024) (drop at bytes)
none-behind at bytes strips cut inside past =
    sym (ap (take (1024 - at % 1024)) (drop_all at bytes (omega (arith, cut.all, past, inside))) ∙ take_all (1024 - at % 1024) [] (omega arith))
