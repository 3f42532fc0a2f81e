use Rattle.std.proofs.Common.{◌≡◌, ℕ, ◌≤◌, ◌<◌, ◌^◌, List, [], ◌++◌, length, take, drop, replicate, Some, None, Bool, false, true, cond, nat_le, ◌==◌, ◌&&◌, subst, refl, ap, ◌∙◌, arith, append_assoc, length-append}
use Rattle.std.proofs.lemmas.Bool.Decides.{nat_tests}
use Rattle.std.proofs.lemmas.List.{length-replicate, drop_at, take_at, take_all}
use Rattle.vg_laws.proofs.Numbers.{same-number}
use Rattle.vg_wire.specs.declared.header.Header.{Header}
use Rattle.vg_numbers.specs.Numbers.{number_at, le}
use Rattle.vg_wire.specs.Header.{IsHeader, header_of, header_bytes}
use Rattle.vg_wire.specs.Modes.{Mode, IsModes, modes_bytes, slots_of, trimmed}
use Rattle.vg_numbers.proofs.NumberLemmas.{length-le, number_at-le}
use Rattle.vg_wire.proofs.HeaderLemmas.{length-header_bytes, header_of-header_bytes}
use Rattle.vg_wire.proofs.TwoDLemmas.{length-four}
use Rattle.vg_wire.proofs.SlotLemmas.{length-modes_bytes, read-modes_bytes, slots-modes}
use Rattle.vg_wire_ext.specs.declared.response.Response.{Response}
use Rattle.vg_wire_ext.specs.declared.response.Response.TheVariants.{Nodata, DisplayInfo, CapsetInfo, Capset, Edid, Uuid, Error}
use Rattle.vg_wire_ext.specs.Response.{IsResponse, FitsResponse, Spells, body_of, capset_info_body, capset_info_of, edid_body, response_body, response_bytes, response_kind}

length-edid_body : (block : List ℕ) → length block ≡ 128 → length (edid_body block) ≡ 1032
unfolding edid_body
length-edid_body block fits = simp length-append (omega (arith, length-le 4 128, length-le 4 0, length-replicate {A = ℕ} 896 0, fits))

length-capset_info_body : (id version size : ℕ) → length (capset_info_body id version size) ≡ 16
unfolding capset_info_body
length-capset_info_body id version size = length-four id version size 0

-- how many bytes are written of a response
abbrev pub size_of_response : Response → ℕ
size_of_response Nodata = 0
size_of_response (DisplayInfo modes) = 384
size_of_response (CapsetInfo id version size) = 16
size_of_response (Capset content) = length content
size_of_response (Edid block) = 1032
size_of_response (Uuid bytes) = 16
size_of_response (Error code) = 0

pub length-response_body : (response : Response) → IsResponse response → FitsResponse response → length (response_body response) ≡ size_of_response response
length-response_body Nodata valid fits = refl
length-response_body (DisplayInfo modes) valid fits = length-modes_bytes modes valid.0
length-response_body (CapsetInfo id version size) valid fits = length-capset_info_body id version size
length-response_body (Capset content) valid fits = refl
length-response_body (Edid block) valid fits = length-edid_body block fits
length-response_body (Uuid bytes) valid fits = fits
length-response_body (Error code) valid fits = refl

nodata_body : (kind : ℕ) (bytes : List ℕ) → kind ≡ 0x1100 → body_of kind bytes ≡ Some Nodata
nodata_body kind bytes e = rw e refl

display_body : (kind : ℕ) (bytes : List ℕ) → kind ≡ 0x1101 → length bytes ≡ 408 → body_of kind bytes ≡ Some (DisplayInfo (trimmed (slots_of bytes)))
display_body kind bytes e long = rw (e, long) refl

info_body : (kind : ℕ) (bytes : List ℕ) → kind ≡ 0x1102 → length bytes ≡ 40 → body_of kind bytes ≡ Some (capset_info_of bytes)
info_body kind bytes e long = rw (e, long) refl

pub capset_body : (kind : ℕ) (bytes : List ℕ) → kind ≡ 0x1103 → body_of kind bytes ≡ Some (Capset (drop 24 bytes))
capset_body kind bytes e = rw e refl

block_body : (kind : ℕ) (bytes : List ℕ) → kind ≡ 0x1104 → length bytes ≡ 1056 → body_of kind bytes ≡ Some (Edid (take 128 (drop 32 bytes)))
block_body kind bytes e long = rw (e, long) refl

uuid_body : (kind : ℕ) (bytes : List ℕ) → kind ≡ 0x1105 → length bytes ≡ 40 → body_of kind bytes ≡ Some (Uuid (take 16 (drop 24 bytes)))
uuid_body kind bytes e long = rw (e, long) refl

error_body : (kind : ℕ) (bytes : List ℕ) → 0x1200 ≤ kind → kind ≤ 0x1205 → body_of kind bytes ≡ Some (Error kind)
error_body kind bytes low high = grind (arith, nat_tests)

same_info : {a a' b b' c c' : ℕ} → a ≡ a' → b ≡ b' → c ≡ c' → CapsetInfo a b c ≡ CapsetInfo a' b' c'
same_info a b c = rw (a, b, c) refl

-- the fields behind a header are read as themselves
read-capset_info_body : (front : List ℕ) (id version size : ℕ) → length front ≡ 24 → id < 2 ^ 32 → version < 2 ^ 32 → size < 2 ^ 32
    → capset_info_of (front ++ capset_info_body id version size) ≡ CapsetInfo id version size
unfolding capset_info_of capset_info_body
read-capset_info_body front id version size here a b c =
    let first : length (front ++ le 4 id) ≡ 28 = simp length-append (omega (arith, length-le 4 id)) in
    let second : length ((front ++ le 4 id) ++ le 4 version) ≡ 32 = simp length-append (omega (arith, length-le 4 id, length-le 4 version)) in
    same_info
    (simp append_assoc (simp append_assoc at (number_at-le 4 front (le 4 version ++ le 4 size ++ le 4 0) 24 id here a)))
    (simp append_assoc (simp append_assoc at (number_at-le 4 (front ++ le 4 id) (le 4 size ++ le 4 0) 28 version first b)))
    (simp append_assoc (simp append_assoc at (number_at-le 4 ((front ++ le 4 id) ++ le 4 version) (le 4 0) 32 size second c)))

-- the block behind a header and its size is read as itself
read-edid_body : (front block : List ℕ) → length front ≡ 24 → length block ≡ 128 → take 128 (drop 32 (front ++ edid_body block)) ≡ block
unfolding edid_body le
read-edid_body front block here fits =
    let long : length ((front ++ le 4 128) ++ le 4 0) ≡ 32 = simp length-append (omega (arith, length-le 4 128, length-le 4 0)) in
    let behind = simp append_assoc at (drop_at ((front ++ le 4 128) ++ le 4 0) (block ++ replicate 896 0) 32 long) in
    ap (take 128) behind ∙ take_at block (replicate 896 0) 128 fits

read-uuid : (front bytes : List ℕ) → length front ≡ 24 → length bytes ≡ 16 → take 16 (drop 24 (front ++ bytes)) ≡ bytes
read-uuid front bytes here fits = ap (take 16) (drop_at front bytes 24 here) ∙ take_all 16 bytes (omega arith)

-- the fields behind a header are those that were written
body_of-response_bytes : (header : Header) (response : Response) → FitsResponse response → IsResponse response → header.kind ≡ response_kind response
    → body_of header.kind (response_bytes header response) ≡ Some response
body_of-response_bytes header Nodata fits valid kind = nodata_body header.kind (header_bytes header ++ []) kind
body_of-response_bytes header (DisplayInfo modes) fits valid kind =
    let long : length (header_bytes header ++ modes_bytes modes) ≡ 408 = simp length-append (omega (arith, length-header_bytes header, length-modes_bytes modes valid.0)) in
    let same = read-modes_bytes (header_bytes header) modes (length-header_bytes header) valid fits in
    display_body header.kind (header_bytes header ++ modes_bytes modes) kind long ∙ ap (λ (items : List Mode). Some (DisplayInfo items)) same
body_of-response_bytes header (CapsetInfo id version size) fits valid kind =
    let body : List ℕ = capset_info_body id version size in
    let long : length (header_bytes header ++ body) ≡ 40 = simp length-append (omega (arith, length-header_bytes header, length-capset_info_body id version size)) in
    let same = read-capset_info_body (header_bytes header) id version size (length-header_bytes header) fits.0 fits.1 fits.2 in
    info_body header.kind (header_bytes header ++ body) kind long ∙ ap (λ (response : Response). Some response) same
body_of-response_bytes header (Capset content) fits valid kind =
    let same = drop_at (header_bytes header) content 24 (length-header_bytes header) in
    capset_body header.kind (header_bytes header ++ content) kind ∙ ap (λ (bytes : List ℕ). Some (Capset bytes)) same
body_of-response_bytes header (Edid block) fits valid kind =
    let long : length (header_bytes header ++ edid_body block) ≡ 1056 = simp length-append (omega (arith, length-header_bytes header, length-edid_body block fits)) in
    let same = read-edid_body (header_bytes header) block (length-header_bytes header) fits in
    block_body header.kind (header_bytes header ++ edid_body block) kind long ∙ ap (λ (bytes : List ℕ). Some (Edid bytes)) same
body_of-response_bytes header (Uuid bytes) fits valid kind =
    let long : length (header_bytes header ++ bytes) ≡ 40 = simp length-append (omega (arith, length-header_bytes header, fits)) in
    let same = read-uuid (header_bytes header) bytes (length-header_bytes header) fits in
    uuid_body header.kind (header_bytes header ++ bytes) kind long ∙ ap (λ (uuid : List ℕ). Some (Uuid uuid)) same
body_of-response_bytes header (Error code) fits valid kind =
    error_body header.kind (header_bytes header ++ []) (omega arith) (omega arith) ∙ ap (λ (k : ℕ). Some (Error k)) kind

-- what reading finds in the bytes of a response
pub record Found (bytes : List ℕ) (header : Header) (response : Response) : Type 0 where
  pub long : 24 ≤ length bytes
  pub header_is : header_of bytes ≡ header
  pub body_is : body_of (header_of bytes).kind bytes ≡ Some response

pub spelled-found : (bytes : List ℕ) (header : Header) (response : Response) → IsHeader header → FitsResponse response → Spells header response bytes → Found bytes header response
spelled-found bytes header response good fits spells =
    let here : header_of bytes ≡ header = ap header_of spells.spelled ∙ header_of-header_bytes header (response_body response) good in
    record {
      long = rw spells.spelled (simp length-append (omega (arith, length-header_bytes header)));
      header_is = here;
      body_is = ap (λ (h : Header). body_of h.kind bytes) here ∙ ap (body_of header.kind) spells.spelled ∙ body_of-response_bytes header response fits spells.valid spells.kind;
    }

-- a response of the kind that a header has
abbrev IsOfKind : ℕ → Response → Type 0
IsOfKind kind response = IsResponse response × (kind ≡ response_kind response)

valid_by : (none first info capset second third fourth : Bool) (kind : ℕ) (items : List Mode) (i v n : ℕ) (content block uuid : List ℕ) (response : Response) → IsModes items
    → (none ≡ true → kind ≡ 0x1100) → (first ≡ true → kind ≡ 0x1101) → (info ≡ true → kind ≡ 0x1102) → (capset ≡ true → kind ≡ 0x1103) → (second ≡ true → kind ≡ 0x1104) → (third ≡ true → kind ≡ 0x1105)
    → (fourth ≡ true → (0x1200 ≤ kind) × (kind ≤ 0x1205))
    → cond none (Some Nodata) (cond first (Some (DisplayInfo items)) (cond info (Some (CapsetInfo i v n)) (cond capset (Some (Capset content)) (cond second (Some (Edid block)) (cond third (Some (Uuid uuid)) (cond fourth (Some (Error kind)) None)))))) ≡ Some response
    → IsOfKind kind response
valid_by true first info capset second third fourth kind items i v n content block uuid response modes a b g h c d f e =
    let same : Nodata ≡ response = cc in
    subst (IsOfKind kind) same (tt, a refl)
valid_by false true info capset second third fourth kind items i v n content block uuid response modes a b g h c d f e =
    let same : DisplayInfo items ≡ response = cc in
    subst (IsOfKind kind) same (modes, b refl)
valid_by false false true capset second third fourth kind items i v n content block uuid response modes a b g h c d f e =
    let same : CapsetInfo i v n ≡ response = cc in
    subst (IsOfKind kind) same (tt, g refl)
valid_by false false false true second third fourth kind items i v n content block uuid response modes a b g h c d f e =
    let same : Capset content ≡ response = cc in
    subst (IsOfKind kind) same (tt, h refl)
valid_by false false false false true third fourth kind items i v n content block uuid response modes a b g h c d f e =
    let same : Edid block ≡ response = cc in
    subst (IsOfKind kind) same (tt, c refl)
valid_by false false false false false true fourth kind items i v n content block uuid response modes a b g h c d f e =
    let same : Uuid uuid ≡ response = cc in
    subst (IsOfKind kind) same (tt, d refl)
valid_by false false false false false false true kind items i v n content block uuid response modes a b g h c d f e =
    let same : Error kind ≡ response = cc in
    subst (IsOfKind kind) same (f refl, refl)
valid_by false false false false false false false kind items i v n content block uuid response modes a b g h c d f e = cc

long_kind : (kind code long size : ℕ) → (kind == code && long == size) ≡ true → kind ≡ code
long_kind kind code long size h = grind (arith, nat_tests)

error_kind : (kind : ℕ) → (nat_le 0x1200 kind && nat_le kind 0x1205) ≡ true → (0x1200 ≤ kind) × (kind ≤ 0x1205)
error_kind kind h = (grind (arith, nat_tests), grind (arith, nat_tests))

-- what is found is a response of the header's kind
pub body_of-valid : (kind : ℕ) (bytes : List ℕ) (response : Response) → body_of kind bytes ≡ Some response → IsResponse response × (kind ≡ response_kind response)
unfolding capset_info_of
body_of-valid kind bytes response e =
    valid_by (kind == 0x1100) (kind == 0x1101 && length bytes == 408) (kind == 0x1102 && length bytes == 40) (kind == 0x1103) (kind == 0x1104 && length bytes == 1056) (kind == 0x1105 && length bytes == 40)
    (nat_le 0x1200 kind && nat_le kind 0x1205)
    kind (trimmed (slots_of bytes)) (number_at 4 24 bytes) (number_at 4 28 bytes) (number_at 4 32 bytes) (drop 24 bytes) (take 128 (drop 32 bytes)) (take 16 (drop 24 bytes)) response (slots-modes bytes)
    (same-number kind 0x1100) (long_kind kind 0x1101 (length bytes) 408) (long_kind kind 0x1102 (length bytes) 40) (same-number kind 0x1103) (long_kind kind 0x1104 (length bytes) 1056) (long_kind kind 0x1105 (length bytes) 40)
    (error_kind kind) e
