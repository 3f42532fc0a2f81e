use Rattle.std.proofs.Common.{◌≡◌, ℕ, suc, zero, ◌+◌, ◌-◌, ◌*◌, ◌<◌, ◌≤◌, ◌^◌, List, [], ◌∷◌, ◌++◌, length, replicate, map, Some, None, false, refl, ap, sym, ◌∙◌, arith, append_assoc, length-append}
use Rattle.std.specs.List.{flat_map, range_with_len}
use Rattle.vg_numbers.specs.Numbers.{number_at, le}
use Rattle.vg_wire.specs.Modes.{Mode, IsModes, FitsMode, AllFit, mode_bytes, modes_bytes, sixteen, slot_at, slots, slots_of, trimmed, before_trimmed, ends_in_none}
use Rattle.std.proofs.lemmas.List.{append-nil, length-replicate}
use Rattle.vg_numbers.proofs.NumberLemmas.{length-le, number_at-le}
use Rattle.vg_wire.proofs.ModesLemmas.{trimmed-none, length-trimmed, length-slots_of, ends_in_none-trimmed}

-- six numbers in a row
six : ℕ → ℕ → ℕ → ℕ → ℕ → ℕ → List ℕ
six a b c d e f = le 4 a ++ le 4 b ++ le 4 c ++ le 4 d ++ le 4 e ++ le 4 f

-- the third, the fourth and the fifth of six
third : (front rest : List ℕ) (a b c d e f at : ℕ) → length front ≡ at → c < 2 ^ 32 → number_at 4 (at + 8) (front ++ (six a b c d e f ++ rest)) ≡ c
unfolding six
third front rest a b c d e f at here fits =
    let long : length ((front ++ le 4 a) ++ le 4 b) ≡ at + 8 = simp length-append (omega (arith, length-le 4 a, length-le 4 b)) in
    simp append_assoc (simp append_assoc at (number_at-le 4 ((front ++ le 4 a) ++ le 4 b) (le 4 d ++ (le 4 e ++ (le 4 f ++ rest))) (at + 8) c long fits))

fourth : (front rest : List ℕ) (a b c d e f at : ℕ) → length front ≡ at → d < 2 ^ 32 → number_at 4 (at + 12) (front ++ (six a b c d e f ++ rest)) ≡ d
unfolding six
fourth front rest a b c d e f at here fits =
    let long : length (((front ++ le 4 a) ++ le 4 b) ++ le 4 c) ≡ at + 12 = simp length-append (omega (arith, length-le 4 a, length-le 4 b, length-le 4 c)) in
    simp append_assoc (simp append_assoc at (number_at-le 4 (((front ++ le 4 a) ++ le 4 b) ++ le 4 c) (le 4 e ++ (le 4 f ++ rest)) (at + 12) d long fits))

fifth : (front rest : List ℕ) (a b c d e f at : ℕ) → length front ≡ at → e < 2 ^ 32 → number_at 4 (at + 16) (front ++ (six a b c d e f ++ rest)) ≡ e
unfolding six
fifth front rest a b c d e f at here fits =
    let long : length ((((front ++ le 4 a) ++ le 4 b) ++ le 4 c) ++ le 4 d) ≡ at + 16 = simp length-append (omega (arith, length-le 4 a, length-le 4 b, length-le 4 c, length-le 4 d)) in
    simp append_assoc (simp append_assoc at (number_at-le 4 ((((front ++ le 4 a) ++ le 4 b) ++ le 4 c) ++ le 4 d) (le 4 f ++ rest) (at + 16) e long fits))

none-six : mode_bytes None ≡ six 0 0 0 0 0 0
unfolding six le mode_bytes
none-six = refl

some-six : (width height : ℕ) → mode_bytes (Some (width, height)) ≡ six 0 0 width height 1 0
unfolding six mode_bytes
some-six width height = refl

length-six : (a b c d e f : ℕ) → length (six a b c d e f) ≡ 24
unfolding six
length-six a b c d e f = simp length-append (omega (arith, length-le 4 a, length-le 4 b, length-le 4 c, length-le 4 d, length-le 4 e, length-le 4 f))

pub length-mode_bytes : (mode : Mode) → length (mode_bytes mode) ≡ 24
length-mode_bytes None = ap length none-six ∙ length-six 0 0 0 0 0 0
length-mode_bytes (Some (width, height)) = ap length (some-six width height) ∙ length-six 0 0 width height 1 0

-- what is written of a mode is read as itself
slot_at-mode_bytes : (mode : Mode) (front rest : List ℕ) (at : ℕ) → length front ≡ at → FitsMode mode → slot_at (front ++ (mode_bytes mode ++ rest)) at ≡ mode
slot_at-mode_bytes None front rest at here fits = rw (none-six, fifth front rest 0 0 0 0 0 0 at here (omega arith)) refl
slot_at-mode_bytes (Some (width, height)) front rest at here fits =
    rw (some-six width height, fifth front rest 0 0 width height 1 0 at here (omega arith), third front rest 0 0 width height 1 0 at here fits.0, fourth front rest 0 0 width height 1 0 at here fits.1) refl

-- the slots of modes that were written one after another
slots-run : (modes : List Mode) (front : List ℕ) (a : ℕ) → length front ≡ 24 + 24 * a → AllFit modes
    → map (λ slot. slot_at (front ++ flat_map mode_bytes modes) (24 + 24 * slot)) (range_with_len a (length modes)) ≡ modes
slots-run [] front a here fits = refl
slots-run (mode ∷ more) front a here fits =
    let next : length (front ++ mode_bytes mode) ≡ 24 + 24 * (a + 1) = simp length-append (omega (arith, length-mode_bytes mode)) in
    let rest = slots-run more (front ++ mode_bytes mode) (a + 1) next fits.1 in
    let first = slot_at-mode_bytes mode front (flat_map mode_bytes more) (24 + 24 * a) here fits.0 in
    let moved = simp append_assoc at rest in
    cc (first, moved)

all_fit-padded : (modes : List Mode) (n : ℕ) → AllFit modes → AllFit (modes ++ replicate n None)
all_fit-padded [] zero fits = tt
all_fit-padded [] (suc n) fits = (tt, all_fit-padded [] n tt)
all_fit-padded (mode ∷ more) n fits = (fits.0, all_fit-padded more n fits.1)

length-padded : (modes : List Mode) (n : ℕ) → length (modes ++ replicate n None) ≡ length modes + n
length-padded modes n = simp (length-append, length-replicate)

-- what follows a header is read as the modes that were written
slots_of-modes_bytes : (front : List ℕ) (modes : List Mode) → length front ≡ 24 → length modes ≤ 16 → AllFit modes → slots_of (front ++ modes_bytes modes) ≡ sixteen modes
unfolding slots_of modes_bytes
slots_of-modes_bytes front modes here within fits =
    let long : length (sixteen modes) ≡ 16 = omega (arith, length-padded modes (16 - length modes)) in
    let run = slots-run (sixteen modes) front 0 (omega arith) (all_fit-padded modes (16 - length modes) fits) in
    ap (λ (n : ℕ). slots n (front ++ flat_map mode_bytes (sixteen modes))) (sym long) ∙ run

trimmed-nones : (modes : List Mode) (n : ℕ) → trimmed (modes ++ replicate n None) ≡ trimmed modes
trimmed-nones modes zero = ap trimmed (append-nil modes)
trimmed-nones modes (suc n) =
    let one : List Mode = None ∷ [] in
    let moved : modes ++ (None ∷ replicate n None) ≡ (modes ++ one) ++ replicate n None = simp append_assoc in
    ap trimmed moved ∙ trimmed-nones (modes ++ one) n ∙ trimmed-none modes

trimmed-same : (modes : List Mode) → ends_in_none modes ≡ false → trimmed modes ≡ modes
trimmed-same [] e = refl
trimmed-same (None ∷ []) e = cc
trimmed-same (Some size ∷ []) e = refl
trimmed-same (mode ∷ next ∷ more) e = ap (before_trimmed mode) (trimmed-same (next ∷ more) e) ∙ kept mode
  where
    kept : (first : Mode) → before_trimmed first (next ∷ more) ≡ first ∷ next ∷ more
    kept None = refl
    kept (Some size) = refl

pub length-modes_bytes : (modes : List Mode) → length modes ≤ 16 → length (modes_bytes modes) ≡ 384
unfolding modes_bytes
length-modes_bytes modes within =
    let long : length (sixteen modes) ≡ 16 = omega (arith, length-padded modes (16 - length modes)) in
    length-run (sixteen modes) ∙ omega (arith, long)
  where
    length-run : (xs : List Mode) → length (flat_map mode_bytes xs) ≡ 24 * length xs
    length-run [] = refl
    length-run (mode ∷ more) = simp length-append (omega (arith, length-mode_bytes mode, length-run more))

-- what is written of modes is read as themselves, behind a header
pub read-modes_bytes : (front : List ℕ) (modes : List Mode) → length front ≡ 24 → IsModes modes → AllFit modes → trimmed (slots_of (front ++ modes_bytes modes)) ≡ modes
read-modes_bytes front modes here valid fits = ap trimmed (slots_of-modes_bytes front modes here valid.0 fits) ∙ trimmed-nones modes (16 - length modes) ∙ trimmed-same modes valid.1

pub slots-modes : (bytes : List ℕ) → IsModes (trimmed (slots_of bytes))
slots-modes bytes = (omega (arith, length-trimmed (slots_of bytes), length-slots_of bytes), ends_in_none-trimmed (slots_of bytes))
