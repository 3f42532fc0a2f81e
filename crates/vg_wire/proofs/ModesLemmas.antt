use Rattle.std.proofs.Common.{◌≡◌, ℕ, suc, zero, ◌+◌, ◌-◌, ◌≤◌, ◌<◌, List, [], ◌∷◌, ◌++◌, length, take, replicate, Some, None, is_some, false, cond, refl, ap, sym, ◌∙◌, arith, length-append}
use Rattle.std.proofs.lemmas.List.{take-append-le, take_all, take-replicate, get_or-replicate, length-map, length-replicate}
use Rattle.std.proofs.lemmas.List.FromFn.{length-range_with_len}
use Rattle.std.proofs.lemmas.List.Concat.{flat_map-append}
use Rattle.std.specs.List.{flat_map}
use Rattle.vg_list.specs.Front.{HasFront}
use Rattle.vg_wire.proofs.EntryLemmas.{front-more}
use Rattle.vg_wire.specs.Modes.{Mode, mode_bytes, modes_bytes, slots, slots_of, trimmed, before_trimmed, ends_in_none}

-- a none at the end is trimmed
pub trimmed-none : (modes : List Mode) → trimmed (modes ++ None ∷ []) ≡ trimmed modes
trimmed-none [] = refl
trimmed-none (mode ∷ more) = ap (before_trimmed mode) (trimmed-none more)

-- a mode at the end that isn't none keeps all before it
pub trimmed-some : (modes : List Mode) (size : ℕ × ℕ) → trimmed (modes ++ Some size ∷ []) ≡ modes ++ Some size ∷ []
trimmed-some [] size = refl
trimmed-some (None ∷ []) size = refl
trimmed-some (None ∷ next ∷ more) size = rw (trimmed-some (next ∷ more) size) refl
trimmed-some (Some first ∷ more) size = ap (λ (rest : List Mode). Some first ∷ rest) (trimmed-some more size)

ends-before_trimmed : (mode : Mode) (more : List Mode) → ends_in_none more ≡ false → ends_in_none (before_trimmed mode more) ≡ false
ends-before_trimmed None [] e = refl
ends-before_trimmed None (next ∷ more) e = e
ends-before_trimmed (Some size) [] e = refl
ends-before_trimmed (Some size) (next ∷ more) e = e

-- nothing trimmed ends in a none
pub ends_in_none-trimmed : (modes : List Mode) → ends_in_none (trimmed modes) ≡ false
ends_in_none-trimmed [] = refl
ends_in_none-trimmed (mode ∷ more) = ends-before_trimmed mode (trimmed more) (ends_in_none-trimmed more)

length-before_trimmed : (mode : Mode) (more : List Mode) → length (before_trimmed mode more) ≤ length more + 1
length-before_trimmed None [] = omega arith
length-before_trimmed None (next ∷ more) = omega arith
length-before_trimmed (Some size) more = omega arith

pub length-trimmed : (modes : List Mode) → length (trimmed modes) ≤ length modes
length-trimmed [] = omega arith
length-trimmed (mode ∷ more) = omega (arith, length-before_trimmed mode (trimmed more), length-trimmed more)

-- the front up to the last mode that isn't none, one mode further
pub take-enabled : (modes : List Mode) (mode : Mode) (enabled k : ℕ) → length modes ≡ k → enabled ≤ k → take enabled modes ≡ trimmed modes
    → take (cond (is_some mode) (k + 1) enabled) (modes ++ mode ∷ []) ≡ trimmed (modes ++ mode ∷ [])
take-enabled modes None enabled k long within same =
    let inside : enabled ≤ length modes = omega arith in
    rw take-append-le (same ∙ sym (trimmed-none modes))
take-enabled modes (Some size) enabled k long within same =
    let whole : length (modes ++ Some size ∷ []) ≤ k + 1 = simp length-append (omega arith) in
    take_all (k + 1) (modes ++ Some size ∷ []) whole ∙ sym (trimmed-some modes size)

-- A list is its trimmed front and the nones that were taken off.
before_trimmed-padded : (mode : Mode) (more all : List Mode) → ((n : ℕ) → length more + n ≡ length all → more ++ replicate n None ≡ all)
    → (n : ℕ) → length (before_trimmed mode more) + n ≡ suc (length all) → before_trimmed mode more ++ replicate n None ≡ mode ∷ all
before_trimmed-padded None [] all rest zero e = absurd (omega arith)
before_trimmed-padded None [] all rest (suc n) e = ap (λ (r : List Mode). None ∷ r) (rest n (omega arith))
before_trimmed-padded None (next ∷ more) all rest n e = ap (λ (r : List Mode). None ∷ r) (rest n (omega arith))
before_trimmed-padded (Some size) more all rest n e = ap (λ (r : List Mode). Some size ∷ r) (rest n (omega arith))

pub trimmed-padded : (modes : List Mode) (n : ℕ) → length (trimmed modes) + n ≡ length modes → trimmed modes ++ replicate n None ≡ modes
trimmed-padded [] zero e = refl
trimmed-padded [] (suc n) e = absurd (omega arith)
trimmed-padded (mode ∷ more) n e = before_trimmed-padded mode (trimmed more) more (trimmed-padded more) n (omega arith)

pub length-slots : (n : ℕ) (bytes : List ℕ) → length (slots n bytes) ≡ n
length-slots n bytes = simp (length-map, length-range_with_len)

-- the slots once all sixteen are read
pub slots-all : (n : ℕ) (bytes : List ℕ) → n ≡ 16 → slots n bytes ≡ slots_of bytes
unfolding slots_of
slots-all n bytes e = ap (λ (k : ℕ). slots k bytes) e

pub length-slots_of : (bytes : List ℕ) → length (slots_of bytes) ≡ 16
length-slots_of bytes = ap length (sym (slots-all 16 bytes refl)) ∙ length-slots 16 bytes

-- what is kept once all slots are read
pub trimmed-all : (now items : List Mode) (enabled slot : ℕ) (bytes : List ℕ) → now ≡ take enabled items → take enabled items ≡ trimmed items
    → items ≡ slots slot bytes → slot ≡ 16 → now ≡ trimmed (slots_of bytes)
trimmed-all now items enabled slot bytes kept same read end = kept ∙ same ∙ ap trimmed (read ∙ slots-all slot bytes end)

-- the modes, and a none for each scanout past the last, are the bytes of sixteen
pub modes_bytes-parts : (modes : List Mode) → flat_map mode_bytes modes ++ flat_map mode_bytes (replicate (16 - length modes) None) ≡ modes_bytes modes
unfolding modes_bytes
modes_bytes-parts modes = sym (flat_map-append mode_bytes modes (replicate (16 - length modes) None))

-- a front of the bytes of one none more
pub front-none : (n i : ℕ) (old mid new : List ℕ) → i < n → mid ≡ old ++ flat_map mode_bytes (replicate i None) → HasFront mid new (mode_bytes None) → HasFront old new (flat_map mode_bytes (replicate n None))
front-none n i old mid new inside so_far has =
    let size = length-replicate {A = Mode} n None in
    front-more mode_bytes (replicate n None) i None None old mid new (omega (arith, size, inside)) (sym (get_or-replicate n i None None inside))
    (so_far ∙ ap (λ l. old ++ flat_map mode_bytes l) (sym (take-replicate i n None (omega (arith, inside))))) has
