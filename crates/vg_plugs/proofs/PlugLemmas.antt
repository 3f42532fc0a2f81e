-- Modes of displays, and those at the end that are none.
use Rattle.std.proofs.Common.{◌≡◌, ◌<◌, ◌≤◌, ℕ, zero, suc, List, [], ◌∷◌, ◌++◌, map, take, length, get_or, set, ◌-◌, nat_le, nat_lt, Bool, cond, Some, None, true, false, refl, sym, ap, subst, ◌∙◌, arith}
use Rattle.std.specs.Prelude.{is_none}
use Rattle.std.specs.List.{All}
use Rattle.std.proofs.Math.Seq.{take-suc}
use Rattle.std.proofs.lemmas.List.Elements.{All-head, All-tail, All-cons, All-nil}
use Rattle.vg_wire.specs.Modes.{Mode, trimmed}
use Rattle.vg_wire.proofs.ModesLemmas.{trimmed-none, trimmed-some}
use Rattle.std.proofs.lemmas.Bool.Decides.{nat_tests}
use Rattle.std.proofs.lemmas.List.{length-set}
use Rattle.vg_limits.specs.Limits.{version_2}
use Rattle.vg_plugs.specs.Plugs.{FitsDisplay, IsSize, PlugState, is_size, mode_at, plugged, unplugged, with_mode}

pub sizes-fit : (displays : List (ℕ × ℕ)) → All IsSize displays → All FitsDisplay (map Some displays)
sizes-fit [] all = All-nil FitsDisplay
sizes-fit ((width, height) ∷ more) all =
    All-cons FitsDisplay (Some (width, height)) (map Some more) (All-head IsSize (width, height) more all) (sizes-fit more (All-tail IsSize (width, height) more all))

-- A none at the end is left out.
pub one-less : (modes : List Mode) (k : ℕ) → k < length modes → get_or modes k None ≡ None → trimmed (take (suc k) modes) ≡ trimmed (take k modes)
one-less modes k within none =
    ap trimmed (take-suc modes k None within ∙ ap (λ (mode : Mode). take k modes ++ mode ∷ []) none) ∙ trimmed-none (take k modes)

-- Behind a mode nothing is left out.
pub none-less : (modes : List Mode) (k : ℕ) (size : ℕ × ℕ) → k < length modes → get_or modes k None ≡ Some size → trimmed (take (suc k) modes) ≡ take (suc k) modes
none-less modes k size within some =
    let same : take (suc k) modes ≡ take k modes ++ Some size ∷ [] = take-suc modes k None within ∙ ap (λ (mode : Mode). take k modes ++ mode ∷ []) some in
    ap trimmed same ∙ trimmed-some (take k modes) size ∙ sym same

is-none : (mode : Mode) → is_none mode ≡ true → mode ≡ None
is-none None is = refl
is-none (Some size) is = cc

-- One step of the count.
pub steps-down : (modes : List Mode) (left : ℕ) → 0 < left → left ≤ length modes → is_none (get_or modes (left - 1) None) ≡ true → trimmed (take left modes) ≡ trimmed modes
    → trimmed (take (left - 1) modes) ≡ trimmed modes
steps-down modes zero some within none same = absurd (omega (arith, some))
steps-down modes (suc k) some within none same =
    let less : suc k - 1 ≡ k = omega arith in
    let last : is_none (get_or modes k None) ≡ true = subst (λ (n : ℕ). is_none (get_or modes n None) ≡ true) less none in
    ap (λ (n : ℕ). trimmed (take n modes)) less ∙ sym (one-less modes k (omega (arith, within)) (is-none (get_or modes k None) last)) ∙ same

some-last : (modes : List Mode) (k : ℕ) (mode : Mode) → k < length modes → get_or modes k None ≡ mode → is_none mode ≡ false → trimmed (take (suc k) modes) ≡ take (suc k) modes
some-last modes k None within is none = cc
some-last modes k (Some size) within is none = none-less modes k size within is

-- Where it stops.
pub stops : (modes : List Mode) (left : ℕ) → 0 < left → left ≤ length modes → is_none (get_or modes (left - 1) None) ≡ false → trimmed (take left modes) ≡ trimmed modes
    → trimmed modes ≡ take left modes
stops modes zero some within none same = absurd (omega (arith, some))
stops modes (suc k) some within none same =
    let less : suc k - 1 ≡ k = omega arith in
    let last : is_none (get_or modes k None) ≡ false = subst (λ (n : ℕ). is_none (get_or modes n None) ≡ false) less none in
    sym same ∙ some-last modes k (get_or modes k None) (omega (arith, within)) refl last

-- there are as many displays as before
length-mode : (scanout : ℕ) (mode : Mode) (state : PlugState) → length (with_mode scanout mode state).modes ≡ length state.modes
length-mode scanout mode state = by_test (nat_lt scanout (length state.modes))
  where
    by_test : (b : Bool) → length (cond b (record { modes = set state.modes scanout mode; changed = true }) state).modes ≡ length state.modes
    by_test true = length-set state.modes scanout mode
    by_test false = refl

pub length-plugged : (scanout width height : ℕ) (state : PlugState) → length (plugged scanout width height state).modes ≡ length state.modes
length-plugged scanout width height state = by_test (is_size width height)
  where
    by_test : (b : Bool) → length (cond b (with_mode scanout (Some (width, height)) state) state).modes ≡ length state.modes
    by_test true = length-mode scanout (Some (width, height)) state
    by_test false = refl

pub length-unplugged : (scanout : ℕ) (state : PlugState) → length (unplugged scanout state).modes ≡ length state.modes
length-unplugged scanout state = length-mode scanout None state

-- a display with a mode is one that there is
pub mode-within : (modes : List Mode) (scanout : ℕ) (size : ℕ × ℕ) → mode_at scanout modes ≡ Some size → scanout < length modes
mode-within [] scanout size is = cc
mode-within (mode ∷ more) zero size is = omega arith
mode-within (mode ∷ more) (suc scanout) size is = let behind = mode-within more scanout size is in omega (arith, behind)

-- a mode's sizes, as bounds
pub sizes-of : (size : ℕ × ℕ) → FitsDisplay (Some size) → (1 ≤ size.0) × (size.0 ≤ version_2.width) × (1 ≤ size.1) × (size.1 ≤ version_2.height)
sizes-of (width, height) is =
    let low : nat_le 1 width ≡ true = grind (arith, nat_tests, is) in
    let high : nat_le width version_2.width ≡ true = grind (arith, nat_tests, is) in
    let low' : nat_le 1 height ≡ true = grind (arith, nat_tests, is) in
    let high' : nat_le height version_2.height ≡ true = grind (arith, nat_tests, is) in
    (grind (arith, nat_tests, low), grind (arith, nat_tests, high), grind (arith, nat_tests, low'), grind (arith, nat_tests, high'))

-- and the other way
pub size-is : (width height : ℕ) → 1 ≤ width → width ≤ version_2.width → 1 ≤ height → height ≤ version_2.height → is_size width height ≡ true
size-is width height low high low' high' =
    let a : nat_le 1 width ≡ true = grind (arith, nat_tests, low) in
    let b : nat_le width version_2.width ≡ true = grind (arith, nat_tests, high) in
    let c : nat_le 1 height ≡ true = grind (arith, nat_tests, low') in
    let d : nat_le height version_2.height ≡ true = grind (arith, nat_tests, high') in
    rw (a, b, c, d) refl
