-- Laws of `Bool`.
use Rattle.std.proofs.Common.{◌≡◌, ◌||◌, Bool, true, false, refl, ◌⊎◌, inl, inr, ◌&&◌, not}

-- What one of two tests gives, both give together.
pub left-true : (a b : Bool) → a ≡ true → (a || b) ≡ true
left-true true b is = refl
left-true false b is = cc

pub right-true : (a b : Bool) → b ≡ true → (a || b) ≡ true
right-true true b is = refl
right-true false b is = is

pub either-true : (a b : Bool) → (a || b) ≡ true → (a ≡ true) ⊎ (b ≡ true)
either-true true b is = inl refl
either-true false b is = inr is

-- Where neither of two tests is true, each is false.
pub or-first : (a b : Bool) → (a || b) ≡ false → a ≡ false
or-first true b is = cc
or-first false b is = refl

pub or-second : (a b : Bool) → (a || b) ≡ false → b ≡ false
or-second true b is = cc
or-second false b is = is

pub or-false : (b c : Bool) → (b || c) ≡ false → (b ≡ false) × (c ≡ false)
or-false true c none = cc
or-false false c none = (refl, none)

pub and-right : (a b : Bool) → (a && b) ≡ true → b ≡ true
and-right true b is = is
and-right false b is = cc

pub and-both : (a b : Bool) → (a && b) ≡ true → (a ≡ true) × (b ≡ true)
and-both true b is = (refl, is)
and-both false b is = absurd (cc is)

pub not-false : (b : Bool) → not b ≡ false → b ≡ true
not-false true is = refl
not-false false is = cc

-- A test is not both.
pub not-both : {P : Type 0} (b : Bool) → b ≡ true → b ≡ false → P
not-both true is isnt = cc
not-both false is isnt = cc

pub clash : false ≡ true → ⊥
clash eq = cc

pub or-true : (b : Bool) → (b || true) ≡ true
or-true true = refl
or-true false = refl
