-- Laws of `Option`.
use Rattle.std.proofs.Common.{◌≡◌, Option, Some, false, None, refl, ◌⊎◌, inl, inr}
use Rattle.std.specs.Prelude.{is_some}
use Rattle.std.specs.Option.{option_or}

pub some-same : {X : Type 0} {x y : X} → ◌≡◌ {A = Option X} (Some x) (Some y) → x ≡ y
some-same same = cc

pub some_is : {X : Type 0} (x y : X) → Some x ≡ Some y → x ≡ y
some_is x y is = cc

pub none-there : {X : Type 0} (found : Option X) → is_some found ≡ false → found ≡ None
none-there (Some x) none = cc
none-there None none = refl

pub or_parts : {X : Type 0} (o p : Option X) (x : X) → option_or o p ≡ Some x → (o ≡ Some x) ⊎ (p ≡ Some x)
or_parts None p x is = inr is
or_parts (Some y) p x is = inl is
