-- The digits of numbers.
use Rattle.std.proofs.Common.{◌≡◌, ℕ, ◌+◌, ◌<◌, zero, suc, cond, slice_index, refl, arith}
use Rattle.std.specs.Prelude.{nat_lt}
use Rattle.hex.specs.Hex.{lower_digits}

-- each of the sixteen
pub digit_is : (n : ℕ) → n < 16 → cond (nat_lt n 10) (n + 48) (n + 87) ≡ slice_index lower_digits n
digit_is zero small = refl
digit_is (suc zero) small = refl
digit_is (suc (suc zero)) small = refl
digit_is (suc (suc (suc zero))) small = refl
digit_is (suc (suc (suc (suc zero)))) small = refl
digit_is (suc (suc (suc (suc (suc zero))))) small = refl
digit_is (suc (suc (suc (suc (suc (suc zero)))))) small = refl
digit_is (suc (suc (suc (suc (suc (suc (suc zero))))))) small = refl
digit_is (suc (suc (suc (suc (suc (suc (suc (suc zero)))))))) small = refl
digit_is (suc (suc (suc (suc (suc (suc (suc (suc (suc zero))))))))) small = refl
digit_is (suc (suc (suc (suc (suc (suc (suc (suc (suc (suc zero)))))))))) small = refl
digit_is (suc (suc (suc (suc (suc (suc (suc (suc (suc (suc (suc zero))))))))))) small = refl
digit_is (suc (suc (suc (suc (suc (suc (suc (suc (suc (suc (suc (suc zero)))))))))))) small = refl
digit_is (suc (suc (suc (suc (suc (suc (suc (suc (suc (suc (suc (suc (suc zero))))))))))))) small = refl
digit_is (suc (suc (suc (suc (suc (suc (suc (suc (suc (suc (suc (suc (suc (suc zero)))))))))))))) small = refl
digit_is (suc (suc (suc (suc (suc (suc (suc (suc (suc (suc (suc (suc (suc (suc (suc zero))))))))))))))) small = refl
digit_is (suc (suc (suc (suc (suc (suc (suc (suc (suc (suc (suc (suc (suc (suc (suc (suc n)))))))))))))))) small = absurd (omega (arith, small))
