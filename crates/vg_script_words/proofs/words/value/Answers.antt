use Rattle.std.proofs.Common.{◌-◌, ◌^◌, arith}
use Rattle.vg_script_words.proofs.Digits.{value_grows, digits_from_number}
use Rattle.vg_script_words.proofs.words.value.Goals as goal

pub loop-digit-preserved : goal.loop-digit-preserved
loop-digit-preserved c =
    let grown = value_grows c.args.number.now c.loop-digit.digit-index (2 ^ 64 - 1) (digits_from_number c.args.number.now c.requires) c.loop-digit-test.true in
    omega (arith, grown)
