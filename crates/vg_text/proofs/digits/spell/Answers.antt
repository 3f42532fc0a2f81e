use Rattle.std.proofs.Common.{arith}
use Rattle.hex.specs.Hex.{lower_digits}
use Rattle.hex.proofs.Pairs.{encode_step, encode_done}
use Rattle.vg_text.proofs.digits.spell.Goals as goal

pub loop-at-preserved : goal.loop-at-preserved
loop-at-preserved c =
    encode_step lower_digits c.args.bytes.now c.loop-at.out c.loop-at.at _ _ (omega arith) (omega arith) c.digit.ensures c.digit-in-loop-at.ensures c.loop-at.invariant

pub returns : goal.returns
returns c = encode_done lower_digits c.args.bytes.now c.loop-at.out c.loop-at.at (omega arith) (omega arith) c.loop-at.invariant
