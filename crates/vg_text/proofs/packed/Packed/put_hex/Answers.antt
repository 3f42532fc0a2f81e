use Rattle.std.proofs.Common.{arith}
use Rattle.vg_laws.proofs.Results.{on_err}
use Rattle.vg_text.proofs.PackingLemmas.{nothing_spelled, spelled_front, spelled_more}
use Rattle.vg_text.proofs.packed.Packed.put_hex.Goals as goal

pub loop-at-init : goal.loop-at-init
loop-at-init c = (nothing_spelled c.args.self.now, omega arith)

pub loop-at-preserved : goal.loop-at-preserved
loop-at-preserved c = (
  spelled_more c.loop-at.at c.in_ok-at.at c.args.bytes.now c.args.self.now c.loop-at.self c.put_part.new.self c.loop-at.invariant.0 c.in_ok-at.ensures.text c.in_ok-at.ensures.within.0,
  c.in_ok-at.ensures.within.1,
)

pub returns-in_err-at-clause-err : goal.returns-in_err-at-clause-err
returns-in_err-at-clause-err c =
    on_err _ (spelled_front c.loop-at.at c.args.bytes.now c.args.self.now c.loop-at.self c.put_part.new.self c.loop-at.invariant.0 c.in_err-at.ensures.err c.loop-at-test.true)
