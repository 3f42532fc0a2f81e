use Rattle.vg_laws.proofs.Results.{on_err}
use Rattle.vg_wire.proofs.ModesLemmas.{front-none}
use Rattle.vg_wire.proofs.modes.put_nones.Goals as goal

pub returns-in_err-put_mode-clause-err : goal.returns-in_err-put_mode-clause-err
returns-in_err-put_mode-clause-err c =
    on_err _ (front-none c.args.count c.loop-none._none _ _ _ c.loop-none-test.true c.loop-none.invariant c.in_err-put_mode.ensures.err)
