use Rattle.std.proofs.Common.{None, refl}
use Rattle.vg_laws.proofs.Results.{on_err}
use Rattle.vg_wire.specs.Modes.{mode_bytes}
use Rattle.vg_wire.proofs.EntryLemmas.{front-more}
use Rattle.vg_wire.proofs.modes.put_each.Goals as goal

pub returns-in_err-put_mode-clause-err : goal.returns-in_err-put_mode-clause-err
returns-in_err-put_mode-clause-err c =
    on_err _ (front-more mode_bytes c.args.modes.now c.loop-mode.mode-index _ None _ _ _ c.loop-mode-test.true refl c.loop-mode.invariant c.in_err-put_mode.ensures.err)
