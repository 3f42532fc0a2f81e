use Rattle.std.proofs.Common.{◌+◌, arith, subst, sym}
use Rattle.vg_client_holds.proofs.SetupLemmas.{few-clients}
use Rattle.vg_check.proofs.CheckerLemmas.{IsMaking, making-more}
use Rattle.vg_check.proofs.checker.unseen.Goals as goal

pub returns-clause-count : goal.returns-clause-count
returns-clause-count c = omega (arith, c.loop-place-test.false, c.loop-place.auto.place-end, c.loop-place.invariant.count, c.parties-place-end.ensures)

pub parties-place-end-requires : goal.parties-place-end-requires
parties-place-end-requires c = few-clients c.args.setup.now c.requires

pub loop-place-preserved : goal.loop-place-preserved
loop-place-preserved c =
    subst (λ es. IsMaking c.args.setup.now es (c.loop-place.place + 1)) (sym c.in_ok-push.ensures.items)
    (making-more c.args.setup.now c.loop-place.all.items c.loop-place.place c.in_ok-new.field-0 c.loop-place.invariant c.in_ok-new.ensures)
