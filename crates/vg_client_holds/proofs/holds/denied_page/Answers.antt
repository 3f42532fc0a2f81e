use Rattle.std.proofs.Common.{rules}
use Rattle.vg_client_holds.proofs.DeniedLemmas.{page-denied}
use Rattle.vg_client_holds.proofs.holds.denied_page.Goals as goal

pub returns-in-TwoD-Attach : goal.returns-in-TwoD-Attach
returns-in-TwoD-Attach c =
    page-denied c.first_foreign.result c.args.holds.now c.args.command.now c.in-TwoD-Attach.resource c.as_slice.result.now (search rules) (search rules) c.first_foreign.ensures

pub returns-in-CreateBlob : goal.returns-in-CreateBlob
returns-in-CreateBlob c =
    page-denied c.first_foreign-in-CreateBlob.result c.args.holds.now c.args.command.now c.in-CreateBlob.resource c.as_slice-in-CreateBlob.result.now (search rules) (search rules) c.first_foreign-in-CreateBlob.ensures
