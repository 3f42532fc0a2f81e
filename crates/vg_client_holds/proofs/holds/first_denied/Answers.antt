use Rattle.std.proofs.Common.{◌∙◌, sym}
use Rattle.vg_client_holds.proofs.DeniedLemmas.{denied-first, denied-second}
use Rattle.vg_client_holds.proofs.holds.first_denied.Goals as goal

pub returns-in-Some : goal.returns-in-Some
returns-in-Some c = denied-first c.args.holds.now c.args.header.now c.args.command.now c.in-Some.what (sym c.in-Some.is ∙ c.denied_name.ensures)

pub returns-in-Some-denied_context : goal.returns-in-Some-denied_context
returns-in-Some-denied_context c =
    denied-second c.args.holds.now c.args.header.now c.args.command.now c.in-Some-denied_context.what (sym c.in_default.is ∙ c.denied_name.ensures)
    (sym c.in-Some-denied_context.is ∙ c.denied_context.ensures)
