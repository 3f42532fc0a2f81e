use Rattle.vg_client_holds.proofs.DeniedLemmas.{denied-deniable}
use Rattle.vg_client_holds.proofs.holds.denied_command.Goals as goal

pub returns-clause-deniable : goal.returns-clause-deniable
returns-clause-deniable c = denied-deniable c.first_denied.result c.args.holds.now c.args.header.now c.args.command.now c.first_denied.ensures
