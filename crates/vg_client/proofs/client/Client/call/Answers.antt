use Rattle.vg_client.proofs.StepLemmas.{left-off-none}
use Rattle.vg_client.proofs.client.Client.call.Goals as goal

pub returns-then-self-clause-begun : goal.returns-then-self-clause-begun
returns-then-self-clause-begun g c = left-off-none c.args.self.now.caller c.args.call
