use Rattle.vg_client.proofs.StepLemmas.{end-unfinished}
use Rattle.vg_client.proofs.client.Client.end.Goals as goal

pub returns-then-stopped-clause-begun : goal.returns-then-stopped-clause-begun
returns-then-stopped-clause-begun g c =
    let caller = c.self.inside.caller in
    rw (← c.self.view_is) (end-unfinished caller c.finish_all.new.token c.finish_all.ensures.idle)
