use Rattle.vg_laws.proofs.Results.{err_then}
use Rattle.vg_client.proofs.PlayLemmas.{map_ok}
use Rattle.vg_client.proofs.StepLemmas.{ask-fit, begun-by, begun-stopped}
use Rattle.vg_client.proofs.begun.begin_tasks.Goals as goal

pub begin_ask-requires-clause-ask : goal.begin_ask-requires-clause-ask
begin_ask-requires-clause-ask g c = ask-fit c.asked-ask.result c.args.tasks c.asked-ask.ensures c.requires.fit

pub returns-clause-done : goal.returns-clause-done
returns-clause-done g c =
    map_ok c.begin_ask.result (λ played. begun-by c.asked-ask.result c.args.tasks c.args.client.now c.begin_ask.new.client played c.asked-ask.ensures) c.begin_ask.ensures.done

pub returns-clause-begun : goal.returns-clause-begun
returns-clause-begun g c =
    err_then _ (begun-stopped c.asked-ask.result c.args.tasks c.args.client.now c.begin_ask.new.client c.asked-ask.ensures c.requires.ready c.requires.out) c.begin_ask.ensures.begun
