use Rattle.vg_history.proofs.HistoryLemmas.{replay_append, agrees_beginning}
use Rattle.vg_history.proofs.laws.replay_goes_on.Goals as goal

pub returns : goal.returns
returns g c = record { state = replay_append g.M.Machine; beginning = agrees_beginning g.M.Machine }
