use Rattle.vg_notify.proofs.Steps.{kick_at}
use Rattle.vg_notify.proofs.laws.kick_at_every_moment.Goals as goal

pub returns : goal.returns
returns c = kick_at
