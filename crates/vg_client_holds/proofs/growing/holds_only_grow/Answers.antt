use Rattle.vg_client_holds.proofs.GrowingLemmas.{still_allowed}
use Rattle.vg_client_holds.proofs.growing.holds_only_grow.Goals as goal

pub returns : goal.returns
returns c = still_allowed
