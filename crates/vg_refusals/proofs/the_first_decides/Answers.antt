use Rattle.vg_refusals.proofs.FirstLemmas.{none-holds, first-holds}
use Rattle.vg_refusals.proofs.the_first_decides.Goals as goal

pub returns : goal.returns
returns g c = record { none = none-holds; first = first-holds }
