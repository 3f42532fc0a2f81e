use Rattle.vg_places.proofs.Places.{same_from_places}
use Rattle.vg_places.proofs.agree_at_each_place.Goals as goal

pub returns : goal.returns
returns g c = same_from_places
