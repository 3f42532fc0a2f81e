use Rattle.vg_places.proofs.Filled.{length-filled, filled-inside, filled-outside}
use Rattle.vg_places.proofs.rectangles.fill_at_each_place.Goals as goal

pub returns-clause-length : goal.returns-clause-length
returns-clause-length c = length-filled

pub returns-clause-inside : goal.returns-clause-inside
returns-clause-inside c = filled-inside

pub returns-clause-outside : goal.returns-clause-outside
returns-clause-outside c = filled-outside
