use Rattle.vg_places.proofs.Places.{length-tabulate, slice_get-tabulate}
use Rattle.vg_places.proofs.tabulate_at_each_place.Goals as goal

pub returns-clause-length : goal.returns-clause-length
returns-clause-length g c = λ n f. length-tabulate f n

pub returns-clause-element : goal.returns-clause-element
returns-clause-element g c = λ n f k within. slice_get-tabulate f n k within
