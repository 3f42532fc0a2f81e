use Rattle.vg_origin.proofs.PixelLemmas.{all-fetched}
use Rattle.vg_origin.proofs.laws.pixels_are_of_their_buffer.Goals as goal

pub returns : goal.returns
returns c = all-fetched
