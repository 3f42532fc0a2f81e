use Rattle.vg_origin.proofs.BackedLemmas.{are-backed}
use Rattle.vg_origin.proofs.PixelLemmas.{all-fetched}
use Rattle.vg_origin.proofs.laws.pixels_have_origins.Goals as goal

pub returns : goal.returns
returns c setup H sound = all-fetched setup H (λ i. are-backed setup H i sound)
