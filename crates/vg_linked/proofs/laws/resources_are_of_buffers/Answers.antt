use Rattle.vg_linked.proofs.SoundLemmas.{of-buffers}
use Rattle.vg_linked.proofs.laws.resources_are_of_buffers.Goals as goal

pub returns : goal.returns
returns c = of-buffers
