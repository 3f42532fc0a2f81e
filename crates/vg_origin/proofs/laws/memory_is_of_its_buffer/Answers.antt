use Rattle.vg_origin.proofs.MemoryLemmas.{of-buffer}
use Rattle.vg_origin.proofs.laws.memory_is_of_its_buffer.Goals as goal

pub returns : goal.returns
returns c = of-buffer
