use Rattle.vg_split.proofs.WordLemmas.{used_bytes, image_bytes}
use Rattle.vg_split.proofs.ImageLemmas.{available_is, used_is}
use Rattle.vg_split.proofs.words.words_are_bytes.Goals as goal

pub returns-clause-descriptors : goal.returns-clause-descriptors
returns-clause-descriptors c = λ n words fits. image_bytes 0 n words fits

pub returns-clause-used_element : goal.returns-clause-used_element
returns-clause-used_element c = used_bytes

pub returns-clause-available : goal.returns-clause-available
returns-clause-available c = available_is

pub returns-clause-used : goal.returns-clause-used
returns-clause-used c = used_is
