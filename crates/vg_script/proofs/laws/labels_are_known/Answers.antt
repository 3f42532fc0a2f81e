use Rattle.vg_script.proofs.KnownLaws.{all_known}
use Rattle.vg_script.proofs.laws.labels_are_known.Goals as goal

pub returns : goal.returns
returns c = all_known
