use Rattle.vg_client_holds.proofs.FeatureLemmas.{faultless}
use Rattle.vg_client_holds.proofs.setup.accepted_features_are_faultless.Goals as goal

pub returns : goal.returns
returns c = faultless
