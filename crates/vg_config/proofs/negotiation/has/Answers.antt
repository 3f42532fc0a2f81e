use Rattle.vg_config.proofs.BitLemmas.{bit-test}
use Rattle.vg_config.proofs.negotiation.has.Goals as goal

pub returns : goal.returns
returns c = bit-test c.args.features c.args.n
