use Rattle.vg_config.proofs.BitLemmas.{faulty-are}
use Rattle.vg_config.proofs.negotiation.faulty_bits.Goals as goal

pub returns : goal.returns
returns c = faulty-are c.args.features c.lone_context.result c.missing_version.result c.lone_context.ensures c.missing_version.ensures
