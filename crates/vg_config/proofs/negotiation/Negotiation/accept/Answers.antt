use Rattle.vg_config.proofs.BitLemmas.{faultless-none}
use Rattle.vg_config.proofs.negotiation.Negotiation.accept.Goals as goal

pub returns-then-faulty-ne0-clause-exact : goal.returns-then-faulty-ne0-clause-exact
returns-then-faulty-ne0-clause-exact c =
    (λ e. cc, λ good. absurd (c.if-faulty-ne0.true (faultless-none c.args.bits c.faulty_bits-faulty.result c.faulty_bits-faulty.ensures c.faulty_bits-faulty.type_inv good)))
