use Rattle.std.proofs.Common.{◌∙◌}
use Rattle.vg_numbers.proofs.NumberLemmas.{field_at-rest}
use Rattle.vg_numbers.proofs.fields.u64_at.Goals as goal

pub returns : goal.returns
returns c = c.read_u64.ensures ∙ field_at-rest 8 c.args.at c.args.bytes.now
