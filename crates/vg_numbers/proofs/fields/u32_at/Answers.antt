use Rattle.std.proofs.Common.{◌∙◌}
use Rattle.vg_numbers.proofs.NumberLemmas.{field_at-rest}
use Rattle.vg_numbers.proofs.fields.u32_at.Goals as goal

pub returns : goal.returns
returns c = c.read_u32.ensures ∙ field_at-rest 4 c.args.at c.args.bytes.now
