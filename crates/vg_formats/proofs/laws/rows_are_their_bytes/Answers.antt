use Rattle.vg_formats.proofs.ShownLemmas.{rows-as-they-are}
use Rattle.vg_formats.proofs.laws.rows_are_their_bytes.Goals as goal

pub returns : goal.returns
returns c row_length height offset pixels screen some whole = rows-as-they-are row_length height offset pixels screen some
