use Rattle.std.proofs.Common.{map}
use Rattle.vg_drawers.specs.Drawers.{by_client}
use Rattle.vg_drawers.proofs.DrawnLemmas.{of-clients}
use Rattle.vg_drawers.proofs.laws.bytes_are_their_clients.Goals as goal

pub returns : goal.returns
returns c = λ setup H. of-clients setup H (c.numbers_are_the_bytes.ensures setup (map by_client H))
