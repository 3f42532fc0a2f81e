use Rattle.std.proofs.Common.{sym}
use Rattle.vg_drawers.proofs.HistoryLemmas.{replay-alike}
use Rattle.vg_drawers.proofs.laws.stored_bytes_steer_nothing.Goals as goal

pub returns : goal.returns
returns c = λ setup H. sym (replay-alike setup H)
