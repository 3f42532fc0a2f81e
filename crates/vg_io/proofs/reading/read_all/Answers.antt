use Rattle.std.proofs.Common.{arith}
use Rattle.std.proofs.lemmas.Grind.{common_steps}
use Rattle.vg_io.proofs.StreamLemmas.{gives_up_to}
use Rattle.vg_io.proofs.reading.read_all.Goals as goal

pub returns-in_err-extend_from_slice-clause-taken : goal.returns-in_err-extend_from_slice-clause-taken
returns-in_err-extend_from_slice-clause-taken g c =
    gives_up_to _ _ _ _ _ _ c.loop-piece.invariant.bytes c.in_ok-n.ensures.bytes (grind (arith, common_steps))
