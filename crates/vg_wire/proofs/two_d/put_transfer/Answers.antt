use Rattle.std.proofs.Common.{append_assoc}
use Rattle.vg_laws.proofs.Results.{err_then}
use Rattle.vg_list.proofs.FrontLemmas.{front_then}
use Rattle.vg_wire.proofs.two_d.put_transfer.Goals as goal

pub returns-clause-err : goal.returns-clause-err
returns-clause-err c =
    err_then c.put_two.result
    (λ has. simp append_assoc (front_then _ _ _ _ _ c.in_ok-put_rect.ensures.bytes (front_then _ _ _ _ _ c.in_ok-put_u64.ensures.bytes has))) c.put_two.ensures.err
