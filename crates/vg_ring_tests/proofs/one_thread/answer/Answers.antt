use Rattle.std.proofs.Common.{sym, subst, refl, inl}
use Rattle.vg_cargo.specs.DeviceEnds.{HasAt, IsCargoOf}
use Rattle.vg_ring_tests.proofs.one_thread.answer.Goals as goal

pub chain-requires-clause-cargo : goal.chain-requires-clause-cargo
chain-requires-clause-cargo g c =
    let f = c.in-Some.ensures in
    let same = c.lend-right.ensures.only f.entry (subst (λ es. HasAt f.entry c.in-Some.fetched.head es) (sym f.held) (inl refl, sym f.head_is)) in
    subst (λ e. IsCargoOf e c.in-Some.fetched.cargo) (sym same) (f.fresh.entry, f.fresh.head_is)
