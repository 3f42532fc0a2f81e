use Rattle.std.proofs.Common.{◌∙◌, ◌++◌, ap, append_assoc, subst, ◌-◌, length, replicate, None, List, ℕ}
use Rattle.std.specs.List.{flat_map}
use Rattle.vg_laws.proofs.Results.{on_err}
use Rattle.vg_wire.specs.Modes.{Mode, mode_bytes}
use Rattle.vg_list.specs.Front.{HasFront}
use Rattle.vg_list.proofs.FrontLemmas.{front_first, front_then}
use Rattle.vg_wire.proofs.ModesLemmas.{modes_bytes-parts}
use Rattle.vg_wire.proofs.modes.put_modes.Goals as goal

pub returns-clause-bytes : goal.returns-clause-bytes
returns-clause-bytes c =
    c.in_ok-put_nones.ensures.bytes
    ∙ rw (c.in_ok-put_each.ensures.bytes, c.as_slice-modes.ensures.items, append_assoc) (ap (λ (bytes : List ℕ). c.args.out.now.items ++ bytes) (modes_bytes-parts c.args.modes.now))

pub returns-in_err-put_each-clause-err : goal.returns-in_err-put_each-clause-err
returns-in_err-put_each-clause-err c =
    on_err _ (subst (λ (l : List ℕ). HasFront c.args.out.now.items c.put_each.new.out.items l) (modes_bytes-parts c.args.modes.now)
    (front_first _ _ (flat_map mode_bytes c.args.modes.now) (flat_map mode_bytes (replicate (16 - length c.args.modes.now) None))
    (subst (λ (m : List Mode). HasFront c.args.out.now.items c.put_each.new.out.items (flat_map mode_bytes m)) c.as_slice-modes.ensures.items c.in_err-put_each.ensures.err)))

pub returns-in_err-put_nones-clause-err : goal.returns-in_err-put_nones-clause-err
returns-in_err-put_nones-clause-err c =
    on_err _ (subst (λ (l : List ℕ). HasFront c.args.out.now.items c.put_nones.new.out.items l) (modes_bytes-parts c.args.modes.now)
    (subst (λ (m : List Mode). HasFront c.args.out.now.items c.put_nones.new.out.items (flat_map mode_bytes m ++ flat_map mode_bytes (replicate (16 - length m) None))) c.as_slice-modes.ensures.items
    (front_then _ _ _ _ _ c.in_ok-put_each.ensures.bytes c.in_err-put_nones.ensures.err)))
