-- The other backings stay.
use Rattle.std.proofs.Common.{sym, subst}
use Rattle.std.specs.Ordering.{nat_cmp}
use Rattle.std.specs.BTreeMap.{is_at}
use Rattle.vg_backing.proofs.HeldLemmas.{held-without}
use Rattle.vg_transfer.proofs.HeldLemmas.{AllHeld}
use Rattle.vg_transfer.proofs.backings.Backings.detach.Goals as goal
use Rattle.vg_backing.specs.Backing.{AreHeld}

pub returns-clause-held : goal.returns-clause-held
returns-clause-held c memory held =
    subst (AllHeld memory) (sym c.remove.ensures.entries)
    (held-without (AreHeld memory) c.self.inside.map.entries (is_at (nat_cmp c.args.resource)) (subst (AllHeld memory) (sym c.self.view_is) held))
