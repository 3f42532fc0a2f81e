-- The new entries are held, and the others stay.
use Rattle.std.proofs.Common.{sym, subst}
use Rattle.vg_backing.proofs.HeldLemmas.{held-with}
use Rattle.vg_transfer.proofs.HeldLemmas.{AllHeld}
use Rattle.vg_transfer.proofs.backings.Backings.attach.Goals as goal
use Rattle.vg_backing.specs.Backing.{AreHeld}

pub returns-clause-held : goal.returns-clause-held
returns-clause-held c held =
    let memory = c.args.pages.now in
    let new = rw c.in-Some.is at c.in_ok-backing.ensures.held in
    subst (AllHeld memory) (sym c.in_ok-insert.ensures.entries)
    (held-with (AreHeld memory) c.self.inside.map.entries c.args.resource c.in-Some.backing (subst (AllHeld memory) (sym c.self.view_is) held) new)
