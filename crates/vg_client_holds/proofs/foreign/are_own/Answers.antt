use Rattle.vg_client_holds.specs.Holds.{pages_in}
use Rattle.vg_client_holds.proofs.ForeignLemmas.{none-foreign}
use Rattle.vg_client_holds.proofs.foreign.are_own.Goals as goal

pub returns-in-Some : goal.returns-in-Some
returns-in-Some c =
    λ is.
    none-foreign c.args.holds.now c.args.key c.in-Some.pages.now (pages_in c.args.holds.now.pages c.args.entries.now) c.in-Some.ensures.pages (c.are_each.ensures is)
