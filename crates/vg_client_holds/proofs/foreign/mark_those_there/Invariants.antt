use Rattle.std.proofs.Common.{take}
use Rattle.vg_pages.specs.Memory.{is_among}
use Rattle.vg_client_holds.specs.ForeignWithin.{AreMarked}
use Rattle.vg_client_holds.proofs.foreign.mark_those_there.Given as goal

abbrev pub invariant-loop-page : goal.invariant-loop-page
invariant-loop-page l = AreMarked l.initial.own (is_among (take l.page-index l.pages)) l.own
