use Rattle.std.proofs.Common.{take}
use Rattle.std.specs.List.{list_any}
use Rattle.vg_client_holds.specs.ForeignWithin.{AreMarked}
use Rattle.vg_client_holds.specs.Holds.{has_page}
use Rattle.vg_client_holds.proofs.foreign.mark_pairs.Given as goal

abbrev pub invariant-loop-pair : goal.invariant-loop-pair
invariant-loop-pair l = AreMarked l.initial.own (λ page. list_any (has_page l.key page) (take l.pair-index l.pairs)) l.own
