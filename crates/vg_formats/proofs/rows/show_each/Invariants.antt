use Rattle.std.proofs.Common.{◌≡◌}
use Rattle.vg_formats.proofs.ShownLemmas.{shown_front}
use Rattle.vg_formats.proofs.rows.show_each.Given as goal

abbrev pub invariant-loop-i : goal.invariant-loop-i
invariant-loop-i g l = l.shown ≡ shown_front g.O.Order.format l.pixels l.i l.initial.shown
