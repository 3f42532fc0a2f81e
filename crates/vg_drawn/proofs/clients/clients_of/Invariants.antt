use Rattle.std.proofs.Common.{◌≡◌}
use Rattle.std.specs.List.{filter, range_with_len}
use Rattle.vg_drawn.specs.Words.{has_client}
use Rattle.vg_drawn.proofs.clients.clients_of.Given as goal

abbrev pub invariant-loop-before : goal.invariant-loop-before
invariant-loop-before l = l.clients.items ≡ filter (has_client l.set) (range_with_len 1 l.before)
