use Rattle.std.proofs.Common.{◌≡◌, ◌++◌, take}
use Rattle.vg_text.specs.Text.{numbered}
use Rattle.vg_tracing.specs.Text.{listed}
use Rattle.vg_tracing.proofs.text.put_more.Given as goal

abbrev pub invariant-loop-client : goal.invariant-loop-client
invariant-loop-client l = l.out.items ≡ l.initial.out.items ++ numbered listed 0 (take l.client-index l.clients)
