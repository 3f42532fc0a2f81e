use Rattle.std.specs.Prelude.{length}
use Rattle.vg_client.proofs.AccountLemmas.{IsFinishing}
use Rattle.vg_client.proofs.tokens.finish_all.Given as goal

abbrev pub invariant-loop-ticket : goal.invariant-loop-ticket
invariant-loop-ticket g l = IsFinishing l.fn.token l.begun.items l.all_run l.token

abbrev pub decreases-loop-ticket : goal.decreases-loop-ticket
decreases-loop-ticket g l = length l.begun.items
