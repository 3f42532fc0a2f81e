use Rattle.std.proofs.Common.{rules, arith, ◌≡◌, nat_lt, true, false, get_or}
use Rattle.vg_script.proofs.WalkLemmas.{behind_here, behind_on, no_reach, no_gone}
use Rattle.vg_script.proofs.waits.behind.Goals as goal

pub returns-then-gone-client-clause-found : goal.returns-then-gone-client-clause-found
returns-then-gone-client-clause-found c =
    let test : nat_lt (get_or c.args.gone.now c.loop-client.client 0) (get_or c.args.reach.now c.loop-client.client 0) ≡ true = search rules in
    behind_here c.loop-client.client c.args.reach.now c.args.gone.now _ (search arith) (search arith) test c.loop-client.invariant

pub loop-client-preserved : goal.loop-client-preserved
loop-client-preserved c =
    let test : nat_lt (get_or c.args.gone.now c.loop-client.client 0) (get_or c.args.reach.now c.loop-client.client 0) ≡ false = search rules in
    behind_on c.loop-client.client c.args.reach.now c.args.gone.now _ (search arith) (search arith) test c.loop-client.invariant

pub returns-else-client-gone-clause-found : goal.returns-else-client-gone-clause-found
returns-else-client-gone-clause-found c = no_gone c.loop-client.client c.args.reach.now c.args.gone.now _ (search arith) c.loop-client.invariant

pub returns-after-loop-client-clause-found : goal.returns-after-loop-client-clause-found
returns-after-loop-client-clause-found c = no_reach c.loop-client.client c.args.reach.now c.args.gone.now _ (search arith) c.loop-client.invariant
