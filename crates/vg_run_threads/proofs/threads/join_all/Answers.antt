use Rattle.std.proofs.Common.{◌≡◌, rules, true}
use Rattle.vg_run_threads.proofs.SessionLemmas.{taken-more, taken-none}
use Rattle.vg_run_threads.proofs.threads.join_all.Goals as goal

pub loop-client-init : goal.loop-client-init
loop-client-init g c = taken-none c.args.root.now

pub loop-client-preserved : goal.loop-client-preserved
loop-client-preserved g c =
    let done : c.in-Some.client.done ≡ true = search rules in
    taken-more c.args.root.now c.loop-client.root c.join.new.self c.loop-client.yielded c.in-Some.client c.loop-client.invariant done c.join.ensures.told c.join.ensures.accounts c.join.ensures.lanes
