use Rattle.std.proofs.Common.{◌≡◌, ◌+◌, ◌<◌, get_or, length, suc, take, ℕ, arith, rules, subst}
use Rattle.vg_labels.specs.Labels.{values_of}
use Rattle.vg_run_threads.specs.Session.{AreAllTold}
use Rattle.vg_run_threads.proofs.SessionLemmas.{told-more}
use Rattle.vg_run_threads.proofs.threads.agree_all.Goals as goal

pub loop-client-preserved : goal.loop-client-preserved
loop-client-preserved g c =
    let i : ℕ = c.loop-client.client-index in
    let next : suc i ≡ i + 1 = omega arith in
    let within : i < length c.args.performed.now.items = search rules in
    let is : c.client-item.result ≡ get_or c.args.performed.now.items i c.client-item.result = search rules in
    subst (λ (n : ℕ). AreAllTold (values_of c.args.all.now.items) (take n c.args.performed.now.items)) next
    (told-more (values_of c.args.all.now.items) c.args.performed.now.items i c.client-item.result is within c.loop-client.invariant c.agree.ensures)
