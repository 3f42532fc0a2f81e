use denote.Param.Send.{IsSend, sendable, param_send}
use Rattle.std.proofs.Crossing.{crosses}
use Rattle.vg_book.proofs.Sent.{client_send, book_sync}
use Rattle.std.proofs.Common.{◌≡◌, ap, ◌∙◌, ◌++◌, arith}
use Rattle.std.specs.Prelude.{map}
use Rattle.vg_book_uses.specs.contracts.counter.CounterMachine.TheImpl as counter
use Rattle.vg_book_uses.specs.Adding.{account_of, IsNew}
use Rattle.vg_jobs.proofs.JobLemmas.{all_of_map}
use Rattle.vg_book_uses.proofs.CrewLemmas.{with_nothing_out, all_joined}
use Rattle.vg_book_uses.proofs.AddLemmas.{Gave, same, idle, have_all_added}
use Rattle.vg_book_uses.proofs.add.all_add.Lts as lts
use Rattle.vg_book_uses.proofs.add.all_add.Given.{Over}
use Rattle.vg_book_uses.proofs.add.all_add.Goals as goal

done_send : (g : Over) (κs : contract.Lifetimes.Lfts 4) → IsSend (lts.arg-5-0 g.row.B g.row.R g.B.laws g.R.laws g.B.Naming g.B.Naming-dict g.R.Threads g.R.Threads-dict g.R.Wait g.R.Wait-dict κs)
done_send g κs = search (sendable, crosses, client_send) depth 20

job_send : (g : Over) (κs : contract.Lifetimes.Lfts 4) → IsSend (lts.arg-5-1 g.row.B g.row.R g.B.laws g.R.laws g.B.Naming g.B.Naming-dict g.R.Threads g.R.Threads-dict g.R.Wait g.R.Wait-dict κs)
job_send g κs = search (sendable, crosses, client_send, book_sync) depth 20

pub each-requires-send-D : goal.each-requires-send-D
each-requires-send-D g c κs = λ _. param_send _ _ (done_send g κs)

pub each-requires-send-J : goal.each-requires-send-J
each-requires-send-J g c κs = λ _. param_send _ _ (job_send g κs)

pub each-requires-after_bounds : goal.each-requires-after_bounds
each-requires-after_bounds g c = λ κs _ k d lt. (all_of_map (IsNew counter.ghosts _ 0) (λ job. job.client) c.in-Ok-adders.jobs.items c.in-Ok-adders.ensures.clients.new k d lt).is_known

pub join_all-requires : goal.join_all-requires
join_all-requires g c =
    let n = counter.ghosts in
    with_nothing_out n (λ job. job.client) 0 (λ job. job.times ≡ c.args.times) (Gave n (λ job. job.client) (λ job. job.times) c.args.times)
    (same n (λ job. job.client) (λ job. job.times) c.args.times) (idle n (λ job. job.client) (λ job. job.times) c.args.times)
    _ c.in-Ok-adders.jobs.items c.in-Ok-each.clients.items c.in-Ok-each.ensures (all_of_map (IsNew n _ 0) (λ job. job.client) c.in-Ok-adders.jobs.items c.in-Ok-adders.ensures.clients.new)

pub close-requires : goal.close-requires
close-requires g c =
    let n = counter.ghosts in
    let start = c.in-Ok-adders.ensures in
    let all = c.in_ok-join_all.ensures in
    let none : c.join_all.new.root.lanes_made ≡ 0 = all.lanes_made ∙ (start.root.lanes_made ∙ (ap (λ r. r.lanes_made) c.in-Ok.ensures.root ∙ c.requires.book.1)) in
    all_joined n (λ job. job.client) 0 (λ job. job.times ≡ c.args.times) (Gave n (λ job. job.client) (λ job. job.times) c.args.times)
    (same n (λ job. job.client) (λ job. job.times) c.args.times) (idle n (λ job. job.client) (λ job. job.times) c.args.times)
    _ c.args.count c.in-Ok-adders.jobs.items all.taken.0 start.clients start.times c.in-Ok-each.clients.items c.in-Ok-each.ensures all.taken.1 c.join_all.new.root
    (all.given ∙ start.root.given)
    (all.taken.2 ∙ ap (λ l. l ++ map account_of all.taken.0) start.root.accounts)
    (λ l lt. absurd (omega (arith, none, lt)))

pub returns-clause-added : goal.returns-clause-added
returns-clause-added g c =
    let start = c.in-Ok-adders.ensures in
    let all = c.in_ok-join_all.ensures in
    have_all_added counter.ghosts (λ job. job.client) (λ job. job.times) c.args.times _ c.args.count c.in-Ok-adders.jobs.items all.taken.0 start.clients start.times c.in-Ok-each.clients.items c.in-Ok-each.ensures all.taken.1 c.join_all.new.root _ c.close.result.1
    (all.given ∙ start.root.given)
    (all.taken.2 ∙ ap (λ l. l ++ map account_of all.taken.0) start.root.accounts)
    c.close.ensures.closed
