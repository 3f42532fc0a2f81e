use denote.Param.{param}
use denote.Param.Send.{IsSend, sendable, param_send}
use Rattle.std.proofs.Common.{◌≡◌, ap, refl, ◌∙◌, ◌++◌, arith}
use Rattle.std.specs.Prelude.{map}
use Rattle.std.proofs.Crossing.{crosses}
use Rattle.vg_book.proofs.Sent.{client_send, note_send, book_sync}
use Rattle.vg_book_uses.specs.contracts.counter.CounterMachine.TheImpl as counter
use Rattle.vg_book_uses.specs.contracts.meet.Post as post
use Rattle.vg_book_uses.specs.Adding.{account_of, IsNew}
use Rattle.vg_jobs.proofs.JobLemmas.{all_of_map}
use Rattle.vg_book_uses.proofs.CrewLemmas.{with_nothing_out, all_joined}
use Rattle.vg_book_uses.proofs.ShareLemmas.{Gave, same, idle, have_shared, may_talk}
use Rattle.vg_book_uses.proofs.MeetLemmas.{all_talked}
use Rattle.vg_book_uses.proofs.meet.both_meet.Lts as lts
use Rattle.vg_book_uses.proofs.meet.both_meet.Given.{Over}
use Rattle.vg_book_uses.proofs.meet.both_meet.Goals as goal

post_send : (g : Over) → IsSend (post.the_row (param 0 g.row.B) g.B.Naming)
post_send g = search (sendable, crosses, note_send) depth 20

done_send : (g : Over) (κs : contract.Lifetimes.Lfts 4) → IsSend (lts.arg-7-0 g.row.B g.row.R g.B.laws g.R.laws g.B.Naming g.B.Naming-dict g.R.Threads g.R.Threads-dict g.R.Wait g.R.Wait-dict κs)
done_send g κs = search (sendable, crosses, client_send) depth 20

job_send : (g : Over) (κs : contract.Lifetimes.Lfts 4) → IsSend (lts.arg-7-1 g.row.B g.row.R g.B.laws g.R.laws g.B.Naming g.B.Naming-dict g.R.Threads g.R.Threads-dict g.R.Wait g.R.Wait-dict κs)
job_send g κs = search (sendable, crosses, client_send, book_sync, post_send) depth 20

pub each-requires-send-D : goal.each-requires-send-D
each-requires-send-D g c κs = λ _. param_send _ _ (done_send g κs)

pub each-requires-send-J : goal.each-requires-send-J
each-requires-send-J g c κs = λ _. param_send _ _ (job_send g κs)

pub each-requires-after_bounds : goal.each-requires-after_bounds
each-requires-after_bounds g c = λ κs _ k d lt. may_talk counter.ghosts _ _ (all_of_map (IsNew counter.ghosts _ 1) (λ job. job.client) c.in-Ok-meetings.jobs.items c.in-Ok-meetings.ensures.clients.new k d lt)

pub join_all-requires : goal.join_all-requires
join_all-requires g c =
    let n = counter.ghosts in
    with_nothing_out n (λ job. job.client) 1 (λ job. Unit {0}) (Gave n (λ job. job.client) (λ job. Unit {0}) (λ job. 2) 2 (λ j f. refl)) (same n (λ job. job.client) (λ job. Unit {0}) (λ job. 2) 2 (λ j f. refl)) (idle n (λ job. job.client) (λ job. Unit {0}) (λ job. 2) 2 (λ j f. refl))
    _ c.in-Ok-meetings.jobs.items c.in-Ok-each.clients.items (all_talked n (λ job. job.client) c.in-Ok-meetings.jobs.items c.in-Ok-each.clients.items c.in-Ok-each.ensures)
    (all_of_map (IsNew n _ 1) (λ job. job.client) c.in-Ok-meetings.jobs.items c.in-Ok-meetings.ensures.clients.new)

pub close-requires : goal.close-requires
close-requires g c =
    let n = counter.ghosts in
    let start = c.in-Ok-meetings.ensures in
    let all = c.in_ok-join_all.ensures in
    let none : c.join_all.new.root.lanes_made ≡ 0 = all.lanes_made ∙ (start.root.lanes_made ∙ (ap (λ r. r.lanes_made) c.in-Ok.ensures.root ∙ c.requires.1)) in
    all_joined n (λ job. job.client) 1 (λ job. Unit {0}) (Gave n (λ job. job.client) (λ job. Unit {0}) (λ job. 2) 2 (λ j f. refl)) (same n (λ job. job.client) (λ job. Unit {0}) (λ job. 2) 2 (λ j f. refl)) (idle n (λ job. job.client) (λ job. Unit {0}) (λ job. 2) 2 (λ j f. refl))
    _ 2 c.in-Ok-meetings.jobs.items all.taken.0 start.clients (λ k d lt. tt) c.in-Ok-each.clients.items (all_talked n (λ job. job.client) c.in-Ok-meetings.jobs.items c.in-Ok-each.clients.items c.in-Ok-each.ensures) all.taken.1 c.join_all.new.root
    (all.given ∙ start.root.given)
    (all.taken.2 ∙ ap (λ l. l ++ map account_of all.taken.0) start.root.accounts)
    (λ l lt. absurd (omega (arith, none, lt)))

pub returns-clause-shared : goal.returns-clause-shared
returns-clause-shared g c =
    let n = counter.ghosts in
    let start = c.in-Ok-meetings.ensures in
    let all = c.in_ok-join_all.ensures in
    have_shared n (λ job. job.client) (λ job. Unit {0}) (λ job. 2) 2 (λ j f. refl) _ 2 c.in-Ok-meetings.jobs.items all.taken.0 start.clients (λ k d lt. tt) c.in-Ok-each.clients.items (all_talked n (λ job. job.client) c.in-Ok-meetings.jobs.items c.in-Ok-each.clients.items c.in-Ok-each.ensures) all.taken.1 c.join_all.new.root _ c.close.result.1
    (all.given ∙ start.root.given)
    (all.taken.2 ∙ ap (λ l. l ++ map account_of all.taken.0) start.root.accounts)
    c.close.ensures.closed
