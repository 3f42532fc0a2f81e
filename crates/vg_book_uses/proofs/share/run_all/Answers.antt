use denote.Param.{param}
use denote.Param.Send.{IsSend, sendable, param_send}
use Rattle.std.proofs.Common.{◌≡◌, ◌<◌, ◌*◌, ℕ, length, ap, sym, subst, ◌∙◌, ◌++◌, arith}
use Rattle.std.specs.Prelude.{All, map}
use Rattle.std.proofs.Crossing.{crosses}
use Rattle.vg_book.proofs.Sent.{client_send, lane_send, pass_send, book_sync}
use Rattle.vg_book_uses.proofs.Crossings.{sent_send, answered_send}
use Rattle.vg_book_uses.specs.contracts.counter.CounterMachine.TheImpl as counter
use Rattle.vg_book_uses.specs.contracts.desk.Desk as desk
use Rattle.vg_book_uses.specs.Adding.{account_of, IsNew}
use Rattle.vg_history.specs.Lists.{Has}
use Rattle.vg_book_uses.specs.Desks.{IsLaneKnown}
use Rattle.vg_book_uses.specs.Sharing.{counted_of}
use Rattle.vg_jobs.proofs.JobLemmas.{all_of_map}
use Rattle.vg_book_uses.proofs.CrewLemmas.{with_nothing_out, all_joined}
use Rattle.vg_book_uses.proofs.ShareLemmas.{Gave, same, idle, have_shared, lanes_joined, lanes_known, may_talk}
use Rattle.vg_book_uses.proofs.share.run_all.Lts as lts
use Rattle.vg_book_uses.proofs.share.run_all.Given.{Over}
use Rattle.vg_book_uses.proofs.share.run_all.Goals as goal

desk_send : (g : Over) → IsSend (desk.the_row (param 0 g.row.B) g.B.Naming)
desk_send g = search (sendable, crosses, pass_send, sent_send, answered_send) depth 20

client_done : (g : Over) (κs : contract.Lifetimes.Lfts 9) → IsSend (lts.arg-12-0 g.row.B g.row.R g.B.laws g.R.laws g.B.Naming g.B.Naming-dict g.R.Threads g.R.Threads-dict g.R.Wait g.R.Wait-dict κs)
client_done g κs = search (sendable, crosses, client_send) depth 20

lane_done : (g : Over) (κs : contract.Lifetimes.Lfts 9) → IsSend (lts.arg-12-1 g.row.B g.row.R g.B.laws g.R.laws g.B.Naming g.B.Naming-dict g.R.Threads g.R.Threads-dict g.R.Wait g.R.Wait-dict κs)
lane_done g κs = search (sendable, crosses, lane_send) depth 20

asking_send : (g : Over) (κs : contract.Lifetimes.Lfts 9) → IsSend (lts.arg-12-2 g.row.B g.row.R g.B.laws g.R.laws g.B.Naming g.B.Naming-dict g.R.Threads g.R.Threads-dict g.R.Wait g.R.Wait-dict κs)
asking_send g κs = search (sendable, crosses, client_send, book_sync, desk_send) depth 20

serving_send : (g : Over) (κs : contract.Lifetimes.Lfts 9) → IsSend (lts.arg-12-3 g.row.B g.row.R g.B.laws g.R.laws g.B.Naming g.B.Naming-dict g.R.Threads g.R.Threads-dict g.R.Wait g.R.Wait-dict κs)
serving_send g κs = search (sendable, crosses, lane_send, book_sync, desk_send) depth 20

pub all-requires-send-D : goal.all-requires-send-D
all-requires-send-D g c κs = λ _. param_send _ _ (client_done g κs)

pub all-requires-send-E : goal.all-requires-send-E
all-requires-send-E g c κs = λ _. param_send _ _ (lane_done g κs)

pub all-requires-send-A : goal.all-requires-send-A
all-requires-send-A g c κs = λ _. param_send _ _ (asking_send g κs)

pub all-requires-send-W : goal.all-requires-send-W
all-requires-send-W g c κs = λ _. param_send _ _ (serving_send g κs)

pub all-requires-after_bounds : goal.all-requires-after_bounds
all-requires-after_bounds g c =
    let n = counter.ghosts in
    let asks = c.in-Ok-askers.ensures in
    let lanes = sym (c.in-Ok-servers.ensures ∙ c.in-Ok.ensures.lanes) in
    λ κs _. (
      (λ k d lt. (may_talk n _ _ (all_of_map (IsNew n _ 1) (λ job. job.client) c.in-Ok-askers.askers.items asks.clients.new k d lt), (asks.rounds k d lt).1)),
      all_of_map (IsLaneKnown n) (λ job. job.lane) c.in-Ok-servers.servers.items (subst (λ ls. All (IsLaneKnown n) ls) lanes (lanes_known n c.args.opened.start c.args.opened.lanes)),
    )

pub join_all-requires : goal.join_all-requires
join_all-requires g c =
    let n = counter.ghosts in
    let asks = c.in-Ok-askers.ensures in
    with_nothing_out n (λ job. job.client) 1 (λ job. (job.rounds ≡ c.args.rounds) × (0 < length job.desks.now))
    (Gave n (λ job. job.client) (λ job. (job.rounds ≡ c.args.rounds) × (0 < length job.desks.now)) (λ job. 2 * job.rounds) (2 * c.args.rounds) (λ j f. ap (λ (k : ℕ). 2 * k) f.0))
    (same n (λ job. job.client) (λ job. (job.rounds ≡ c.args.rounds) × (0 < length job.desks.now)) (λ job. 2 * job.rounds) (2 * c.args.rounds) (λ j f. ap (λ (k : ℕ). 2 * k) f.0))
    (idle n (λ job. job.client) (λ job. (job.rounds ≡ c.args.rounds) × (0 < length job.desks.now)) (λ job. 2 * job.rounds) (2 * c.args.rounds) (λ j f. ap (λ (k : ℕ). 2 * k) f.0))
    _ c.in-Ok-askers.askers.items c.in-Ok-all.done.items c.in-Ok-all.ensures.0 (all_of_map (IsNew n _ 1) (λ job. job.client) c.in-Ok-askers.askers.items asks.clients.new)

pub close-requires : goal.close-requires
close-requires g c =
    let n = counter.ghosts in
    let asks = c.in-Ok-askers.ensures in
    let all = c.in_ok-join_all.ensures in
    let end = c.join_lanes.ensures in
    let made : c.join_lanes.new.root.lanes_made ≡ c.args.opened.lanes = end.lanes_made ∙ (all.lanes_made ∙ (asks.root.lanes_made ∙ ap (λ r. r.lanes_made) c.in-Ok.ensures.root)) in
    let lanes : c.join_lanes.new.root.lanes ≡ map counted_of c.in-Ok-all.served.items = end.taken ∙ ap (λ ls. ls ++ map counted_of c.in-Ok-all.served.items) (all.lanes ∙ asks.root.lanes) in
    all_joined n (λ job. job.client) 1 (λ job. (job.rounds ≡ c.args.rounds) × (0 < length job.desks.now))
    (Gave n (λ job. job.client) (λ job. (job.rounds ≡ c.args.rounds) × (0 < length job.desks.now)) (λ job. 2 * job.rounds) (2 * c.args.rounds) (λ j f. ap (λ (k : ℕ). 2 * k) f.0))
    (same n (λ job. job.client) (λ job. (job.rounds ≡ c.args.rounds) × (0 < length job.desks.now)) (λ job. 2 * job.rounds) (2 * c.args.rounds) (λ j f. ap (λ (k : ℕ). 2 * k) f.0))
    (idle n (λ job. job.client) (λ job. (job.rounds ≡ c.args.rounds) × (0 < length job.desks.now)) (λ job. 2 * job.rounds) (2 * c.args.rounds) (λ j f. ap (λ (k : ℕ). 2 * k) f.0))
    _ c.args.clients c.in-Ok-askers.askers.items all.taken.0 asks.clients asks.rounds c.in-Ok-all.done.items c.in-Ok-all.ensures.0 all.taken.1 c.join_lanes.new.root
    (end.given ∙ (all.given ∙ asks.root.given))
    (end.accounts ∙ (all.taken.2 ∙ ap (λ l. l ++ map account_of all.taken.0) asks.root.accounts))
    (λ l lt.
    let at = lanes_joined n (λ job. job.lane) c.args.opened.start c.args.opened.lanes c.in-Ok-servers.servers.items c.in-Ok-all.served.items (c.in-Ok-servers.ensures ∙ c.in-Ok.ensures.lanes) c.in-Ok-all.ensures.1 l (omega (arith, lt, made)) in
    (at.0, subst (λ xs. Has xs at.0) (sym lanes) at.1, at.2))

pub returns-clause-shared : goal.returns-clause-shared
returns-clause-shared g c =
    let asks = c.in-Ok-askers.ensures in
    let all = c.in_ok-join_all.ensures in
    let end = c.join_lanes.ensures in
    have_shared counter.ghosts (λ job. job.client) (λ job. (job.rounds ≡ c.args.rounds) × (0 < length job.desks.now)) (λ job. 2 * job.rounds) (2 * c.args.rounds) (λ j f. ap (λ (k : ℕ). 2 * k) f.0)
    _ c.args.clients c.in-Ok-askers.askers.items all.taken.0 asks.clients asks.rounds c.in-Ok-all.done.items c.in-Ok-all.ensures.0 all.taken.1 c.join_lanes.new.root _ c.close.result.1
    (end.given ∙ (all.given ∙ asks.root.given))
    (end.accounts ∙ (all.taken.2 ∙ ap (λ l. l ++ map account_of all.taken.0) asks.root.accounts))
    c.close.ensures.closed
