use denote.Param.Send.{sendable}
use Rattle.std.proofs.Crossing.{crosses}
use Rattle.vg_worker.proofs.Sent.{worker_sent}
use Rattle.vg_labels.specs.Labels.{values_of}
use Rattle.vg_run_threads.proofs.SessionLemmas.{all-idle, all-joined, all-of, all-ready}
use Rattle.vg_run_threads.proofs.Sent.{performed_sent, performing_sent, waiting_shared}
use Rattle.vg_run_threads.proofs.threads.run_threads.Goals as goal

pub all-requires-send-D : goal.all-requires-send-D
all-requires-send-D g c κs within = search (sendable, crosses, performed_sent) depth 20

pub all-requires-send-A : goal.all-requires-send-A
all-requires-send-A g c κs within = let n = c.type_bounds.send-N in search (sendable, crosses, performing_sent) depth 20

pub all-requires-send-W : goal.all-requires-send-W
all-requires-send-W g c κs within = let n = c.type_bounds.send-N in let y = c.type_bounds.sync-G in search (sendable, crosses, worker_sent) depth 20

pub all-requires-sync-Q : goal.all-requires-sync-Q
all-requires-sync-Q g c κs within = search (sendable, crosses, waiting_shared) depth 20

pub all-requires-after_bounds : goal.all-requires-after_bounds
all-requires-after_bounds g c κs within =
    let made = c.in_ok-clients.ensures in
    (all-ready (λ job. job.token) (λ job. job.lines.items) (λ job. job.labels.now.items) c.args.setup.now c.args.script c.in_ok-labels.labels.items c.in_ok-clients.clients.items c.requires.setup c.requires.limits c.in_ok-labels.ensures made.clients made.lines made.labels, λ k d lt. tt)

pub agree_all-requires : goal.agree_all-requires
agree_all-requires g c = (
  c.in_ok-labels.labels.items,
  c.in_ok-shown.ensures,
  all-of (λ job. job.token) (λ job. job.lines.items) (λ job. job.labels.now.items) c.in_ok-labels.labels.items c.in_ok-clients.clients.items c.in_ok-performed.performed.items c.in_ok-performed.ensures.0 c.in_ok-clients.ensures.labels,
)

pub join_all-requires : goal.join_all-requires
join_all-requires g c = all-idle (λ job. job.token) (λ job. job.lines.items) (λ job. job.labels.now.items) c.in_ok-clients.clients.items c.in_ok-performed.performed.items c.in_ok-performed.ensures.0

pub returns-clause-joined : goal.returns-clause-joined
returns-clause-joined g c =
    let made = c.in_ok-clients.ensures in
    all-joined (λ job. job.token) (λ job. job.lines.items) (λ job. job.labels.now.items) c.args.setup.now c.args.script (values_of c.in_ok-shown.shown.items) _ c.join_all.new.root c.in_ok-clients.clients.items c.in_ok-performed.performed.items
    c.requires.setup made.root made.clients made.lines c.in_ok-performed.ensures.0 c.agree_all.ensures c.in_ok-join_all.ensures
