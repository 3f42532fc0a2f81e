-- A history is sound with other queues, and leaves the same display but for these.
use Rattle.std.proofs.Common.{◌≡◌, ◌++◌, ◌∙◌, ℕ, List, [], ◌∷◌, refl, sym, subst, ap}
use Rattle.vg_client_holds.specs.declared.act.ActReply.{ActReply}
use Rattle.vg_client_holds.specs.declared.setup.Setup.{Setup}
use Rattle.vg_history.specs.declared.entry.Entry.TheVariants as entries
use Rattle.vg_device.specs.State.{State, counted, start}
use Rattle.vg_device.specs.declared.request.Reply.{Reply}
use Rattle.vg_machine.specs.Entries.{Entry}
use Rattle.vg_machine.specs.Order.{AreAllowed, Sound}
use Rattle.vg_machine.specs.Replay.{AgreesFrom, HasReply, after, replay_from}
use Rattle.vg_queue_sizes.specs.Queues.{other_queues, requeued}
use Rattle.vg_queue_sizes.proofs.StepLemmas.{act, request}

after-requeued : (q : ℕ × ℕ) (s : State) (entry : Entry) → after (requeued s q) entry ≡ requeued (after s entry) q
after-requeued q s (entries.Act client call a reply) = ap (λ (done : State × ActReply). done.0) (act q (counted s) client a)
after-requeued q s (entries.Command client call r reply) = ap (λ (done : State × Reply). done.0) (request q r.shape s r)

answered-still : (q : ℕ × ℕ) (s : State) (entry : Entry) → HasReply s entry → HasReply (requeued s q) entry
answered-still q s (entries.Act client call a reply) was = was ∙ sym (ap (λ (done : State × ActReply). done.1) (act q (counted s) client a))
answered-still q s (entries.Command client call r reply) was = was ∙ sym (ap (λ (done : State × Reply). done.1) (request q r.shape s r))

pub replay-requeued : (q : ℕ × ℕ) (s : State) (H : List Entry) → replay_from (requeued s q) H ≡ requeued (replay_from s H) q
replay-requeued q s [] = refl
replay-requeued q s (entry ∷ more) = ap (λ t. replay_from t more) (after-requeued q s entry) ∙ replay-requeued q (after s entry) more

agrees-still : (q : ℕ × ℕ) (s : State) (H : List Entry) → AgreesFrom s H → AgreesFrom (requeued s q) H
agrees-still q s [] was = tt
agrees-still q s (entry ∷ more) was =
    (answered-still q s entry was.0, subst (λ t. AgreesFrom t more) (sym (after-requeued q s entry)) (agrees-still q (after s entry) more was.1))

allowed-still : (q : ℕ × ℕ) (setup : Setup) (before H : List Entry) → AreAllowed setup before H → AreAllowed (other_queues setup q) before H
allowed-still q setup before [] was = tt
allowed-still q setup before (entry ∷ more) was = (was.0, allowed-still q setup (before ++ entry ∷ []) more was.1)

pub sound-still : (setup : Setup) (q : ℕ × ℕ) (H : List Entry) → Sound setup H → Sound (other_queues setup q) H
sound-still setup q H was = record { agrees = agrees-still q (start setup) H was.agrees; order = was.order; allowed = allowed-still q setup [] H was.allowed }
