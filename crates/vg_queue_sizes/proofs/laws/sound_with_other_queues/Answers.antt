use Rattle.std.proofs.Common.{ap}
use Rattle.vg_device.specs.State.{State, start}
use Rattle.vg_queue_sizes.proofs.HistoryLemmas.{replay-requeued, sound-still}
use Rattle.vg_queue_sizes.proofs.laws.sound_with_other_queues.Goals as goal

pub returns : goal.returns
returns c = record {
  sound = sound-still;
  display = λ setup queues H. replay-requeued queues (start setup) H;
  frames = λ setup queues H. ap (λ (s : State). s.scanouts.frames) (replay-requeued queues (start setup) H);
}
