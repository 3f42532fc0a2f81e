-- A replay that goes one entry further.
use Rattle.std.proofs.Common.{◌≡◌, List, [], ◌∷◌, ◌++◌}
use Rattle.vg_history.proofs.HistoryLemmas.{replay_append}
use Rattle.vg_client_holds.specs.declared.setup.Setup.{Setup}
use Rattle.vg_device.specs.State.{start}
use Rattle.vg_machine.specs.Entries.{Entry}
use Rattle.vg_machine.specs.Replay.{after, display, replay}

pub replay-more : (setup : Setup) (H : List Entry) (entry : Entry) → replay setup (H ++ entry ∷ []) ≡ after (replay setup H) entry
replay-more setup H entry = replay_append display (start setup) H (entry ∷ [])
