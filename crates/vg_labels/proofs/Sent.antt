-- Labels may be shared by threads, and what was told of them may go to other threads, where what the machine is made of may.
use denote.RattleType.{RattleType}
use denote.Ref.{NamedLft}
use denote.Param.Send.{IsSend, IsSync, sendable}
use Rattle.std.proofs.Crossing.{crosses}
use Rattle.std.proofs.sync.OnceLock.TheSendSync.{the_sync}
use Rattle.std.proofs.sync.OnceToken.TheSendSync.{the_send}
use Rattle.vg_history.specs.declared.machine.Machine as Machine
use Rattle.vg_book.specs.declared.board.Naming as Naming
use Rattle.vg_book.proofs.Sent.{note_send}
use Rattle.vg_labels.specs.contracts.label.Label as label
use Rattle.vg_labels.specs.contracts.label.Posted as posted
use Rattle.vg_labels.specs.contracts.table.Told as told

module _ (M B S A R Q P H W : RattleType) (m : IsSend M) (a : IsSend A) (r : IsSend R) (q : IsSend Q) (p : IsSend P) (gm : Machine.Ghosts M.Denot S.Denot A.Denot R.Denot Q.Denot P.Denot H.Denot W.Denot) (gb : Naming.Ghosts B.Denot) where
  posted_send : IsSend (posted.the_row M B S A R Q P H W gm gb)
  posted_send = search (sendable, crosses, note_send) depth 20

  pub label_sync : IsSync (label.the_row M B S A R Q P H W gm gb)
  label_sync = search (sendable, crosses, the_sync, posted_send) depth 20

pub told_send : (κ : NamedLft) → IsSend (told.the_row κ)
told_send κ = search (sendable, crosses, the_send) depth 20
