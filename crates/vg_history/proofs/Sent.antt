-- An entry may go to another thread, and a history may, where what the machine's acts, requests and replies are made of may.
use denote.RattleType.{RattleType}
use denote.Param.Send.{IsSend, owning_send, sendable}
use Rattle.std.proofs.Crossing.{crosses}
use Rattle.vg_history.specs.declared.machine.Machine as Machine
use Rattle.vg_history.specs.contracts.entry.Entry as entry
use Rattle.vg_history.specs.contracts.held.History as history
use Rattle.vg_history.specs.contracts.growing.Growing as growing
use Rattle.vg_history.specs.contracts.spelled.Lines as lines
use Rattle.vg_history.specs.contracts.listed.Listed as listed

module _ (M S A R Q P H W : RattleType) (m : IsSend M) (a : IsSend A) (r : IsSend R) (q : IsSend Q) (p : IsSend P) where
  pub entry_send : IsSend (entry.the_row M S A R Q P H W)
  entry_send = search (sendable, crosses) depth 20

  listed_send : IsSend (listed.the_row (entry.the_row M S A R Q P H W))
  listed_send = owning_send (listed.the_type (entry.the_row M S A R Q P H W)) (search sendable, tt) (λ d. tt) (λ k x w. tt)

  module _ (g : Machine.Ghosts M.Denot S.Denot A.Denot R.Denot Q.Denot P.Denot H.Denot W.Denot) where
    lines_send : IsSend (lines.the_row M S A R Q P H W g)
    lines_send = search (sendable, crosses, listed_send) depth 20

    pub history_send : IsSend (history.the_row M S A R Q P H W g)
    history_send = search (sendable, crosses, entry_send, lines_send) depth 20

    pub growing_send : IsSend (growing.the_row M S A R Q P H W g)
    growing_send = search (sendable, crosses, entry_send, lines_send) depth 20
