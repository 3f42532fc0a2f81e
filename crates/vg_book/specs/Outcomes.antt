-- What can be asked of a pass on its way.
use Rattle.std.specs.Prelude.{ℕ, Bool, true, false, List, Option, Some, None}
use Rattle.vg_chain.specs.declared.asked.Asked.{Asked}
use Rattle.vg_history.specs.declared.machine.Machine.{Ghosts}
use Rattle.vg_book.specs.declared.outcome.Carried.{Carried}
use Rattle.vg_book.specs.declared.outcome.Carried.TheVariants as carried

module _ {M B S A R Q P H W : Type 0} (g : Ghosts M S A R Q P H W) where
  -- The lane and the ordinal of what is carried.
  abbrev pub tag_of : Carried M B S A R Q P H W → ℕ × ℕ
  tag_of (carried.Wanted p) = g.tagged p.order.request
  tag_of (carried.Done f) = g.tagged f.order.request
  tag_of (carried.Unrun p) = g.tagged p.order.request

  abbrev pub is_wanted_pass : Carried M B S A R Q P H W → Bool
  is_wanted_pass (carried.Wanted p) = true
  is_wanted_pass (carried.Done f) = false
  is_wanted_pass (carried.Unrun p) = false

  -- What the request of what is carried asks for.
  abbrev pub asks_of : Carried M B S A R Q P H W → Asked
  asks_of (carried.Wanted p) = g.asks p.order.request
  asks_of (carried.Done f) = g.asks f.order.request
  asks_of (carried.Unrun p) = g.asks p.order.request

  -- What its reply writes into the room, if it was run.
  abbrev pub told_by : Carried M B S A R Q P H W → Option (List ℕ)
  told_by (carried.Wanted p) = None
  told_by (carried.Done f) = Some (g.written f.order.request f.reply)
  told_by (carried.Unrun p) = None
