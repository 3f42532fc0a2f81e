-- The lines of a history in a journal.
use Rattle.std.specs.Prelude.{ℕ, Bool, false, not, List, ◌++◌, codes, decimal}
use Rattle.vg_history.specs.declared.machine.Machine.{Ghosts}
use Rattle.vg_history.specs.declared.entry.Entry.{Entry}
use Rattle.vg_history.specs.declared.entry.Entry.TheVariants.{Act, Command}

module _ {M S A R Q P H W : Type 0} (g : Ghosts M S A R Q P H W) where
  abbrev E : Type 0
  E = Entry M S A R Q P H W

  -- The line of an entry: its number, its client, the client's own number for it, and what the machine says of it.
  unfoldable pub entry_line : ℕ → E → List ℕ
  entry_line n (Act client call act reply) = decimal n ++ codes " " ++ decimal client ++ codes " " ++ decimal call ++ g.act_text act reply
  entry_line n (Command client call request reply) = decimal n ++ codes " " ++ decimal client ++ codes " " ++ decimal call ++ g.command_text request reply

  -- A command on the first of the machine's two queues, and on the second.
  abbrev pub is_on_first : E → Bool
  is_on_first (Act client call act reply) = false
  is_on_first (Command client call request reply) = g.is_first request

  abbrev pub is_on_second : E → Bool
  is_on_second (Act client call act reply) = false
  is_on_second (Command client call request reply) = not (g.is_first request)
