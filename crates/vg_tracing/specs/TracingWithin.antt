-- How far the entries of a journal were gone over for the clients of their bytes.
use Rattle.std.specs.Prelude.{◌≡◌, ℕ, List, length}
use Rattle.vg_machine.specs.Entries.{Entry}
use Rattle.vg_journal.specs.declared.journal.Journal.{Journal}
use Rattle.vg_judge.specs.declared.entries.Entries.{Entries}
use Rattle.vg_judge.specs.Entries.{AreRead}
use Rattle.vg_drawn.specs.declared.drawn.Drawn.{Drawn}
use Rattle.vg_drawn.specs.Drawn.{IsDrawn}

-- So many entries were.
pub record AreTraced (journal : Journal) (n : ℕ) (entries : Entries) (drawn : Drawn) : Type 0 where
  pub done : List Entry
  pub count : length done ≡ n
  pub read : AreRead journal done entries
  pub is_drawn : IsDrawn journal.setup done drawn
