-- An entry's line in front of others.
use Rattle.std.specs.Prelude.{◌≡◌, ◌≤◌, ◌+◌, ℕ, List, ◌++◌}
use Rattle.vg_machine.specs.Entries.{Entry}
use Rattle.vg_journal_lines.specs.Entries.{EntryInRange}
use Rattle.vg_journal_lines.specs.Pieces.{entry_pieces, whole}
use Rattle.vg_journal_lines.specs.Ranges.{IsCount}
use Rattle.vg_limits.specs.Limits.{version_2}

-- The line of entry n stands in front of bytes.
pub record StandsNext (n clients : ℕ) (bytes : List ℕ) (entry : Entry) (more : List ℕ) : Type 0 where
  pub few : clients ≤ version_2.clients + 1
  pub number : IsCount n
  pub in_range : EntryInRange clients entry
  pub place : bytes ≡ whole (entry_pieces n entry) ++ more
