-- A journal of a legal history, and the first thing that is wrong in one that isn't.
use Rattle.std.specs.Prelude.{◌≡◌, ℕ, zero, suc, [], count_by}
use Rattle.vg_history.specs.Lines.{is_on_first, is_on_second}
use Rattle.vg_client_holds.specs.Setup.{parties}
use Rattle.vg_machine.specs.Order.{Sound}
use Rattle.vg_machine.specs.Replay as machine
use Rattle.vg_journal.specs.declared.journal.Journal.{Journal}
use Rattle.vg_check.specs.Right.{AreRight, HasLeftAll, IsWrongAt, frames_after}

-- What a journal says beside its entries is what these make: the frames are the display's, the counts are those of the commands
-- of each queue, and each client that entered has left, and so has the host.
pub record FitsEntries (journal : Journal) : Type 0 where
  pub frames : frames_after journal.setup journal.entries ≡ journal.frames
  pub control : journal.control ≡ count_by (is_on_first machine.display) journal.entries
  pub cursor : journal.cursor ≡ count_by (is_on_second machine.display) journal.entries
  pub left : HasLeftAll (parties journal.setup.clients journal.setup.host) journal.entries

-- The journal of a history that the display and its clients can have.
pub record IsLegal (journal : Journal) : Type 0 where
  pub sound : Sound journal.setup journal.entries
  pub fits : FitsEntries journal

-- Each entry is right, and what is said beside them isn't what they make.
pub record IsWrongBehind (journal : Journal) : Type 0 where
  pub right : AreRight journal.setup journal.frames [] journal.entries
  pub wrong : FitsEntries journal → ⊥

-- The entry of this number is the first that isn't right; 0 stands for what is said beside the entries.
abbrev pub IsWrong : Journal → ℕ → Type 0
IsWrong journal zero = IsWrongBehind journal
IsWrong journal (suc n) = IsWrongAt journal.setup journal.frames journal.entries (suc n)
