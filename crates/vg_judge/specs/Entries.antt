-- How far the entries of a journal were read from its text.
use Rattle.std.specs.Prelude.{◌≡◌, ◌<◌, ◌≤◌, ◌+◌, ◌-◌, ◌^◌, ℕ, List, [], ◌∷◌, ◌++◌, length}
use Rattle.vg_client_holds.specs.Setup.{parties}
use Rattle.vg_machine.specs.Entries.{Entry}
use Rattle.vg_machine.specs.Order.{call_of, client_of}
use Rattle.vg_journal.specs.declared.journal.Journal.{Journal}
use Rattle.vg_journal_lines.specs.Pieces.{JournalInRange, entry_pieces, numbered_pieces, whole}
use Rattle.vg_judge.specs.declared.entries.Entries.{Entries}

-- These entries of a journal were read, and the others stand in the bytes that are left.
pub record AreRead (journal : Journal) (done : List Entry) (entries : Entries) : Type 0 where
  pub left : List Entry
  pub behind : List ℕ
  pub place : journal.entries ≡ done ++ left
  pub clients : entries.clients ≡ parties journal.setup.clients journal.setup.host
  pub count : entries.read ≡ length done
  pub rest : entries.rest.now ≡ whole (numbered_pieces entry_pieces (length done + 1) left) ++ behind

-- There is one more.
pub record HasNext (journal : Journal) (done : List Entry) (entries : Entries) : Type 0 where
  pub in_range : JournalInRange journal
  pub few : length journal.entries ≤ 2 ^ 31 - 1
  pub more : length done < length journal.entries
  pub read : AreRead journal done entries

-- It was read, and is this one. Its client is one of the journal's.
pub record HasGone (journal : Journal) (done : List Entry) (entry : Entry) (entries : Entries) : Type 0 where
  pub left : List Entry
  pub place : journal.entries ≡ done ++ (entry ∷ left)
  pub one : 1 ≤ client_of entry
  pub client : client_of entry ≤ parties journal.setup.clients journal.setup.host
  pub call : call_of entry < 2 ^ 63
  pub read : AreRead journal (done ++ entry ∷ []) entries
