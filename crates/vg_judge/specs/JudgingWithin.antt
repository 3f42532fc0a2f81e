-- How far the entries of a journal were gone over.
use Rattle.std.specs.Prelude.{◌<◌, ◌≤◌, ◌-◌, ◌^◌, List, [], length}
use Rattle.vg_machine.specs.Entries.{Entry}
use Rattle.vg_journal.specs.declared.journal.Journal.{Journal}
use Rattle.vg_journal_lines.specs.Pieces.{JournalInRange}
use Rattle.vg_check.specs.Checked.{HasChecked}
use Rattle.vg_check.specs.Right.{AreRight, frames_after}
use Rattle.vg_judge.specs.Entries.{AreRead}
use Rattle.vg_judge.specs.FramesWithin.{AreMet}
use Rattle.vg_judge.specs.declared.judging.Judging.{Judging}

-- These entries of a journal were gone over and are right.
pub record IsJudging (journal : Journal) (done : List Entry) (judging : Judging) : Type 0 where
  pub read : AreRead journal done judging.entries
  pub right : AreRight journal.setup journal.frames [] done
  pub checked : HasChecked journal.setup done judging.checker
  pub frames : AreMet journal.frames (frames_after journal.setup done) judging.frames

-- There is one more.
pub record IsNext (journal : Journal) (done : List Entry) (judging : Judging) : Type 0 where
  pub in_range : JournalInRange journal
  pub few : length journal.entries ≤ 2 ^ 31 - 1
  pub more : length done < length journal.entries
  pub going : IsJudging journal done judging
