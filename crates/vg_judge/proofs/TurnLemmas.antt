-- One entry more of a journal is gone over.
use Rattle.std.proofs.Common.{◌≡◌, ◌+◌, List, [], ◌∷◌, ◌++◌, length, sym, subst}
use mathlib.Core.List.{IsPrefix}
use Rattle.vg_client_holds.specs.declared.setup.Setup.{Setup}
use Rattle.vg_scanout.specs.declared.scanout.Frame.{Frame}
use Rattle.vg_machine.specs.Entries.{Entry}
use Rattle.vg_journal.specs.declared.journal.Journal.{Journal}
use Rattle.vg_check.specs.Checked.{HasGoneOn, TellsWrong}
use Rattle.vg_check.specs.Right.{AreRight, IsRight, IsWrongAt, frames_after}
use Rattle.vg_judge.specs.declared.entries.Entries.{Entries}
use Rattle.vg_judge.specs.declared.judging.Judging.{Judging}
use Rattle.vg_judge.specs.Entries.{HasGone, HasNext}
use Rattle.vg_judge.specs.FramesWithin.{AreMet}
use Rattle.vg_judge.specs.JudgingWithin.{IsJudging, IsNext}

-- What the laws of the crate below say of right entries.
pub record LawsOfRight : Type 0 where
  pub right : (setup : Setup) (frames : List Frame) (H : List Entry) (entry : Entry) → AreRight setup frames [] H → IsRight setup frames H entry → AreRight setup frames [] (H ++ entry ∷ [])
  pub wrong : (setup : Setup) (frames : List Frame) (H : List Entry) (entry : Entry) (rest : List Entry) → AreRight setup frames [] H → (IsRight setup frames H entry → ⊥) → IsWrongAt setup frames (H ++ (entry ∷ rest)) (length H + 1)
  pub stay : (setup : Setup) (H : List Entry) (entry : Entry) → IsPrefix (frames_after setup H) (frames_after setup (H ++ entry ∷ []))

pub has_next : (journal : Journal) (done : List Entry) (judging : Judging) → IsNext journal done judging → HasNext journal done judging.entries
has_next journal done judging next = record { in_range = next.in_range; few = next.few; more = next.more; read = next.going.read }

-- It isn't right.
is_wrong : (journal : Journal) (done : List Entry) (judging : Judging) (now : Entries) (entry : Entry) → LawsOfRight → IsNext journal done judging → HasGone journal done entry now → (IsRight journal.setup journal.frames done entry → ⊥)
    → IsWrongAt journal.setup journal.frames journal.entries (length done + 1)
is_wrong journal done judging now entry laws next gone wrong =
    subst (λ es. IsWrongAt journal.setup journal.frames es (length done + 1)) (sym gone.place)
    (laws.wrong journal.setup journal.frames done entry gone.left next.going.right wrong)

-- It doesn't stand rightly behind those before it.
pub not_rightly : (journal : Journal) (done : List Entry) (judging : Judging) (now : Entries) (entry : Entry) → LawsOfRight → IsNext journal done judging → HasGone journal done entry now → TellsWrong judging.checker entry
    → IsWrongAt journal.setup journal.frames journal.entries (length done + 1)
not_rightly journal done judging now entry laws next gone tells =
    is_wrong journal done judging now entry laws next gone (λ right. tells journal.setup done next.going.checked gone.client right.stands)

-- A frame that it makes isn't the journal's.
pub other_frames : (journal : Journal) (done : List Entry) (judging : Judging) (now : Entries) (entry : Entry) (frames : List Frame) → LawsOfRight → IsNext journal done judging → HasGone journal done entry now
    → frames ≡ frames_after journal.setup (done ++ entry ∷ []) → ((all before : List Frame) → AreMet all before judging.frames → IsPrefix before frames → IsPrefix frames all → ⊥)
    → IsWrongAt journal.setup journal.frames journal.entries (length done + 1)
other_frames journal done judging now entry frames laws next gone are other =
    is_wrong journal done judging now entry laws next gone (λ right.
    other journal.frames (frames_after journal.setup done) next.going.frames
    (subst (IsPrefix (frames_after journal.setup done)) (sym are) (laws.stay journal.setup done entry))
    (subst (λ fs. IsPrefix fs journal.frames) (sym are) right.made))

-- It is right.
pub goes_on : (journal : Journal) (done : List Entry) (judging new : Judging) (entry : Entry) (frames : List Frame) → LawsOfRight → IsNext journal done judging → HasGone journal done entry new.entries → HasGoneOn journal.setup done entry new.checker
    → frames ≡ frames_after journal.setup (done ++ entry ∷ []) → ((all before : List Frame) → AreMet all before judging.frames → IsPrefix before frames → AreMet all frames new.frames)
    → IsJudging journal (done ++ entry ∷ []) new
goes_on journal done judging new entry frames laws next gone checked are meets =
    let front = subst (IsPrefix (frames_after journal.setup done)) (sym are) (laws.stay journal.setup done entry) in
    let met = subst (λ fs. AreMet journal.frames fs new.frames) are (meets journal.frames (frames_after journal.setup done) next.going.frames front) in
    record {
      read = gone.read;
      right = laws.right journal.setup journal.frames done entry next.going.right (record { stands = checked.right; made = (met.left, sym met.place) });
      checked = checked.checked;
      frames = met;
    }
