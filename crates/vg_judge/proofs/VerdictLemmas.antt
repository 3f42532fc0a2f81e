-- A journal has one verdict.
use Rattle.std.proofs.Common.{◌≡◌, ◌↔◌, ℕ, zero, suc, ◌+◌, List, [], ◌∷◌, ◌++◌, length, arith, refl, sym, subst, append_assoc, append-nil}
use Rattle.vg_client_holds.specs.declared.setup.Setup.{Setup}
use Rattle.vg_scanout.specs.declared.scanout.Frame.{Frame}
use Rattle.vg_machine.specs.Entries.{Entry}
use Rattle.vg_machine.specs.Order.{Sound}
use Rattle.vg_journal.specs.declared.journal.Journal.{Journal}
use Rattle.vg_check.specs.Right.{AreRight, IsRight, IsWrongAt, frames_after}
use Rattle.vg_judge.specs.Verdicts.{FitsEntries, IsLegal, IsWrong}

-- What the laws of the crate below say of right and wrong entries.
pub record LawsOfWrong : Type 0 where
  pub sound : (setup : Setup) (frames : List Frame) (H : List Entry) → (AreRight setup frames [] H × (frames_after setup H ≡ frames)) ↔ (Sound setup H × (frames_after setup H ≡ frames))
  pub once : (setup : Setup) (frames : List Frame) (H : List Entry) (n m : ℕ) → IsWrongAt setup frames H n → IsWrongAt setup frames H m → n ≡ m
  pub none : (setup : Setup) (frames : List Frame) (H : List Entry) (n : ℕ) → AreRight setup frames [] H → IsWrongAt setup frames H n → ⊥
  pub right : (setup : Setup) (frames : List Frame) (H : List Entry) (entry : Entry) → AreRight setup frames [] H → IsRight setup frames H entry → AreRight setup frames [] (H ++ entry ∷ [])
  pub wrong : (setup : Setup) (frames : List Frame) (H : List Entry) (entry : Entry) (rest : List Entry) → AreRight setup frames [] H → (IsRight setup frames H entry → ⊥) → IsWrongAt setup frames (H ++ (entry ∷ rest)) (length H + 1)

pub wrong_at : (journal : Journal) (n : ℕ) → IsWrongAt journal.setup journal.frames journal.entries n → IsWrong journal n
wrong_at journal zero wrong = let number = wrong.number in absurd (omega (arith, number))
wrong_at journal (suc n) wrong = wrong

pub one_wrong : (journal : Journal) (n m : ℕ) → LawsOfWrong → IsWrong journal n → IsWrong journal m → n ≡ m
one_wrong journal zero zero laws first second = refl
one_wrong journal zero (suc m) laws first second = absurd (laws.none journal.setup journal.frames journal.entries (suc m) first.right second)
one_wrong journal (suc n) zero laws first second = absurd (laws.none journal.setup journal.frames journal.entries (suc n) second.right first)
one_wrong journal (suc n) (suc m) laws first second = laws.once journal.setup journal.frames journal.entries (suc n) (suc m) first second

pub are_right : (journal : Journal) → LawsOfWrong → IsLegal journal → AreRight journal.setup journal.frames [] journal.entries
are_right journal laws legal = ((laws.sound journal.setup journal.frames journal.entries).1 (legal.sound, legal.fits.frames)).0

abbrev pub SaysSound : Type 0
SaysSound = (setup : Setup) (frames : List Frame) (H : List Entry) → (AreRight setup frames [] H × (frames_after setup H ≡ frames)) ↔ (Sound setup H × (frames_after setup H ≡ frames))

pub is_legal : (journal : Journal) → SaysSound → AreRight journal.setup journal.frames [] journal.entries → FitsEntries journal → IsLegal journal
is_legal journal sound right fits = record { sound = ((sound journal.setup journal.frames journal.entries).0 (right, fits.frames)).0; fits = fits }

pub not_both : (journal : Journal) (n : ℕ) → LawsOfWrong → IsLegal journal → IsWrong journal n → ⊥
not_both journal zero laws legal wrong = wrong.wrong legal.fits
not_both journal (suc n) laws legal wrong = laws.none journal.setup journal.frames journal.entries (suc n) (are_right journal laws legal) wrong

-- Not all are right, and none is wrong first.
neither : (setup : Setup) (frames : List Frame) (H rest : List Entry) → LawsOfWrong → AreRight setup frames [] H → ((n : ℕ) → IsWrongAt setup frames (H ++ rest) n → ⊥) → (AreRight setup frames [] (H ++ rest) → ⊥) → ⊥
neither setup frames H [] laws right free all = all (subst (λ es. AreRight setup frames [] es) (sym (append-nil H)) right)
neither setup frames H (entry ∷ more) laws right free all =
    free (length H + 1) (
    laws.wrong setup frames H entry more right (λ is.
    neither setup frames (H ++ entry ∷ []) more laws (laws.right setup frames H entry right is)
    (λ n wrong. free n (subst (λ es. IsWrongAt setup frames es n) (append_assoc H (entry ∷ []) more) wrong))
    (λ are. all (subst (λ es. AreRight setup frames [] es) (append_assoc H (entry ∷ []) more) are))))

pub some_verdict : (journal : Journal) → LawsOfWrong → (IsLegal journal → ⊥) → ((n : ℕ) → IsWrong journal n → ⊥) → ⊥
some_verdict journal laws illegal free =
    neither journal.setup journal.frames [] journal.entries laws tt (λ n wrong. free n (wrong_at journal n wrong)) (λ right.
    free 0 (record { right = right; wrong = λ fits. illegal (is_legal journal laws.sound right fits) }))
