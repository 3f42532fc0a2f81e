-- Which entry of a journal is the first that doesn't stand rightly behind those before it.
use Rattle.std.specs.Prelude.{◌≡◌, ◌≢◌, ◌≤◌, ◌+◌, ℕ, true, List, [], ◌∷◌, ◌++◌, length}
use Rattle.std.specs.List.{list_any}
use mathlib.Core.List.{IsPrefix}
use Rattle.vg_client_holds.specs.declared.setup.Setup.{Setup}
use Rattle.vg_scanout.specs.declared.scanout.Frame.{Frame}
use Rattle.vg_machine.specs.Entries.{Entry}
use Rattle.vg_machine.specs.Order.{IsAllowed, IsInOrder, client_of, holds_of, is_leave, of_client}
use Rattle.vg_machine.specs.Replay.{HasReply, replay}

-- An entry stands rightly behind those before it: in order, its client may ask it by what it holds there, and its reply is the one
-- that the display gives there.
pub record IsRightly (setup : Setup) (before : List Entry) (entry : Entry) : Type 0 where
  pub order : IsInOrder before entry
  pub allowed : IsAllowed (holds_of setup (client_of entry) before) entry
  pub reply : HasReply (replay setup before) entry

-- The frames that the display has made after these entries.
abbrev pub frames_after : Setup → List Entry → List Frame
frames_after setup H = (replay setup H).scanouts.frames

-- Beside that, the frames so far are those of the journal in the same places.
pub record IsRight (setup : Setup) (frames : List Frame) (before : List Entry) (entry : Entry) : Type 0 where
  pub stands : IsRightly setup before entry
  pub made : IsPrefix (frames_after setup (before ++ entry ∷ [])) frames

-- Each of these entries is right, behind those before them all.
abbrev pub AreRight : Setup → List Frame → List Entry → List Entry → Type 0
AreRight setup frames before [] = Unit {0}
AreRight setup frames before (entry ∷ more) = IsRight setup frames before entry × AreRight setup frames (before ++ entry ∷ []) more

-- The entry of this number, from 1, is the first that isn't right.
pub record IsWrongAt (setup : Setup) (frames : List Frame) (entries : List Entry) (n : ℕ) : Type 0 where
  pub front : List Entry
  pub entry : Entry
  pub rest : List Entry
  pub place : entries ≡ front ++ (entry ∷ rest)
  pub number : n ≡ length front + 1
  pub right : AreRight setup frames [] front
  pub wrong : IsRight setup frames front entry → ⊥

-- Each of so many clients that has an entry has left.
abbrev pub HasLeftAll : ℕ → List Entry → Type 0
HasLeftAll clients H = (client : ℕ) → 1 ≤ client → client ≤ clients → of_client client H ≢ [] → list_any is_leave (of_client client H) ≡ true
