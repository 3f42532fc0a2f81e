-- What is kept of the clients whose bytes a display has, and of its frames.
use Rattle.std.specs.Prelude.{◌≡◌, ◌≤◌, ◌<◌, ◌-◌, ◌^◌, ℕ, List, [], ◌∷◌, ◌++◌, length, map, slice_get, slice_index, Some}
use Rattle.std.specs.List.{All}
use Rattle.vg_client_holds.specs.Setup.{IsSetup}
use Rattle.vg_client_holds.specs.declared.setup.Setup.{Setup}
use Rattle.vg_machine.specs.Entries.{Entry}
use Rattle.vg_machine.specs.Order.{client_of}
use Rattle.vg_machine.specs.Replay.{replay}
use Rattle.vg_scanout.specs.declared.scanout.Frame.{Frame}
use Rattle.vg_painted.specs.Paint.{painting}
use Rattle.vg_drawers.specs.Drawers.{by_client}
use Rattle.vg_drawn.specs.declared.drawn.Drawn.{Drawn}
use Rattle.vg_drawn.specs.Words.{union_below, words}

-- Of each frame there is the set of the clients of its bytes.
abbrev pub FramesHave : List Frame → List ℕ → (ℕ → ℕ → ℕ) → Type 0
FramesHave frames sets at =
    (length sets ≡ length frames) × ((n : ℕ) (frame : Frame) → slice_get frames n ≡ Some frame → slice_index sets n ≡ union_below (at n) (length frame.pixels))

-- The entry is of one of 33 clients.
abbrev pub IsOfFew : Entry → Type 0
IsOfFew entry = (1 ≤ client_of entry) × (client_of entry ≤ 33)

-- The display has gone through these entries, with clients' numbers in the place of the bytes that they store, and the frames have
-- these clients.
pub record IsDrawn (setup : Setup) (H : List Entry) (drawn : Drawn) : Type 0 where
  pub setup_is : IsSetup setup
  pub few : All IsOfFew H
  pub display : drawn.display ≡ replay setup (map by_client H)
  pub frames : FramesHave (replay setup H).scanouts.frames drawn.frames.items (painting words setup H).frames

-- It has gone through entries behind which there may be one more.
pub record HasRoom (drawn : Drawn) : Type 0 where
  pub setup : Setup
  pub done : List Entry
  pub is : IsDrawn setup done drawn
  pub room : length done < 2 ^ 31 - 1

-- Whatever entries these were, it has gone through this one too.
abbrev pub GoesOver : Drawn → Entry → Drawn → Type 0
GoesOver old entry new = (setup : Setup) (H : List Entry) → IsDrawn setup H old → IsDrawn setup (H ++ entry ∷ []) new
