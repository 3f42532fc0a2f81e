use Rattle.std.specs.Prelude.{◌≡◌, ◌≤◌, ◌+◌, ◌-◌, ◌⊎◌, ℕ, Bool, false, if◌then◌else◌, List, [], ◌∷◌, length}
use Rattle.vg_config.specs.Features.{CONTEXT_INIT, EDID, RESOURCE_BLOB, RESOURCE_UUID, VIRGL, kept}
use Rattle.vg_client_holds.specs.declared.setup.Setup.{Setup}
use Rattle.vg_limits.specs.Limits.{Limits, of_queues}

-- The features that are accepted, of those that a setup keeps, where some are left out (VIRTIO 1.2, 5.7.3): EDID, RESOURCE_UUID,
-- RESOURCE_BLOB, and contexts, which are VIRGL and CONTEXT_INIT.
abbrev pub features_without : Bool → Bool → Bool → Bool → ℕ
features_without edid uuid blob context =
    kept - (if edid then EDID else 0) - (if uuid then RESOURCE_UUID else 0) - (if blob then RESOURCE_BLOB else 0)
    - (if context then VIRGL + CONTEXT_INIT else 0)

-- Features that can be accepted: all but what is left out.
pub record AreAccepted (accepted : ℕ) : Type 0 where
  pub edid : Bool
  pub uuid : Bool
  pub blob : Bool
  pub context : Bool
  pub left : accepted ≡ features_without edid uuid blob context

-- A display's width and height in pixels, within these limits.
abbrev pub IsDisplay : Limits → ℕ × ℕ → Type 0
IsDisplay most (width, height) = (1 ≤ width) × (width ≤ most.width) × (1 ≤ height) × (height ≤ most.height)

abbrev pub AreDisplays : Limits → List (ℕ × ℕ) → Type 0
AreDisplays most [] = Unit {0}
AreDisplays most (display ∷ more) = IsDisplay most display × AreDisplays most more

-- The sizes of both queues in a version of the journal.
abbrev pub AreQueues : ℕ × ℕ → Type 0
AreQueues queues = (queues ≡ (64, 16)) ⊎ (queues ≡ (256, 64))

-- How many clients there are with the host, where there is one: it is the last of them.
abbrev pub parties : ℕ → Bool → ℕ
parties clients host = clients + (if host then 1 else 0)

-- A setup that a journal can have.
pub record IsSetup (setup : Setup) : Type 0 where
  pub some : 1 ≤ length setup.displays
  pub at_most : length setup.displays ≤ 16
  pub displays : AreDisplays (of_queues setup.queues) setup.displays
  pub one_page : 1 ≤ setup.pages
  pub pages : setup.pages ≤ 16384
  pub accepted : AreAccepted setup.accepted
  pub clients : setup.clients ≤ (of_queues setup.queues).clients
  pub queues : AreQueues setup.queues
  pub host : setup.queues ≡ (64, 16) → setup.host ≡ false
