use Rattle.std.specs.Prelude.{◌≡◌, true, ℕ, ◌+◌, ◌-◌, ◌*◌, ◌≤◌, ◌<◌, ◌||◌, Bool, is_some, List, [], length, replicate, Option, Some, None}
use Rattle.std.specs.List.{All}
use Rattle.vg_formats.specs.declared.entry.MemEntry.{MemEntry}
use Rattle.vg_pages.specs.Memory.{Memory, fresh_memory}
use Rattle.vg_resource.specs.declared.resource.Resource.{Resource}
use Rattle.vg_cursor.specs.declared.cursor.Cursor.{Cursor}
use Rattle.vg_cursor.specs.Cursor.{unset}
use Rattle.vg_scanout.specs.declared.scanout.Binding.{Binding}
use Rattle.vg_scanout.specs.Scanout.{Screen}
use Rattle.vg_client_holds.specs.declared.setup.Setup.{Setup}
use Rattle.vg_blob.specs.declared.blobs.Blob.{Blob}
use Rattle.vg_blob.specs.Blobs.{IsHeld, blob_at}
use Rattle.vg_blob.specs.Uuids.{UuidState}
use Rattle.vg_context.specs.Contexts.{Context}
use Rattle.vg_formats.specs.Pixels.{is_inside}
use Rattle.vg_backing.specs.Backing.{AreHeld}
use Rattle.vg_resource.specs.Resource.{resource_at}
use Rattle.vg_scanout.specs.Scanout.{ScanoutState}
use Rattle.vg_client_holds.specs.Setup.{IsSetup}
use Rattle.vg_plugs.specs.Plugs.{PlugState, with_displays}
use Rattle.vg_share.specs.Share.{ShareState, SharesPages}

-- The display: its setup, which no step changes, how many entries there are so far, and the states of its parts.
pub record State : Type 0 where
  pub setup : Setup
  pub entries : ℕ
  pub memory : Memory
  pub resources : List (ℕ × Resource)
  pub backings : List (ℕ × List MemEntry)
  pub blobs : List (ℕ × Blob)
  pub contexts : List (ℕ × Context)
  pub uuids : UuidState
  pub cursors : List Cursor
  pub scanouts : ScanoutState
  pub share : ShareState
  pub plugs : PlugState

-- The display before the first entry.
abbrev pub start : Setup → State
start setup = record {
  setup = setup;
  entries = 0;
  memory = fresh_memory setup.pages;
  resources = [];
  backings = [];
  blobs = [];
  contexts = [];
  uuids = record { numbers = []; given = 0 };
  cursors = replicate (length setup.displays) unset;
  scanouts = record { screens = replicate (length setup.displays) None; frames = [] };
  share = record { buffers = []; reserved = 0; exports = []; leases = replicate (length setup.displays) None; clients = [] };
  plugs = with_displays setup.displays;
}

-- The display with one entry more.
abbrev pub counted : State → State
counted state = record state { entries = state.entries + 1 }

-- There is a blob of this id; there is a resource of this id, a 2D one or a blob.
abbrev pub is_blob : State → ℕ → Bool
is_blob state id = is_some (blob_at id state.blobs)

abbrev pub has_resource : State → ℕ → Bool
has_resource state id = is_blob state id || is_some (resource_at id state.resources)

-- A binding to a 2D resource shows a rectangle of it.
pub record ShowsResource (binding : Binding) (resource : Resource) : Type 0 where
  pub within : is_inside binding.rect resource.width resource.height ≡ true
  pub some_width : 0 < binding.rect.width
  pub some_height : 0 < binding.rect.height
  pub format : binding.format ≡ resource.format
  pub stride : binding.stride ≡ 4 * resource.width
  pub offset : binding.offset ≡ 0

-- A binding to a blob shows a rectangle of pixels that stand in it, row by row, a stride apart.
pub record ShowsBlob (binding : Binding) (blob : Blob) : Type 0 where
  pub within : is_inside binding.rect binding.width binding.height ≡ true
  pub some_width : 0 < binding.rect.width
  pub some_height : 0 < binding.rect.height
  pub row : 4 * binding.width ≤ binding.stride
  pub last : binding.offset + binding.stride * (binding.height - 1) + 4 * binding.width ≤ blob.size

abbrev pub ShowsSome : Binding → Option Resource → Type 0
ShowsSome binding (Some resource) = ShowsResource binding resource
ShowsSome binding None = ⊥

abbrev pub ShowsEither : Binding → Option Blob → Option Resource → Type 0
ShowsEither binding (Some blob) found = ShowsBlob binding blob
ShowsEither binding None found = ShowsSome binding found

-- A screen shows a resource that there is.
abbrev pub IsShowing : List (ℕ × Blob) → List (ℕ × Resource) → Option Screen → Type 0
IsShowing blobs resources (Some screen) =
    ShowsEither screen.binding (blob_at screen.binding.resource blobs) (resource_at screen.binding.resource resources)
IsShowing blobs resources None = Unit {0}

-- What a display keeps.
pub record IsConsistent (state : State) : Type 0 where
  pub setup : IsSetup state.setup
  pub pages : length state.memory.taken ≡ state.setup.pages
  pub backings : All (λ entry. AreHeld state.memory entry.1) state.backings
  pub blobs : All (IsHeld state.memory) state.blobs
  pub screens : length state.scanouts.screens ≡ length state.setup.displays
  pub showing : All (IsShowing state.blobs state.resources) state.scanouts.screens
  pub leases : length state.share.leases ≡ length state.setup.displays
  pub share : SharesPages state.memory state.share
  pub reserved : state.share.reserved ≤ state.entries
  pub exports : length state.share.exports ≤ state.entries
  pub given : state.uuids.given ≤ state.entries
  pub cursors : length state.cursors ≡ length state.setup.displays
  pub plugs : length state.plugs.modes ≡ length state.setup.displays
