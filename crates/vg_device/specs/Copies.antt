-- The transfers that copy something (VIRTIO 1.2, 5.7.6.8, TRANSFER_TO_HOST_2D).
use Rattle.std.specs.Prelude.{◌≡◌, ℕ, ◌&&◌, Bool, true, false, not, is_none, if◌then◌else◌, ◌==◌, List, length, drop, Option, Some, None}
use Rattle.vg_formats.specs.declared.rect.Rect.{Rect}
use Rattle.vg_formats.specs.Pixels.{is_empty}
use Rattle.vg_refusals.specs.Refusals.{refusal_of}
use Rattle.vg_resource.specs.declared.resource.Resource.{Resource}
use Rattle.vg_resource.specs.Resource.{IsWhole, resource_at, with_pixels}
use Rattle.vg_blob.specs.Blobs.{blob_at}
use Rattle.vg_transfer.specs.Backings.{transfer_refusals}
use Rattle.vg_chain.specs.declared.shape.Shape.{Shape}
use Rattle.vg_chain.specs.declared.shape.Shape.TheVariants.{Bad}
use Rattle.vg_wire.specs.declared.two_d.Command2d.{Command2d}
use Rattle.vg_wire.specs.declared.two_d.Command2d.TheVariants.{Transfer}
use Rattle.vg_wire.specs.Header.{header_of}
use Rattle.vg_wire_ext.specs.declared.command.Command.{Command}
use Rattle.vg_wire_ext.specs.declared.command.Command.TheVariants.{TwoD}
use Rattle.vg_wire_ext.specs.Commands.{command_of}
use Rattle.vg_device.specs.declared.copies.Copy.{Copy}
use Rattle.vg_device.specs.declared.request.Request.{Request}
use Rattle.vg_device.specs.Receive.{receive_refusal}
use Rattle.vg_device.specs.State.{State, counted, is_blob}
use Rattle.vg_device.specs.Step.{request_refusals}

-- A transfer copies something where it is to a 2D resource, isn't refused, and its rectangle isn't empty.
abbrev pub copies_2d : State → Rect → ℕ → ℕ → Bool
copies_2d state rect offset id =
    not (is_empty rect) && (not (is_blob state id) && is_none (receive_refusal id rect offset state.backings (resource_at id state.resources)))

abbrev pub copies_by_2d : State → Command2d → Bool
copies_by_2d state (Transfer rect offset id) = copies_2d state rect offset id
copies_by_2d state _ = false

-- No other command does.
abbrev pub copies_by : State → Option Command → Bool
copies_by state (Some (TwoD command)) = copies_by_2d state command
copies_by state _ = false

-- Whether a request that its bytes say does, and whether one of this shape does.
abbrev pub copies_plain : State → Request → Bool
copies_plain state request =
    is_none (refusal_of (request_refusals state request.queue request.bytes)) && copies_by state (command_of (header_of request.bytes).kind (drop 24 request.bytes))

abbrev pub copies_shaped : Shape → State → Request → Bool
copies_shaped (Bad fault) state request = false
copies_shaped _ state request = copies_plain state request

abbrev pub copies : State → Request → Bool
copies state request = copies_shaped request.shape state request

-- A request of this shape is run.
abbrev pub IsRun : Shape → Type 0
IsRun (Bad fault) = ⊥
IsRun _ = Unit {0}

-- The transfer to this resource, of this region, isn't refused, and copies something.
pub record IsAccepted (state : State) (copy : Copy) : Type 0 where
  pub some : is_empty copy.region.rect ≡ false
  pub no_blob : blob_at copy.resource state.blobs ≡ None
  pub found : Resource
  pub there : resource_at copy.resource state.resources ≡ Some found
  pub whole : IsWhole found
  pub width : found.width ≡ copy.region.width
  pub height : found.height ≡ copy.region.height
  pub accepted : refusal_of (transfer_refusals true copy.resource copy.region.rect copy.region.offset copy.region.width copy.region.height state.backings) ≡ None

-- The request is that transfer.
pub record AsksFor (state : State) (request : Request) (copy : Copy) : Type 0 where
  pub run : IsRun request.shape
  pub let_in : refusal_of (request_refusals state request.queue request.bytes) ≡ None
  pub reads : command_of (header_of request.bytes).kind (drop 24 request.bytes) ≡ Some (TwoD (Transfer copy.region.rect copy.region.offset copy.resource))

-- There is a resource, and its pixels have so many bytes.
abbrev pub has_as_many : ℕ → Option Resource → Bool
has_as_many count (Some resource) = length resource.pixels == count
has_as_many count None = false

-- The device after these pixels came back to the resource that was found; after as many as it has.
abbrev pub with_brought : ℕ → List ℕ → Option Resource → State → State
with_brought id pixels (Some resource) state =
    if length resource.pixels == length pixels then record state { resources = with_pixels id resource pixels state.resources } else state
with_brought id pixels None state = state

-- The device with one entry more, by which these pixels came back to a resource.
abbrev pub brought_back : ℕ → List ℕ → State → State
brought_back id pixels state = with_brought id pixels (resource_at id state.resources) (counted state)
