-- Whose bytes the screens, images and frames of a display show, at each moment of a history.
use Rattle.std.specs.Prelude.{◌≡◌, ◌≢◌, ◌⊎◌, ◌≤◌, ◌+◌, ℕ, ◌||◌, Bool, true, false, List, [], ◌∷◌, drop, Option, Some, None, slice_get, ℤ}
use Rattle.vg_refusals.specs.Refusals.{refusal_of}
use Rattle.vg_scanout.specs.Scanout.{Screen}
use Rattle.vg_share.specs.declared.share.Buffer.{Buffer}
use Rattle.vg_share.specs.Share.{ShareState, buffer_at, is_given, is_holder, is_leased}
use Rattle.vg_wire.specs.Header.{header_of}
use Rattle.vg_wire_ext.specs.Commands.{command_of}
use Rattle.vg_wire_ext.specs.declared.command.Command.{Command}
use Rattle.vg_wire_ext.specs.declared.command.Command.TheVariants.{UpdateCursor}
use Rattle.vg_client_holds.specs.declared.setup.Setup.{Setup}
use Rattle.vg_history.specs.declared.entry.Entry.TheVariants as entries
use Rattle.vg_device.specs.declared.request.Request.{Request}
use Rattle.vg_device.specs.declared.request.Reply.{Reply}
use Rattle.vg_device.specs.Copies.{IsRun}
use Rattle.vg_device.specs.State.{State, counted}
use Rattle.vg_device.specs.Step.{cursor_refusals, request_refusals}
use Rattle.vg_machine.specs.Entries.{Entry}
use Rattle.vg_painted.specs.Inks.{From, Opaque, Tag, Zero}
use Rattle.vg_origin.specs.Origin.{AreBacked, IsFetch, state_at}

-- The client holds the buffer, or takes it down.
abbrev pub keeps_buffer : ℕ → Option Buffer → Bool
keeps_buffer client (Some buffer) = is_holder client buffer || is_given client buffer.taker
keeps_buffer client None = false

-- The scanout is leased to a client that holds the key's buffer or takes it down.
pub record IsFair (share : ShareState) (scanout key : ℕ) : Type 0 where
  pub client : ℕ
  pub leased : is_leased client scanout share ≡ true
  pub keeps : keeps_buffer client (buffer_at key share) ≡ true

-- The scanout is bound to the resource.
pub record IsBoundTo (state : State) (scanout key : ℕ) : Type 0 where
  pub screen : Screen
  pub there : slice_get state.scanouts.screens scanout ≡ Some (Some screen)
  pub resource : screen.binding.resource ≡ key

-- A command that shows the resource on the scanout's cursor, and isn't refused.
pub record PointsTo (state : State) (command : Command) (scanout key : ℕ) : Type 0 where
  pub x : ℤ
  pub y : ℤ
  pub hot_x : ℕ
  pub hot_y : ℕ
  pub is : command ≡ UpdateCursor scanout x y key hot_x hot_y
  pub some : key ≢ 0
  pub accepted : refusal_of (cursor_refusals state scanout key hot_x hot_y) ≡ None

-- An entry that is such a command.
pub record Updates (state : State) (entry : Entry) (scanout key : ℕ) : Type 0 where
  pub client : ℕ
  pub call : ℕ
  pub request : Request
  pub reply : Reply
  pub is : entry ≡ entries.Command client call request reply
  pub run : IsRun request.shape
  pub let_in : refusal_of (request_refusals (counted state) request.queue request.bytes) ≡ None
  pub command : Command
  pub reads : command_of (header_of request.bytes).kind (drop 24 request.bytes) ≡ Some command
  pub points : PointsTo (counted state) command scanout key

-- At a moment each scanout that is bound is leased to a client that has the resource's buffer, and so is each whose cursor is updated.
abbrev pub BindingsAreFair : Setup → List Entry → ℕ → Type 0
BindingsAreFair setup H i = (scanout key : ℕ) → IsBoundTo (state_at setup H i) scanout key → IsFair (state_at setup H i).share scanout key

abbrev pub UpdatesAreFair : Setup → List Entry → ℕ → Type 0
UpdatesAreFair setup H i =
    (entry : Entry) → slice_get H i ≡ Some entry → (scanout key : ℕ) → Updates (state_at setup H i) entry scanout key → IsFair (state_at setup H i).share scanout key

-- What is asked of a history, at each moment: that all that is attached to a resource lies in pages of the buffer with its number, and that
-- a scanout shows resources of a client that has it, and their buffers.
pub record AreFair (setup : Setup) (H : List Entry) : Type 0 where
  pub backed : (i : ℕ) → AreBacked setup H i
  pub bindings : (i : ℕ) → BindingsAreFair setup H i
  pub updates : (i : ℕ) → UpdatesAreFair setup H i

-- Entry number `show` came as the scanout was bound to the resource, or updated its cursor with it; the scanout was leased then to a client
-- that had the resource's buffer, and is still at moment i.
pub record IsShow (setup : Setup) (H : List Entry) (scanout key show i : ℕ) : Type 0 where
  pub before : ℕ
  pub number : show ≡ before + 1
  pub by : IsBoundTo (state_at setup H before) scanout key ⊎ ((entry : Entry) × (slice_get H before ≡ Some entry) × Updates (state_at setup H before) entry scanout key)
  pub fair : IsFair (state_at setup H before).share scanout key
  pub still : is_leased fair.client scanout (state_at setup H i).share ≡ true

-- The tag of a byte that a scanout shows at a moment says that it was cleared, that it is opaque, or that it was copied from a buffer, and
-- shown from the resource with the buffer's number.
abbrev pub IsShown : Setup → List Entry → ℕ → ℕ → Tag → Type 0
IsShown setup H scanout i Zero = Unit {0}
IsShown setup H scanout i Opaque = Unit {0}
IsShown setup H scanout i (From store page fetch show) = (fetch ≤ show) × (show ≤ i) × (key : ℕ) × IsFetch setup H key store page fetch × IsShow setup H scanout key show i

-- So of all tags of a frame's byte.
abbrev pub AreShown : Setup → List Entry → ℕ → ℕ → List Tag → Type 0
AreShown setup H scanout i [] = Unit {0}
AreShown setup H scanout i (tag ∷ more) = IsShown setup H scanout i tag × AreShown setup H scanout i more
