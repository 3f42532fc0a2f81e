use Rattle.std.specs.Prelude.{◌≡◌, ℕ, ℤ, ◌*◌, ◌==◌, ◌&&◌, ◌||◌, not, true, Bool, is_none, is_some, List, [], ◌∷◌, ◌++◌, length, take, drop, nat_le, nat_lt, if◌then◌else◌, Option, Some, None, bit_and}
use Rattle.vg_wire.specs.declared.request.Queue.{Queue}
use Rattle.vg_wire_ext.specs.declared.command.Command.{Command}
use Rattle.vg_wire_ext.specs.declared.command.Command.TheVariants.{TwoD, CapsetInfo, Capset, Edid, AssignUuid, CreateBlob, SetScanoutBlob, CtxCreate, CtxDestroy, CtxAttach, CtxDetach, Submit, UpdateCursor, MoveCursor}
use Rattle.vg_wire.specs.declared.two_d.Command2d.{Command2d}
use Rattle.vg_wire.specs.declared.two_d.Command2d.TheVariants.{DisplayInfo, Create2d, Unref, SetScanout, Flush, Transfer, Attach, Detach}
use Rattle.vg_wire.specs.declared.header.Header.{Header}
use Rattle.vg_wire_ext.specs.declared.response.Response.{Response}
use Rattle.vg_wire_ext.specs.declared.response.Response.TheVariants as responses
use Rattle.vg_wire.specs.Header.{header_of}
use Rattle.vg_wire.specs.Modes.{Mode, trimmed}
use Rattle.vg_edid.specs.Edid.{edid_bytes}
use Rattle.vg_plugs.specs.Plugs.{PlugState, mode_at}
use Rattle.vg_wire_ext.specs.Commands.{command_of, is_known}
use Rattle.vg_wire_ext.specs.Request.{is_queue_of}
use Rattle.vg_wire_ext.specs.Response.{response_bytes, response_kind}
use Rattle.std.specs.Ordering.{nat_cmp}
use Rattle.std.specs.BTreeMap.{insert_entry}
use Rattle.vg_formats.specs.declared.rect.Rect.{Rect}
use Rattle.vg_formats.specs.Formats.{format_of}
use Rattle.vg_formats.specs.Pixels.{is_empty, is_inside}
use Rattle.vg_formats.specs.declared.entry.MemEntry.{MemEntry}
use Rattle.vg_resource.specs.declared.resource.Resource.{Resource}
use Rattle.vg_scanout.specs.declared.scanout.Binding.{Binding}
use Rattle.vg_wire.specs.Kinds.{ERR_INVALID_CONTEXT_ID, ERR_INVALID_PARAMETER, ERR_INVALID_RESOURCE_ID, ERR_INVALID_SCANOUT_ID, ERR_OUT_OF_MEMORY, ERR_UNSPEC}
use Rattle.vg_refusals.specs.Refusals.{refusal_of}
use Rattle.vg_transfer.specs.Backings.{attach_refusals, detach_refusals, detached}
use Rattle.vg_device.specs.Receive.{receive_refusal, with_received}
use Rattle.vg_resource.specs.Resource.{create_refusals, height_of, resource_at, width_of, with_blank, without}
use Rattle.vg_blob.specs.Blobs as blobs
use Rattle.vg_blob.specs.declared.blobs.Blob.{Blob}
use Rattle.vg_blob.specs.Blobs.{blob_at, blob_bytes}
use Rattle.vg_context.specs.Contexts as contexts
use Rattle.vg_context.specs.Contexts.{is_live}
use Rattle.vg_pages.specs.Memory.{Memory}
use Rattle.vg_config.specs.Features.{CONTEXT_INIT}
use Rattle.vg_cursor.specs.declared.cursor.Cursor.{Cursor}
use Rattle.vg_cursor.specs.Cursor.{changed, hidden_at, placed_at, shown_as}
use Rattle.vg_formats.specs.Shown.{shown_row}
use Rattle.vg_scanout.specs.Scanout.{ScanoutState, are_too_many, bound, flushed, is_past_limit, is_too_large, snapped, unbound, unbound_from}
use Rattle.vg_device.specs.Features.{has_feature, is_usable}
use Rattle.vg_blob.specs.Uuids.{assign_refusals, assigned, forgotten, number_for, uuid_bytes}
use Rattle.vg_client_holds.specs.declared.setup.Setup.{Setup}
use Rattle.vg_device.specs.Answered.{answered_by, answered_with}
use Rattle.vg_device.specs.BlobStep.{create_blob_step, set_scanout_blob_step}
use Rattle.vg_device.specs.ContextStep.{ctx_attach_step, ctx_create_step, ctx_destroy_step, ctx_detach_step, submit_step}
use Rattle.vg_device.specs.State.{State, counted, has_resource, is_blob}

-- The header of a response to a request with FENCE: the fence goes back (VIRTIO 1.2, 5.7.6.7); here ctx_id does too, and the ring
-- index where flags has INFO_RING_IDX.
abbrev pub fenced_header : Header → ℕ → Header
fenced_header request kind = record {
  kind = kind;
  flags = bit_and request.flags 3;
  fence_id = request.fence_id;
  ctx_id = request.ctx_id;
  ring_idx = if bit_and request.flags 2 == 2 then request.ring_idx else 0;
}

-- A response's header: without a whole header or without FENCE all fields behind the kind are 0.
abbrev pub answer_header : List ℕ → ℕ → Header
answer_header bytes kind =
    if nat_le 24 (length bytes) && (bit_and (header_of bytes).flags 1 == 1) then fenced_header (header_of bytes) kind
    else record { kind = kind; flags = 0; fence_id = 0; ctx_id = 0; ring_idx = 0 }

-- RESOURCE_CREATE_2D is refused for the id of a blob; then as `create_refusals` (vg_resource) says.
abbrev pub create_2d_refusals : State → ℕ → ℕ → ℕ → ℕ → List (Bool × ℕ)
create_2d_refusals state resource format width height =
    (is_blob state resource, ERR_INVALID_RESOURCE_ID) ∷ create_refusals resource width height format state.resources

abbrev pub create_step : State → ℕ → ℕ → ℕ → ℕ → State × Response
create_step state resource format width height =
    answered_by (refusal_of (create_2d_refusals state resource format width height)) state
    (record state { resources = with_blank resource width height (format_of format) state.resources })

-- The scanouts of a resource that ends are disabled, it leaves all contexts, and its backing and its UUID end.
abbrev pub unreferenced : State → ℕ → State
unreferenced state resource = record state {
  resources = without resource state.resources;
  backings = detached resource state.backings;
  blobs = blobs.without resource state.blobs;
  contexts = contexts.forgotten resource state.contexts;
  uuids = forgotten resource state.uuids;
  scanouts = unbound_from resource state.scanouts;
}

-- RESOURCE_UNREF is refused for a resource that there isn't.
abbrev pub unref_refusals : State → ℕ → List (Bool × ℕ)
unref_refusals state resource = (not (has_resource state resource), ERR_INVALID_RESOURCE_ID) ∷ []

abbrev pub unref_step : State → ℕ → State × Response
unref_step state resource = answered_by (refusal_of (unref_refusals state resource)) state (unreferenced state resource)

-- How a scanout shows a rectangle of a resource.
abbrev pub binding_of : ℕ → Rect → Resource → Binding
binding_of id rect resource = record {
  resource = id;
  rect = rect;
  width = resource.width;
  height = resource.height;
  format = resource.format;
  stride = 4 * resource.width;
  offset = 0;
}

-- A 2D resource is shown unless there isn't one; the rectangle is empty or lies outside of it; its screen would be too large.
abbrev pub show_refusals : Rect → Option Resource → List (Bool × ℕ)
show_refusals rect found =
    (is_none found, ERR_INVALID_RESOURCE_ID)
    ∷ (is_empty rect || not (is_inside rect (width_of found) (height_of found)), ERR_INVALID_PARAMETER)
    ∷ (is_too_large rect, ERR_OUT_OF_MEMORY)
    ∷ []

-- SET_SCANOUT is refused for a scanout that there isn't; then, of a resource other than 0, for a blob, and as `show_refusals` says.
abbrev pub set_scanout_refusals : State → Rect → ℕ → ℕ → List (Bool × ℕ)
set_scanout_refusals state rect scanout id =
    (nat_le (length state.setup.displays) scanout, ERR_INVALID_SCANOUT_ID)
    ∷ (if id == 0 then [] else (is_blob state id, ERR_INVALID_PARAMETER) ∷ show_refusals rect (resource_at id state.resources))

-- The scanout shows a rectangle of the resource.
abbrev pub with_shown : State → Rect → ℕ → ℕ → Option Resource → State
with_shown state rect scanout id (Some resource) = record state { scanouts = bound scanout (binding_of id rect resource) state.scanouts }
with_shown state rect scanout id None = state

-- Resource 0 disables a scanout.
abbrev pub with_scanout : State → Rect → ℕ → ℕ → State
with_scanout state rect scanout id =
    if id == 0 then record state { scanouts = unbound scanout state.scanouts }
    else with_shown state rect scanout id (resource_at id state.resources)

abbrev pub set_scanout_step : State → Rect → ℕ → ℕ → State × Response
set_scanout_step state rect scanout id =
    answered_by (refusal_of (set_scanout_refusals state rect scanout id)) state (with_scanout state rect scanout id)

abbrev pub pixels_of : Option Resource → List ℕ
pixels_of (Some resource) = resource.pixels
pixels_of None = []

-- The bytes that a resource shows: a 2D one's pixels, and a blob's bytes as guest memory has them now.
abbrev pub surface_in : Memory → Option Blob → Option Resource → List ℕ
surface_in memory (Some blob) found = blob_bytes memory blob
surface_in memory None found = pixels_of found

abbrev pub surface_of : State → ℕ → List ℕ
surface_of state id = surface_in state.memory (blob_at id state.blobs) (resource_at id state.resources)

-- The scanouts after a rectangle of the resource was flushed. The frames have the number of the entry that is being made, and the
-- cursors that are shown.
abbrev pub flushed_by : State → Rect → ℕ → ScanoutState
flushed_by state rect id = flushed state.entries id rect (surface_of state id) state.cursors state.scanouts

-- RESOURCE_FLUSH is refused for a resource that there isn't; of a 2D one, a rectangle outside of it; too many bytes of frames with
-- the new ones.
abbrev pub flush_refusals : State → Rect → ℕ → List (Bool × ℕ)
flush_refusals state rect id =
    let found = resource_at id state.resources in
    (not (has_resource state id), ERR_INVALID_RESOURCE_ID)
    ∷ (not (is_blob state id) && not (is_inside rect (width_of found) (height_of found)), ERR_INVALID_PARAMETER)
    ∷ (are_too_many (flushed_by state rect id).frames, ERR_OUT_OF_MEMORY)
    ∷ []

abbrev pub flush_step : State → Rect → ℕ → State × Response
flush_step state rect id =
    answered_by (refusal_of (flush_refusals state rect id)) state (record state { scanouts = flushed_by state rect id })

-- TRANSFER_TO_HOST_2D does nothing to a blob, which has no pixels beside guest memory; of a 2D resource it is refused as
-- `transfer_refusals` (vg_transfer) says.
abbrev pub transfer_2d_step : State → Rect → ℕ → ℕ → State × Response
transfer_2d_step state rect offset id =
    let found = resource_at id state.resources in
    answered_by (receive_refusal id rect offset state.backings found) state
    (record state { resources = with_received state.memory id rect offset state.backings found state.resources })

abbrev pub transfer_step : State → Rect → ℕ → ℕ → State × Response
transfer_step state rect offset id = if is_blob state id then (state, responses.Nodata) else transfer_2d_step state rect offset id

-- RESOURCE_ATTACH_BACKING is refused for a blob; then as `attach_refusals` (vg_transfer) says, and RESOURCE_DETACH_BACKING as
-- `detach_refusals`.
abbrev pub attach_2d_refusals : State → ℕ → List MemEntry → List (Bool × ℕ)
attach_2d_refusals state id entries =
    (is_blob state id, ERR_UNSPEC) ∷ attach_refusals (is_some (resource_at id state.resources)) state.memory id entries state.backings

abbrev pub attach_step : State → ℕ → List MemEntry → State × Response
attach_step state id entries =
    answered_by (refusal_of (attach_2d_refusals state id entries)) state
    (record state { backings = insert_entry nat_cmp state.backings id entries })

abbrev pub detach_2d_refusals : State → ℕ → List (Bool × ℕ)
detach_2d_refusals state id = (is_blob state id, ERR_UNSPEC) ∷ detach_refusals (is_some (resource_at id state.resources)) id state.backings

abbrev pub detach_step : State → ℕ → State × Response
detach_step state id =
    answered_by (refusal_of (detach_2d_refusals state id)) state (record state { backings = detached id state.backings })

-- What a 2D command does and answers (VIRTIO 1.2, 5.7.6.8). Which error is answered, and in which order they are looked for, is
-- our own; the standard gives the codes.
abbrev pub two_d_step : State → Command2d → State × Response
two_d_step state DisplayInfo = (state, responses.DisplayInfo (trimmed state.plugs.modes))
two_d_step state (Create2d resource format width height) = create_step state resource format width height
two_d_step state (Unref resource) = unref_step state resource
two_d_step state (SetScanout rect scanout resource) = set_scanout_step state rect scanout resource
two_d_step state (Flush rect resource) = flush_step state rect resource
two_d_step state (Transfer rect offset resource) = transfer_step state rect offset resource
two_d_step state (Attach resource entries) = attach_step state resource entries
two_d_step state (Detach resource) = detach_step state resource

-- GET_CAPSET_INFO and GET_CAPSET are refused, since there are no capsets (VIRTIO 1.2, 5.7.4, num_capsets).
abbrev pub capset_refusals : List (Bool × ℕ)
capset_refusals = (true, ERR_INVALID_PARAMETER) ∷ []

abbrev pub capset_step : State → State × Response
capset_step state = answered_by (refusal_of capset_refusals) state state

-- GET_EDID is refused for a scanout that there isn't, and for one at which nothing is plugged.
abbrev pub edid_refusals : PlugState → ℕ → List (Bool × ℕ)
edid_refusals plugs scanout = (is_none (mode_at scanout plugs.modes), ERR_INVALID_SCANOUT_ID) ∷ []

-- The block of a scanout's display as it is plugged; none where there is no display.
abbrev pub block_of : ℕ → Mode → List ℕ
block_of scanout (Some (width, height)) = edid_bytes width height scanout
block_of scanout None = []

abbrev pub edid_step : State → ℕ → State × Response
edid_step state scanout =
    answered_with (refusal_of (edid_refusals state.plugs scanout)) state state
    (responses.Edid (block_of scanout (mode_at scanout state.plugs.modes)))

-- RESOURCE_ASSIGN_UUID is refused as `assign_refusals` (vg_blob) says.
abbrev pub assign_step : State → ℕ → State × Response
assign_step state id =
    answered_with (refusal_of (assign_refusals (has_resource state id))) state
    (record state { uuids = assigned id state.uuids })
    (responses.Uuid (uuid_bytes (number_for id state.uuids)))

-- A resource is an image unless there isn't one; it hasn't 64 rows of 64 pixels, or the hot spot isn't one of these.
abbrev pub image_refusals : Option Resource → ℕ → ℕ → List (Bool × ℕ)
image_refusals found hot_x hot_y =
    (is_none found, ERR_INVALID_RESOURCE_ID)
    ∷ (not (width_of found == 64 && height_of found == 64 && nat_lt hot_x 64 && nat_lt hot_y 64), ERR_INVALID_PARAMETER)
    ∷ []

-- UPDATE_CURSOR is refused for a scanout that there isn't; then, with a resource other than 0, for a blob, and as `image_refusals` say;
-- then for too many bytes of frames with one of the scanout.
abbrev pub cursor_refusals : State → ℕ → ℕ → ℕ → ℕ → List (Bool × ℕ)
cursor_refusals state scanout id hot_x hot_y =
    (nat_le (length state.setup.displays) scanout, ERR_INVALID_SCANOUT_ID)
    ∷ (if id == 0 then [] else (is_blob state id, ERR_INVALID_PARAMETER) ∷ image_refusals (resource_at id state.resources) hot_x hot_y)
    ++ (is_past_limit scanout state.scanouts, ERR_OUT_OF_MEMORY)
    ∷ []

-- A resource's pixels as they are shown now.
abbrev pub image_of : Option Resource → List ℕ
image_of (Some resource) = shown_row resource.format resource.pixels
image_of None = []

-- The scanout's cursor is changed so, and makes a frame where the scanout is bound. The frame has the number of the entry that is being
-- made.
abbrev pub with_cursor : State → ℕ → (Cursor → Cursor) → State
with_cursor state scanout change =
    let cursors = changed change scanout state.cursors in
    record state { cursors = cursors; scanouts = snapped state.entries cursors scanout state.scanouts }

-- UPDATE_CURSOR shows a copy of a resource's pixels, or hides the cursor with resource 0.
abbrev pub cursor_change : State → ℤ → ℤ → ℕ → ℕ → ℕ → Cursor → Cursor
cursor_change state x y id hot_x hot_y =
    if id == 0 then hidden_at x y else shown_as (image_of (resource_at id state.resources)) x y hot_x hot_y

abbrev pub cursor_step : State → ℕ → ℤ → ℤ → ℕ → ℕ → ℕ → State × Response
cursor_step state scanout x y id hot_x hot_y =
    answered_by (refusal_of (cursor_refusals state scanout id hot_x hot_y)) state
    (with_cursor state scanout (cursor_change state x y id hot_x hot_y))

-- MOVE_CURSOR is refused for a scanout that there isn't; for too many bytes of frames with one of the scanout.
abbrev pub move_refusals : State → ℕ → List (Bool × ℕ)
move_refusals state scanout =
    (nat_le (length state.setup.displays) scanout, ERR_INVALID_SCANOUT_ID)
    ∷ (is_past_limit scanout state.scanouts, ERR_OUT_OF_MEMORY)
    ∷ []

abbrev pub move_step : State → ℕ → ℤ → ℤ → State × Response
move_step state scanout x y =
    answered_by (refusal_of (move_refusals state scanout)) state (with_cursor state scanout (placed_at x y))

-- What a command does and answers; `context` is that of its header.
abbrev pub command_step : State → ℕ → Command → State × Response
command_step state context (TwoD command) = two_d_step state command
command_step state context (CapsetInfo index) = capset_step state
command_step state context (Capset id version) = capset_step state
command_step state context (Edid scanout) = edid_step state scanout
command_step state context (AssignUuid resource) = assign_step state resource
command_step state context (CreateBlob resource mem flags blob_id size entries) = create_blob_step state resource mem flags size entries
command_step state context (SetScanoutBlob rect scanout resource width height format stride offset) =
    set_scanout_blob_step state rect scanout resource (record { width = width; height = height; format = format; stride = stride; offset = offset })
command_step state context (CtxCreate nlen context_init name) = ctx_create_step state context nlen context_init
command_step state context CtxDestroy = ctx_destroy_step state context
command_step state context (CtxAttach resource) = ctx_attach_step state context resource
command_step state context (CtxDetach resource) = ctx_detach_step state context resource
command_step state context (Submit stream) = submit_step state context stream
command_step state context (UpdateCursor scanout x y resource hot_x hot_y) = cursor_step state scanout x y resource hot_x hot_y
command_step state context (MoveCursor scanout x y) = move_step state scanout x y

-- What a command that changes something is answered where it isn't refused.
abbrev pub acceptance : State → Command → Response
acceptance state (AssignUuid resource) = responses.Uuid (uuid_bytes (number_for resource state.uuids))
acceptance state _ = responses.Nodata

-- A request names a timeline where contexts have some (VIRTIO 1.2, 5.7.3, CONTEXT_INIT, and 5.7.6.7, FLAG_INFO_RING_IDX 2).
abbrev pub names_timeline : Setup → Header → Bool
names_timeline setup header = has_feature setup.accepted CONTEXT_INIT && (bit_and header.flags 2 == 2)

-- Such a request is refused for a ring index that isn't below 64; a context that there isn't.
abbrev pub timeline_refusals : State → Header → List (Bool × ℕ)
timeline_refusals state header =
    (names_timeline state.setup header && nat_le 64 header.ring_idx, ERR_INVALID_PARAMETER)
    ∷ (names_timeline state.setup header && not (is_live header.ctx_id state.contexts), ERR_INVALID_CONTEXT_ID)
    ∷ []

-- A request is refused, before its command's own refusals, for fewer bytes than a header; a kind that no command has; the queue of
-- other commands; a kind that needs a feature that isn't accepted; fewer bytes than the command's fields; then as
-- `timeline_refusals` says.
abbrev pub request_refusals : State → Queue → List ℕ → List (Bool × ℕ)
request_refusals state queue bytes =
    let kind = (header_of bytes).kind in
    (nat_lt (length bytes) 24, ERR_UNSPEC)
    ∷ (not (is_known kind), ERR_UNSPEC)
    ∷ (not (is_queue_of kind queue), ERR_UNSPEC)
    ∷ (not (is_usable state.setup.accepted kind), ERR_UNSPEC)
    ∷ (is_none (command_of kind (drop 24 bytes)), ERR_UNSPEC)
    ∷ timeline_refusals state (header_of bytes)

-- What the command does and answers; without one there is nothing to be done.
abbrev pub ran : State → ℕ → Option Command → State × Response
ran state context (Some command) = command_step state context command
ran state context None = (state, responses.Error ERR_UNSPEC)

-- The refusal, if there is one, or what the command does and answers.
abbrev pub refused_or_ran : Option ℕ → State → ℕ → Option Command → State × Response
refused_or_ran (Some code) state context command = (state, responses.Error code)
refused_or_ran None state context command = ran state context command

-- What a request does and answers, once it is counted.
abbrev pub answer_of : State → Queue → List ℕ → State × Response
answer_of state queue bytes =
    refused_or_ran (refusal_of (request_refusals state queue bytes)) state (header_of bytes).ctx_id (command_of (header_of bytes).kind (drop 24 bytes))

-- The response's bytes as far as the room holds them.
abbrev pub answered : List ℕ → ℕ → Response → List ℕ
answered bytes room response = take room (response_bytes (answer_header bytes (response_kind response)) response)

-- What a request does, once it is counted, and the response's bytes.
abbrev pub effect_and_bytes : State → Queue → List ℕ → ℕ → State × List ℕ
effect_and_bytes state queue bytes room =
    let done = answer_of state queue bytes in
    (done.0, answered bytes room done.1)

-- One command: the display after it, and the response's bytes.
abbrev pub step : State → Queue → List ℕ → ℕ → State × List ℕ
step state queue bytes room = effect_and_bytes (counted state) queue bytes room

-- An error response, and one that only tells something, has changed nothing: `new` is the display as it was.
abbrev pub Keeps : Response → State → State → Type 0
Keeps responses.Nodata old new = Unit {0}
Keeps (responses.DisplayInfo modes) old new = new ≡ old
Keeps (responses.CapsetInfo id version size) old new = new ≡ old
Keeps (responses.Capset content) old new = new ≡ old
Keeps (responses.Edid block) old new = new ≡ old
Keeps (responses.Uuid bytes) old new = Unit {0}
Keeps (responses.Error code) old new = new ≡ old
