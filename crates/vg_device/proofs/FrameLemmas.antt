-- Each frame that a command makes is of its scanout's screen and cursor.
use Rattle.std.proofs.Common.{◌≡◌, ℕ, ◌==◌, Bool, true, false, cond, List, [], Option, Some, None, refl, sym, ◌∙◌}
use Rattle.std.specs.Ordering.{nat_cmp}
use Rattle.std.specs.BTreeMap.{insert_entry}
use Rattle.std.proofs.lemmas.List.{append-nil}
use Rattle.vg_cursor.specs.declared.cursor.Cursor.{Cursor}
use Rattle.vg_cursor.specs.Cursor.{changed, placed_at}
use Rattle.vg_formats.specs.declared.rect.Rect.{Rect}
use Rattle.vg_formats.specs.Formats.{format_of}
use Rattle.vg_resource.specs.declared.resource.Resource.{Resource}
use Rattle.vg_refusals.specs.Refusals.{refusal_of}
use Rattle.vg_formats.specs.declared.format.Format.{Format}
use Rattle.vg_resource.specs.Resource.{resource_at, with_blank}
use Rattle.vg_blob.specs.Blobs.{with_blob}
use Rattle.vg_blob.specs.Uuids.{assign_refusals, assigned, number_for, uuid_bytes}
use Rattle.vg_context.specs.Contexts as contexts
use Rattle.vg_context.specs.Contexts.{attached, create_refusals, created, destroy_refusals, destroyed, detach_refusals, submit_refusals}
use Rattle.vg_transfer.specs.Backings.{detached}
use Rattle.vg_scanout.specs.FrameOf.{MakesFrames}
use Rattle.vg_scanout.specs.Touched.{MakesTouched}
use Rattle.vg_scanout.specs.Scanout.{ScanoutState, flushed, snapped, unbound}
use Rattle.vg_wire.specs.declared.two_d.Command2d.{Command2d}
use Rattle.vg_wire.specs.declared.two_d.Command2d.TheVariants.{DisplayInfo, Create2d, Unref, SetScanout, Flush, Transfer, Attach, Detach}
use Rattle.vg_wire_ext.specs.declared.command.Command.{Command}
use Rattle.vg_wire_ext.specs.declared.command.Command.TheVariants.{TwoD, CapsetInfo, Capset, Edid, AssignUuid, CreateBlob, SetScanoutBlob, CtxCreate, CtxDestroy, CtxAttach, CtxDetach, Submit, UpdateCursor, MoveCursor}
use Rattle.vg_wire_ext.specs.declared.response.Response.{Response}
use Rattle.vg_wire_ext.specs.declared.response.Response.TheVariants as responses
use Rattle.vg_device.specs.declared.blobs.Layout.{Layout}
use Rattle.vg_device.specs.Answered.{answered_by, answered_with}
use Rattle.vg_device.specs.BlobStep.{create_blob_refusals, set_scanout_blob_refusals, with_scanout_blob, with_shown_blob}
use Rattle.vg_device.specs.ContextStep.{ctx_attach_refusals}
use Rattle.vg_device.specs.State.{State, has_resource, is_blob}
use Rattle.vg_plugs.specs.Plugs.{mode_at}
use Rattle.vg_device.specs.Step.{attach_2d_refusals, block_of, command_step, create_2d_refusals, cursor_change, cursor_refusals, detach_2d_refusals, edid_refusals, flush_refusals, flushed_by, move_refusals, set_scanout_refusals, surface_of, transfer_2d_step, two_d_step, unref_refusals, unreferenced, with_cursor, with_scanout, with_shown}
use Rattle.vg_device.specs.Receive.{receive_refusal, with_received}

-- what vg_scanout's law says of these scanouts
pub record MakeEach (state : ScanoutState) : Type 0 where
  pub by_flush : (entry id : ℕ) (rect : Rect) (surface : List ℕ) (cursors : List Cursor) → MakesFrames entry cursors state (flushed entry id rect surface cursors state)
  pub by_snap : (entry scanout : ℕ) (cursors : List Cursor) → MakesFrames entry cursors state (snapped entry cursors scanout state)

-- the frames that were made on the way to this display
Makes : State → State → Type 0
Makes old new = MakesFrames old.entries new.cursors old.scanouts new.scanouts

none-made : (old new : State) → new.scanouts.frames ≡ old.scanouts.frames → Makes old new
unfolding Makes
none-made old new same = ([], same ∙ sym (append-nil old.scanouts.frames), λ k frame at. cc)

-- those on the way to what a command did
MadeBy : State → State × Response → Type 0
MadeBy old done = Makes old done.0

made-answered : (refusal : Option ℕ) (state next : State) (response : Response) → Makes state next → MadeBy state (answered_with refusal state next response)
unfolding MadeBy
made-answered (Some code) state next response made = none-made state state refl
made-answered None state next response made = made

made-apart : (refusal : Option ℕ) (state next : State) (response : Response) → next.scanouts.frames ≡ state.scanouts.frames → MadeBy state (answered_with refusal state next response)
made-apart refusal state next response same = made-answered refusal state next response (none-made state next same)

made-none : (state : State) (response : Response) → MadeBy state (state, response)
unfolding MadeBy
made-none state response = none-made state state refl

made-shown : (state : State) (rect : Rect) (scanout id : ℕ) (found : Option Resource) → Makes state (with_shown state rect scanout id found)
made-shown state rect scanout id (Some resource) = none-made state _ refl
made-shown state rect scanout id None = none-made state state refl

made-either : (state first second : State) (b : Bool) → Makes state first → Makes state second → Makes state (cond b first second)
made-either state first second true one other = one
made-either state first second false one other = other

made-flush : (state : State) → MakeEach state.scanouts → (rect : Rect) (id : ℕ) → Makes state (record state { scanouts = flushed_by state rect id })
unfolding Makes
made-flush state law rect id = law.by_flush state.entries id rect (surface_of state id) state.cursors

made-transfer : (state : State) (rect : Rect) (offset id : ℕ) (b : Bool) → MadeBy state (cond b (state, responses.Nodata) (transfer_2d_step state rect offset id))
made-transfer state rect offset id true = made-none state responses.Nodata
made-transfer state rect offset id false =
    made-apart (receive_refusal id rect offset state.backings (resource_at id state.resources)) state
    (record state { resources = with_received state.memory id rect offset state.backings (resource_at id state.resources) state.resources }) responses.Nodata refl

made-shown-blob : (state : State) (rect : Rect) (scanout id : ℕ) (layout : Layout) (format : Option Format) → Makes state (with_shown_blob state rect scanout id layout format)
made-shown-blob state rect scanout id layout (Some format) = none-made state _ refl
made-shown-blob state rect scanout id layout None = none-made state state refl

made-2d : (state : State) → MakeEach state.scanouts → (command : Command2d) → MadeBy state (two_d_step state command)
made-2d state law DisplayInfo = made-none state _
made-2d state law (Create2d resource format width height) =
    made-apart (refusal_of (create_2d_refusals state resource format width height)) state (record state { resources = with_blank resource width height (format_of format) state.resources }) responses.Nodata refl
made-2d state law (Unref resource) = made-apart (refusal_of (unref_refusals state resource)) state (unreferenced state resource) responses.Nodata refl
made-2d state law (SetScanout rect scanout resource) =
    made-answered (refusal_of (set_scanout_refusals state rect scanout resource)) state (with_scanout state rect scanout resource) responses.Nodata
    (made-either state (record state { scanouts = unbound scanout state.scanouts }) (with_shown state rect scanout resource (resource_at resource state.resources)) (resource == 0)
    (none-made state _ refl) (made-shown state rect scanout resource (resource_at resource state.resources)))
made-2d state law (Flush rect resource) =
    made-answered (refusal_of (flush_refusals state rect resource)) state (record state { scanouts = flushed_by state rect resource }) responses.Nodata (made-flush state law rect resource)
made-2d state law (Transfer rect offset resource) = made-transfer state rect offset resource (is_blob state resource)
made-2d state law (Attach resource entries) =
    made-apart (refusal_of (attach_2d_refusals state resource entries)) state
    (record state { backings = insert_entry nat_cmp state.backings resource entries }) responses.Nodata refl
made-2d state law (Detach resource) =
    made-apart (refusal_of (detach_2d_refusals state resource)) state
    (record state { backings = detached resource state.backings }) responses.Nodata refl

made-cursor : (state : State) → MakeEach state.scanouts → (scanout : ℕ) (change : Cursor → Cursor) → Makes state (with_cursor state scanout change)
unfolding Makes
made-cursor state law scanout change = law.by_snap state.entries scanout (changed change scanout state.cursors)

made : (state : State) → MakeEach state.scanouts → (context : ℕ) (command : Command) → MadeBy state (command_step state context command)
made state law context (TwoD command) = made-2d state law command
made state law context (CapsetInfo index) = made-none state _
made state law context (Capset id version) = made-none state _
made state law context (Edid scanout) =
    made-apart (refusal_of (edid_refusals state.plugs scanout)) state state (responses.Edid (block_of scanout (mode_at scanout state.plugs.modes))) refl
made state law context (AssignUuid resource) =
    made-apart (refusal_of (assign_refusals (has_resource state resource))) state (record state { uuids = assigned resource state.uuids }) (responses.Uuid (uuid_bytes (number_for resource state.uuids))) refl
made state law context (CreateBlob resource mem flags blob_id size entries) =
    made-apart (refusal_of (create_blob_refusals state resource mem flags size entries)) state (record state { blobs = with_blob resource size entries state.blobs }) responses.Nodata refl
made state law context (SetScanoutBlob rect scanout resource width height format stride offset) =
    let layout : Layout = record { width = width; height = height; format = format; stride = stride; offset = offset } in
    made-answered (refusal_of (set_scanout_blob_refusals state rect scanout resource layout)) state (with_scanout_blob state rect scanout resource layout) responses.Nodata
    (made-either state (record state { scanouts = unbound scanout state.scanouts }) (with_shown_blob state rect scanout resource layout (format_of format)) (resource == 0)
    (none-made state _ refl) (made-shown-blob state rect scanout resource layout (format_of format)))
made state law context (CtxCreate nlen context_init name) =
    made-apart (refusal_of (create_refusals context nlen context_init state.contexts)) state (record state { contexts = created context context_init state.contexts }) responses.Nodata refl
made state law context CtxDestroy =
    made-apart (refusal_of (destroy_refusals context state.contexts)) state (record state { contexts = destroyed context state.contexts }) responses.Nodata refl
made state law context (CtxAttach resource) =
    made-apart (refusal_of (ctx_attach_refusals state context resource)) state (record state { contexts = attached context resource state.contexts }) responses.Nodata refl
made state law context (CtxDetach resource) =
    made-apart (refusal_of (detach_refusals context resource state.contexts)) state (record state { contexts = contexts.detached context resource state.contexts }) responses.Nodata refl
made state law context (Submit stream) = made-apart (refusal_of (submit_refusals context stream state.contexts)) state state responses.Nodata refl
made state law context (UpdateCursor scanout x y resource hot_x hot_y) =
    made-answered (refusal_of (cursor_refusals state scanout resource hot_x hot_y)) state (with_cursor state scanout (cursor_change state x y resource hot_x hot_y)) responses.Nodata
    (made-cursor state law scanout (cursor_change state x y resource hot_x hot_y))
made state law context (MoveCursor scanout x y) =
    made-answered (refusal_of (move_refusals state scanout)) state (with_cursor state scanout (placed_at x y)) responses.Nodata (made-cursor state law scanout (placed_at x y))

pub makes-frames : (state : State) → MakeEach state.scanouts → (context : ℕ) (command : Command)
    → MakesFrames state.entries (command_step state context command).0.cursors state.scanouts (command_step state context command).0.scanouts
unfolding Makes MadeBy
makes-frames state law context command = made state law context command

-- where a flush isn't refused, what it makes is the next state
touched-answered : (refusal : Option ℕ) (state next : State) (id : ℕ) (rect : Rect) → MakesTouched id rect state.scanouts next.scanouts
    → (answered_by refusal state next).1 ≡ responses.Nodata → MakesTouched id rect state.scanouts (answered_by refusal state next).0.scanouts
touched-answered (Some code) state next id rect made done = cc
touched-answered None state next id rect made done = made

pub makes-touched : (state : State)
    → ((entry id : ℕ) (rect : Rect) (surface : List ℕ) (cursors : List Cursor) (scanouts : ScanoutState) → MakesTouched id rect scanouts (flushed entry id rect surface cursors scanouts))
    → (rect : Rect) (id : ℕ) → (two_d_step state (Flush rect id)).1 ≡ responses.Nodata → MakesTouched id rect state.scanouts (two_d_step state (Flush rect id)).0.scanouts
makes-touched state law rect id done =
    touched-answered (refusal_of (flush_refusals state rect id)) state (record state { scanouts = flushed_by state rect id }) id rect
    (law state.entries id rect (surface_of state id) state.cursors state.scanouts) done
