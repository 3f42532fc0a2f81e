-- The frames that an entry makes are of its screens and cursors.
use Rattle.std.proofs.Common.{rules, ◌≡◌, ℕ, zero, suc, ◌+◌, ◌*◌, ◌==◌, Bool, true, false, cond, List, [], ◌∷◌, ◌++◌, append-nil, length, drop, map, slice_get, Option, Some, None, refl, sym, subst, ◌∙◌, arith}
use Rattle.vg_wire_ext.specs.declared.command.Command.{Command}
use Rattle.vg_wire_ext.specs.declared.command.Command.TheVariants.{TwoD, CapsetInfo, Capset, Edid, AssignUuid, CreateBlob, SetScanoutBlob, CtxCreate, CtxDestroy, CtxAttach, CtxDetach, Submit, UpdateCursor, MoveCursor}
use Rattle.vg_wire.specs.declared.request.Queue.{Queue}
use Rattle.vg_wire.specs.Header.{header_of}
use Rattle.vg_wire.specs.declared.two_d.Command2d.{Command2d}
use Rattle.vg_wire.specs.declared.two_d.Command2d.TheVariants.{DisplayInfo, Create2d, Unref, SetScanout, Flush, Transfer, Attach, Detach}
use Rattle.vg_wire_ext.specs.Commands.{command_of}
use Rattle.vg_wire_ext.specs.declared.response.Response.{Response}
use Rattle.vg_wire_ext.specs.declared.response.Response.TheVariants as responses
use Rattle.vg_chain.specs.declared.shape.Shape.{Shape}
use Rattle.vg_chain.specs.declared.shape.Shape.TheVariants.{Plain, Pieces, Indirect, Mixed, Bad}
use Rattle.vg_formats.specs.declared.format.Format.{Format}
use Rattle.vg_formats.specs.declared.rect.Rect.{Rect}
use Rattle.vg_formats.specs.Formats.{format_of}
use Rattle.vg_client_holds.specs.declared.act.Act.{Act}
use Rattle.vg_client_holds.specs.declared.act.Act.TheVariants.{Enter, Reserve, Store, Load, Export, Import, Release, Free, Take, Drop, Await, Denied, Mode, Unplug, Sync, Events, Ack, Leave}
use Rattle.vg_client_holds.specs.declared.act.ActReply.{ActReply}
use Rattle.vg_history.specs.declared.entry.Entry.TheVariants as entries
use Rattle.vg_cursor.specs.declared.cursor.Cursor.{Cursor}
use Rattle.vg_cursor.specs.Blended.{blended}
use Rattle.vg_cursor.specs.Cursor.{cursor_of, placed_at}
use Rattle.vg_resource.specs.declared.resource.Resource.{Resource}
use Rattle.vg_resource.specs.Resource.{resource_at}
use Rattle.vg_scanout.specs.declared.scanout.Frame.{Frame}
use Rattle.vg_scanout.specs.Scanout.{Screen, after_flush, flushed_screen, frame_of, is_flushed, new_frame, new_frames, screen_of}
use Rattle.vg_scanout.proofs.LawLemmas.{flushed-at, chosen-frames}
use Rattle.vg_share.specs.declared.share.ShareRefusal.{ShareRefusal}
use Rattle.vg_share.specs.Share.{drop_refusal, export_refusal, free_refusal, import_refusal, place_refusal, release_refusal, reserve_refusal, take_refusal}
use Rattle.vg_device.specs.ActStep.{effect_of, is_in_use, replied_by, shown_at}
use Rattle.vg_device.specs.Answered.{answered_with}
use Rattle.vg_device.specs.BlobStep.{with_shown_blob}
use Rattle.vg_machine.specs.Entries.{Entry}
use Rattle.vg_machine.specs.Replay.{after}
use Rattle.vg_device.specs.RequestStep.{shaped_step}
use Rattle.vg_device.specs.State.{State, counted, has_resource, is_blob}
use Rattle.vg_device.specs.Step.{answer_of, command_step, cursor_change, cursor_refusals, flush_refusals, flushed_by, move_refusals, ran, refused_or_ran, request_refusals, surface_of, transfer_2d_step, two_d_step, with_cursor, with_shown}
use Rattle.vg_device.specs.declared.blobs.Layout.{Layout}
use Rattle.vg_device.specs.declared.request.Request.{Request}
use Rattle.vg_refusals.specs.Refusals.{refusal_of}

-- A frame is of its scanout's screen and cursor.
pub record IsMade (n : ℕ) (cursors : List Cursor) (screens : List (Option Screen)) (frame : Frame) : Type 0 where
  pub number : frame.entry ≡ n
  pub screen : Screen
  pub there : slice_get screens frame.scanout ≡ Some (Some screen)
  pub width : frame.width ≡ screen.binding.rect.width
  pub height : frame.height ≡ screen.binding.rect.height
  pub pixels : frame.pixels ≡ blended (cursor_of cursors frame.scanout) screen.binding.rect.width screen.pixels

-- The frames are those of before and new ones, each made so.
pub record Makes (n : ℕ) (old new : State) : Type 0 where
  pub more : List Frame
  pub frames : new.scanouts.frames ≡ old.scanouts.frames ++ more
  pub made : (k : ℕ) (frame : Frame) → slice_get more k ≡ Some frame → IsMade n new.cursors new.scanouts.screens frame

-- ---- frames of screens

abbrev AllMade : ℕ → List Cursor → List (Option Screen) → List Frame → Type 0
AllMade n cursors screens more = (k : ℕ) (frame : Frame) → slice_get more k ≡ Some frame → IsMade n cursors screens frame

frame-made : (entry : ℕ) (cursors : List Cursor) (screens : List (Option Screen)) (scanout : ℕ) (screen : Option Screen) → slice_get screens scanout ≡ Some screen → AllMade entry cursors screens (frame_of entry cursors scanout screen)
frame-made entry cursors screens scanout None at k frame there = cc
frame-made entry cursors screens scanout (Some screen) at zero frame there =
    subst (IsMade entry cursors screens) (same there) (record { number = refl; screen = screen; there = at; width = refl; height = refl; pixels = refl })
  where
    same : {x y : Frame} → ◌≡◌ {A = Option Frame} (Some x) (Some y) → x ≡ y
    same eq = cc
frame-made entry cursors screens scanout (Some screen) at (suc k) frame there = cc

in-either : (P : Frame → Type 0) (xs ys : List Frame) → ((k : ℕ) (x : Frame) → slice_get xs k ≡ Some x → P x) → ((k : ℕ) (x : Frame) → slice_get ys k ≡ Some x → P x)
    → (k : ℕ) (x : Frame) → slice_get (xs ++ ys) k ≡ Some x → P x
in-either P [] ys first second k x at = second k x at
in-either P (z ∷ xs) ys first second zero x at = first 0 x at
in-either P (z ∷ xs) ys first second (suc k) x at = in-either P xs ys (λ n. first (suc n)) second k x at

-- those of the screens from number n on, of which the list after the flush is all
frames-from : (entry id : ℕ) (rect : Rect) (surface : List ℕ) (cursors : List Cursor) (all : List (Option Screen)) (n : ℕ) (screens : List (Option Screen))
    → ((k : ℕ) (screen : Option Screen) → slice_get (map (after_flush id rect surface) screens) k ≡ Some screen → slice_get all (n + k) ≡ Some screen)
    → AllMade entry cursors all (new_frames entry id rect surface cursors n screens)
unfolding new_frames
frames-from entry id rect surface cursors all n [] there = λ k frame at. cc
frames-from entry id rect surface cursors all n (screen ∷ screens) there =
    let after = after_flush id rect surface screen in
    let here : slice_get all n ≡ Some after = subst (λ (m : ℕ). slice_get all m ≡ Some after) (omega arith) (there 0 after refl) in
    in-either (IsMade entry cursors all) (new_frame entry id rect surface cursors n screen) (new_frames entry id rect surface cursors (n + 1) screens)
    (chosen-frames (IsMade entry cursors all) (is_flushed id rect screen) (frame_of entry cursors n (flushed_screen rect surface screen))
    (λ test. frame-made entry cursors all n (flushed_screen rect surface screen) (flushed-at id rect surface screen all n here test)))
    (frames-from entry id rect surface cursors all (n + 1) screens (λ k s at. subst (λ (m : ℕ). slice_get all m ≡ Some s) (omega arith) (there (suc k) s at)))

found-made : (entry : ℕ) (cursors : List Cursor) (screens : List (Option Screen)) (scanout : ℕ) (found : Option (Option Screen)) → slice_get screens scanout ≡ found → AllMade entry cursors screens (frame_of entry cursors scanout (screen_of found))
found-made entry cursors screens scanout None is k frame at = cc
found-made entry cursors screens scanout (Some screen) is k frame at = frame-made entry cursors screens scanout screen is k frame at

-- ---- of each step

record HasSame (old new : State) : Type 0 where
  frames : new.scanouts.frames ≡ old.scanouts.frames

same : (n : ℕ) (old new : State) → HasSame old new → Makes n old new
same n old new is = record { more = []; frames = is.frames ∙ sym (append-nil old.scanouts.frames); made = λ k frame at. cc }

stay : (state : State) → Makes state.entries state state
stay state = same state.entries state state (record { frames = refl })

answered-same : (refusal : Option ℕ) (state next : State) (response : Response) → HasSame state next → Makes state.entries state (answered_with refusal state next response).0
answered-same (Some code) state next response is = stay state
answered-same None state next response is = same state.entries state next is

answered-makes : (refusal : Option ℕ) (state next : State) (response : Response) → Makes state.entries state next → Makes state.entries state (answered_with refusal state next response).0
answered-makes (Some code) state next response makes = stay state
answered-makes None state next response makes = makes

makes-either : (b : Bool) (state one : State) (other : State) → HasSame state one → Makes state.entries state other → Makes state.entries state (cond b one other)
makes-either true state one other first second = same state.entries state one first
makes-either false state one other first second = second

makes-shown : (state : State) (rect : Rect) (scanout id : ℕ) (found : Option Resource) → Makes state.entries state (with_shown state rect scanout id found)
makes-shown state rect scanout id None = stay state
makes-shown state rect scanout id (Some resource) = same state.entries state (with_shown state rect scanout id (Some resource)) (record { frames = refl })

transfer_2d-makes : (state : State) (rect : Rect) (offset id : ℕ) → Makes state.entries state (transfer_2d_step state rect offset id).0
transfer_2d-makes state rect offset id = search (rules, answered-same)

makes-transferred : (b : Bool) (state : State) (step : State × Response) → Makes state.entries state step.0 → Makes state.entries state (cond b (state, responses.Nodata) step).0
makes-transferred true state step makes = stay state
makes-transferred false state step makes = makes

makes-shown-blob : (state : State) (rect : Rect) (scanout id : ℕ) (layout : Layout) (format : Option Format) → Makes state.entries state (with_shown_blob state rect scanout id layout format)
makes-shown-blob state rect scanout id layout None = stay state
makes-shown-blob state rect scanout id layout (Some format) = same state.entries state (with_shown_blob state rect scanout id layout (Some format)) (record { frames = refl })

flush-makes : (state : State) (rect : Rect) (id : ℕ) → Makes state.entries state (record state { scanouts = flushed_by state rect id })
flush-makes state rect id = record {
  more = new_frames state.entries id rect (surface_of state id) state.cursors 0 state.scanouts.screens;
  frames = refl;
  made = frames-from state.entries id rect (surface_of state id) state.cursors (map (after_flush id rect (surface_of state id)) state.scanouts.screens) 0 state.scanouts.screens
      (λ k screen at. subst (λ (m : ℕ). slice_get (map (after_flush id rect (surface_of state id)) state.scanouts.screens) m ≡ Some screen) (omega arith) at);
}

cursor-makes : (state : State) (scanout : ℕ) (change : Cursor → Cursor) → Makes state.entries state (with_cursor state scanout change)
cursor-makes state scanout change =
    let next = with_cursor state scanout change in
    record {
      more = frame_of state.entries next.cursors scanout (screen_of (slice_get state.scanouts.screens scanout));
      frames = refl;
      made = found-made state.entries next.cursors state.scanouts.screens scanout (slice_get state.scanouts.screens scanout) refl;
    }

two_d-makes : (state : State) (command : Command2d) → Makes state.entries state (two_d_step state command).0
two_d-makes state DisplayInfo = stay state
two_d-makes state (Create2d resource format width height) = search (rules, answered-same)
two_d-makes state (Unref resource) = search (rules, answered-same)
two_d-makes state (SetScanout rect scanout resource) =
    answered-makes _ state _ _ (makes-either (resource == 0) state _ _ (record { frames = refl }) (makes-shown state rect scanout resource (resource_at resource state.resources)))
two_d-makes state (Flush rect resource) =
    answered-makes (refusal_of (flush_refusals state rect resource)) state (record state { scanouts = flushed_by state rect resource }) responses.Nodata (flush-makes state rect resource)
two_d-makes state (Transfer rect offset resource) = makes-transferred (is_blob state resource) state (transfer_2d_step state rect offset resource) (transfer_2d-makes state rect offset resource)
two_d-makes state (Attach resource entries) = search (rules, answered-same)
two_d-makes state (Detach resource) = search (rules, answered-same)

command-makes : (state : State) (context : ℕ) (command : Command) → Makes state.entries state (command_step state context command).0
command-makes state context (TwoD command) = two_d-makes state command
command-makes state context (CapsetInfo index) = stay state
command-makes state context (Capset id version) = stay state
command-makes state context (Edid scanout) = search (rules, answered-same)
command-makes state context (AssignUuid resource) = search (rules, answered-same)
command-makes state context (CreateBlob resource mem flags blob_id size entries) = search (rules, answered-same)
command-makes state context (SetScanoutBlob rect scanout resource width height format stride offset) =
    let layout : Layout = record { width = width; height = height; format = format; stride = stride; offset = offset } in
    answered-makes _ state _ _ (makes-either (resource == 0) state _ _ (record { frames = refl }) (makes-shown-blob state rect scanout resource layout (format_of format)))
command-makes state context (CtxCreate nlen context_init name) = search (rules, answered-same)
command-makes state context CtxDestroy = search (rules, answered-same)
command-makes state context (CtxAttach resource) = search (rules, answered-same)
command-makes state context (CtxDetach resource) = search (rules, answered-same)
command-makes state context (Submit stream) = search (rules, answered-same)
command-makes state context (UpdateCursor scanout x y resource hot_x hot_y) =
    let change = cursor_change state x y resource hot_x hot_y in
    answered-makes (refusal_of (cursor_refusals state scanout resource hot_x hot_y)) state (with_cursor state scanout change) responses.Nodata (cursor-makes state scanout change)
command-makes state context (MoveCursor scanout x y) =
    answered-makes (refusal_of (move_refusals state scanout)) state (with_cursor state scanout (placed_at x y)) responses.Nodata (cursor-makes state scanout (placed_at x y))

ran-makes : (state : State) (context : ℕ) (command : Option Command) → Makes state.entries state (ran state context command).0
ran-makes state context (Some command) = command-makes state context command
ran-makes state context None = stay state

refused-makes : (refusal : Option ℕ) (state : State) (context : ℕ) (command : Option Command) → Makes state.entries state (refused_or_ran refusal state context command).0
refused-makes (Some code) state context command = stay state
refused-makes None state context command = ran-makes state context command

answer_of-makes : (state : State) (queue : Queue) (bytes : List ℕ) → Makes state.entries state (answer_of state queue bytes).0
answer_of-makes state queue bytes = refused-makes (refusal_of (request_refusals state queue bytes)) state (header_of bytes).ctx_id (command_of (header_of bytes).kind (drop 24 bytes))

from-counted : (state new : State) → Makes (state.entries + 1) (counted state) new → Makes (state.entries + 1) state new
from-counted state new makes = record { more = makes.more; frames = makes.frames; made = makes.made }

shaped-makes : (shape : Shape) (state : State) (request : Request) → Makes (state.entries + 1) state (shaped_step shape state request).0
shaped-makes Plain state request = from-counted state _ (answer_of-makes (counted state) request.queue request.bytes)
shaped-makes (Pieces n) state request = from-counted state _ (answer_of-makes (counted state) request.queue request.bytes)
shaped-makes Indirect state request = from-counted state _ (answer_of-makes (counted state) request.queue request.bytes)
shaped-makes Mixed state request = from-counted state _ (answer_of-makes (counted state) request.queue request.bytes)
shaped-makes (Bad fault) state request = same (state.entries + 1) state (counted state) (record { frames = refl })

replied-makes : (refusal : Option ShareRefusal) (state next : State) (reply : ActReply) → HasSame state next → Makes state.entries state (replied_by refusal state next reply).0
replied-makes (Some refusal) state next reply is = stay state
replied-makes None state next reply is = same state.entries state next is

effect-makes : (state : State) (client : ℕ) (act : Act) → Makes state.entries state (effect_of state client act).0
effect-makes state client Enter = stay state
effect-makes state client (Reserve width height format bytes) = replied-makes (reserve_refusal bytes state.memory) state _ _ (record { frames = refl })
effect-makes state client (Store key offset bytes times) = replied-makes (place_refusal client key offset (length bytes * times) state.share) state _ _ (record { frames = refl })
effect-makes state client (Load key offset n) = replied-makes (place_refusal client key offset n state.share) state _ _ (record { frames = refl })
effect-makes state client (Export key) = replied-makes (export_refusal client key state.share) state _ _ (record { frames = refl })
effect-makes state client (Import token) = replied-makes (import_refusal token state.share) state _ _ (record { frames = refl })
effect-makes state client (Release key) = replied-makes (release_refusal client key (shown_at client key state) state.share) state _ _ (record { frames = refl })
effect-makes state client (Free key) = replied-makes (free_refusal client key (has_resource state key) state.share) state _ _ (record { frames = refl })
effect-makes state client (Take scanout) = replied-makes (take_refusal scanout state.share) state _ _ (record { frames = refl })
effect-makes state client (Drop scanout) = replied-makes (drop_refusal client scanout (is_in_use state scanout) state.share) state _ _ (record { frames = refl })
effect-makes state client (Await lane ordinal) = stay state
effect-makes state client (Denied what) = stay state
effect-makes state client (Mode scanout width height) = same state.entries state (effect_of state client (Mode scanout width height)).0 (record { frames = refl })
effect-makes state client (Unplug scanout) = same state.entries state (effect_of state client (Unplug scanout)).0 (record { frames = refl })
effect-makes state client (Sync number) = stay state
effect-makes state client Events = stay state
effect-makes state client Ack = same state.entries state (effect_of state client Ack).0 (record { frames = refl })
effect-makes state client Leave = same state.entries state (effect_of state client Leave).0 (record { frames = refl })

pub entry-makes : (state : State) (entry : Entry) → Makes (state.entries + 1) state (after state entry)
entry-makes state (entries.Act client call act reply) = from-counted state _ (effect-makes (counted state) client act)
entry-makes state (entries.Command client call request reply) = shaped-makes request.shape state request
