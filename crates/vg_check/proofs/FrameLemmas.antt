-- Along a history the display's frames only grow.
use Rattle.std.proofs.Common.{rules, ◌≡◌, ◌==◌, ◌*◌, refl, subst, sym, ◌∙◌, ℕ, Bool, true, false, cond, length, drop, Option, Some, None, List, [], ◌∷◌, ◌++◌, append-nil}
use mathlib.Core.List.{IsPrefix}
use Rattle.vg_history.proofs.ListLemmas.{prefix_self, prefix_trans}
use Rattle.vg_wire_ext.specs.declared.command.Command.{Command}
use Rattle.vg_wire_ext.specs.declared.command.Command.TheVariants.{TwoD, CapsetInfo, Capset, Edid, AssignUuid, CreateBlob, SetScanoutBlob, CtxCreate, CtxDestroy, CtxAttach, CtxDetach, Submit, UpdateCursor, MoveCursor}
use Rattle.vg_wire.specs.declared.request.Queue.{Queue}
use Rattle.vg_wire.specs.Header.{header_of}
use Rattle.vg_wire.specs.declared.two_d.Command2d.{Command2d}
use Rattle.vg_wire.specs.declared.two_d.Command2d.TheVariants.{DisplayInfo, Create2d, Unref, SetScanout, Flush, Transfer, Attach, Detach}
use Rattle.vg_wire_ext.specs.Commands.{command_of}
use Rattle.vg_wire_ext.specs.declared.response.Response.{Response}
use Rattle.vg_wire_ext.specs.declared.response.Response.TheVariants as responses
use Rattle.vg_chain.specs.declared.shape.Shape.{Shape}
use Rattle.vg_chain.specs.declared.shape.Shape.TheVariants.{Plain, Pieces, Indirect, Mixed, Bad}
use Rattle.vg_formats.specs.declared.format.Format.{Format}
use Rattle.vg_formats.specs.declared.rect.Rect.{Rect}
use Rattle.vg_formats.specs.Formats.{format_of}
use Rattle.vg_client_holds.specs.declared.act.Act.{Act}
use Rattle.vg_client_holds.specs.declared.act.Act.TheVariants.{Enter, Reserve, Store, Load, Export, Import, Release, Free, Take, Drop, Await, Denied, Mode, Unplug, Sync, Events, Ack, Leave}
use Rattle.vg_client_holds.specs.declared.act.ActReply.{ActReply}
use Rattle.vg_client_holds.specs.declared.setup.Setup.{Setup}
use Rattle.vg_history.specs.declared.entry.Entry.TheVariants as entries
use Rattle.vg_cursor.specs.Cursor.{placed_at}
use Rattle.vg_resource.specs.declared.resource.Resource.{Resource}
use Rattle.vg_resource.specs.Resource.{resource_at}
use Rattle.vg_scanout.specs.declared.scanout.Frame.{Frame}
use Rattle.vg_share.specs.declared.share.ShareRefusal.{ShareRefusal}
use Rattle.vg_share.specs.Share.{drop_refusal, export_refusal, free_refusal, import_refusal, place_refusal, release_refusal, reserve_refusal, take_refusal}
use Rattle.vg_device.specs.ActStep.{effect_of, is_in_use, replied_by, shown_at}
use Rattle.vg_device.specs.Answered.{answered_with}
use Rattle.vg_device.specs.BlobStep.{with_shown_blob}
use Rattle.vg_machine.specs.Entries.{Entry}
use Rattle.vg_machine.specs.Replay.{after, replay, replay_from}
use Rattle.vg_machine.proofs.ReplayLemmas.{replay-more}
use Rattle.vg_device.specs.RequestStep.{shaped_step}
use Rattle.vg_device.specs.State.{State, counted, has_resource, is_blob}
use Rattle.vg_device.specs.Step.{answer_of, command_step, cursor_change, cursor_refusals, flush_refusals, flushed_by, move_refusals, ran, refused_or_ran, request_refusals, transfer_2d_step, two_d_step, with_cursor, with_shown}
use Rattle.vg_device.specs.declared.blobs.Layout.{Layout}
use Rattle.vg_device.specs.declared.request.Request.{Request}
use Rattle.vg_refusals.specs.Refusals.{refusal_of}
use Rattle.vg_check.specs.Right.{frames_after}

-- the frames of before stand in front of those of after
record Grows (old new : State) : Type 0 where
  front : IsPrefix old.scanouts.frames new.scanouts.frames

stay : (state : State) → Grows state state
stay state = record { front = prefix_self state.scanouts.frames }

record HasSame (old new : State) : Type 0 where
  frames : new.scanouts.frames ≡ old.scanouts.frames

record HasMore (old new : State) : Type 0 where
  more : List Frame
  frames : new.scanouts.frames ≡ old.scanouts.frames ++ more

same : (state next : State) → HasSame state next → Grows state next
same state next is = record { front = ([], append-nil state.scanouts.frames ∙ sym is.frames) }

answered-same : (refusal : Option ℕ) (state next : State) (response : Response) → HasSame state next → Grows state (answered_with refusal state next response).0
answered-same (Some code) state next response is = stay state
answered-same None state next response is = same state next is

answered-more : (refusal : Option ℕ) (state next : State) (response : Response) → HasMore state next → Grows state (answered_with refusal state next response).0
answered-more (Some code) state next response is = stay state
answered-more None state next response is = record { front = (is.more, sym is.frames) }

grows-answered : (refusal : Option ℕ) (state next : State) (response : Response) → Grows state next → Grows state (answered_with refusal state next response).0
grows-answered (Some code) state next response grows = stay state
grows-answered None state next response grows = grows

grows-either : (b : Bool) (state one : State) (other : State) → HasSame state one → Grows state other → Grows state (cond b one other)
grows-either true state one other first second = same state one first
grows-either false state one other first second = second

grows-shown : (state : State) (rect : Rect) (scanout id : ℕ) (found : Option Resource) → Grows state (with_shown state rect scanout id found)
grows-shown state rect scanout id None = stay state
grows-shown state rect scanout id (Some resource) = record { front = prefix_self state.scanouts.frames }

transfer_2d-grows : (state : State) (rect : Rect) (offset id : ℕ) → Grows state (transfer_2d_step state rect offset id).0
transfer_2d-grows state rect offset id = search (rules, answered-same)

grows-transferred : (b : Bool) (state : State) (step : State × Response) → Grows state step.0 → Grows state (cond b (state, responses.Nodata) step).0
grows-transferred true state step grows = stay state
grows-transferred false state step grows = grows

grows-shown-blob : (state : State) (rect : Rect) (scanout id : ℕ) (layout : Layout) (format : Option Format) → Grows state (with_shown_blob state rect scanout id layout format)
grows-shown-blob state rect scanout id layout None = stay state
grows-shown-blob state rect scanout id layout (Some format) = record { front = prefix_self state.scanouts.frames }

two_d-grows : (state : State) (command : Command2d) → Grows state (two_d_step state command).0
two_d-grows state DisplayInfo = stay state
two_d-grows state (Create2d resource format width height) = search (rules, answered-same)
two_d-grows state (Unref resource) = search (rules, answered-same)
two_d-grows state (SetScanout rect scanout resource) =
    grows-answered _ state _ _ (grows-either (resource == 0) state _ _ (record { frames = refl }) (grows-shown state rect scanout resource (resource_at resource state.resources)))
two_d-grows state (Flush rect resource) =
    answered-more (refusal_of (flush_refusals state rect resource)) state (record state { scanouts = flushed_by state rect resource }) responses.Nodata (record { more = _; frames = refl })
two_d-grows state (Transfer rect offset resource) = grows-transferred (is_blob state resource) state (transfer_2d_step state rect offset resource) (transfer_2d-grows state rect offset resource)
two_d-grows state (Attach resource entries) = search (rules, answered-same)
two_d-grows state (Detach resource) = search (rules, answered-same)

command-grows : (state : State) (context : ℕ) (command : Command) → Grows state (command_step state context command).0
command-grows state context (TwoD command) = two_d-grows state command
command-grows state context (CapsetInfo index) = stay state
command-grows state context (Capset id version) = stay state
command-grows state context (Edid scanout) = search (rules, answered-same)
command-grows state context (AssignUuid resource) = search (rules, answered-same)
command-grows state context (CreateBlob resource mem flags blob_id size entries) = search (rules, answered-same)
command-grows state context (SetScanoutBlob rect scanout resource width height format stride offset) =
    let layout : Layout = record { width = width; height = height; format = format; stride = stride; offset = offset } in
    grows-answered _ state _ _ (grows-either (resource == 0) state _ _ (record { frames = refl }) (grows-shown-blob state rect scanout resource layout (format_of format)))
command-grows state context (CtxCreate nlen context_init name) = search (rules, answered-same)
command-grows state context CtxDestroy = search (rules, answered-same)
command-grows state context (CtxAttach resource) = search (rules, answered-same)
command-grows state context (CtxDetach resource) = search (rules, answered-same)
command-grows state context (Submit stream) = search (rules, answered-same)
command-grows state context (UpdateCursor scanout x y resource hot_x hot_y) =
    answered-more (refusal_of (cursor_refusals state scanout resource hot_x hot_y)) state (with_cursor state scanout (cursor_change state x y resource hot_x hot_y)) responses.Nodata
    (record { more = _; frames = refl })
command-grows state context (MoveCursor scanout x y) =
    answered-more (refusal_of (move_refusals state scanout)) state (with_cursor state scanout (placed_at x y)) responses.Nodata (record { more = _; frames = refl })

ran-grows : (state : State) (context : ℕ) (command : Option Command) → Grows state (ran state context command).0
ran-grows state context (Some command) = command-grows state context command
ran-grows state context None = stay state

refused-grows : (refusal : Option ℕ) (state : State) (context : ℕ) (command : Option Command) → Grows state (refused_or_ran refusal state context command).0
refused-grows (Some code) state context command = stay state
refused-grows None state context command = ran-grows state context command

answer_of-grows : (state : State) (queue : Queue) (bytes : List ℕ) → Grows state (answer_of state queue bytes).0
answer_of-grows state queue bytes = refused-grows (refusal_of (request_refusals state queue bytes)) state (header_of bytes).ctx_id (command_of (header_of bytes).kind (drop 24 bytes))

-- its number is no part of its frames
from-counted : (state new : State) → Grows (counted state) new → Grows state new
from-counted state new grows = record { front = grows.front }

shaped-grows : (shape : Shape) (state : State) (request : Request) → Grows state (shaped_step shape state request).0
shaped-grows Plain state request = from-counted state _ (answer_of-grows (counted state) request.queue request.bytes)
shaped-grows (Pieces n) state request = from-counted state _ (answer_of-grows (counted state) request.queue request.bytes)
shaped-grows Indirect state request = from-counted state _ (answer_of-grows (counted state) request.queue request.bytes)
shaped-grows Mixed state request = from-counted state _ (answer_of-grows (counted state) request.queue request.bytes)
shaped-grows (Bad fault) state request = record { front = prefix_self state.scanouts.frames }

-- an act makes none
replied-grows : (refusal : Option ShareRefusal) (state next : State) (reply : ActReply) → HasSame state next → Grows state (replied_by refusal state next reply).0
replied-grows (Some refusal) state next reply is = stay state
replied-grows None state next reply is = same state next is

effect-grows : (state : State) (client : ℕ) (act : Act) → Grows state (effect_of state client act).0
effect-grows state client Enter = stay state
effect-grows state client (Reserve width height format bytes) = replied-grows (reserve_refusal bytes state.memory) state _ _ (record { frames = refl })
effect-grows state client (Store key offset bytes times) = replied-grows (place_refusal client key offset (length bytes * times) state.share) state _ _ (record { frames = refl })
effect-grows state client (Load key offset n) = replied-grows (place_refusal client key offset n state.share) state _ _ (record { frames = refl })
effect-grows state client (Export key) = replied-grows (export_refusal client key state.share) state _ _ (record { frames = refl })
effect-grows state client (Import token) = replied-grows (import_refusal token state.share) state _ _ (record { frames = refl })
effect-grows state client (Release key) = replied-grows (release_refusal client key (shown_at client key state) state.share) state _ _ (record { frames = refl })
effect-grows state client (Free key) = replied-grows (free_refusal client key (has_resource state key) state.share) state _ _ (record { frames = refl })
effect-grows state client (Take scanout) = replied-grows (take_refusal scanout state.share) state _ _ (record { frames = refl })
effect-grows state client (Drop scanout) = replied-grows (drop_refusal client scanout (is_in_use state scanout) state.share) state _ _ (record { frames = refl })
effect-grows state client (Await lane ordinal) = stay state
effect-grows state client (Denied what) = stay state
effect-grows state client (Mode scanout width height) = record { front = prefix_self state.scanouts.frames }
effect-grows state client (Unplug scanout) = record { front = prefix_self state.scanouts.frames }
effect-grows state client (Sync number) = stay state
effect-grows state client Events = stay state
effect-grows state client Ack = record { front = prefix_self state.scanouts.frames }
effect-grows state client Leave = record { front = prefix_self state.scanouts.frames }

after-grows : (state : State) (entry : Entry) → Grows state (after state entry)
after-grows state (entries.Act client call act reply) = from-counted state _ (effect-grows (counted state) client act)
after-grows state (entries.Command client call request reply) = shaped-grows request.shape state request

replay-grows : (state : State) (H : List Entry) → Grows state (replay_from state H)
replay-grows state [] = stay state
replay-grows state (entry ∷ rest) = record {
  front = prefix_trans state.scanouts.frames (after state entry).scanouts.frames (replay_from (after state entry) rest).scanouts.frames
      (after-grows state entry).front (replay-grows (after state entry) rest).front;
}

-- the frames after some entries stand in front of those after more
pub frames-grow : (setup : Setup) (H rest : List Entry) → IsPrefix (frames_after setup H) (replay_from (replay setup H) rest).scanouts.frames
frames-grow setup H rest = (replay-grows (replay setup H) rest).front

pub frames-more : (setup : Setup) (H : List Entry) (entry : Entry) → IsPrefix (frames_after setup H) (frames_after setup (H ++ entry ∷ []))
frames-more setup H entry = subst (λ (s : State). IsPrefix (frames_after setup H) s.scanouts.frames) (sym (replay-more setup H entry)) (after-grows (replay setup H) entry).front
