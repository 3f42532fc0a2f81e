-- A step of the display counts one entry, and leaves the setup as it was. These lemmas stand here and not in proofs/, since
-- `impl Machine for Display` gives them as ghost members, and what a contract cites may not depend on its own crate's proofs/.
use Rattle.std.proofs.Common.{◌≡◌, ◌+◌, ◌*◌, ◌==◌, refl, ℕ, Bool, true, false, cond, length, drop, Option, Some, None, List}
use Rattle.vg_wire_ext.specs.declared.command.Command.{Command}
use Rattle.vg_wire_ext.specs.declared.command.Command.TheVariants.{TwoD, CapsetInfo, Capset, Edid, AssignUuid, CreateBlob, SetScanoutBlob, CtxCreate, CtxDestroy, CtxAttach, CtxDetach, Submit, UpdateCursor, MoveCursor}
use Rattle.vg_wire.specs.declared.request.Queue.{Queue}
use Rattle.vg_wire.specs.Header.{header_of}
use Rattle.vg_wire.specs.declared.two_d.Command2d.{Command2d}
use Rattle.vg_wire.specs.declared.two_d.Command2d.TheVariants.{DisplayInfo, Create2d, Unref, SetScanout, Flush, Transfer, Attach, Detach}
use Rattle.vg_wire_ext.specs.Commands.{command_of}
use Rattle.vg_wire_ext.specs.declared.response.Response.{Response}
use Rattle.vg_wire_ext.specs.declared.response.Response.TheVariants as responses
use Rattle.vg_chain.specs.declared.shape.Shape.{Shape}
use Rattle.vg_chain.specs.declared.shape.Shape.TheVariants.{Plain, Pieces, Indirect, Mixed, Bad}
use Rattle.vg_formats.specs.declared.rect.Rect.{Rect}
use Rattle.vg_client_holds.specs.declared.act.Act.{Act}
use Rattle.vg_client_holds.specs.declared.act.Act.TheVariants.{Enter, Reserve, Store, Load, Export, Import, Release, Free, Take, Drop, Await, Denied, Mode, Unplug, Sync, Events, Ack, Leave}
use Rattle.vg_client_holds.specs.declared.act.ActReply.{ActReply}
use Rattle.vg_share.specs.declared.share.ShareRefusal.{ShareRefusal}
use Rattle.vg_resource.specs.declared.resource.Resource.{Resource}
use Rattle.vg_device.specs.ActStep.{act_step, effect_of, is_in_use, replied_by, shown_at}
use Rattle.vg_formats.specs.declared.format.Format.{Format}
use Rattle.vg_formats.specs.Formats.{format_of}
use Rattle.vg_resource.specs.Resource.{resource_at}
use Rattle.vg_share.specs.Share.{drop_refusal, export_refusal, free_refusal, import_refusal, place_refusal, release_refusal, reserve_refusal, take_refusal}
use Rattle.vg_device.specs.declared.request.Request.{Request}
use Rattle.vg_device.specs.declared.blobs.Layout.{Layout}
use Rattle.vg_device.specs.Answered.{answered_by, answered_with}
use Rattle.vg_device.specs.BlobStep.{with_shown_blob}
use Rattle.vg_machine.specs.Jobs.{Job, after_placing, worked}
use Rattle.vg_device.specs.State.{State, counted, has_resource, is_blob}
use Rattle.vg_refusals.specs.Refusals.{refusal_of}
use Rattle.vg_device.specs.Step.{answer_of, command_step, ran, refused_or_ran, request_refusals, two_d_step, with_shown}
use Rattle.vg_device.specs.RequestStep.{request_step, shaped_step}

-- the same setup, and as many entries
pub record IsLike (old new : State) : Type 0 where
  pub setup : new.setup ≡ old.setup
  pub entries : new.entries ≡ old.entries

like-itself : (state : State) → IsLike state state
like-itself state = record { setup = refl; entries = refl }

like-answered : (refusal : Option ℕ) (state next : State) (response : Response) → IsLike state next → IsLike state (answered_with refusal state next response).0
like-answered (Some code) state next response like = like-itself state
like-answered None state next response like = like

like-scanout : (b : Bool) (state one : State) (other : State) → IsLike state one → IsLike state other → IsLike state (cond b one other)
like-scanout true state one other first second = first
like-scanout false state one other first second = second

like-shown : (state : State) (rect : Rect) (scanout id : ℕ) (found : Option Resource) → IsLike state (with_shown state rect scanout id found)
like-shown state rect scanout id None = like-itself state
like-shown state rect scanout id (Some resource) = record { setup = refl; entries = refl }

like-transferred : (b : Bool) (refusal : Option ℕ) (state next : State) → IsLike state next → IsLike state (cond b (state, responses.Nodata) (answered_by refusal state next)).0
like-transferred true refusal state next like = like-itself state
like-transferred false refusal state next like = like-answered refusal state next responses.Nodata like

like-shown-blob : (state : State) (rect : Rect) (scanout id : ℕ) (layout : Layout) (format : Option Format) → IsLike state (with_shown_blob state rect scanout id layout format)
like-shown-blob state rect scanout id layout None = like-itself state
like-shown-blob state rect scanout id layout (Some format) = record { setup = refl; entries = refl }

two_d-like : (state : State) (command : Command2d) → IsLike state (two_d_step state command).0
two_d-like state DisplayInfo = like-itself state
two_d-like state (Create2d resource format width height) = like-answered _ state _ _ (record { setup = refl; entries = refl })
two_d-like state (Unref resource) = like-answered _ state _ _ (record { setup = refl; entries = refl })
two_d-like state (SetScanout rect scanout resource) =
    like-answered _ state _ _ (like-scanout (resource == 0) state _ _ (record { setup = refl; entries = refl }) (like-shown state rect scanout resource (resource_at resource state.resources)))
two_d-like state (Flush rect resource) = like-answered _ state _ _ (record { setup = refl; entries = refl })
two_d-like state (Transfer rect offset resource) = like-transferred (is_blob state resource) _ state _ (record { setup = refl; entries = refl })
two_d-like state (Attach resource entries) = like-answered _ state _ _ (record { setup = refl; entries = refl })
two_d-like state (Detach resource) = like-answered _ state _ _ (record { setup = refl; entries = refl })

command-like : (state : State) (context : ℕ) (command : Command) → IsLike state (command_step state context command).0
command-like state context (TwoD command) = two_d-like state command
command-like state context (CapsetInfo index) = like-itself state
command-like state context (Capset id version) = like-itself state
command-like state context (Edid scanout) = like-answered _ state state _ (like-itself state)
command-like state context (AssignUuid resource) = like-answered _ state _ _ (record { setup = refl; entries = refl })
command-like state context (CreateBlob resource mem flags blob_id size entries) = like-answered _ state _ _ (record { setup = refl; entries = refl })
command-like state context (SetScanoutBlob rect scanout resource width height format stride offset) =
    let layout : Layout = record { width = width; height = height; format = format; stride = stride; offset = offset } in
    like-answered _ state _ _ (like-scanout (resource == 0) state _ _ (record { setup = refl; entries = refl }) (like-shown-blob state rect scanout resource layout (format_of format)))
command-like state context (CtxCreate nlen context_init name) = like-answered _ state _ _ (record { setup = refl; entries = refl })
command-like state context CtxDestroy = like-answered _ state _ _ (record { setup = refl; entries = refl })
command-like state context (CtxAttach resource) = like-answered _ state _ _ (record { setup = refl; entries = refl })
command-like state context (CtxDetach resource) = like-answered _ state _ _ (record { setup = refl; entries = refl })
command-like state context (Submit stream) = like-answered _ state state _ (like-itself state)
command-like state context (UpdateCursor scanout x y resource hot_x hot_y) = like-answered _ state _ _ (record { setup = refl; entries = refl })
command-like state context (MoveCursor scanout x y) = like-answered _ state _ _ (record { setup = refl; entries = refl })

ran-like : (state : State) (context : ℕ) (command : Option Command) → IsLike state (ran state context command).0
ran-like state context (Some command) = command-like state context command
ran-like state context None = like-itself state

refused-like : (refusal : Option ℕ) (state : State) (context : ℕ) (command : Option Command) → IsLike state (refused_or_ran refusal state context command).0
refused-like (Some code) state context command = like-itself state
refused-like None state context command = ran-like state context command

answer_of-like : (state : State) (queue : Queue) (bytes : List ℕ) → IsLike state (answer_of state queue bytes).0
answer_of-like state queue bytes = refused-like (refusal_of (request_refusals state queue bytes)) state (header_of bytes).ctx_id (command_of (header_of bytes).kind (drop 24 bytes))

-- an entry more, by a request of any shape
shaped-like : (shape : Shape) (state : State) (request : Request) → IsLike (counted state) (shaped_step shape state request).0
shaped-like Plain state request = answer_of-like (counted state) request.queue request.bytes
shaped-like (Pieces n) state request = answer_of-like (counted state) request.queue request.bytes
shaped-like Indirect state request = answer_of-like (counted state) request.queue request.bytes
shaped-like Mixed state request = answer_of-like (counted state) request.queue request.bytes
shaped-like (Bad fault) state request = like-itself (counted state)

-- an act that is refused or not
like-replied : (refusal : Option ShareRefusal) (state next : State) (reply : ActReply) → IsLike state next → IsLike state (replied_by refusal state next reply).0
like-replied (Some refusal) state next reply like = like-itself state
like-replied None state next reply like = like

effect-like : (state : State) (client : ℕ) (act : Act) → IsLike state (effect_of state client act).0
effect-like state client Enter = like-itself state
effect-like state client (Reserve width height format bytes) = like-replied (reserve_refusal bytes state.memory) state _ _ (record { setup = refl; entries = refl })
effect-like state client (Store key offset bytes times) = like-replied (place_refusal client key offset (length bytes * times) state.share) state _ _ (record { setup = refl; entries = refl })
effect-like state client (Load key offset n) = like-replied (place_refusal client key offset n state.share) state _ _ (like-itself state)
effect-like state client (Export key) = like-replied (export_refusal client key state.share) state _ _ (record { setup = refl; entries = refl })
effect-like state client (Import token) = like-replied (import_refusal token state.share) state _ _ (record { setup = refl; entries = refl })
effect-like state client (Release key) = like-replied (release_refusal client key (shown_at client key state) state.share) state _ _ (record { setup = refl; entries = refl })
effect-like state client (Free key) = like-replied (free_refusal client key (has_resource state key) state.share) state _ _ (record { setup = refl; entries = refl })
effect-like state client (Take scanout) = like-replied (take_refusal scanout state.share) state _ _ (record { setup = refl; entries = refl })
effect-like state client (Drop scanout) = like-replied (drop_refusal client scanout (is_in_use state scanout) state.share) state _ _ (record { setup = refl; entries = refl })
effect-like state client (Await lane ordinal) = like-itself state
effect-like state client (Denied what) = like-itself state
effect-like state client (Mode scanout width height) = record { setup = refl; entries = refl }
effect-like state client (Unplug scanout) = record { setup = refl; entries = refl }
effect-like state client (Sync number) = like-itself state
effect-like state client Events = like-itself state
effect-like state client Ack = record { setup = refl; entries = refl }
effect-like state client Leave = record { setup = refl; entries = refl }

pub act-like : (state : State) (client : ℕ) (act : Act) → IsLike (counted state) (act_step state client act).0
act-like state client act = effect-like (counted state) client act

pub request-like : (state : State) (request : Request) → IsLike (counted state) (request_step state request).0
request-like state request = shaped-like request.shape state request

pub act-counts : (state : State) (client : ℕ) (act : Act) → (act_step state client act).0.entries ≡ state.entries + 1
act-counts state client act = (act-like state client act).entries

pub request-counts : (state : State) (request : Request) → (request_step state request).0.entries ≡ state.entries + 1
request-counts state request = (request-like state request).entries

-- work changes nothing of a job's request
worked-by : (bytes : Option (List ℕ)) (job : Job) → (after_placing bytes job).asked ≡ job.asked
worked-by (Some bytes) job = refl
worked-by None job = refl

pub worked-asks : (job : Job) → (worked job).asked ≡ job.asked
worked-asks job = worked-by job.bytes job
