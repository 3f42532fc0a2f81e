-- A command leaves memory and what clients share as they were, and what it writes leaves the bytes of memory.
use Rattle.std.proofs.Common.{rules, ◌≡◌, ℕ, ◌==◌, Bool, true, false, cond, List, drop, Option, Some, None, refl}
use Rattle.vg_formats.specs.declared.format.Format.{Format}
use Rattle.vg_formats.specs.declared.rect.Rect.{Rect}
use Rattle.vg_formats.specs.Formats.{format_of}
use Rattle.vg_refusals.specs.Refusals.{refusal_of}
use Rattle.vg_resource.specs.declared.resource.Resource.{Resource}
use Rattle.vg_resource.specs.Resource.{resource_at}
use Rattle.vg_scanout.specs.Scanout.{unbound}
use Rattle.vg_chain.specs.declared.shape.Shape.{Shape}
use Rattle.vg_chain.specs.declared.shape.Shape.TheVariants.{Plain, Pieces, Indirect, Mixed, Bad}
use Rattle.vg_wire.specs.Header.{header_of}
use Rattle.vg_wire.specs.declared.request.Queue.{Queue}
use Rattle.vg_wire.specs.declared.two_d.Command2d.{Command2d}
use Rattle.vg_wire.specs.declared.two_d.Command2d.TheVariants.{DisplayInfo, Create2d, Unref, SetScanout, Flush, Transfer, Attach, Detach}
use Rattle.vg_wire_ext.specs.Commands.{command_of}
use Rattle.vg_wire_ext.specs.declared.command.Command.{Command}
use Rattle.vg_wire_ext.specs.declared.command.Command.TheVariants.{TwoD, CapsetInfo, Capset, Edid, AssignUuid, CreateBlob, SetScanoutBlob, CtxCreate, CtxDestroy, CtxAttach, CtxDetach, Submit, UpdateCursor, MoveCursor}
use Rattle.vg_wire_ext.specs.declared.response.Response.{Response}
use Rattle.vg_wire_ext.specs.declared.response.Response.TheVariants as responses
use Rattle.vg_device.specs.declared.blobs.Layout.{Layout}
use Rattle.vg_device.specs.declared.request.Request.{Request}
use Rattle.vg_device.specs.Answered.{answered_by, answered_with}
use Rattle.vg_device.specs.BlobStep.{set_scanout_blob_refusals, with_scanout_blob, with_shown_blob}
use Rattle.vg_device.specs.Receive.{receive_refusal, with_received}
use Rattle.vg_device.specs.RequestStep.{shaped_step}
use Rattle.vg_device.specs.State.{State, counted, is_blob}
use Rattle.vg_device.specs.Step.{answer_of, command_step, create_2d_refusals, cursor_refusals, flush_refusals, refused_or_ran, request_refusals, set_scanout_refusals, two_d_step, with_scanout, with_shown}
use Rattle.vg_device.specs.Step as steps
use Rattle.vg_painted.specs.Ink.{Ink, Painting}
use Rattle.vg_painted.specs.Paint.{bound, commanded, commanded_2d, ran, received, requested, unless}

-- The same memory, and the same is shared.
pub record IsBeside (old new : State) : Type 0 where
  pub memory : new.memory ≡ old.memory
  pub share : new.share ≡ old.share

beside-itself : (state : State) → IsBeside state state
beside-itself state = record { memory = refl; share = refl }

beside-answered : (refusal : Option ℕ) (state next : State) (response : Response) → IsBeside state next → IsBeside state (answered_with refusal state next response).0
beside-answered (Some code) state next response is = beside-itself state
beside-answered None state next response is = is

beside-either : (b : Bool) (state one : State) (other : State) → IsBeside state one → IsBeside state other → IsBeside state (cond b one other)
beside-either true state one other first second = first
beside-either false state one other first second = second

beside-shown : (state : State) (rect : Rect) (scanout id : ℕ) (found : Option Resource) → IsBeside state (with_shown state rect scanout id found)
beside-shown state rect scanout id None = beside-itself state
beside-shown state rect scanout id (Some resource) = record { memory = refl; share = refl }

beside-transferred : (b : Bool) (refusal : Option ℕ) (state next : State) → IsBeside state next → IsBeside state (cond b (state, responses.Nodata) (answered_by refusal state next)).0
beside-transferred true refusal state next is = beside-itself state
beside-transferred false refusal state next is = beside-answered refusal state next responses.Nodata is

beside-shown-blob : (state : State) (rect : Rect) (scanout id : ℕ) (layout : Layout) (format : Option Format) → IsBeside state (with_shown_blob state rect scanout id layout format)
beside-shown-blob state rect scanout id layout None = beside-itself state
beside-shown-blob state rect scanout id layout (Some format) = record { memory = refl; share = refl }

two_d-beside : (state : State) (command : Command2d) → IsBeside state (two_d_step state command).0
two_d-beside state DisplayInfo = beside-itself state
two_d-beside state (Create2d resource format width height) = search (rules, beside-answered)
two_d-beside state (Unref resource) = search (rules, beside-answered)
two_d-beside state (SetScanout rect scanout resource) =
    beside-answered (refusal_of (set_scanout_refusals state rect scanout resource)) state (with_scanout state rect scanout resource) responses.Nodata
    (beside-either (resource == 0) state (record state { scanouts = unbound scanout state.scanouts }) (with_shown state rect scanout resource (resource_at resource state.resources)) (record { memory = refl; share = refl })
    (beside-shown state rect scanout resource (resource_at resource state.resources)))
two_d-beside state (Flush rect resource) = search (rules, beside-answered)
two_d-beside state (Transfer rect offset resource) =
    let found = resource_at resource state.resources in
    beside-transferred (is_blob state resource) (receive_refusal resource rect offset state.backings found) state
    (record state { resources = with_received state.memory resource rect offset state.backings found state.resources }) (record { memory = refl; share = refl })
two_d-beside state (Attach resource entries) = search (rules, beside-answered)
two_d-beside state (Detach resource) = search (rules, beside-answered)

command-beside : (state : State) (context : ℕ) (command : Command) → IsBeside state (command_step state context command).0
command-beside state context (TwoD command) = two_d-beside state command
command-beside state context (CapsetInfo index) = beside-itself state
command-beside state context (Capset id version) = beside-itself state
command-beside state context (Edid scanout) = search (rules, beside-answered)
command-beside state context (AssignUuid resource) = search (rules, beside-answered)
command-beside state context (CreateBlob resource mem flags blob_id size entries) = search (rules, beside-answered)
command-beside state context (SetScanoutBlob rect scanout resource width height format stride offset) =
    let layout : Layout = record { width = width; height = height; format = format; stride = stride; offset = offset } in
    beside-answered (refusal_of (set_scanout_blob_refusals state rect scanout resource layout)) state (with_scanout_blob state rect scanout resource layout) responses.Nodata
    (beside-either (resource == 0) state (record state { scanouts = unbound scanout state.scanouts }) (with_shown_blob state rect scanout resource layout (format_of format)) (record { memory = refl; share = refl })
    (beside-shown-blob state rect scanout resource layout (format_of format)))
command-beside state context (CtxCreate nlen context_init name) = search (rules, beside-answered)
command-beside state context CtxDestroy = search (rules, beside-answered)
command-beside state context (CtxAttach resource) = search (rules, beside-answered)
command-beside state context (CtxDetach resource) = search (rules, beside-answered)
command-beside state context (Submit stream) = search (rules, beside-answered)
command-beside state context (UpdateCursor scanout x y resource hot_x hot_y) = search (rules, beside-answered)
command-beside state context (MoveCursor scanout x y) = search (rules, beside-answered)

ran-beside : (state : State) (context : ℕ) (command : Option Command) → IsBeside state (steps.ran state context command).0
ran-beside state context (Some command) = command-beside state context command
ran-beside state context None = beside-itself state

refused-beside : (refusal : Option ℕ) (state : State) (context : ℕ) (command : Option Command) → IsBeside state (refused_or_ran refusal state context command).0
refused-beside (Some code) state context command = beside-itself state
refused-beside None state context command = ran-beside state context command

answer_of-beside : (state : State) (queue : Queue) (bytes : List ℕ) → IsBeside state (answer_of state queue bytes).0
answer_of-beside state queue bytes = refused-beside (refusal_of (request_refusals state queue bytes)) state (header_of bytes).ctx_id (command_of (header_of bytes).kind (drop 24 bytes))

from-counted : (state new : State) → IsBeside (counted state) new → IsBeside state new
from-counted state new is = record { memory = is.memory; share = is.share }

pub shaped-beside : (shape : Shape) (state : State) (request : Request) → IsBeside state (shaped_step shape state request).0
shaped-beside Plain state request = from-counted state _ (answer_of-beside (counted state) request.queue request.bytes)
shaped-beside (Pieces n) state request = from-counted state _ (answer_of-beside (counted state) request.queue request.bytes)
shaped-beside Indirect state request = from-counted state _ (answer_of-beside (counted state) request.queue request.bytes)
shaped-beside Mixed state request = from-counted state _ (answer_of-beside (counted state) request.queue request.bytes)
shaped-beside (Bad fault) state request = record { memory = refl; share = refl }

-- ---- the bytes of memory

module _ {X Z : Type 0} (ink : Ink X Z) where
  unless-memory : {R : Type 0} (refusal : Option R) (p q : Painting X Z) → q.memory ≡ p.memory → (unless refusal p q).memory ≡ p.memory
  unless-memory (Some refusal) p q are = refl
  unless-memory None p q are = are

  chosen-memory : (b : Bool) (p q : Painting X Z) → q.memory ≡ p.memory → (cond b p q).memory ≡ p.memory
  chosen-memory true p q are = refl
  chosen-memory false p q are = are

  received-memory : (state : State) (rect : Rect) (offset id : ℕ) (found : Option Resource) (p : Painting X Z) → (received ink state rect offset id found p).memory ≡ p.memory
  received-memory state rect offset id (Some resource) p = refl
  received-memory state rect offset id None p = refl

  bound-memory : (scanout id : ℕ) (p : Painting X Z) → (bound ink scanout id p).memory ≡ p.memory
  bound-memory scanout id p = chosen-memory (id == 0) p _ refl

  two_d-memory : (state : State) (command : Command2d) (p : Painting X Z) → (commanded_2d ink state command p).memory ≡ p.memory
  two_d-memory state (Create2d id format width height) p = unless-memory (refusal_of (create_2d_refusals state id format width height)) p _ refl
  two_d-memory state (SetScanout rect scanout id) p = unless-memory (refusal_of (set_scanout_refusals state rect scanout id)) p (bound ink scanout id p) (bound-memory scanout id p)
  two_d-memory state (Flush rect id) p = unless-memory (refusal_of (flush_refusals state rect id)) p _ refl
  two_d-memory state (Transfer rect offset id) p =
      let found = resource_at id state.resources in
      let refusal = receive_refusal id rect offset state.backings found in
      let next = received ink state rect offset id found p in
      chosen-memory (is_blob state id) p (unless refusal p next) (unless-memory refusal p next (received-memory state rect offset id found p))
  two_d-memory state _ p = refl

  commanded-memory : (state : State) (command : Command) (p : Painting X Z) → (commanded ink state command p).memory ≡ p.memory
  commanded-memory state (TwoD command) p = two_d-memory state command p
  commanded-memory state (SetScanoutBlob rect scanout id width height format stride offset) p =
      let layout : Layout = record { width = width; height = height; format = format; stride = stride; offset = offset } in
      unless-memory (refusal_of (set_scanout_blob_refusals state rect scanout id layout)) p (bound ink scanout id p) (bound-memory scanout id p)
  commanded-memory state (UpdateCursor scanout x y id hot_x hot_y) p = unless-memory (refusal_of (cursor_refusals state scanout id hot_x hot_y)) p _ (chosen-memory (id == 0) p _ refl)
  commanded-memory state _ p = refl

  ran-memory : (state : State) (command : Option Command) (p : Painting X Z) → (ran ink state command p).memory ≡ p.memory
  ran-memory state (Some command) p = commanded-memory state command p
  ran-memory state None p = refl

  pub requested-memory : (shape : Shape) (state : State) (request : Request) (p : Painting X Z) → (requested ink shape state request p).memory ≡ p.memory
  requested-memory (Bad fault) state request p = refl
  requested-memory _ state request p =
      let command = command_of (header_of request.bytes).kind (drop 24 request.bytes) in
      unless-memory (refusal_of (request_refusals state request.queue request.bytes)) p (ran ink state command p) (ran-memory state command p)
