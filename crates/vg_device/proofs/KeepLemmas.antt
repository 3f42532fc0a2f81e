-- A part of the display that is refused or changed, and the display around it; what is refused has changed nothing.
use Rattle.std.proofs.Common.{◌≡◌, ◌≢◌, ◌⊎◌, inl, inr, ℕ, ◌==◌, ◌||◌, ◌&&◌, Bool, true, false, cond, not, if◌then◌else◌, List, [], ◌∷◌, length, Option, Some, None, Result, Ok, Err, ap, sym, ◌∙◌, refl, subst}
use Rattle.std.specs.Prelude.{IfOk, OnOk, nat_le, nat_lt, is_none, drop, ok_or, option_map}
use Rattle.std.specs.Ordering.{nat_cmp}
use Rattle.std.specs.BTreeMap.{insert_entry, is_at}
use Rattle.std.specs.Map.{lookup, remove_entry}
use Rattle.vg_laws.proofs.Options.{none-there}
use Rattle.vg_formats.specs.declared.entry.MemEntry.{MemEntry}
use Rattle.vg_formats.specs.declared.rect.Rect.{Rect}
use Rattle.vg_formats.specs.declared.format.Format.{Format}
use Rattle.vg_formats.specs.Formats.{format_of}
use Rattle.vg_formats.specs.Pixels.{is_empty, is_inside}
use Rattle.vg_pages.specs.Memory.{Memory}
use Rattle.vg_wire.specs.declared.header.Header.{Header}
use Rattle.vg_wire_ext.specs.declared.command.Command.{Command}
use Rattle.vg_wire_ext.specs.declared.command.Command.TheVariants.{TwoD, CapsetInfo, Capset, Edid, AssignUuid, CreateBlob, SetScanoutBlob, CtxCreate, CtxDestroy, CtxAttach, CtxDetach, Submit, UpdateCursor, MoveCursor}
use Rattle.vg_wire.specs.declared.request.Malformed.{Malformed}
use Rattle.vg_wire.specs.declared.request.Malformed.TheVariants.{ShortHeader, UnknownKind, WrongQueue, ShortBody}
use Rattle.vg_wire.specs.declared.request.Queue.{Queue}
use Rattle.vg_wire.specs.Header.{header_of}
use Rattle.vg_wire_ext.specs.Commands.{command_of, is_known}
use Rattle.vg_wire_ext.specs.Request.{is_queue_of, request_of}
use Rattle.vg_device.specs.Features.{is_usable}
use Rattle.vg_wire_ext.specs.declared.response.Response.{Response}
use Rattle.vg_wire.specs.declared.two_d.Command2d.{Command2d}
use Rattle.vg_wire.specs.declared.two_d.Command2d.TheVariants.{DisplayInfo, Create2d, Unref, SetScanout, Flush, Transfer, Attach, Detach}
use Rattle.vg_resource.specs.declared.resource.Resource.{Resource}
use Rattle.vg_wire_ext.specs.declared.response.Response.TheVariants as responses
use Rattle.vg_transfer.specs.Backings.{attach, attach_refusals, detach, detach_refusals, detached}
use Rattle.vg_device.specs.FitsWithin.{IfDone, IsLetIn, changes, nodata, response_of}
use Rattle.vg_device.specs.Receive.{receive, receive_refusal, with_received}
use Rattle.vg_refusals.specs.Refusals.{refusal_of, unless_refused}
use Rattle.vg_resource.specs.Resource.{create, create_refusals, height_of, remove, resource_at, width_of, with_blank, without}
use Rattle.vg_blob.specs.declared.blobs.Blob.{Blob}
use Rattle.vg_blob.specs.Blobs as blobs
use Rattle.vg_blob.specs.Blobs.{blob_at, blob_bytes}
use Rattle.vg_scanout.specs.Scanout.{ScanoutState, are_too_many, bind, flush, flushed, is_too_large}
use Rattle.vg_device.specs.declared.blobs.Layout.{Layout}
use Rattle.vg_device.specs.Answered.{answered_by, answered_with}
use Rattle.vg_device.specs.BlobStep.{blob_binding, is_laid_out, set_scanout_blob_step}
use Rattle.vg_device.specs.State.{State, has_resource, is_blob}
use Rattle.vg_device.specs.Step.{Keeps, acceptance, answer_of, answered, binding_of, command_step, effect_and_bytes, flush_step, refused_or_ran, request_refusals, set_scanout_step, surface_of, timeline_refusals, two_d_step}
use Rattle.vg_device.proofs.MapLemmas.{remove_none}

-- what is said of that response is said of what the command came to
pub if-nodata : (done : Result (Unit {0}) ℕ) (P : Response → Type 0) → P (response_of done) → IfDone (nodata done) P
if-nodata (Ok done) P p = p
if-nodata (Err code) P p = p

-- what a part did by its own refusals is what the display does by them
pub lifted : {S : Type 0} (around : S → State) (refusal : Option ℕ) (old new next : S) (done : Result (Unit {0}) ℕ)
    → ◌≡◌ {A = S × Result (Unit {0}) ℕ} (new, done) (unless_refused refusal old next)
    → ◌≡◌ {A = State × Response} (answered_by refusal (around old) (around next)) (around new, response_of done)
lifted around (Some code) old new next done step = sym (ap (λ pair. (around pair.0, response_of pair.1)) step)
lifted around None old new next done step = sym (ap (λ pair. (around pair.0, response_of pair.1)) step)

keeps-answered : (refusal : Option ℕ) (state next : State) → Keeps (answered_by refusal state next).1 state (answered_by refusal state next).0
keeps-answered (Some code) state next = refl
keeps-answered None state next = tt

keeps-transfer : (b : Bool) (refusal : Option ℕ) (state next : State)
    → Keeps (cond b (state, responses.Nodata) (answered_by refusal state next)).1 state (cond b (state, responses.Nodata) (answered_by refusal state next)).0
keeps-transfer true refusal state next = tt
keeps-transfer false refusal state next = keeps-answered refusal state next

keeps-2d : (state : State) (command : Command2d) → Keeps (two_d_step state command).1 state (two_d_step state command).0
keeps-2d state DisplayInfo = refl
keeps-2d state (Create2d resource format width height) = keeps-answered _ state _
keeps-2d state (Unref resource) = keeps-answered _ state _
keeps-2d state (SetScanout rect scanout resource) = keeps-answered _ state _
keeps-2d state (Flush rect resource) = keeps-answered _ state _
keeps-2d state (Transfer rect offset resource) =
    keeps-transfer (is_blob state resource) (receive_refusal resource rect offset state.backings (resource_at resource state.resources)) state
    (record state { resources = with_received state.memory resource rect offset state.backings (resource_at resource state.resources) state.resources })
keeps-2d state (Attach resource entries) = keeps-answered _ state _
keeps-2d state (Detach resource) = keeps-answered _ state _

keeps-block : (refusal : Option ℕ) (state : State) (block : List ℕ)
    → Keeps (answered_with refusal state state (responses.Edid block)).1 state (answered_with refusal state state (responses.Edid block)).0
keeps-block (Some code) state block = refl
keeps-block None state block = refl

keeps-uuid : (refusal : Option ℕ) (state next : State) (bytes : List ℕ)
    → Keeps (answered_with refusal state next (responses.Uuid bytes)).1 state (answered_with refusal state next (responses.Uuid bytes)).0
keeps-uuid (Some code) state next bytes = refl
keeps-uuid None state next bytes = tt

keeps-command : (state : State) (context : ℕ) (command : Command) → Keeps (command_step state context command).1 state (command_step state context command).0
keeps-command state context (TwoD command) = keeps-2d state command
keeps-command state context (CapsetInfo index) = refl
keeps-command state context (Capset id version) = refl
keeps-command state context (Edid scanout) = keeps-block _ state _
keeps-command state context (AssignUuid resource) = keeps-uuid _ state _ _
keeps-command state context (CreateBlob resource mem flags blob_id size entries) = keeps-answered _ state _
keeps-command state context (SetScanoutBlob rect scanout resource width height format stride offset) = keeps-answered _ state _
keeps-command state context (CtxCreate nlen context_init name) = keeps-answered _ state _
keeps-command state context CtxDestroy = keeps-answered _ state _
keeps-command state context (CtxAttach resource) = keeps-answered _ state _
keeps-command state context (CtxDetach resource) = keeps-answered _ state _
keeps-command state context (Submit stream) = keeps-answered _ state _
keeps-command state context (UpdateCursor scanout x y resource hot_x hot_y) = keeps-answered _ state _
keeps-command state context (MoveCursor scanout x y) = keeps-answered _ state _

keeps-ran : (refusal : Option ℕ) (state : State) (context : ℕ) (command : Option Command)
    → Keeps (refused_or_ran refusal state context command).1 state (refused_or_ran refusal state context command).0
keeps-ran (Some code) state context command = refl
keeps-ran None state context (Some command) = keeps-command state context command
keeps-ran None state context None = refl

keeps-answer : (state : State) (queue : Queue) (bytes : List ℕ) → Keeps (answer_of state queue bytes).1 state (answer_of state queue bytes).0
keeps-answer state queue bytes =
    keeps-ran (refusal_of (request_refusals state queue bytes)) state (header_of bytes).ctx_id (command_of (header_of bytes).kind (drop 24 bytes))

-- another answer has changed nothing
other-kept : (response : Response) (old new : State) → Keeps response old new → response ≢ responses.Nodata → ((bytes : List ℕ) → response ≢ responses.Uuid bytes) → new ≡ old
other-kept responses.Nodata old new keeps other none = absurd (other refl)
other-kept (responses.DisplayInfo modes) old new keeps other none = keeps
other-kept (responses.CapsetInfo id version size) old new keeps other none = keeps
other-kept (responses.Capset content) old new keeps other none = keeps
other-kept (responses.Edid block) old new keeps other none = keeps
other-kept (responses.Uuid bytes) old new keeps other none = absurd (none bytes refl)
other-kept (responses.Error code) old new keeps other none = keeps

pub kept-given : (state now : State) (context : ℕ) (command : Command) (response : Response) → command_step state context command ≡ (now, response)
    → response ≢ responses.Nodata → ((bytes : List ℕ) → response ≢ responses.Uuid bytes) → now ≡ state
kept-given state now context command response step other none =
    other-kept response state now (subst (λ (done : State × Response). Keeps done.1 state done.0) step (keeps-command state context command)) other none

-- a command that changes nothing has changed nothing, whatever it was answered
stays : (refusal : Option ℕ) (state now : State) (given response : Response) → answered_with refusal state state given ≡ (now, response) → now ≡ state
stays (Some code) state now given response step = ap (λ (done : State × Response). done.0) (sym step)
stays None state now given response step = ap (λ (done : State × Response). done.0) (sym step)

pub told-kept : (state now : State) (context : ℕ) (command : Command) (response : Response) → changes command ≡ false → command_step state context command ≡ (now, response) → now ≡ state
told-kept state now context (TwoD DisplayInfo) response none step = ap (λ (done : State × Response). done.0) (sym step)
told-kept state now context (TwoD (Create2d resource format width height)) response none step = cc
told-kept state now context (TwoD (Unref resource)) response none step = cc
told-kept state now context (TwoD (SetScanout rect scanout resource)) response none step = cc
told-kept state now context (TwoD (Flush rect resource)) response none step = cc
told-kept state now context (TwoD (Transfer rect offset resource)) response none step = cc
told-kept state now context (TwoD (Attach resource entries)) response none step = cc
told-kept state now context (TwoD (Detach resource)) response none step = cc
told-kept state now context (CapsetInfo index) response none step = ap (λ (done : State × Response). done.0) (sym step)
told-kept state now context (Capset id version) response none step = ap (λ (done : State × Response). done.0) (sym step)
told-kept state now context (Edid scanout) response none step = stays _ state now _ response step
told-kept state now context (AssignUuid resource) response none step = cc
told-kept state now context (CreateBlob resource mem flags blob_id size entries) response none step = cc
told-kept state now context (SetScanoutBlob rect scanout resource width height format stride offset) response none step = cc
told-kept state now context (CtxCreate nlen context_init name) response none step = cc
told-kept state now context CtxDestroy response none step = cc
told-kept state now context (CtxAttach resource) response none step = cc
told-kept state now context (CtxDetach resource) response none step = cc
told-kept state now context (Submit stream) response none step = stays _ state now _ response step
told-kept state now context (UpdateCursor scanout x y resource hot_x hot_y) response none step = cc
told-kept state now context (MoveCursor scanout x y) response none step = cc

-- what changes something is answered as was expected
abbrev Expects : Response → Response → Type 0
Expects expected responses.Nodata = expected ≡ responses.Nodata
Expects expected (responses.Uuid bytes) = expected ≡ responses.Uuid bytes
Expects expected response = Unit {0}

expects-answered : (refusal : Option ℕ) (state next : State) → Expects responses.Nodata (answered_by refusal state next).1
expects-answered (Some code) state next = tt
expects-answered None state next = refl

expects-transfer : (b : Bool) (refusal : Option ℕ) (state next : State) → Expects responses.Nodata (cond b (state, responses.Nodata) (answered_by refusal state next)).1
expects-transfer true refusal state next = refl
expects-transfer false refusal state next = expects-answered refusal state next

expects-2d : (state : State) (command : Command2d) → Expects responses.Nodata (two_d_step state command).1
expects-2d state DisplayInfo = tt
expects-2d state (Create2d resource format width height) = expects-answered _ state _
expects-2d state (Unref resource) = expects-answered _ state _
expects-2d state (SetScanout rect scanout resource) = expects-answered _ state _
expects-2d state (Flush rect resource) = expects-answered _ state _
expects-2d state (Transfer rect offset resource) =
    expects-transfer (is_blob state resource) (receive_refusal resource rect offset state.backings (resource_at resource state.resources)) state
    (record state { resources = with_received state.memory resource rect offset state.backings (resource_at resource state.resources) state.resources })
expects-2d state (Attach resource entries) = expects-answered _ state _
expects-2d state (Detach resource) = expects-answered _ state _

expects-block : (refusal : Option ℕ) (state : State) (block : List ℕ) → Expects responses.Nodata (answered_with refusal state state (responses.Edid block)).1
expects-block (Some code) state block = tt
expects-block None state block = tt

expects-uuid : (refusal : Option ℕ) (state next : State) (bytes : List ℕ) → Expects (responses.Uuid bytes) (answered_with refusal state next (responses.Uuid bytes)).1
expects-uuid (Some code) state next bytes = tt
expects-uuid None state next bytes = refl

expects-command : (state : State) (context : ℕ) (command : Command) → Expects (acceptance state command) (command_step state context command).1
expects-command state context (TwoD command) = expects-2d state command
expects-command state context (CapsetInfo index) = tt
expects-command state context (Capset id version) = tt
expects-command state context (Edid scanout) = expects-block _ state _
expects-command state context (AssignUuid resource) = expects-uuid _ state _ _
expects-command state context (CreateBlob resource mem flags blob_id size entries) = expects-answered _ state _
expects-command state context (SetScanoutBlob rect scanout resource width height format stride offset) = expects-answered _ state _
expects-command state context (CtxCreate nlen context_init name) = expects-answered _ state _
expects-command state context CtxDestroy = expects-answered _ state _
expects-command state context (CtxAttach resource) = expects-answered _ state _
expects-command state context (CtxDetach resource) = expects-answered _ state _
expects-command state context (Submit stream) = expects-answered _ state _
expects-command state context (UpdateCursor scanout x y resource hot_x hot_y) = expects-answered _ state _
expects-command state context (MoveCursor scanout x y) = expects-answered _ state _

expects-given : (state now : State) (context : ℕ) (command : Command) (response : Response) → command_step state context command ≡ (now, response) → Expects (acceptance state command) response
expects-given state now context command response step = subst (λ (done : State × Response). Expects (acceptance state command) done.1) step (expects-command state context command)

pub accepted-is : (state now : State) (context : ℕ) (command : Command) (response : Response) → command_step state context command ≡ (now, response)
    → (response ≡ responses.Nodata) ⊎ ((bytes : List ℕ) × (response ≡ responses.Uuid bytes)) → acceptance state command ≡ response
accepted-is state now context command response step (inl is) = subst (Expects (acceptance state command)) is (expects-given state now context command response step) ∙ sym is
accepted-is state now context command response step (inr (bytes, is)) = subst (Expects (acceptance state command)) is (expects-given state now context command response step) ∙ sym is

-- what is answered to what was read, where these are the refusals after that
abbrev by_request : Bool → List (Bool × ℕ) → State → ℕ → Result (Header × Command) Malformed → State × Response
by_request usable later state context (Ok (header, command)) =
    if usable then refused_or_ran (refusal_of later) state context (Some command) else (state, responses.Error 0x1200)
by_request usable later state context (Err malformed) = (state, responses.Error 0x1200)

by_tests : (short known queue usable : Bool) (found : Option Command) (later : List (Bool × ℕ)) (state : State) (context : ℕ) (header : Header)
    → refused_or_ran (refusal_of ((short, 0x1200) ∷ (not known, 0x1200) ∷ (not queue, 0x1200) ∷ (not usable, 0x1200) ∷ (is_none found, 0x1200) ∷ later)) state context found
    ≡ by_request usable later state context (if short then Err ShortHeader else if not known then Err (UnknownKind header.kind) else if not queue then Err WrongQueue
    else ok_or (option_map (λ command. (header, command)) found) ShortBody)
by_tests true known queue usable found later state context header = refl
by_tests false false queue usable found later state context header = refl
by_tests false true false usable found later state context header = refl
by_tests false true true false None later state context header = refl
by_tests false true true false (Some command) later state context header = refl
by_tests false true true true None later state context header = refl
by_tests false true true true (Some command) later state context header = refl

answer-read : (state : State) (queue : Queue) (bytes : List ℕ)
    → answer_of state queue bytes
    ≡ by_request (is_usable state.setup.accepted (header_of bytes).kind) (timeline_refusals state (header_of bytes)) state (header_of bytes).ctx_id (request_of queue bytes)
answer-read state queue bytes =
    by_tests (nat_lt (length bytes) 24) (is_known (header_of bytes).kind) (is_queue_of (header_of bytes).kind queue)
    (is_usable state.setup.accepted (header_of bytes).kind) (command_of (header_of bytes).kind (drop 24 bytes)) (timeline_refusals state (header_of bytes)) state (header_of bytes).ctx_id (header_of bytes)

-- a request that was read, of a kind that may come
pub answer-ok : (state : State) (queue : Queue) (bytes : List ℕ) (header : Header) (command : Command) (refusal : Option ℕ)
    → is_usable state.setup.accepted (header_of bytes).kind ≡ true → request_of queue bytes ≡ Ok (header, command)
    → refusal_of (timeline_refusals state (header_of bytes)) ≡ refusal
    → answer_of state queue bytes ≡ refused_or_ran refusal state (header_of bytes).ctx_id (Some command)
answer-ok state queue bytes header command refusal usable read judged =
    let later = timeline_refusals state (header_of bytes) in
    let context = (header_of bytes).ctx_id in
    answer-read state queue bytes
    ∙ ap (λ b. by_request b later state context (request_of queue bytes)) usable
    ∙ ap (by_request true later state context) read
    ∙ ap (λ r. refused_or_ran r state context (Some command)) judged

-- what was read of such a request
abbrev command_in : Result (Header × Command) Malformed → Option Command
command_in (Ok (header, command)) = Some command
command_in (Err malformed) = None

read-tests : (short known queue : Bool) (found : Option Command) (whole header : Header) (command : Command)
    → ◌≡◌ {A = Result (Header × Command) Malformed} (if short then Err ShortHeader else if not known then Err (UnknownKind whole.kind) else if not queue then Err WrongQueue
    else ok_or (option_map (λ command. (whole, command)) found) ShortBody) (Ok (header, command))
    → (short ≡ false) × (known ≡ true) × (queue ≡ true) × (found ≡ Some command)
read-tests true known queue found whole header command read = cc
read-tests false false queue found whole header command read = cc
read-tests false true false found whole header command read = cc
read-tests false true true None whole header command read = cc
read-tests false true true (Some other) whole header command read = (refl, refl, refl, ap command_in read)

pub let-in : (state : State) (queue : Queue) (bytes : List ℕ) (header : Header) (command : Command)
    → is_usable state.setup.accepted (header_of bytes).kind ≡ true → request_of queue bytes ≡ Ok (header, command)
    → refusal_of (timeline_refusals state (header_of bytes)) ≡ None → IsLetIn state queue bytes command
let-in state queue bytes header command usable read judged =
    let (short, known, right, found) = read-tests (nat_lt (length bytes) 24) (is_known (header_of bytes).kind) (is_queue_of (header_of bytes).kind queue) (command_of (header_of bytes).kind (drop 24 bytes)) (header_of bytes) header command read in
    record { none = rw (short, known, right, usable, found) judged; reads = found }

-- and of one that is refused behind it
pub let-in-not : (state : State) (queue : Queue) (bytes : List ℕ) (header : Header) (command : Command) (code : ℕ)
    → is_usable state.setup.accepted (header_of bytes).kind ≡ true → request_of queue bytes ≡ Ok (header, command)
    → refusal_of (timeline_refusals state (header_of bytes)) ≡ Some code → refusal_of (request_refusals state queue bytes) ≡ Some code
let-in-not state queue bytes header command code usable read judged =
    let (short, known, right, found) = read-tests (nat_lt (length bytes) 24) (is_known (header_of bytes).kind) (is_queue_of (header_of bytes).kind queue) (command_of (header_of bytes).kind (drop 24 bytes)) (header_of bytes) header command read in
    rw (short, known, right, usable, found) judged

-- and of one that couldn't be read
not-read : (short known queue usable : Bool) (found : Option Command) (header : Header) (later : List (Bool × ℕ))
    → ((request : Header × Command) → ◌≢◌ {A = Result (Header × Command) Malformed} (if short then Err ShortHeader else if not known then Err (UnknownKind header.kind) else if not queue then Err WrongQueue
    else ok_or (option_map (λ command. (header, command)) found) ShortBody) (Ok request))
    → refusal_of ((short, 0x1200) ∷ (not known, 0x1200) ∷ (not queue, 0x1200) ∷ (not usable, 0x1200) ∷ (is_none found, 0x1200) ∷ later) ≡ Some 0x1200
not-read true known queue usable found header later other = refl
not-read false false queue usable found header later other = refl
not-read false true false usable found header later other = refl
not-read false true true false found header later other = refl
not-read false true true true None header later other = refl
not-read false true true true (Some command) header later other = absurd (other (header, command) refl)

pub not-let-in : (state : State) (queue : Queue) (bytes : List ℕ) (read : Result (Header × Command) Malformed)
    → read ≡ request_of queue bytes → ((request : Header × Command) → read ≢ Ok request) → refusal_of (request_refusals state queue bytes) ≡ Some 0x1200
not-let-in state queue bytes read is other =
    not-read (nat_lt (length bytes) 24) (is_known (header_of bytes).kind) (is_queue_of (header_of bytes).kind queue) (is_usable state.setup.accepted (header_of bytes).kind)
    (command_of (header_of bytes).kind (drop 24 bytes)) (header_of bytes) (timeline_refusals state (header_of bytes)) (λ request same. other request (is ∙ same))

-- one whose command couldn't be read
pub answer-not : (state : State) (queue : Queue) (bytes : List ℕ) (read : Result (Header × Command) Malformed)
    → read ≡ request_of queue bytes → ((request : Header × Command) → read ≢ Ok request) → answer_of state queue bytes ≡ (state, responses.Error 0x1200)
answer-not state queue bytes (Ok request) is other = absurd (other request refl)
answer-not state queue bytes (Err malformed) is other =
    answer-read state queue bytes
    ∙ ap (by_request (is_usable state.setup.accepted (header_of bytes).kind) (timeline_refusals state (header_of bytes)) state (header_of bytes).ctx_id) (sym is)

-- what was answered, and what was written of it
pub answered-given : (state now : State) (queue : Queue) (bytes : List ℕ) (room : ℕ) (done : State × Response) (response : Response) (items : List ℕ)
    → answer_of state queue bytes ≡ done → done ≡ (now, response) → items ≡ answered bytes room response
    → ◌≡◌ {A = State × List ℕ} (now, items) (effect_and_bytes state queue bytes room)
answered-given state now queue bytes room done response items answer step written =
    ap (λ (i : List ℕ). (now, i)) written ∙ sym (ap (λ (d : State × Response). (d.0, answered bytes room d.1)) (answer ∙ step))

pub answered-ok : {V E : Type 0} (result : Result V E) (items : V → List ℕ) (state now : State) (queue : Queue) (bytes : List ℕ) (room : ℕ) (done : State × Response) (response : Response)
    → answer_of state queue bytes ≡ done → done ≡ (now, response) → IfOk result (λ v. items v ≡ answered bytes room response)
    → IfOk result (λ v. ◌≡◌ {A = State × List ℕ} (now, items v) (effect_and_bytes state queue bytes room))
answered-ok (Ok v) items state now queue bytes room done response answer step written = answered-given state now queue bytes room done response (items v) answer step written
answered-ok (Err error) items state now queue bytes room done response answer step written = tt

-- what is refused, or only told, has changed nothing
pub command-kept : {V E : Type 0} (result : Result V E) (items : V → List ℕ) (state new : State) (queue : Queue) (bytes : List ℕ) (room : ℕ)
    → IfOk result (λ v. ◌≡◌ {A = State × List ℕ} (new, items v) (effect_and_bytes state queue bytes room))
    → OnOk result (Keeps (answer_of state queue bytes).1 state new)
command-kept (Ok v) items state new queue bytes room step =
    subst (λ (now : State). Keeps (answer_of state queue bytes).1 state now) (sym (ap (λ (done : State × List ℕ). done.0) step)) (keeps-answer state queue bytes)
command-kept (Err error) items state new queue bytes room step = tt

pub lifted-create : (around : List (ℕ × Resource) → State) (id width height format : ℕ) (old new : List (ℕ × Resource)) (done : Result (Unit {0}) ℕ)
    → ◌≡◌ {A = List (ℕ × Resource) × Result (Unit {0}) ℕ} (new, done) (create id width height format old)
    → ◌≡◌ {A = State × Response} (answered_by (refusal_of (create_refusals id width height format old)) (around old) (around (with_blank id width height (format_of format) old))) (around new, response_of done)
unfolding create
lifted-create around id width height format old new done step = lifted around _ old new _ done step

pub lifted-attach : (around : List (ℕ × List MemEntry) → State) (known : Bool) (memory : Memory) (id : ℕ) (entries : List MemEntry) (old new : List (ℕ × List MemEntry)) (done : Result (Unit {0}) ℕ)
    → known ≡ true → ◌≡◌ {A = List (ℕ × List MemEntry) × Result (Unit {0}) ℕ} (new, done) (attach true memory id entries old)
    → ◌≡◌ {A = State × Response} (answered_by (refusal_of (attach_refusals known memory id entries old)) (around old) (around (insert_entry nat_cmp old id entries))) (around new, response_of done)
unfolding attach
lifted-attach around known memory id entries old new done is step = rw is (lifted around _ old new _ done step)

pub lifted-detach : (around : List (ℕ × List MemEntry) → State) (known : Bool) (id : ℕ) (old new : List (ℕ × List MemEntry)) (done : Result (Unit {0}) ℕ)
    → known ≡ true → ◌≡◌ {A = List (ℕ × List MemEntry) × Result (Unit {0}) ℕ} (new, done) (detach true id old)
    → ◌≡◌ {A = State × Response} (answered_by (refusal_of (detach_refusals known id old)) (around old) (around (detached id old))) (around new, response_of done)
unfolding detach
lifted-detach around known id old new done is step = rw is (lifted around _ old new _ done step)

pub lifted-receive : (around : List (ℕ × Resource) → State) (memory : Memory) (id : ℕ) (rect : Rect) (offset : ℕ) (backings : List (ℕ × List MemEntry)) (old new : List (ℕ × Resource)) (done : Result (Unit {0}) ℕ)
    → ◌≡◌ {A = List (ℕ × Resource) × Result (Unit {0}) ℕ} (new, done) (receive memory id rect offset backings old)
    → ◌≡◌ {A = State × Response} (answered_by (receive_refusal id rect offset backings (resource_at id old)) (around old) (around (with_received memory id rect offset backings (resource_at id old) old))) (around new, response_of done)
unfolding receive
lifted-receive around memory id rect offset backings old new done step = lifted around _ old new _ done step

pub step-show : (state : State) (rect : Rect) (scanout id : ℕ) (resource : Resource) (new : ScanoutState) (done : Result (Unit {0}) ℕ)
    → nat_le (length state.setup.displays) scanout ≡ false → (id == 0) ≡ false → is_blob state id ≡ false → resource_at id state.resources ≡ Some resource
    → (is_empty rect || not (is_inside rect resource.width resource.height)) ≡ false
    → ◌≡◌ {A = ScanoutState × Result (Unit {0}) ℕ} (new, done) (bind scanout (binding_of id rect resource) state.scanouts)
    → set_scanout_step state rect scanout id ≡ (record state { scanouts = new }, response_of done)
unfolding bind
step-show state rect scanout id resource new done there some apart found fits step =
    rw (there, some, apart, found, fits) (lifted (λ scanouts. record state { scanouts = scanouts }) (refusal_of ((is_too_large rect, 0x1201) ∷ [])) state.scanouts new _ done step)

-- a flush of bytes that are the resource's, which isn't refused before
flush-by : (state : State) (rect : Rect) (id : ℕ) (surface : List ℕ) (new : ScanoutState) (done : Result (Unit {0}) ℕ)
    → surface_of state id ≡ surface → has_resource state id ≡ true
    → (not (is_blob state id) && not (is_inside rect (width_of (resource_at id state.resources)) (height_of (resource_at id state.resources)))) ≡ false
    → ◌≡◌ {A = ScanoutState × Result (Unit {0}) ℕ} (new, done) (flush state.entries id rect surface state.cursors state.scanouts)
    → flush_step state rect id ≡ (record state { scanouts = new }, response_of done)
unfolding flush
flush-by state rect id surface new done shown there inside step =
    rw (there, inside, shown) (lifted (λ scanouts. record state { scanouts = scanouts }) (refusal_of ((are_too_many (flushed state.entries id rect surface state.cursors state.scanouts).frames, 0x1201) ∷ [])) state.scanouts new _ done step)

pub step-flush : (state : State) (rect : Rect) (id : ℕ) (resource : Resource) (new : ScanoutState) (done : Result (Unit {0}) ℕ)
    → is_blob state id ≡ false → resource_at id state.resources ≡ Some resource → is_inside rect resource.width resource.height ≡ true
    → ◌≡◌ {A = ScanoutState × Result (Unit {0}) ℕ} (new, done) (flush state.entries id rect resource.pixels state.cursors state.scanouts)
    → flush_step state rect id ≡ (record state { scanouts = new }, response_of done)
step-flush state rect id resource new done apart found inside step =
    let none = none-there (blob_at id state.blobs) apart in
    flush-by state rect id resource.pixels new done (rw (none, found) refl) (rw (none, found) refl) (rw (none, found, inside) refl) step

pub step-flush-blob : (state : State) (rect : Rect) (id : ℕ) (blob : Blob) (new : ScanoutState) (done : Result (Unit {0}) ℕ)
    → blob_at id state.blobs ≡ Some blob
    → ◌≡◌ {A = ScanoutState × Result (Unit {0}) ℕ} (new, done) (flush state.entries id rect (blob_bytes state.memory blob) state.cursors state.scanouts)
    → flush_step state rect id ≡ (record state { scanouts = new }, response_of done)
step-flush-blob state rect id blob new done found step =
    flush-by state rect id (blob_bytes state.memory blob) new done (rw found refl) (rw found refl) (rw found refl) step

pub step-show-blob : (state : State) (rect : Rect) (scanout id : ℕ) (layout : Layout) (blob : Blob) (format : Format) (new : ScanoutState) (done : Result (Unit {0}) ℕ)
    → nat_le (length state.setup.displays) scanout ≡ false → (id == 0) ≡ false → blob_at id state.blobs ≡ Some blob
    → is_laid_out rect layout blob.size ≡ true → format_of layout.format ≡ Some format
    → ◌≡◌ {A = ScanoutState × Result (Unit {0}) ℕ} (new, done) (bind scanout (blob_binding id rect layout format) state.scanouts)
    → set_scanout_blob_step state rect scanout id layout ≡ (record state { scanouts = new }, response_of done)
unfolding bind
step-show-blob state rect scanout id layout blob format new done there some found fits known step =
    rw (there, some, found, fits, known) (lifted (λ scanouts. record state { scanouts = scanouts }) (refusal_of ((is_too_large rect, 0x1201) ∷ [])) state.scanouts new _ done step)

-- a resource that was taken away, or wasn't
refused-apart : (code : ℕ) → ◌≡◌ {A = Result (Unit {0}) ℕ} (Err code) (Ok tt) → ⊥
refused-apart code same = cc

err-same : {a b : ℕ} → ◌≡◌ {A = Result (Unit {0}) ℕ} (Err a) (Err b) → a ≡ b
err-same same = cc

part-refused : {S : Type 0} (refusal : Option ℕ) (old new next : S) (done : Result (Unit {0}) ℕ) (code : ℕ)
    → ◌≡◌ {A = S × Result (Unit {0}) ℕ} (new, done) (unless_refused refusal old next) → done ≡ Err code → (new ≡ old) × (refusal ≡ Some code)
part-refused (Some other) old new next done code step is =
    (ap (λ pair. pair.0) step, ap Some (err-same (sym (ap (λ pair. pair.1) step) ∙ is)))
part-refused None old new next done code step is = absurd (refused-apart code (sym is ∙ ap (λ pair. pair.1) step))

part-done : {S : Type 0} (refusal : Option ℕ) (old new next : S) (done : Result (Unit {0}) ℕ)
    → ◌≡◌ {A = S × Result (Unit {0}) ℕ} (new, done) (unless_refused refusal old next) → done ≡ Ok tt → (new ≡ next) × (refusal ≡ None)
part-done (Some other) old new next done step is = absurd (refused-apart other (sym (ap (λ pair. pair.1) step) ∙ is))
part-done None old new next done step is = (ap (λ pair. pair.0) step, refl)

-- what was to be taken away isn't there any more, also where it never was
taken : {X : Type 0} (id : ℕ) (old new : List (ℕ × X)) (done : Result (Unit {0}) ℕ) (found : Option X) → lookup (is_at (nat_cmp id)) old ≡ found
    → ◌≡◌ {A = List (ℕ × X) × Result (Unit {0}) ℕ} (new, done) (unless_refused (refusal_of ((is_none found, 0x1203) ∷ [])) old (remove_entry (is_at (nat_cmp id)) old))
    → new ≡ remove_entry (is_at (nat_cmp id)) old
taken id old new done (Some x) is step = ap (λ pair. pair.0) step
taken id old new done None is step = ap (λ pair. pair.0) step ∙ sym (remove_none id old is)

pub resource-taken : (id : ℕ) (old new : List (ℕ × Resource)) (done : Result (Unit {0}) ℕ)
    → ◌≡◌ {A = List (ℕ × Resource) × Result (Unit {0}) ℕ} (new, done) (remove id old) → new ≡ without id old
unfolding remove
resource-taken id old new done step = taken id old new done (resource_at id old) refl step

pub blob-taken : (id : ℕ) (old new : List (ℕ × Blob)) (done : Result (Unit {0}) ℕ)
    → ◌≡◌ {A = List (ℕ × Blob) × Result (Unit {0}) ℕ} (new, done) (blobs.remove id old) → new ≡ blobs.without id old
unfolding blobs.remove
blob-taken id old new done step = taken id old new done (blob_at id old) refl step

pub lifted-blob : (around : List (ℕ × Blob) → State) (memory : Memory) (id mem flags size : ℕ) (entries : List MemEntry) (old new : List (ℕ × Blob)) (done : Result (Unit {0}) ℕ)
    → ◌≡◌ {A = List (ℕ × Blob) × Result (Unit {0}) ℕ} (new, done) (blobs.create memory id mem flags size entries old)
    → ◌≡◌ {A = State × Response} (answered_by (refusal_of (blobs.create_refusals memory id mem flags size entries old)) (around old) (around (blobs.with_blob id size entries old))) (around new, response_of done)
unfolding blobs.create
lifted-blob around memory id mem flags size entries old new done step = lifted around _ old new _ done step
