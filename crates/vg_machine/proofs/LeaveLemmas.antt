-- What a step that isn't blocked leaves of the parts that a lent job stands on.
use Rattle.std.proofs.Common.{◌≡◌, ◌≢◌, ℕ, ◌+◌, ◌*◌, ◌%◌, ◌==◌, ◌||◌, ◌&&◌, not, inl, inr, Bool, true, false, cond, List, [], ◌∷◌, length, drop, Option, Some, None, Result, Ok, Err, ap, sym, ◌∙◌, refl, subst}
use Rattle.std.specs.Prelude.{is_none, is_some, ok_or, option_map, nat_lt, if◌then◌else◌}
use Rattle.std.specs.List.{list_any}
use Rattle.std.specs.Ordering.{nat_cmp}
use Rattle.std.specs.Map.{lookup, set_value}
use Rattle.std.specs.BTreeMap.{is_at}
use Rattle.vg_laws.proofs.Numbers.{differs}
use Rattle.vg_laws.proofs.Bools.{or-first, or-second}
use Rattle.vg_history.specs.Lists.{Has}
use Rattle.vg_cursor.specs.declared.cursor.Cursor.{Cursor}
use Rattle.vg_formats.specs.declared.rect.Rect.{Rect}
use Rattle.vg_formats.specs.Formats.{format_of}
use Rattle.vg_formats.specs.declared.format.Format.{Format}
use Rattle.vg_pages.specs.Memory.{Memory}
use Rattle.vg_resource.specs.declared.resource.Resource.{Resource}
use Rattle.vg_refusals.specs.Refusals.{refusal_of}
use Rattle.vg_resource.specs.Resource.{pixel_bytes, resource_at, with_blank}
use Rattle.vg_wire.specs.Kinds.{ERR_INVALID_CONTEXT_ID, ERR_INVALID_PARAMETER, ERR_INVALID_RESOURCE_ID, ERR_OUT_OF_MEMORY}
use Rattle.vg_blob.specs.declared.blobs.Blob.{Blob}
use Rattle.vg_blob.specs.Blobs as blobs
use Rattle.vg_blob.specs.Blobs.{blob_at}
use Rattle.vg_blob.specs.Uuids.{assign_refusals, assigned, number_for, uuid_bytes}
use Rattle.vg_context.specs.Contexts.{Context, NAME_BYTES, changed, context_at, create_refusals, destroy_refusals, detach_refusals, forgotten, is_live, submit_refusals, with_resource, without_resource}
use Rattle.vg_transfer.specs.Backings.{backing_at}
use Rattle.vg_formats.specs.declared.entry.MemEntry.{MemEntry}
use Rattle.vg_scanout.specs.Scanout.{ScanoutState, unbound}
use Rattle.vg_wire.specs.Header.{header_of}
use Rattle.vg_wire.specs.declared.two_d.Command2d.{Command2d}
use Rattle.vg_wire.specs.declared.two_d.Command2d.TheVariants.{DisplayInfo, Create2d, Unref, SetScanout, Flush, Transfer, Attach, Detach}
use Rattle.vg_wire_ext.specs.declared.command.Command.{Command}
use Rattle.vg_wire_ext.specs.declared.command.Command.TheVariants.{TwoD, CapsetInfo, Capset, Edid, AssignUuid, CreateBlob, SetScanoutBlob, CtxCreate, CtxDestroy, CtxAttach, CtxDetach, Submit, UpdateCursor, MoveCursor}
use Rattle.vg_wire_ext.specs.declared.response.Response.{Response}
use Rattle.vg_wire_ext.specs.declared.response.Response.TheVariants as responses
use Rattle.vg_device.specs.declared.blobs.Layout.{Layout}
use Rattle.vg_device.specs.Answered.{answered_with}
use Rattle.vg_device.specs.BlobStep.{create_blob_refusals, set_scanout_blob_refusals, with_scanout_blob, with_shown_blob}
use Rattle.vg_device.specs.ContextStep.{ctx_attach_refusals}
use Rattle.vg_device.specs.Receive.{receive_refusal, with_received}
use Rattle.vg_device.specs.State.{State, counted, has_resource, is_blob}
use Rattle.vg_device.specs.RequestStep.{request_step, shaped_step}
use Rattle.vg_device.specs.Features.{is_usable}
use Rattle.vg_device.specs.declared.request.Request.{Request}
use Rattle.vg_chain.specs.declared.shape.Shape.{Shape}
use Rattle.vg_chain.specs.declared.shape.Shape.TheVariants.{Plain, Pieces, Indirect, Mixed, Bad}
use Rattle.vg_wire.specs.declared.header.Header.{Header}
use Rattle.vg_wire.specs.declared.request.Queue.{Queue}
use Rattle.vg_wire.specs.declared.request.Malformed.{Malformed}
use Rattle.vg_wire.specs.declared.request.Malformed.TheVariants.{ShortHeader, UnknownKind, WrongQueue, ShortBody}
use Rattle.vg_wire_ext.specs.Commands.{command_of, is_known}
use Rattle.vg_wire_ext.specs.Request.{is_queue_of, request_of}
use Rattle.vg_device.specs.Step.{answer_of, attach_2d_refusals, command_step, create_2d_refusals, cursor_refusals, detach_2d_refusals, edid_refusals, flush_refusals, flushed_by, move_refusals, refused_or_ran, request_refusals, set_scanout_refusals, timeline_refusals, transfer_2d_step, two_d_step, unref_refusals, unreferenced, with_scanout, with_shown}
use Rattle.vg_device.proofs.MapLemmas.{insert_other, remove_other, set_other}
use Rattle.vg_device.proofs.ShowingLemmas.{first-not}
use Rattle.vg_pages.specs.Lending.{AreSameIn}
use Rattle.vg_machine.specs.Blocks.{blocks, blocks_named, blocks_shaped, is_lent, is_of_context, keeps_context, names_context}
use Rattle.vg_machine.specs.Jobs.{Job}
use Rattle.vg_wire_ext.specs.Named.{named_2d, named_by, named_in}

-- the parts are as they were
pub record Leaves (old new : State) (job : Job) : Type 0 where
  pub setup : new.setup ≡ old.setup
  pub resource : resource_at job.resource new.resources ≡ resource_at job.resource old.resources
  pub blob : blob_at job.resource new.blobs ≡ blob_at job.resource old.blobs
  pub backing : backing_at job.resource new.backings ≡ backing_at job.resource old.backings
  pub memory : AreSameIn job.pages old.memory new.memory
  pub context : names_context job.asked ≡ true → is_live (header_of job.asked.bytes).ctx_id old.contexts ≡ true → is_live (header_of job.asked.bytes).ctx_id new.contexts ≡ true

pub same-itself : (pages : List ℕ) (memory : Memory) → AreSameIn pages memory memory
same-itself pages memory = record { size = refl; each = λ place among. refl }

pub leaves-itself : (state : State) (job : Job) → Leaves state state job
leaves-itself state job = record { setup = refl; resource = refl; blob = refl; backing = refl; memory = same-itself job.pages state.memory; context = λ names live. live }

-- a command that isn't refused
leaves-answered : (refusal : Option ℕ) (state next : State) (response : Response) (job : Job)
    → (refusal ≡ None → Leaves state next job) → Leaves state (answered_with refusal state next response).0 job
leaves-answered (Some code) state next response job leaves = leaves-itself state job
leaves-answered None state next response job leaves = leaves refl

leaves-resources : (state : State) (job : Job) (now : List (ℕ × Resource)) → resource_at job.resource now ≡ resource_at job.resource state.resources
    → Leaves state (record state { resources = now }) job
leaves-resources state job now same = record { setup = refl; resource = same; blob = refl; backing = refl; memory = same-itself job.pages state.memory; context = λ names live. live }

leaves-backings : (state : State) (job : Job) (now : List (ℕ × List MemEntry)) → backing_at job.resource now ≡ backing_at job.resource state.backings
    → Leaves state (record state { backings = now }) job
leaves-backings state job now same = record { setup = refl; resource = refl; blob = refl; backing = same; memory = same-itself job.pages state.memory; context = λ names live. live }

leaves-blobs : (state : State) (job : Job) (now : List (ℕ × Blob)) → blob_at job.resource now ≡ blob_at job.resource state.blobs
    → Leaves state (record state { blobs = now }) job
leaves-blobs state job now same = record { setup = refl; resource = refl; blob = same; backing = refl; memory = same-itself job.pages state.memory; context = λ names live. live }

leaves-contexts : (state : State) (job : Job) (now : List (ℕ × Context))
    → (names_context job.asked ≡ true → is_live (header_of job.asked.bytes).ctx_id state.contexts ≡ true → is_live (header_of job.asked.bytes).ctx_id now ≡ true)
    → Leaves state (record state { contexts = now }) job
leaves-contexts state job now kept = record { setup = refl; resource = refl; blob = refl; backing = refl; memory = same-itself job.pages state.memory; context = kept }

-- what no job stands on
leaves-scanouts : (state : State) (job : Job) (now : ScanoutState) → Leaves state (record state { scanouts = now }) job
leaves-scanouts state job now = record { setup = refl; resource = refl; blob = refl; backing = refl; memory = same-itself job.pages state.memory; context = λ names live. live }

leaves-cursors : (state : State) (job : Job) (cursors : List Cursor) (now : ScanoutState) → Leaves state (record state { cursors = cursors; scanouts = now }) job
leaves-cursors state job cursors now = record { setup = refl; resource = refl; blob = refl; backing = refl; memory = same-itself job.pages state.memory; context = λ names live. live }

leaves-uuids : (state : State) (job : Job) (id : ℕ) → Leaves state (record state { uuids = assigned id state.uuids }) job
leaves-uuids state job id = record { setup = refl; resource = refl; blob = refl; backing = refl; memory = same-itself job.pages state.memory; context = λ names live. live }

-- one of a list of which none passes a test
pub any-not : {X : Type 0} (test : X → Bool) (xs : List X) (x : X) → list_any test xs ≡ false → Has xs x → test x ≡ false
any-not test [] x none has = absurd has
any-not test (y ∷ ys) x none (inl is) = subst (λ z. test z ≡ false) is (or-first (test y) (list_any test ys) none)
any-not test (y ∷ ys) x none (inr has) = any-not test ys x (or-second (test y) (list_any test ys) none) has

pub apart-from : (jobs : List Job) (job : Job) (id : ℕ) → is_lent jobs id ≡ false → Has jobs job → job.resource ≢ id
apart-from jobs job id none has = differs job.resource id (any-not (λ (one : Job). one.resource == id) jobs job none has)

-- what is there isn't what isn't
found-apart : {X : Type 0} (entries : List (ℕ × X)) (q id : ℕ) (x : X) → lookup (is_at (nat_cmp q)) entries ≡ Some x → is_some (lookup (is_at (nat_cmp id)) entries) ≡ false → q ≢ id
found-apart entries q id x there none = λ same. some-not (lookup (is_at (nat_cmp q)) entries) x there (ap (λ n. is_some (lookup (is_at (nat_cmp n)) entries)) same ∙ none)
  where
    some-not : {X : Type 0} (found : Option X) (x : X) → found ≡ Some x → is_some found ≡ false → ⊥
    some-not (Some y) x is none = cc
    some-not None x is none = cc

second-not : {R : Type 0} (a : Bool) (first : R) (b : Bool) (refusal : R) (more : List (Bool × R)) → refusal_of ((a, first) ∷ (b, refusal) ∷ more) ≡ None → b ≡ false
second-not true first b refusal more none = cc
second-not false first b refusal more none = first-not b refusal more none

-- a context that is live stays so where one gets or loses a resource
live-set-by : (q : ℕ) (now : Context) (entry : ℕ × Context) (entries more : List (ℕ × Context)) (b c : Bool) → is_at (nat_cmp q) entry.0 ≡ c
    → is_some (cond c (Some entry.1) (lookup (is_at (nat_cmp q)) entries)) ≡ true → (is_live q entries ≡ true → is_live q more ≡ true)
    → is_some (lookup (is_at (nat_cmp q)) (cond b ((entry.0, now) ∷ entries) (entry ∷ more))) ≡ true
live-set-by q now entry entries more true true at is rest = ap (λ c. is_some (cond c (Some now) (lookup (is_at (nat_cmp q)) entries))) at
live-set-by q now entry entries more true false at is rest = ap (λ c. is_some (cond c (Some now) (lookup (is_at (nat_cmp q)) entries))) at ∙ is
live-set-by q now entry entries more false true at is rest = ap (λ c. is_some (cond c (Some entry.1) (lookup (is_at (nat_cmp q)) more))) at
live-set-by q now entry entries more false false at is rest = ap (λ c. is_some (cond c (Some entry.1) (lookup (is_at (nat_cmp q)) more))) at ∙ rest is

live-set : (q id : ℕ) (now : Context) (entries : List (ℕ × Context)) → is_live q entries ≡ true → is_live q (set_value (is_at (nat_cmp id)) entries now) ≡ true
live-set q id now [] live = live
live-set q id now (entry ∷ entries) live =
    live-set-by q now entry entries (set_value (is_at (nat_cmp id)) entries now) (is_at (nat_cmp id) entry.0) (is_at (nat_cmp q) entry.0) refl live (live-set q id now entries)

live-changed : (q id : ℕ) (change : Context → Context) (found : Option Context) (entries : List (ℕ × Context)) → is_live q entries ≡ true → is_live q (changed id change found entries) ≡ true
live-changed q id change (Some context) entries live = live-set q id (change context) entries live
live-changed q id change None entries live = live

live-forgotten-by : (q resource : ℕ) (entry : ℕ × Context) (entries : List (ℕ × Context)) (c : Bool) → is_at (nat_cmp q) entry.0 ≡ c
    → is_some (cond c (Some entry.1) (lookup (is_at (nat_cmp q)) entries)) ≡ true → (is_live q entries ≡ true → is_live q (forgotten resource entries) ≡ true)
    → is_live q (forgotten resource (entry ∷ entries)) ≡ true
live-forgotten-by q resource entry entries true at is rest =
    ap (λ c. is_some (cond c (Some (without_resource resource entry.1)) (lookup (is_at (nat_cmp q)) (forgotten resource entries)))) at
live-forgotten-by q resource entry entries false at is rest =
    ap (λ c. is_some (cond c (Some (without_resource resource entry.1)) (lookup (is_at (nat_cmp q)) (forgotten resource entries)))) at ∙ rest is

live-forgotten : (q resource : ℕ) (entries : List (ℕ × Context)) → is_live q entries ≡ true → is_live q (forgotten resource entries) ≡ true
live-forgotten q resource [] live = live
live-forgotten q resource (entry ∷ entries) live =
    live-forgotten-by q resource entry entries (is_at (nat_cmp q) entry.0) refl live (live-forgotten q resource entries)

not-both : (b : Bool) → b ≡ true → b ≡ false → ⊥
not-both true is none = cc
not-both false is none = cc

live-apart : (q id : ℕ) (entries : List (ℕ × Context)) → is_live q entries ≡ true → is_live id entries ≡ false → q ≢ id
live-apart q id entries live none = λ same. not-both (is_live q entries) live (ap (λ n. is_live n entries) same ∙ none)

-- commands that take or give a part
leaves-unref : (state : State) (job : Job) (id : ℕ) → job.resource ≢ id → Leaves state (unreferenced state id) job
leaves-unref state job id apart = record {
  setup = refl;
  resource = remove_other job.resource id apart state.resources;
  blob = remove_other job.resource id apart state.blobs;
  backing = remove_other job.resource id apart state.backings;
  memory = same-itself job.pages state.memory;
  context = λ names live. live-forgotten (header_of job.asked.bytes).ctx_id id state.contexts live;
}

leaves-blank : (state : State) (job : Job) (id width height : ℕ) (format : Option Format) → job.resource ≢ id
    → Leaves state (record state { resources = with_blank id width height format state.resources }) job
leaves-blank state job id width height (Some format) apart = leaves-resources state job _ (insert_other job.resource id _ apart state.resources)
leaves-blank state job id width height None apart = leaves-itself state job

leaves-received : (state : State) (job : Job) (rect : Rect) (offset id : ℕ) (found : Option Resource) → job.resource ≢ id
    → Leaves state (record state { resources = with_received state.memory id rect offset state.backings found state.resources }) job
leaves-received state job rect offset id (Some resource) apart = leaves-resources state job _ (set_other job.resource id _ apart state.resources)
leaves-received state job rect offset id None apart = leaves-itself state job

leaves-transfer : (state : State) (job : Job) (rect : Rect) (offset id : ℕ) (b : Bool) → job.resource ≢ id
    → Leaves state (cond b (state, responses.Nodata) (transfer_2d_step state rect offset id)).0 job
leaves-transfer state job rect offset id true apart = leaves-itself state job
leaves-transfer state job rect offset id false apart =
    leaves-answered (receive_refusal id rect offset state.backings (resource_at id state.resources)) state _ responses.Nodata job
    (λ none. leaves-received state job rect offset id (resource_at id state.resources) apart)

leaves-shown : (state : State) (job : Job) (rect : Rect) (scanout id : ℕ) (found : Option Resource) → Leaves state (with_shown state rect scanout id found) job
leaves-shown state job rect scanout id (Some resource) = leaves-scanouts state job _
leaves-shown state job rect scanout id None = leaves-itself state job

leaves-shown-blob : (state : State) (job : Job) (rect : Rect) (scanout id : ℕ) (layout : Layout) (format : Option Format) → Leaves state (with_shown_blob state rect scanout id layout format) job
leaves-shown-blob state job rect scanout id layout (Some format) = leaves-scanouts state job _
leaves-shown-blob state job rect scanout id layout None = leaves-itself state job

leaves-either : (state one other : State) (job : Job) (b : Bool) → Leaves state one job → Leaves state other job → Leaves state (cond b one other) job
leaves-either state one other job true first second = first
leaves-either state one other job false first second = second

-- the job's resource is there
abbrev pub IsThere : State → Job → Type 0
IsThere state job = (found : Resource) × (resource_at job.resource state.resources ≡ Some found)

-- a resource that is made wasn't there
made-new : (state : State) (id format width height : ℕ) → refusal_of (create_2d_refusals state id format width height) ≡ None → is_some (resource_at id state.resources) ≡ false
made-new state id format width height none =
    or-second (id == 0) (is_some (resource_at id state.resources)) (second-not (is_blob state id) ERR_INVALID_RESOURCE_ID (id == 0 || is_some (resource_at id state.resources)) ERR_INVALID_RESOURCE_ID
    ((is_none (format_of format) || (width == 0 || height == 0), ERR_INVALID_PARAMETER) ∷ (nat_lt 134217728 (pixel_bytes state.resources + 4 * width * height), ERR_OUT_OF_MEMORY) ∷ []) none)

leaves-2d : (jobs : List Job) (state : State) (job : Job) → Has jobs job → IsThere state job → (command : Command2d) → blocks_named jobs state (named_2d command) ≡ false
    → Leaves state (two_d_step state command).0 job
leaves-2d jobs state job has there DisplayInfo free = leaves-itself state job
leaves-2d jobs state job has there (Create2d id format width height) free =
    leaves-answered (refusal_of (create_2d_refusals state id format width height)) state _ responses.Nodata job
    (λ none. leaves-blank state job id width height (format_of format)
    (found-apart state.resources job.resource id there.0 there.1 (made-new state id format width height none)))
leaves-2d jobs state job has there (Unref id) free =
    leaves-answered (refusal_of (unref_refusals state id)) state _ responses.Nodata job (λ none. leaves-unref state job id (apart-from jobs job id free has))
leaves-2d jobs state job has there (SetScanout rect scanout id) free =
    leaves-answered (refusal_of (set_scanout_refusals state rect scanout id)) state (with_scanout state rect scanout id) responses.Nodata job
    (λ none. leaves-either state _ _ job (id == 0) (leaves-scanouts state job (unbound scanout state.scanouts)) (leaves-shown state job rect scanout id (resource_at id state.resources)))
leaves-2d jobs state job has there (Flush rect id) free =
    leaves-answered (refusal_of (flush_refusals state rect id)) state _ responses.Nodata job (λ none. leaves-scanouts state job (flushed_by state rect id))
leaves-2d jobs state job has there (Transfer rect offset id) free =
    leaves-transfer state job rect offset id (is_blob state id) (apart-from jobs job id (or-first (is_lent jobs id) _ free) has)
leaves-2d jobs state job has there (Attach id entries) free =
    leaves-answered (refusal_of (attach_2d_refusals state id entries)) state _ responses.Nodata job
    (λ none. leaves-backings state job _ (insert_other job.resource id entries (apart-from jobs job id free has) state.backings))
leaves-2d jobs state job has there (Detach id) free =
    leaves-answered (refusal_of (detach_2d_refusals state id)) state _ responses.Nodata job
    (λ none. leaves-backings state job _ (remove_other job.resource id (apart-from jobs job id free has) state.backings))

-- a context that a job keeps isn't the one that is destroyed
context-apart : (jobs : List Job) (job : Job) (context : ℕ) → keeps_context jobs context ≡ false → Has jobs job → names_context job.asked ≡ true → (header_of job.asked.bytes).ctx_id ≢ context
context-apart jobs job context none has names =
    let not_it : is_of_context context job.asked ≡ false = any-not (λ (one : Job). is_of_context context one.asked) jobs job none has in
    differs (header_of job.asked.bytes).ctx_id context (sym (ap (λ b. b && ((header_of job.asked.bytes).ctx_id == context)) names) ∙ not_it)

-- nor was what a blob, or a context, gets the id of
blob-new : (state : State) (id mem flags size : ℕ) (entries : List MemEntry) → refusal_of (create_blob_refusals state id mem flags size entries) ≡ None → is_some (resource_at id state.resources) ≡ false
blob-new state id mem flags size entries none =
    first-not (is_some (resource_at id state.resources)) ERR_INVALID_RESOURCE_ID (blobs.create_refusals state.memory id mem flags size entries state.blobs) none

context-new : (id nlen context_init : ℕ) (entries : List (ℕ × Context)) → refusal_of (create_refusals id nlen context_init entries) ≡ None → is_live id entries ≡ false
context-new id nlen context_init entries none =
    or-second (id == 0) (is_live id entries)
    (first-not (id == 0 || is_live id entries) ERR_INVALID_CONTEXT_ID ((nat_lt NAME_BYTES nlen || not (context_init % 256 == 0), ERR_INVALID_PARAMETER) ∷ []) none)

pub leaves-command : (jobs : List Job) (state : State) (job : Job) → Has jobs job → IsThere state job → (context : ℕ) (command : Command) → blocks_named jobs state (named_by context command) ≡ false
    → Leaves state (command_step state context command).0 job
leaves-command jobs state job has there context (TwoD command) free = leaves-2d jobs state job has there command free
leaves-command jobs state job has there context (CapsetInfo index) free = leaves-itself state job
leaves-command jobs state job has there context (Capset id version) free = leaves-itself state job
leaves-command jobs state job has there context (Edid scanout) free =
    leaves-answered (refusal_of (edid_refusals state.plugs scanout)) state state _ job (λ none. leaves-itself state job)
leaves-command jobs state job has there context (AssignUuid id) free =
    leaves-answered (refusal_of (assign_refusals (has_resource state id))) state _ (responses.Uuid (uuid_bytes (number_for id state.uuids))) job (λ none. leaves-uuids state job id)
leaves-command jobs state job has there context (CreateBlob id mem flags blob_id size entries) free =
    leaves-answered (refusal_of (create_blob_refusals state id mem flags size entries)) state _ responses.Nodata job
    (λ none. leaves-blobs state job _ (insert_other job.resource id _
    (found-apart state.resources job.resource id there.0 there.1 (blob-new state id mem flags size entries none)) state.blobs))
leaves-command jobs state job has there context (SetScanoutBlob rect scanout id width height format stride offset) free =
    let layout : Layout = record { width = width; height = height; format = format; stride = stride; offset = offset } in
    leaves-answered (refusal_of (set_scanout_blob_refusals state rect scanout id layout)) state (with_scanout_blob state rect scanout id layout) responses.Nodata job
    (λ none. leaves-either state _ _ job (id == 0) (leaves-scanouts state job (unbound scanout state.scanouts)) (leaves-shown-blob state job rect scanout id layout (format_of format)))
leaves-command jobs state job has there context (CtxCreate nlen context_init name) free =
    leaves-answered (refusal_of (create_refusals context nlen context_init state.contexts)) state _ responses.Nodata job
    (λ none. leaves-contexts state job _ (λ names live. ap is_some (insert_other (header_of job.asked.bytes).ctx_id context _
    (live-apart (header_of job.asked.bytes).ctx_id context state.contexts live (context-new context nlen context_init state.contexts none)) state.contexts) ∙ live))
leaves-command jobs state job has there context CtxDestroy free =
    leaves-answered (refusal_of (destroy_refusals context state.contexts)) state _ responses.Nodata job
    (λ none. leaves-contexts state job _ (λ names live. ap is_some (remove_other (header_of job.asked.bytes).ctx_id context (context-apart jobs job context free has names) state.contexts) ∙ live))
leaves-command jobs state job has there context (CtxAttach id) free =
    leaves-answered (refusal_of (ctx_attach_refusals state context id)) state _ responses.Nodata job
    (λ none. leaves-contexts state job _ (λ names live. live-changed (header_of job.asked.bytes).ctx_id context (with_resource id) (context_at context state.contexts) state.contexts live))
leaves-command jobs state job has there context (CtxDetach id) free =
    leaves-answered (refusal_of (detach_refusals context id state.contexts)) state _ responses.Nodata job
    (λ none. leaves-contexts state job _ (λ names live. live-changed (header_of job.asked.bytes).ctx_id context (without_resource id) (context_at context state.contexts) state.contexts live))
leaves-command jobs state job has there context (Submit stream) free =
    leaves-answered (refusal_of (submit_refusals context stream state.contexts)) state state responses.Nodata job (λ none. leaves-itself state job)
leaves-command jobs state job has there context (UpdateCursor scanout x y id hot_x hot_y) free =
    leaves-answered (refusal_of (cursor_refusals state scanout id hot_x hot_y)) state _ responses.Nodata job (λ none. leaves-cursors state job _ _)
leaves-command jobs state job has there context (MoveCursor scanout x y) free =
    leaves-answered (refusal_of (move_refusals state scanout)) state _ responses.Nodata job (λ none. leaves-cursors state job _ _)

-- a request that isn't refused before its command is one with that command
read-by : (short known queue usable : Bool) (found : Option Command) (header : Header) (later : List (Bool × ℕ)) (command : Command)
    → refusal_of ((short, 0x1200) ∷ (not known, 0x1200) ∷ (not queue, 0x1200) ∷ (not usable, 0x1200) ∷ (is_none found, 0x1200) ∷ later) ≡ None → found ≡ Some command
    → ◌≡◌ {A = Result (Header × Command) Malformed} (if short then Err ShortHeader else if not known then Err (UnknownKind header.kind) else if not queue then Err WrongQueue
    else ok_or (option_map (λ command. (header, command)) found) ShortBody) (Ok (header, command))
read-by true known queue usable found header later command none is = cc
read-by false false queue usable found header later command none is = cc
read-by false true false usable found header later command none is = cc
read-by false true true usable found header later command none is = ap (λ f. ok_or (option_map (λ command. (header, command)) f) ShortBody) is

pub read-of : (state : State) (queue : Queue) (bytes : List ℕ) (command : Command) → refusal_of (request_refusals state queue bytes) ≡ None
    → command_of (header_of bytes).kind (drop 24 bytes) ≡ Some command → request_of queue bytes ≡ Ok (header_of bytes, command)
read-of state queue bytes command none is =
    read-by (nat_lt (length bytes) 24) (is_known (header_of bytes).kind) (is_queue_of (header_of bytes).kind queue) (is_usable state.setup.accepted (header_of bytes).kind)
    (command_of (header_of bytes).kind (drop 24 bytes)) (header_of bytes) (timeline_refusals state (header_of bytes)) command none is

leaves-ran : (jobs : List Job) (state : State) (job : Job) → Has jobs job → IsThere state job → (queue : Queue) (bytes : List ℕ)
    → blocks_named jobs state (named_in (request_of queue bytes)) ≡ false
    → (refusal : Option ℕ) (command : Option Command) → refusal_of (request_refusals state queue bytes) ≡ refusal → command_of (header_of bytes).kind (drop 24 bytes) ≡ command
    → Leaves state (refused_or_ran refusal state (header_of bytes).ctx_id command).0 job
leaves-ran jobs state job has there queue bytes free (Some code) command none is = leaves-itself state job
leaves-ran jobs state job has there queue bytes free None None none is = leaves-itself state job
leaves-ran jobs state job has there queue bytes free None (Some command) none is =
    leaves-command jobs state job has there (header_of bytes).ctx_id command
    (sym (ap (λ read. blocks_named jobs state (named_in read)) (read-of state queue bytes command none is)) ∙ free)

leaves-answer : (jobs : List Job) (state : State) (job : Job) → Has jobs job → IsThere state job → (queue : Queue) (bytes : List ℕ)
    → blocks_named jobs state (named_in (request_of queue bytes)) ≡ false → Leaves state (answer_of state queue bytes).0 job
leaves-answer jobs state job has there queue bytes free =
    leaves-ran jobs state job has there queue bytes free (refusal_of (request_refusals state queue bytes)) (command_of (header_of bytes).kind (drop 24 bytes)) refl refl

leaves-shaped : (jobs : List Job) (state : State) (job : Job) → Has jobs job → IsThere state job → (request : Request) (shape : Shape) → blocks_shaped jobs state request shape ≡ false
    → Leaves (counted state) (shaped_step shape state request).0 job
leaves-shaped jobs state job has there request Plain free = leaves-answer jobs (counted state) job has there request.queue request.bytes free
leaves-shaped jobs state job has there request (Pieces n) free = leaves-answer jobs (counted state) job has there request.queue request.bytes free
leaves-shaped jobs state job has there request Indirect free = leaves-answer jobs (counted state) job has there request.queue request.bytes free
leaves-shaped jobs state job has there request Mixed free = leaves-answer jobs (counted state) job has there request.queue request.bytes free
leaves-shaped jobs state job has there request (Bad fault) free = leaves-itself (counted state) job

pub leaves-request : (jobs : List Job) (state : State) (job : Job) → Has jobs job → IsThere state job → (request : Request) → blocks jobs state request ≡ false
    → Leaves (counted state) (request_step state request).0 job
leaves-request jobs state job has there request free = leaves-shaped jobs state job has there request request.shape free
