-- What a display keeps of the jobs that it has lent, call by call.
use Rattle.std.proofs.Common.{◌≡◌, ◌≢◌, ◌≤◌, ◌&&◌, not, arith, ℕ, ◌*◌, ◌==◌, ◌||◌, inl, inr, Bool, true, false, cond, List, [], ◌∷◌, length, drop, get_or, Option, Some, None, Result, Ok, Err, ap, sym, ◌∙◌, refl, subst}
use Rattle.std.specs.Prelude.{IfOk, OnErr, is_none, nat_lt}
use Rattle.std.specs.declared.alloc.AllocError.{AllocError}
use Rattle.std.specs.List.{All, AllByRecursion, list_any}
use Rattle.std.proofs.lemmas.Bool.{eq-eqb}
use mathlib.Core.Logic.{dite}
use native.Mathlib.Decide.{ℕ_discrete}
use Rattle.vg_history.specs.Lists.{Has}
use Rattle.vg_history.specs.Jobs.{IsBack, but_lane, of_lane}
use Rattle.vg_history.proofs.JobLemmas.{of_lane_else, of_lane_same}
use Rattle.vg_places.proofs.Filled.{length-filled}
use Rattle.vg_pages.specs.Memory.{Memory, free_pages, is_among}
use Rattle.vg_share.specs.Cells.{pages_of}
use Rattle.vg_blob.specs.Blobs.{blob_at, entries_of}
use Rattle.std.specs.Option.{option_map}
use Rattle.std.proofs.lemmas.Bool.Decides.{nat_tests}
use Rattle.vg_laws.proofs.Options.{some-same}
use Rattle.vg_laws.proofs.Bools.{or-first, or-second}
use Rattle.vg_pages.specs.Lending.{AreSameIn}
use Rattle.vg_backing.specs.Backing.{touches}
use Rattle.vg_formats.specs.declared.entry.MemEntry.{MemEntry}
use Rattle.vg_formats.specs.declared.rect.Rect.{Rect}
use Rattle.vg_resource.specs.declared.resource.Resource.{Resource}
use Rattle.vg_resource.specs.Resource.{pixels_at, resource_at, with_pixels}
use Rattle.vg_transfer.specs.Backings.{bytes_of_rect, entries_at, placed, transfer_refusals, transferred}
use Rattle.vg_chain.specs.declared.shape.Shape.{Shape}
use Rattle.vg_chain.specs.declared.shape.Shape.TheVariants.{Plain, Pieces, Indirect, Mixed, Bad}
use Rattle.vg_wire.specs.declared.request.Queue.{Queue}
use Rattle.vg_wire.specs.declared.two_d.Command2d.{Command2d}
use Rattle.vg_wire.specs.declared.two_d.Command2d.TheVariants.{DisplayInfo, Create2d, Unref, SetScanout, Flush, Transfer, Attach, Detach}
use Rattle.vg_wire.specs.Header.{header_of}
use Rattle.vg_wire_ext.specs.declared.command.Command.{Command}
use Rattle.vg_wire_ext.specs.declared.command.Command.TheVariants.{TwoD, CapsetInfo, Capset, Edid, AssignUuid, CreateBlob, SetScanoutBlob, CtxCreate, CtxDestroy, CtxAttach, CtxDetach, Submit, UpdateCursor, MoveCursor}
use Rattle.vg_wire_ext.specs.declared.response.Response.TheVariants as responses
use Rattle.vg_wire_ext.specs.Commands.{command_of, is_known}
use Rattle.vg_wire_ext.specs.Request.{is_queue_of, request_of}
use Rattle.vg_wire_ext.specs.declared.names.Named.{Named}
use Rattle.vg_wire_ext.specs.declared.names.Named.TheVariants as names
use Rattle.vg_wire_ext.specs.Named.{named_2d, named_by, named_in}
use Rattle.vg_share.specs.Share.{SharesPages, new_pages, pages_at}
use Rattle.vg_client_holds.specs.declared.act.Act.{Act}
use Rattle.vg_client_holds.specs.declared.act.Act.TheVariants.{Enter, Reserve, Store, Load, Export, Import, Release, Free, Take, Drop, Await, Denied, Mode, Unplug, Sync, Events, Ack, Leave}
use Rattle.vg_client_holds.specs.declared.act.ActReply.{ActReply}
use Rattle.vg_device.specs.declared.request.Request.{Request}
use Rattle.vg_device.specs.declared.request.Reply.{Reply}
use Rattle.vg_device.specs.ActStep.{act_step}
use Rattle.vg_refusals.specs.Refusals.{refusal_of}
use Rattle.vg_device.specs.declared.copies.Copy.{Copy}
use Rattle.vg_device.specs.declared.request.Reply.TheVariants as replies
use Rattle.vg_device.specs.Copies.{AsksFor, IsAccepted, IsRun, brought_back, copies, copies_by, copies_by_2d, copies_plain, copies_shaped, with_brought}
use Rattle.vg_device.specs.Features.{is_usable}
use Rattle.vg_device.specs.Step.{answered, request_refusals, timeline_refusals}
use Rattle.vg_device.specs.RequestStep.{request_step}
use Rattle.vg_device.specs.State.{State, counted}
use Rattle.vg_device.proofs.MapLemmas.{set_other}
use Rattle.vg_machine.specs.Blocks.{blocks, blocks_act, blocks_named, blocks_shaped, is_lent, touches_lent}
use Rattle.vg_machine.specs.CountedWithin.{act-like, request-like, worked-asks}
use Rattle.vg_machine.specs.Jobs.{Job, after_placing, worked}
use Rattle.vg_machine.specs.LoansWithin.{AllApart}
use Rattle.vg_machine.specs.OutWithin.{AreApart, IsOut, job_lane}
use Rattle.vg_machine.proofs.LoanLemmas.{left-of, one-of-lane, resources-apart}
use Rattle.vg_machine.proofs.ActLeaveLemmas.{job-pages, leaves-effect, one-not}
use Rattle.vg_machine.proofs.LeaveLemmas.{IsThere, Leaves, apart-from, leaves-itself, leaves-request, read-of, same-itself}
use Rattle.vg_machine.proofs.OutLemmas.{out-counted, out-kept, out-step}

-- all jobs stay out where what happened leaves their parts
pub all-out : (old new : State) (jobs : List Job) → ((job : Job) → Has jobs job → IsOut old job → IsOut new job) → AllByRecursion (IsOut old) jobs → AllByRecursion (IsOut new) jobs
all-out old new [] keeps out = tt
all-out old new (job ∷ more) keeps out = (keeps job (inl refl) out.0, all-out old new more (λ other has. keeps other (inr has)) out.1)

there : (state : State) (job : Job) → IsOut state job → IsThere state job
there state job out = (out.found, out.there)

-- a request that was run
run-out : (jobs : List Job) (old : State) (request : Request) → blocks jobs old request ≡ false → AllByRecursion (IsOut old) jobs → AllByRecursion (IsOut (request_step old request).0) jobs
run-out jobs old request free out =
    all-out old (request_step old request).0 jobs
    (λ job has is. out-kept (counted old) (request_step old request).0 job (leaves-request jobs old job has (there old job is) request free) (out-counted old job is)) out

pub ran-out : (result : Result (Reply × Reply) AllocError) (jobs : List Job) (old new : State) (request : Request)
    → IfOk result (λ twice. ◌≡◌ {A = State × Reply} (new, twice.0) (request_step old request)) → OnErr result (new ≡ old)
    → blocks jobs old request ≡ false → AllByRecursion (IsOut old) jobs → AllByRecursion (IsOut new) jobs
ran-out (Ok twice) jobs old new request step same free out = subst (λ state. AllByRecursion (IsOut state) jobs) (sym (ap (λ (done : State × Reply). done.0) step)) (run-out jobs old request free out)
ran-out (Err error) jobs old new request step same free out = subst (λ state. AllByRecursion (IsOut state) jobs) (sym same) out

pub ran-pages : (result : Result (Reply × Reply) AllocError) (old new : State) (request : Request) (count : ℕ)
    → IfOk result (λ twice. ◌≡◌ {A = State × Reply} (new, twice.0) (request_step old request)) → OnErr result (new ≡ old) → count ≡ old.setup.pages → count ≡ new.setup.pages
ran-pages (Ok twice) old new request count step same is =
    is ∙ ap (λ setup. setup.pages) (sym (request-like old request).setup) ∙ sym (ap (λ (done : State × Reply). done.0.setup.pages) step)
ran-pages (Err error) old new request count step same is = is ∙ sym (ap (λ state. state.setup.pages) same)

-- an act that was done
act-out : (jobs : List Job) (old : State) (client : ℕ) (act : Act) → SharesPages old.memory old.share → blocks_act jobs old act ≡ false → AllByRecursion (IsOut old) jobs
    → AllByRecursion (IsOut (act_step old client act).0) jobs
act-out jobs old client act shares free out =
    all-out old (act_step old client act).0 jobs
    (λ job has is. out-kept (counted old) (act_step old client act).0 job (leaves-effect jobs (counted old) job has shares client act free) (out-counted old job is)) out

pub done-out : (result : Result (ActReply × ActReply) AllocError) (jobs : List Job) (old new : State) (client : ℕ) (act : Act)
    → IfOk result (λ twice. ◌≡◌ {A = State × ActReply} (new, twice.0) (act_step old client act)) → OnErr result (new ≡ old)
    → SharesPages old.memory old.share → blocks_act jobs old act ≡ false → AllByRecursion (IsOut old) jobs → AllByRecursion (IsOut new) jobs
done-out (Ok twice) jobs old new client act step same shares free out =
    subst (λ state. AllByRecursion (IsOut state) jobs) (sym (ap (λ (done : State × ActReply). done.0) step)) (act-out jobs old client act shares free out)
done-out (Err error) jobs old new client act step same shares free out = subst (λ state. AllByRecursion (IsOut state) jobs) (sym same) out

pub done-pages : (result : Result (ActReply × ActReply) AllocError) (old new : State) (client : ℕ) (act : Act) (count : ℕ)
    → IfOk result (λ twice. ◌≡◌ {A = State × ActReply} (new, twice.0) (act_step old client act)) → OnErr result (new ≡ old) → count ≡ old.setup.pages → count ≡ new.setup.pages
done-pages (Ok twice) old new client act count step same is =
    is ∙ ap (λ setup. setup.pages) (sym (act-like old client act).setup) ∙ sym (ap (λ (done : State × ActReply). done.0.setup.pages) step)
done-pages (Err error) old new client act count step same is = is ∙ sym (ap (λ state. state.setup.pages) same)

-- a request of a shape that is run
pub shaped-named : (jobs : List Job) (state : State) (request : Request) (shape : Shape) → IsRun shape
    → blocks_shaped jobs state request shape ≡ blocks_named jobs state (named_in (request_of request.queue request.bytes))
shaped-named jobs state request Plain run = refl
shaped-named jobs state request (Pieces n) run = refl
shaped-named jobs state request Indirect run = refl
shaped-named jobs state request Mixed run = refl
shaped-named jobs state request (Bad fault) run = absurd run

none-named : (state : State) (name : Named) → blocks_named [] state name ≡ false
none-named state names.Nothing = refl
none-named state (names.Resource id) = refl
none-named state (names.Flush id) = refl
none-named state (names.Transfer id) = refl
none-named state (names.Context id) = refl

-- without jobs nothing is kept from running
pub none-blocks : (state : State) (request : Request) (shape : Shape) → blocks_shaped [] state request shape ≡ false
none-blocks state request Plain = none-named state (named_in (request_of request.queue request.bytes))
none-blocks state request (Pieces n) = none-named state (named_in (request_of request.queue request.bytes))
none-blocks state request Indirect = none-named state (named_in (request_of request.queue request.bytes))
none-blocks state request Mixed = none-named state (named_in (request_of request.queue request.bytes))
none-blocks state request (Bad fault) = refl

none-among : (pages : List ℕ) → list_any (is_among []) pages ≡ false
none-among [] = refl
none-among (page ∷ more) = none-among more

none-taken : (b : Bool) (pages : List ℕ) → cond b false (list_any (is_among []) pages) ≡ false
none-taken true pages = refl
none-taken false pages = none-among pages

pub none-blocks-act : (state : State) (act : Act) → blocks_act [] state act ≡ false
none-blocks-act state Enter = refl
none-blocks-act state (Reserve width height format bytes) = none-taken (nat_lt (length (free_pages state.memory.taken)) (pages_of bytes)) (new_pages bytes state.memory)
none-blocks-act state (Store key offset bytes times) = none-among (pages_at key state.share)
none-blocks-act state (Load key offset n) = none-among (pages_at key state.share)
none-blocks-act state (Export key) = refl
none-blocks-act state (Import token) = refl
none-blocks-act state (Release key) = refl
none-blocks-act state (Free key) = refl
none-blocks-act state (Take scanout) = refl
none-blocks-act state (Drop scanout) = refl
none-blocks-act state (Await lane ordinal) = refl
none-blocks-act state (Denied what) = refl
none-blocks-act state (Mode scanout width height) = refl
none-blocks-act state (Unplug scanout) = refl
none-blocks-act state (Sync number) = refl
none-blocks-act state Events = refl
none-blocks-act state Ack = refl
none-blocks-act state Leave = refl

-- what a transfer that isn't kept from running says of the jobs
pub free-transfer : (jobs : List Job) (state : State) (request : Request) (rect : Rect) (offset id : ℕ) → IsRun request.shape
    → request_of request.queue request.bytes ≡ Ok (header_of request.bytes, TwoD (Transfer rect offset id)) → blocks jobs state request ≡ false
    → (is_lent jobs id ≡ false) × (touches_lent jobs (entries_at id state.backings) ≡ false)
free-transfer jobs state request rect offset id run read free =
    let both : (is_lent jobs id || touches_lent jobs (entries_at id state.backings)) ≡ false =
    sym (shaped-named jobs state request request.shape run ∙ ap (λ r. blocks_named jobs state (named_in r)) read) ∙ free in
    (or-first (is_lent jobs id) (touches_lent jobs (entries_at id state.backings)) both, or-second (is_lent jobs id) (touches_lent jobs (entries_at id state.backings)) both)

-- a new job is apart from those that are out
pages-of-apart : (jobs : List Job) (one : Job) (entries : List MemEntry) (pages : List ℕ) → touches_lent jobs entries ≡ false → Has jobs one
    → All (λ page. touches page entries ≡ true) pages → All (λ page. is_among one.pages page ≡ false) pages
pages-of-apart jobs one entries pages none has touched = λ k d within.
    by (get_or pages k d) (is_among one.pages (get_or pages k d)) refl (touched k d within)
  where
    by : (page : ℕ) (b : Bool) → is_among one.pages page ≡ b → touches page entries ≡ true → is_among one.pages page ≡ false
    by page false is touched = is
    by page true is touched =
        let not_it : touches page entries ≡ false = one-not (λ p. touches p entries) one.pages page (job-pages (λ p. touches p entries) jobs one none has) is in
        absurd (apart (sym touched ∙ not_it))
      where
        apart : ◌≡◌ {A = Bool} true false → ⊥
        apart same = cc

of-lane-has : (l : ℕ) (jobs : List Job) (one : Job) → Has jobs one → one.asked.lane ≡ l → Has (of_lane job_lane l jobs) one
of-lane-has l [] one has at = absurd has
of-lane-has l (job ∷ more) one (inl is) at =
    subst (λ (js : List Job). Has js one) (sym (of_lane_same job_lane l job more (ap (λ (j : Job). j.asked.lane) is ∙ at))) (inl is)
of-lane-has l (job ∷ more) one (inr has) at = dite (ℕ_discrete job.asked.lane l)
    (λ same. subst (λ (js : List Job). Has js one) (sym (of_lane_same job_lane l job more same)) (inr (of-lane-has l more one has at)))
    (λ other. subst (λ (js : List Job). Has js one) (sym (of_lane_else job_lane l job more other)) (of-lane-has l more one has at))

pub lane-free : (jobs : List Job) (lane : ℕ) (one : Job) → of_lane job_lane lane jobs ≡ [] → Has jobs one → one.asked.lane ≢ lane
lane-free jobs lane one none has = λ same. subst (λ (js : List Job). Has js one) none (of-lane-has lane jobs one has same)

pub all-apart : (jobs all : List Job) (job : Job) (entries : List MemEntry) → ((one : Job) → Has jobs one → Has all one)
    → of_lane job_lane job.asked.lane all ≡ [] → is_lent all job.resource ≡ false → touches_lent all entries ≡ false
    → All (λ page. touches page entries ≡ true) job.pages → AllByRecursion (AreApart job) jobs
all-apart [] all job entries within lane resource pages touched = tt
all-apart (one ∷ more) all job entries within lane resource pages touched = (
  record {
    lane = λ same. lane-free all job.asked.lane one lane (within one (inl refl)) (sym same);
    resource = λ same. apart-from all one job.resource resource (within one (inl refl)) (sym same);
    pages = pages-of-apart all one entries job.pages pages (within one (inl refl)) touched;
  },
  all-apart more all job entries (λ other has. within other (inr has)) lane resource pages touched,
)

-- a job came back: those that are left stay out
brought-leaves : (state : State) (id : ℕ) (pixels : List ℕ) (found : Option Resource) (job : Job) → job.resource ≢ id → Leaves (counted state) (with_brought id pixels found (counted state)) job
brought-leaves state id pixels None job apart = leaves-itself (counted state) job
brought-leaves state id pixels (Some resource) job apart = by (length resource.pixels == length pixels)
  where
    by : (b : Bool) → Leaves (counted state) (cond b (record (counted state) { resources = with_pixels id resource pixels state.resources }) (counted state)) job
    by true = record { setup = refl; resource = set_other job.resource id (record resource { pixels = pixels }) apart state.resources; blob = refl; backing = refl; memory = same-itself job.pages state.memory; context = λ names live. live }
    by false = leaves-itself (counted state) job

pub brought-out : (state : State) (id : ℕ) (pixels : List ℕ) (jobs left : List Job) → ((job : Job) → Has left job → job.resource ≢ id)
    → ((job : Job) → Has left job → IsOut state job) → AllByRecursion (IsOut (brought_back id pixels state)) left
brought-out state id pixels jobs [] apart out = tt
brought-out state id pixels jobs (job ∷ more) apart out = (
  out-kept (counted state) (brought_back id pixels state) job (brought-leaves state id pixels (resource_at id state.resources) job (apart job (inl refl))) (out-counted state job (out job (inl refl))),
  brought-out state id pixels jobs more (λ other has. apart other (inr has)) (λ other has. out other (inr has)),
)

pub brought-setup : (state : State) (id : ℕ) (pixels : List ℕ) (found : Option Resource) → (with_brought id pixels found (counted state)).setup ≡ state.setup
brought-setup state id pixels None = refl
brought-setup state id pixels (Some resource) = by (length resource.pixels == length pixels)
  where
    by : (b : Bool) → (cond b (record (counted state) { resources = with_pixels id resource pixels state.resources }) (counted state)).setup ≡ state.setup
    by true = refl
    by false = refl

-- it is out of all that are
pub out-of : (P : Job → Type 0) (jobs : List Job) (job : Job) → AllByRecursion P jobs → Has jobs job → P job
out-of P [] job all has = absurd has
out-of P (one ∷ more) job all (inl is) = subst P is all.0
out-of P (one ∷ more) job all (inr has) = out-of P more job all.1 has

long-placed : (bytes : Option (List ℕ)) (job : Job) → length (after_placing bytes job).pixels ≡ length job.pixels
long-placed (Some bytes) job = length-filled (bytes_of_rect job.rect) (4 * job.width) _ job.pixels
long-placed None job = refl

-- what its pixels do when they come back is what its request does
pub brought-step : (state : State) (job : Job) → IsOut state job → ◌≡◌ {A = State × Reply} (brought_back job.resource (worked job).pixels state, job.reply) (request_step state job.asked)
brought-step state job out =
    let many : length out.found.pixels ≡ length (worked job).pixels = ap length out.pixels ∙ sym (long-placed job.bytes job) in
    ap (λ (found : Option Resource). (with_brought job.resource (worked job).pixels found (counted state), job.reply)) out.there
    ∙ ap (λ (b : Bool). (cond b (record (counted state) { resources = with_pixels job.resource out.found (worked job).pixels state.resources }) (counted state), job.reply)) (eq-eqb (length out.found.pixels) (length (worked job).pixels) many)
    ∙ sym (out-step state job out)

-- what answers want of memory leaves all as it was
pub err-first : {V E : Type 0} (P Q : Type 0) (result : Result V E) → OnErr result (P × Q) → OnErr result P
err-first P Q (Ok value) both = tt
err-first P Q (Err error) both = both.0

-- what stands in the way of a flush, and of a transfer, of a resource whose pixels are here
pub kept-flush : (jobs : List Job) (state : State) (request : Request) (id : ℕ) (touched : Bool) → IsRun request.shape → named_in (request_of request.queue request.bytes) ≡ names.Flush id
    → is_lent jobs id ≡ false → touched ≡ touches_lent jobs (entries_of (blob_at id state.blobs)) → touched ≡ blocks jobs state request
kept-flush jobs state request id touched run named lent is =
    is ∙ sym (shaped-named jobs state request request.shape run ∙ ap (blocks_named jobs state) named ∙ ap (λ b. b || touches_lent jobs (entries_of (blob_at id state.blobs))) lent)

pub kept-transfer : (jobs : List Job) (state : State) (request : Request) (id : ℕ) (touched : Bool) → IsRun request.shape → named_in (request_of request.queue request.bytes) ≡ names.Transfer id
    → is_lent jobs id ≡ false → touched ≡ touches_lent jobs (entries_at id state.backings) → touched ≡ blocks jobs state request
kept-transfer jobs state request id touched run named lent is =
    is ∙ sym (shaped-named jobs state request request.shape run ∙ ap (blocks_named jobs state) named ∙ ap (λ b. b || touches_lent jobs (entries_at id state.backings)) lent)

-- what names no transfer copies nothing
copies-2d-named : (state : State) (command : Command2d) → ((id : ℕ) → named_2d command ≢ names.Transfer id) → copies_by_2d state command ≡ false
copies-2d-named state DisplayInfo other = refl
copies-2d-named state (Create2d resource format width height) other = refl
copies-2d-named state (Unref resource) other = refl
copies-2d-named state (SetScanout rect scanout resource) other = refl
copies-2d-named state (Flush rect resource) other = refl
copies-2d-named state (Transfer rect offset id) other = absurd (other id refl)
copies-2d-named state (Attach resource entries) other = refl
copies-2d-named state (Detach resource) other = refl

copies-command-named : (state : State) (context : ℕ) (command : Command) → ((id : ℕ) → named_by context command ≢ names.Transfer id) → copies_by state (Some command) ≡ false
copies-command-named state context (TwoD command) other = copies-2d-named state command other
copies-command-named state context (CapsetInfo index) other = refl
copies-command-named state context (Capset id version) other = refl
copies-command-named state context (Edid scanout) other = refl
copies-command-named state context (AssignUuid resource) other = refl
copies-command-named state context (CreateBlob resource mem flags blob_id size entries) other = refl
copies-command-named state context (SetScanoutBlob rect scanout resource width height format stride offset) other = refl
copies-command-named state context (CtxCreate nlen context_init name) other = refl
copies-command-named state context CtxDestroy other = refl
copies-command-named state context (CtxAttach resource) other = refl
copies-command-named state context (CtxDetach resource) other = refl
copies-command-named state context (Submit stream) other = refl
copies-command-named state context (UpdateCursor scanout x y resource hot_x hot_y) other = refl
copies-command-named state context (MoveCursor scanout x y) other = refl

copies-found-named : (state : State) (request : Request) → ((id : ℕ) → named_in (request_of request.queue request.bytes) ≢ names.Transfer id)
    → (refusal : Option ℕ) (found : Option Command) → refusal_of (request_refusals state request.queue request.bytes) ≡ refusal
    → command_of (header_of request.bytes).kind (drop 24 request.bytes) ≡ found → (is_none refusal && copies_by state found) ≡ false
copies-found-named state request other (Some code) found none is = refl
copies-found-named state request other None None none is = refl
copies-found-named state request other None (Some command) none is =
    copies-command-named state (header_of request.bytes).ctx_id command
    (λ id same. other id (ap named_in (read-of state request.queue request.bytes command none is) ∙ same))

copies-shape-named : (shape : Shape) (state : State) (request : Request) → copies_plain state request ≡ false → copies_shaped shape state request ≡ false
copies-shape-named Plain state request plain = plain
copies-shape-named (Pieces n) state request plain = plain
copies-shape-named Indirect state request plain = plain
copies-shape-named Mixed state request plain = plain
copies-shape-named (Bad fault) state request plain = refl

pub copies-named : (state : State) (request : Request) → ((id : ℕ) → named_in (request_of request.queue request.bytes) ≢ names.Transfer id) → copies state request ≡ false
copies-named state request other =
    copies-shape-named request.shape state request
    (copies-found-named state request other (refusal_of (request_refusals state request.queue request.bytes)) (command_of (header_of request.bytes).kind (drop 24 request.bytes)) refl refl)

-- a new job is out
abbrev pub job_of : Request → Copy → List ℕ → List ℕ → List ℕ → Reply → Job
job_of request copy pixels bytes pages reply = record {
  asked = request;
  resource = copy.resource;
  width = copy.region.width;
  pixels = pixels;
  rect = copy.region.rect;
  bytes = Some bytes;
  pages = pages;
  reply = reply;
}

pub new-out : (state : State) (request : Request) (copy : Copy) (pixels bytes pages : List ℕ) (reply : Reply) → AsksFor state request copy → IsAccepted state copy
    → pixels_at copy.resource state.resources ≡ Some pixels
    → ((other : Memory) → AreSameIn pages state.memory other → (some : List ℕ)
    → placed copy.region.rect copy.region.width bytes some ≡ transferred other (entries_at copy.resource state.backings) copy.region.rect copy.region.offset copy.region.width some)
    → reply ≡ replies.Response (answered request.bytes request.room responses.Nodata) → IsOut state (job_of request copy pixels bytes pages reply)
new-out state request copy pixels bytes pages reply asks accepted given same answers = record {
  found = accepted.found;
  offset = copy.region.offset;
  bytes = bytes;
  lent = refl;
  there = accepted.there;
  pixels = some-same (sym (ap (option_map (λ (resource : Resource). resource.pixels)) accepted.there) ∙ given);
  width = accepted.width;
  no_blob = accepted.no_blob;
  accepted =
      ap (λ width. refusal_of (transfer_refusals true copy.resource copy.region.rect copy.region.offset width accepted.found.height state.backings)) accepted.width
      ∙ ap (λ height. refusal_of (transfer_refusals true copy.resource copy.region.rect copy.region.offset copy.region.width height state.backings)) accepted.height
      ∙ accepted.accepted;
  same = λ other agree. same other agree pixels;
  run = asks.run;
  reads = asks.reads;
  let_in = asks.let_in;
  answers = answers;
}

pub new-apart : (jobs : List Job) (state : State) (request : Request) (copy : Copy) (pixels bytes pages : List ℕ) (reply : Reply) → AsksFor state request copy
    → blocks jobs state request ≡ false → of_lane job_lane request.lane jobs ≡ [] → All (λ page. touches page (entries_at copy.resource state.backings) ≡ true) pages
    → AllByRecursion (AreApart (job_of request copy pixels bytes pages reply)) jobs
new-apart jobs state request copy pixels bytes pages reply asks free lane touched =
    let read = read-of state request.queue request.bytes (TwoD (Transfer copy.region.rect copy.region.offset copy.resource)) asks.let_in asks.reads in
    let (here, apart) = free-transfer jobs state request copy.region.rect copy.region.offset copy.resource asks.run read free in
    all-apart jobs jobs (job_of request copy pixels bytes pages reply) (entries_at copy.resource state.backings) (λ one has. has) lane here apart touched

-- a request that was let in has a whole header
long-by : (short : Bool) (more : List (Bool × ℕ)) → refusal_of ((short, 0x1200) ∷ more) ≡ None → short ≡ false
long-by true more none = cc
long-by false more none = refl

pub long-header : (state : State) (queue : Queue) (bytes : List ℕ) → refusal_of (request_refusals state queue bytes) ≡ None → 24 ≤ length bytes
long-header state queue bytes none =
    let kind = (header_of bytes).kind in
    let long = long-by (nat_lt (length bytes) 24)
    ((not (is_known kind), 0x1200) ∷ (not (is_queue_of kind queue), 0x1200) ∷ (not (is_usable state.setup.accepted kind), 0x1200) ∷ (is_none (command_of kind (drop 24 bytes)), 0x1200) ∷ timeline_refusals state (header_of bytes)) none in
    grind (arith, nat_tests, long)

-- a job of this lane, with this resource
abbrev pub IsOne : List Job → ℕ → ℕ → Type 0
IsOne jobs lane resource = (one : Job) × Has jobs one × (one.asked.lane ≡ lane) × (one.resource ≡ resource)

pub ended-out : (state : State) (jobs : List Job) (lane resource : ℕ) (pixels : List ℕ) → AllApart jobs → AllByRecursion (IsOut state) jobs → IsOne jobs lane resource
    → AllByRecursion (IsOut (brought_back resource pixels state)) (but_lane job_lane lane jobs)
ended-out state jobs lane resource pixels apart out (one, has, at, of) =
    brought-out state resource pixels jobs (but_lane job_lane lane jobs)
    (λ job left same.
    let (was, other) = left-of lane jobs job left in
    resources-apart jobs job one apart was has (λ equal. other (equal ∙ at)) (same ∙ sym of))
    (λ job left. out-of (IsOut state) jobs job out (left-of lane jobs job left).0)

worked-lane : (job one : Job) → job ≡ worked one → job.asked.lane ≡ one.asked.lane
worked-lane job one is = ap (λ (j : Job). j.asked.lane) is ∙ ap (λ (request : Request). request.lane) (worked-asks one)

reply-by : (bytes : Option (List ℕ)) (job : Job) → (after_placing bytes job).reply ≡ job.reply
reply-by (Some bytes) job = refl
reply-by None job = refl

pub back-step : (state : State) (jobs : List Job) (lane resource : ℕ) (pixels : List ℕ) (reply : Reply) (job : Job) → AllApart jobs → AllByRecursion (IsOut state) jobs → IsOne jobs lane resource
    → lane ≡ job.asked.lane → pixels ≡ job.pixels → reply ≡ job.reply → IsBack worked jobs job
    → ◌≡◌ {A = State × Reply} (brought_back resource pixels state, reply) (request_step state job.asked)
back-step state jobs lane resource pixels reply job apart out (one, has, at, of) lane_is pixels_is reply_is (lent, there, is) =
    let same : one ≡ lent = one-of-lane jobs one lent apart has there (at ∙ lane_is ∙ worked-lane job lent is) in
    let to : resource ≡ lent.resource = sym of ∙ ap (λ (j : Job). j.resource) same in
    let bytes : pixels ≡ (worked lent).pixels = pixels_is ∙ ap (λ (j : Job). j.pixels) is in
    let answer : reply ≡ lent.reply = reply_is ∙ ap (λ (j : Job). j.reply) is ∙ reply-by lent.bytes lent in
    ap (λ id. (brought_back id pixels state, reply)) to
    ∙ ap (λ items. (brought_back lent.resource items state, reply)) bytes
    ∙ ap (λ r. (brought_back lent.resource (worked lent).pixels state, r)) answer
    ∙ brought-step state lent (out-of (IsOut state) jobs lent out there)
    ∙ ap (λ request. request_step state request) (sym (ap (λ (j : Job). j.asked) is ∙ worked-asks lent))

pub none-back : (jobs : List Job) (lane : ℕ) (job : Job) → of_lane job_lane lane jobs ≡ [] → lane ≡ job.asked.lane → IsBack worked jobs job → ⊥
none-back jobs lane job none lane_is (lent, there, is) = lane-free jobs lane lent none there (sym (worked-lane job lent is) ∙ sym lane_is)
