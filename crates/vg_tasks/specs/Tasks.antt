-- The tasks of each call of a client, one after another. A task gives one entry.
use Rattle.std.specs.Prelude.{ℕ, ℤ, zero, suc, ◌+◌, ◌==◌, ◌&&◌, Bool, true, false, if◌then◌else◌, List, [], ◌∷◌, ◌++◌, map, Option, Some, None, Result, Ok, Err}
use Rattle.vg_formats.specs.declared.rect.Rect.{Rect}
use Rattle.vg_client_holds.specs.declared.act.What.{What}
use Rattle.vg_client_holds.specs.declared.act.What.TheVariants.{Name, Scanout}
use Rattle.vg_client_holds.specs.declared.holds.Holds.{Holds}
use Rattle.vg_client_holds.specs.Holds.{has_number}
use Rattle.vg_calls.specs.declared.call.Call.{Call}
use Rattle.vg_calls.specs.declared.call.Call.TheVariants as calls
use Rattle.vg_calls.specs.declared.call.Body.{Body}
use Rattle.vg_calls.specs.declared.call.Body.TheVariants as bodies
use Rattle.vg_driver.specs.declared.request.Way.{Way}
use Rattle.vg_history.specs.Fences.{FenceData}
use Rattle.vg_names.specs.declared.names.Held.{Held}
use Rattle.vg_calls.specs.declared.call.NameRef.{NameRef}
use Rattle.vg_calls.specs.declared.call.ContextRef.{ContextRef}
use Rattle.vg_tasks.specs.declared.task.Task.{Task}
use Rattle.vg_tasks.specs.Known.{Known}
use Rattle.vg_names.specs.Names.{NamesState, found, has_one_name}
use Rattle.vg_names.specs.Contexts.{ContextsState, is_current}
use Rattle.vg_tasks.specs.Table.{attach_context_task, begun_way, clear_task, cursor_task, detach_context_task, drop_task, edid_task, end_context_task, export_task, flush_on, flush_task, hide_cursor_task, hide_task, import_task, info_on, info_task, load_task, make_context_task, move_task, no_import_task, raw_task, release_task, reserve_blob_task, reserve_task, send_on, send_task, show_blob_task, show_task, store_task, submit_task, take_task, uuid_task, wait_task}

-- The tasks of a call on a name: where the name isn't current the call is denied for it.
abbrev pub if_current : Option Held → (Held → List Task) → Result (List Task) What
if_current None tasks = Err Name
if_current (Some held) tasks = Ok (tasks held)

abbrev pub with_held : NamesState → NameRef → (Held → List Task) → Result (List Task) What
with_held names name tasks = if_current (found name.number names) tasks

-- The tasks of a call on a context of the client: where its name isn't current the call is denied for it.
abbrev pub with_context : ContextsState → ContextRef → Result (List Task) What → Result (List Task) What
with_context contexts context tasks = if is_current context.number contexts then tasks else Err Name

-- The whole of a buffer: of a blob, which has no width and no height, a rectangle without pixels.
abbrev pub whole_of : Held → Rect
whole_of held = record { x = 0; y = 0; width = held.width; height = held.height }

abbrev pub flip_tasks : ℕ → Held → List Task
flip_tasks scanout held = send_task held (whole_of held) ∷ show_task scanout held.key (whole_of held) ∷ flush_task held.key (whole_of held) ∷ []

-- A cursor shows the buffer of a name; where there is no name it is hidden.
abbrev pub cursor_tasks : NamesState → ℕ → Option NameRef → ℤ → ℤ → ℕ → ℕ → Result (List Task) What
cursor_tasks names scanout None x y hot_x hot_y = Ok (cursor_task scanout 0 x y hot_x hot_y ∷ [])
cursor_tasks names scanout (Some name) x y hot_x hot_y = with_held names name (λ held. cursor_task scanout held.key x y hot_x hot_y ∷ [])

-- A scanout is disabled, and its cursor hidden, before its lease ends.
abbrev pub give_back : ℕ → List Task
give_back scanout = clear_task scanout ∷ hide_cursor_task scanout ∷ drop_task scanout ∷ []

abbrev pub drop_tasks : Holds → ℕ → Result (List Task) What
drop_tasks holds scanout = if has_number scanout holds.scanouts then Ok (give_back scanout) else Err (Scanout scanout)

abbrev pub is_shown : ℕ → Option ℕ → Bool
is_shown key (Some shown) = shown == key
is_shown key None = false

-- Each scanout on which the client shows the key is disabled, rising, the first of these being scanout n.
abbrev pub clear_tasks : ℕ → ℕ → List (Option ℕ) → List Task
clear_tasks key n [] = []
clear_tasks key n (shown ∷ more) = (if is_shown key shown then clear_task n ∷ [] else []) ++ clear_tasks key (n + 1) more

-- Where this is the client's only name for the buffer, each scanout on which the client shows it is disabled before the hold is
-- given up.
abbrev pub close_tasks : List Held → List (Option ℕ) → Held → List Task
close_tasks current shows held = (if has_one_name held.key current then clear_tasks held.key 0 shows else []) ++ release_task held ∷ []

-- The import of a token, if there is one.
abbrev pub import_tasks : Option ℕ → List Task
import_tasks (Some token) = import_task token ∷ []
import_tasks None = no_import_task ∷ []

-- The context of a timeline, where one is named, has to be current.
abbrev pub is_timeline : ContextsState → Option (ContextRef × ℕ) → Bool
is_timeline contexts None = true
is_timeline contexts (Some (context, ring)) = is_current context.number contexts

abbrev pub on_timeline : ContextsState → Option (ContextRef × ℕ) → Result (List Task) What → Result (List Task) What
on_timeline contexts timeline tasks = if is_timeline contexts timeline then tasks else Err Name

-- What a begun command is: one task, which goes this way.
abbrev pub body_tasks : Known → Way → Body → Result (List Task) What
body_tasks known way bodies.Info = Ok (info_on way ∷ [])
body_tasks known way (bodies.Send name rect) = with_held known.names name (λ held. send_on way held rect ∷ [])
body_tasks known way (bodies.Flush name rect) = with_held known.names name (λ held. flush_on way held.key rect ∷ [])
body_tasks known way (bodies.Submit context ring) = with_context known.contexts context (Ok (submit_task known.holds.client context.number ring ∷ []))

-- The wait for a fence, if there is one.
abbrev pub await_tasks : Option FenceData → Result (List Task) What
await_tasks (Some fence) = Ok (wait_task fence ∷ [])
await_tasks None = Err Name

-- The tasks of a call, by what its client knows; or what is denied before there is any: a name that isn't current, of a buffer or
-- of a context, the end of a lease that there isn't, and a wait for no fence. An import without a token is denied by its task, since its name takes a number.
abbrev pub tasks_of : Known → Call → Result (List Task) What
tasks_of known calls.Info = Ok (info_task ∷ [])
tasks_of known (calls.Edid scanout) = Ok (edid_task scanout ∷ [])
tasks_of known (calls.Buffer width height format) = Ok (reserve_task width height format ∷ [])
tasks_of known (calls.Blob size) = Ok (reserve_blob_task size ∷ [])
tasks_of known (calls.Store name offset bytes times) = with_held known.names name (λ held. store_task held.key offset bytes times ∷ [])
tasks_of known (calls.Load name offset n) = with_held known.names name (λ held. load_task held.key offset n ∷ [])
tasks_of known (calls.Send name rect) = with_held known.names name (λ held. send_task held rect ∷ [])
tasks_of known (calls.Flush name rect) = with_held known.names name (λ held. flush_task held.key rect ∷ [])
tasks_of known (calls.Take scanout) = Ok (take_task scanout ∷ [])
tasks_of known (calls.Drop scanout) = drop_tasks known.holds scanout
tasks_of known (calls.Hide scanout) = Ok (hide_task scanout ∷ [])
tasks_of known (calls.Show scanout name rect) = with_held known.names name (λ held. show_task scanout held.key rect ∷ [])
tasks_of known (calls.ShowBlob scanout name rect width height format stride offset) =
    with_held known.names name (λ held. show_blob_task scanout held.key rect width height format stride offset ∷ [])
tasks_of known (calls.Flip scanout name) = with_held known.names name (flip_tasks scanout)
tasks_of known (calls.Cursor scanout name x y hot_x hot_y) = cursor_tasks known.names scanout name x y hot_x hot_y
tasks_of known (calls.Move scanout x y) = Ok (move_task scanout x y ∷ [])
tasks_of known calls.Context = Ok (make_context_task known.holds.client (known.contexts.made + 1) ∷ [])
tasks_of known (calls.EndContext context) = with_context known.contexts context (Ok (end_context_task known.holds.client context.number ∷ []))
tasks_of known (calls.Attach context name) =
    with_context known.contexts context (with_held known.names name (λ held. attach_context_task known.holds.client context.number held.key ∷ []))
tasks_of known (calls.Detach context name) =
    with_context known.contexts context (with_held known.names name (λ held. detach_context_task known.holds.client context.number held.key ∷ []))
tasks_of known (calls.Submit context ring) = with_context known.contexts context (Ok (submit_task known.holds.client context.number ring ∷ []))
tasks_of known (calls.Uuid name) = with_held known.names name (λ held. uuid_task held.key ∷ [])
tasks_of known (calls.Export name label) = with_held known.names name (λ held. export_task held.key ∷ [])
tasks_of known (calls.Import label token) = Ok (import_tasks token)
tasks_of known (calls.Begin label timeline body) = on_timeline known.contexts timeline (body_tasks known (begun_way known.holds.client timeline) body)
tasks_of known (calls.Await label fence) = await_tasks fence
tasks_of known (calls.Raw queue room shape bytes) = Ok (raw_task queue room shape bytes ∷ [])
tasks_of known (calls.Close name) = with_held known.names name (close_tasks known.names.current known.shows)

-- A call that begins its one command, and goes on without the reply.
abbrev pub begins : Call → Bool
begins (calls.Begin label timeline body) = true
begins call = false

abbrev pub is_planned : Result (List Task) What → Bool
is_planned (Ok tasks) = true
is_planned (Err what) = false

-- A call that gives up a lease, a buffer or a context.
abbrev pub gives_up : Call → Bool
gives_up (calls.Drop scanout) = true
gives_up (calls.Close name) = true
gives_up (calls.EndContext context) = true
gives_up call = false

-- Such a call, where it isn't denied at once, comes behind all that its client has begun.
abbrev pub finishes : Known → Call → Bool
finishes known call = gives_up call && is_planned (tasks_of known call)

-- The leased ones of so many scanouts from this one on are given back, rising.
abbrev pub leases_back : List ℕ → ℕ → ℕ → List Task
leases_back leased scanout zero = []
leases_back leased scanout (suc more) = (if has_number scanout leased then give_back scanout else []) ++ leases_back leased (scanout + 1) more

-- What a client gives up at its end: its leases, its contexts, and then its buffers; contexts and buffers in the order in which they
-- were made.
abbrev pub end_tasks : Known → List Task
end_tasks known =
    leases_back known.holds.scanouts 0 known.holds.displays
    ++ map (end_context_task known.holds.client) known.contexts.current
    ++ map release_task known.names.current
