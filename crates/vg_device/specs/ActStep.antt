-- What the acts of clients do and answer. All of it is our own.
use Rattle.std.specs.Prelude.{◌≡◌, ℕ, ◌+◌, ◌*◌, ◌==◌, ◌&&◌, ◌||◌, Bool, true, false, is_some, Result, Ok, Err, List, length, if◌then◌else◌, Option, Some, None}
use Rattle.std.specs.declared.alloc.AllocError.{AllocError}
use Rattle.std.specs.List.{find, range_with_len}
use Rattle.vg_client_holds.specs.declared.act.Act.{Act}
use Rattle.vg_client_holds.specs.declared.act.Act.TheVariants.{Enter, Reserve, Store, Load, Export, Import, Release, Free, Take, Drop, Await, Denied, Mode, Unplug, Sync, Events, Ack, Leave}
use Rattle.vg_client_holds.specs.declared.act.ActReply.{ActReply}
use Rattle.vg_client_holds.specs.declared.act.ActReply.TheVariants as act_replies
use Rattle.vg_plugs.specs.Plugs.{cleared, plugged, unplugged}
use Rattle.vg_share.specs.declared.share.Geometry.{Geometry}
use Rattle.vg_share.specs.declared.share.ShareRefusal.{ShareRefusal}
use Rattle.vg_scanout.specs.declared.scanout.Binding.{Binding}
use Rattle.vg_pages.specs.Memory.{after_taking}
use Rattle.vg_share.specs.Cells.{loaded, repeated, stored}
use Rattle.vg_cursor.specs.Cursor.{cursor_of}
use Rattle.vg_scanout.specs.Scanout.{binding_at}
use Rattle.vg_share.specs.Share.{drop_refusal, ended, entered, export_refusal, exported, free_refusal, freed, geometry_at, given_back, has_holder, import_refusal, imported, is_leased, leased, new_pages, pages_at, place_refusal, release_refusal, released, reserve_refusal, take_refusal, token_key, unleased, with_buffer}
use Rattle.vg_device.specs.State.{State, counted, has_resource}

-- An act whose refusal is this: the display stays as it was, or becomes `next`.
abbrev pub replied_by : Option ShareRefusal → State → State → ActReply → State × ActReply
replied_by (Some refusal) state next reply = (state, act_replies.Refused refusal)
replied_by None state next reply = (next, reply)

abbrev pub shows_key : ℕ → Option Binding → Bool
shows_key key (Some binding) = binding.resource == key
shows_key key None = false

-- The scanout is leased to the client, and shows the buffer.
abbrev pub is_shown_on : ℕ → ℕ → State → ℕ → Bool
is_shown_on client key state scanout = is_leased client scanout state.share && shows_key key (binding_at scanout state.scanouts)

-- The least scanout that does.
abbrev pub shown_at : ℕ → ℕ → State → Option ℕ
shown_at client key state = find (is_shown_on client key state) (range_with_len 0 (length state.setup.displays))

abbrev pub reserve_step : State → ℕ → Geometry → State × ActReply
reserve_step state client geometry =
    let pages = new_pages geometry.bytes state.memory in
    replied_by (reserve_refusal geometry.bytes state.memory) state
    (record state { memory = after_taking state.memory pages; share = with_buffer client geometry pages state.share })
    (act_replies.Reserved (state.share.reserved + 1) pages)

abbrev pub store_step : State → ℕ → ℕ → ℕ → List ℕ → ℕ → State × ActReply
store_step state client key offset bytes times =
    replied_by (place_refusal client key offset (length bytes * times) state.share) state
    (record state { memory = record state.memory { bytes = stored (pages_at key state.share) offset (repeated bytes times) state.memory.bytes } })
    act_replies.Ok

abbrev pub load_step : State → ℕ → ℕ → ℕ → ℕ → State × ActReply
load_step state client key offset n =
    replied_by (place_refusal client key offset n state.share) state state
    (act_replies.Bytes (loaded state.memory.bytes (pages_at key state.share) offset n))

abbrev pub export_step : State → ℕ → ℕ → State × ActReply
export_step state client key =
    replied_by (export_refusal client key state.share) state (record state { share = exported key state.share })
    (act_replies.Exported (length state.share.exports + 1))

-- The client holds the token's buffer once more. Its geometry is what the client that reserved it said.
abbrev pub import_step : State → ℕ → ℕ → State × ActReply
import_step state client token =
    let key = token_key token state.share in
    replied_by (import_refusal token state.share) state (record state { share = imported client key state.share })
    (act_replies.Imported key (geometry_at key state.share) (pages_at key state.share))

abbrev pub release_step : State → ℕ → ℕ → State × ActReply
release_step state client key =
    let next = released client key state.share in
    replied_by (release_refusal client key (shown_at client key state) state.share) state (record state { share = next })
    (if has_holder key next then act_replies.Kept else act_replies.Last)

abbrev pub free_step : State → ℕ → ℕ → State × ActReply
free_step state client key =
    replied_by (free_refusal client key (has_resource state key) state.share) state
    (record state { memory = given_back (pages_at key state.share) state.memory; share = freed key state.share })
    act_replies.Ok

abbrev pub take_step : State → ℕ → ℕ → State × ActReply
take_step state client scanout =
    replied_by (take_refusal scanout state.share) state (record state { share = leased client scanout state.share }) act_replies.Ok

-- The scanout shows something: it is bound, or its cursor is shown.
abbrev pub is_in_use : State → ℕ → Bool
is_in_use state scanout = is_some (binding_at scanout state.scanouts) || (cursor_of state.cursors scanout).visible

abbrev pub drop_step : State → ℕ → ℕ → State × ActReply
drop_step state client scanout =
    replied_by (drop_refusal client scanout (is_in_use state scanout) state.share) state
    (record state { share = unleased scanout state.share }) act_replies.Ok

-- What an act does and answers, once it is counted.
abbrev pub effect_of : State → ℕ → Act → State × ActReply
effect_of state client Enter = (state, act_replies.Ok)
effect_of state client (Reserve width height format bytes) = reserve_step state client (record { width = width; height = height; format = format; bytes = bytes })
effect_of state client (Store key offset bytes times) = store_step state client key offset bytes times
effect_of state client (Load key offset n) = load_step state client key offset n
effect_of state client (Export key) = export_step state client key
effect_of state client (Import token) = import_step state client token
effect_of state client (Release key) = release_step state client key
effect_of state client (Free key) = free_step state client key
effect_of state client (Take scanout) = take_step state client scanout
effect_of state client (Drop scanout) = drop_step state client scanout
effect_of state client (Await lane ordinal) = (state, act_replies.Ok)
effect_of state client (Denied what) = (state, act_replies.Ok)
effect_of state client (Mode scanout width height) = (record state { plugs = plugged scanout width height state.plugs }, act_replies.Ok)
effect_of state client (Unplug scanout) = (record state { plugs = unplugged scanout state.plugs }, act_replies.Ok)
effect_of state client (Sync call) = (state, act_replies.Ok)
effect_of state client Events = (state, act_replies.Events state.plugs.changed)
effect_of state client Ack = (record state { plugs = cleared state.plugs }, act_replies.Ok)
effect_of state client Leave = (record state { share = ended client (entered client state.share) }, act_replies.Ok)

-- One act of a client: the display after it, and the reply.
abbrev pub act_step : State → ℕ → Act → State × ActReply
act_step state client act = effect_of (counted state) client act

-- A refused act has changed nothing: `new` is the display as it was.
abbrev pub KeepsIfRefused : ActReply → State → State → Type 0
KeepsIfRefused (act_replies.Refused refusal) old new = new ≡ old
KeepsIfRefused reply old new = Unit {0}

-- The reply has no list in it.
abbrev pub HasNoList : ActReply → Type 0
HasNoList (act_replies.Reserved key pages) = ⊥
HasNoList (act_replies.Bytes bytes) = ⊥
HasNoList (act_replies.Imported key geometry pages) = ⊥
HasNoList reply = Unit {0}

-- Whether what may want memory was accepted.
abbrev pub is_accepted : {X R : Type 0} → Result (Result X R) AllocError → Bool
is_accepted (Ok (Ok x)) = true
is_accepted (Ok (Err refusal)) = false
is_accepted (Err error) = false
