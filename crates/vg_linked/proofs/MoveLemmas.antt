-- What each command and each act may do to the display, one move each: what every move keeps, every history keeps.
use Rattle.std.proofs.Common.{◌≡◌, ◌==◌, ◌*◌, ℕ, Bool, true, false, cond, length, drop, Option, Some, None, List, [], ◌∷◌, refl}
use Rattle.std.specs.Prelude.{slice_get}
use Rattle.std.specs.Ordering.{nat_cmp}
use Rattle.std.specs.BTreeMap.{insert_entry}
use Rattle.vg_wire_ext.specs.declared.command.Command.{Command}
use Rattle.vg_wire_ext.specs.declared.command.Command.TheVariants.{TwoD, CapsetInfo, Capset, Edid, AssignUuid, CreateBlob, SetScanoutBlob, CtxCreate, CtxDestroy, CtxAttach, CtxDetach, Submit, UpdateCursor, MoveCursor}
use Rattle.vg_wire.specs.Header.{header_of}
use Rattle.vg_wire.specs.declared.two_d.Command2d.{Command2d}
use Rattle.vg_wire.specs.declared.two_d.Command2d.TheVariants.{DisplayInfo, Create2d, Unref, SetScanout, Flush, Transfer, Attach, Detach}
use Rattle.vg_wire_ext.specs.Commands.{command_of}
use Rattle.vg_wire_ext.specs.declared.response.Response.{Response}
use Rattle.vg_wire_ext.specs.declared.response.Response.TheVariants as responses
use Rattle.vg_chain.specs.declared.shape.Shape.{Shape}
use Rattle.vg_chain.specs.declared.shape.Shape.TheVariants.{Plain, Pieces, Indirect, Mixed, Bad}
use Rattle.vg_formats.specs.declared.entry.MemEntry.{MemEntry}
use Rattle.vg_formats.specs.declared.format.Format.{Format}
use Rattle.vg_formats.specs.declared.rect.Rect.{Rect}
use Rattle.vg_formats.specs.Formats.{format_of}
use Rattle.vg_cursor.specs.declared.cursor.Cursor.{Cursor}
use Rattle.vg_cursor.specs.Cursor.{placed_at}
use Rattle.vg_pages.specs.Memory.{Memory, after_taking}
use Rattle.vg_resource.specs.declared.resource.Resource.{Resource}
use Rattle.vg_resource.specs.Resource.{blank, resource_at, with_blank, with_pixels}
use Rattle.vg_transfer.specs.Backings.{detached, entries_at, transferred}
use Rattle.vg_blob.specs.Blobs.{with_blob}
use Rattle.vg_blob.specs.Uuids.{assign_refusals, assigned, number_for, uuid_bytes}
use Rattle.vg_context.specs.Contexts as contexts
use Rattle.vg_context.specs.Contexts.{Context}
use Rattle.vg_scanout.specs.Scanout.{bound, unbound}
use Rattle.vg_refusals.specs.Refusals.{refusal_of}
use Rattle.vg_plugs.specs.Plugs.{PlugState, cleared, plugged, unplugged}
use Rattle.vg_plugs.proofs.PlugLemmas.{length-plugged, length-unplugged}
use Rattle.vg_share.specs.declared.share.Geometry.{Geometry}
use Rattle.vg_share.specs.declared.share.ShareRefusal.{ShareRefusal}
use Rattle.vg_share.specs.Cells.{repeated, stored}
use Rattle.vg_share.specs.Share.{ShareState, drop_refusal, ended, entered, export_refusal, exported, free_refusal, freed, given_back, import_refusal, imported, leased, new_pages, pages_at, place_refusal, release_refusal, released, reserve_refusal, take_refusal, token_key, unleased, with_buffer}
use Rattle.vg_client_holds.specs.declared.act.Act.{Act}
use Rattle.vg_client_holds.specs.declared.act.Act.TheVariants.{Enter, Reserve, Store, Load, Export, Import, Release, Free, Take, Drop, Await, Denied, Mode, Unplug, Sync, Events, Ack, Leave}
use Rattle.vg_client_holds.specs.declared.act.ActReply.{ActReply}
use Rattle.vg_history.specs.declared.entry.Entry.TheVariants as entries
use Rattle.vg_device.specs.ActStep.{effect_of, is_in_use, replied_by, shown_at}
use Rattle.vg_device.specs.Answered.{answered_with}
use Rattle.vg_device.specs.BlobStep.{blob_binding, create_blob_refusals, set_scanout_blob_refusals, with_scanout_blob, with_shown_blob}
use Rattle.vg_device.specs.ContextStep.{ctx_attach_refusals}
use Rattle.vg_device.specs.Receive.{receive_refusal, with_received}
use Rattle.vg_device.specs.RequestStep.{request_step, shaped_step}
use Rattle.vg_device.specs.State.{State, counted, has_resource, is_blob}
use Rattle.vg_device.specs.Step.{answer_of, attach_2d_refusals, binding_of, block_of, command_step, create_2d_refusals, cursor_change, cursor_refusals, detach_2d_refusals, edid_refusals, flush_refusals, flushed_by, move_refusals, refused_or_ran, request_refusals, set_scanout_refusals, transfer_2d_step, two_d_step, unref_refusals, unreferenced, with_cursor, with_scanout, with_shown}
use Rattle.vg_device.specs.declared.blobs.Layout.{Layout}
use Rattle.vg_device.specs.declared.request.Request.{Request}
use Rattle.vg_machine.specs.Entries.{Entry}
use Rattle.vg_machine.specs.Replay.{after, replay_from}

-- the ids of the resources that a command makes, each as `Makes` says, and the ranges that it gives one, as `Gives` says
abbrev pub Made2d : (ℕ → Type 0) → (ℕ → List MemEntry → Type 0) → Command2d → Type 0
Made2d Makes Gives (Create2d resource format width height) = Makes resource
Made2d Makes Gives (Attach resource ranges) = Gives resource ranges
Made2d Makes Gives _ = Unit {0}

abbrev pub Made : (ℕ → Type 0) → (ℕ → List MemEntry → Type 0) → Command → Type 0
Made Makes Gives (TwoD command) = Made2d Makes Gives command
Made Makes Gives (CreateBlob resource mem flags blob_id size ranges) = Makes resource × Gives resource ranges
Made Makes Gives _ = Unit {0}

abbrev pub MadeIf : (ℕ → Type 0) → (ℕ → List MemEntry → Type 0) → Option Command → Type 0
MadeIf Makes Gives (Some command) = Made Makes Gives command
MadeIf Makes Gives None = Unit {0}

-- commands, each where it isn't refused
pub record CommandMoves (P Q : State → Type 0) (Makes : ℕ → Type 0) (Gives : ℕ → List MemEntry → Type 0) : Type 0 where
  pub stay : (s : State) → P s → Q s
  pub create : (s : State) (id format width height : ℕ) (known : Format) → refusal_of (create_2d_refusals s id format width height) ≡ None → Makes id → P s
      → Q (record s { resources = insert_entry nat_cmp s.resources id (blank width height known) })
  pub unref : (s : State) (id : ℕ) → P s → Q (unreferenced s id)
  pub bind : (s : State) (rect : Rect) (scanout id : ℕ) (resource : Resource) → refusal_of (set_scanout_refusals s rect scanout id) ≡ None → (id == 0) ≡ false
      → resource_at id s.resources ≡ Some resource → P s → Q (record s { scanouts = bound scanout (binding_of id rect resource) s.scanouts })
  pub bind_blob : (s : State) (rect : Rect) (scanout id : ℕ) (layout : Layout) (format : Format) → refusal_of (set_scanout_blob_refusals s rect scanout id layout) ≡ None
      → (id == 0) ≡ false → format_of layout.format ≡ Some format → P s → Q (record s { scanouts = bound scanout (blob_binding id rect layout format) s.scanouts })
  pub unbind : (s : State) (scanout : ℕ) → P s → Q (record s { scanouts = unbound scanout s.scanouts })
  pub flush : (s : State) (rect : Rect) (id : ℕ) → P s → Q (record s { scanouts = flushed_by s rect id })
  pub receive : (s : State) (rect : Rect) (offset id : ℕ) (resource : Resource) → receive_refusal id rect offset s.backings (resource_at id s.resources) ≡ None
      → resource_at id s.resources ≡ Some resource → P s
      → Q (record s { resources = with_pixels id resource (transferred s.memory (entries_at id s.backings) rect offset resource.width resource.pixels) s.resources })
  pub attach : (s : State) (id : ℕ) (ranges : List MemEntry) → refusal_of (attach_2d_refusals s id ranges) ≡ None → Gives id ranges → P s → Q (record s { backings = insert_entry nat_cmp s.backings id ranges })
  pub detach : (s : State) (id : ℕ) → P s → Q (record s { backings = detached id s.backings })
  pub assign : (s : State) (id : ℕ) → P s → Q (record s { uuids = assigned id s.uuids })
  pub create_blob : (s : State) (id mem flags size : ℕ) (ranges : List MemEntry) → refusal_of (create_blob_refusals s id mem flags size ranges) ≡ None → Makes id → Gives id ranges → P s
      → Q (record s { blobs = with_blob id size ranges s.blobs })
  pub context : (s : State) (now : List (ℕ × Context)) → P s → Q (record s { contexts = now })
  pub point : (s : State) (scanout : ℕ) (change : Cursor → Cursor) → P s → Q (with_cursor s scanout change)

module _ (P Q : State → Type 0) (Makes : ℕ → Type 0) (Gives : ℕ → List MemEntry → Type 0) (moves : CommandMoves P Q Makes Gives) where
  answered : (refusal : Option ℕ) (s next : State) (response : Response) → P s → (refusal ≡ None → Q next) → Q (answered_with refusal s next response).0
  answered (Some code) s next response was would = moves.stay s was
  answered None s next response was would = would refl

  created : (s : State) (id format width height : ℕ) (known : Option Format) → refusal_of (create_2d_refusals s id format width height) ≡ None → Makes id → P s
      → Q (record s { resources = with_blank id width height known s.resources })
  created s id format width height (Some known) none made was = moves.create s id format width height known none made was
  created s id format width height None none made was = moves.stay s was

  shown : (s : State) (rect : Rect) (scanout id : ℕ) (found : Option Resource) → refusal_of (set_scanout_refusals s rect scanout id) ≡ None → (id == 0) ≡ false
      → resource_at id s.resources ≡ found → P s → Q (with_shown s rect scanout id found)
  shown s rect scanout id (Some resource) none some is was = moves.bind s rect scanout id resource none some is was
  shown s rect scanout id None none some is was = moves.stay s was

  shown_or_not : (s : State) (rect : Rect) (scanout id : ℕ) (b : Bool) → (id == 0) ≡ b → refusal_of (set_scanout_refusals s rect scanout id) ≡ None → P s
      → Q (cond b (record s { scanouts = unbound scanout s.scanouts }) (with_shown s rect scanout id (resource_at id s.resources)))
  shown_or_not s rect scanout id true is none was = moves.unbind s scanout was
  shown_or_not s rect scanout id false is none was = shown s rect scanout id (resource_at id s.resources) none is refl was

  shown_blob : (s : State) (rect : Rect) (scanout id : ℕ) (layout : Layout) (format : Option Format) → refusal_of (set_scanout_blob_refusals s rect scanout id layout) ≡ None → (id == 0) ≡ false
      → format_of layout.format ≡ format → P s → Q (with_shown_blob s rect scanout id layout format)
  shown_blob s rect scanout id layout (Some format) none some is was = moves.bind_blob s rect scanout id layout format none some is was
  shown_blob s rect scanout id layout None none some is was = moves.stay s was

  blob_or_not : (s : State) (rect : Rect) (scanout id : ℕ) (layout : Layout) (b : Bool) → (id == 0) ≡ b → refusal_of (set_scanout_blob_refusals s rect scanout id layout) ≡ None → P s
      → Q (cond b (record s { scanouts = unbound scanout s.scanouts }) (with_shown_blob s rect scanout id layout (format_of layout.format)))
  blob_or_not s rect scanout id layout true is none was = moves.unbind s scanout was
  blob_or_not s rect scanout id layout false is none was = shown_blob s rect scanout id layout (format_of layout.format) none is refl was

  received : (s : State) (rect : Rect) (offset id : ℕ) (found : Option Resource) → receive_refusal id rect offset s.backings (resource_at id s.resources) ≡ None
      → resource_at id s.resources ≡ found → P s → Q (record s { resources = with_received s.memory id rect offset s.backings found s.resources })
  received s rect offset id (Some resource) none is was = moves.receive s rect offset id resource none is was
  received s rect offset id None none is was = moves.stay s was

  transferred_or_not : (s : State) (rect : Rect) (offset id : ℕ) (b : Bool) → P s → Q (cond b (s, responses.Nodata) (transfer_2d_step s rect offset id)).0
  transferred_or_not s rect offset id true was = moves.stay s was
  transferred_or_not s rect offset id false was =
      answered (receive_refusal id rect offset s.backings (resource_at id s.resources)) s _ responses.Nodata was (λ none. received s rect offset id (resource_at id s.resources) none refl was)

  two_d : (s : State) (command : Command2d) → Made2d Makes Gives command → P s → Q (two_d_step s command).0
  two_d s DisplayInfo made was = moves.stay s was
  two_d s (Create2d id format width height) made was =
      answered (refusal_of (create_2d_refusals s id format width height)) s _ responses.Nodata was (λ none. created s id format width height (format_of format) none made was)
  two_d s (Unref id) made was = answered (refusal_of (unref_refusals s id)) s _ responses.Nodata was (λ none. moves.unref s id was)
  two_d s (SetScanout rect scanout id) made was =
      answered (refusal_of (set_scanout_refusals s rect scanout id)) s (with_scanout s rect scanout id) responses.Nodata was (λ none. shown_or_not s rect scanout id (id == 0) refl none was)
  two_d s (Flush rect id) made was = answered (refusal_of (flush_refusals s rect id)) s _ responses.Nodata was (λ none. moves.flush s rect id was)
  two_d s (Transfer rect offset id) made was = transferred_or_not s rect offset id (is_blob s id) was
  two_d s (Attach id ranges) made was = answered (refusal_of (attach_2d_refusals s id ranges)) s _ responses.Nodata was (λ none. moves.attach s id ranges none made was)
  two_d s (Detach id) made was = answered (refusal_of (detach_2d_refusals s id)) s _ responses.Nodata was (λ none. moves.detach s id was)

  pub command-kept : (s : State) (context : ℕ) (command : Command) → Made Makes Gives command → P s → Q (command_step s context command).0
  command-kept s context (TwoD command) made was = two_d s command made was
  command-kept s context (CapsetInfo index) made was = moves.stay s was
  command-kept s context (Capset id version) made was = moves.stay s was
  command-kept s context (Edid scanout) made was =
      answered (refusal_of (edid_refusals s.plugs scanout)) s s _ was (λ none. moves.stay s was)
  command-kept s context (AssignUuid id) made was =
      answered (refusal_of (assign_refusals (has_resource s id))) s _ (responses.Uuid (uuid_bytes (number_for id s.uuids))) was (λ none. moves.assign s id was)
  command-kept s context (CreateBlob id mem flags blob_id size ranges) made was =
      answered (refusal_of (create_blob_refusals s id mem flags size ranges)) s _ responses.Nodata was (λ none. moves.create_blob s id mem flags size ranges none made.0 made.1 was)
  command-kept s context (SetScanoutBlob rect scanout id width height format stride offset) made was =
      let layout : Layout = record { width = width; height = height; format = format; stride = stride; offset = offset } in
      answered (refusal_of (set_scanout_blob_refusals s rect scanout id layout)) s (with_scanout_blob s rect scanout id layout) responses.Nodata was
      (λ none. blob_or_not s rect scanout id layout (id == 0) refl none was)
  command-kept s context (CtxCreate nlen context_init name) made was =
      answered (refusal_of (contexts.create_refusals context nlen context_init s.contexts)) s _ responses.Nodata was (λ none. moves.context s (contexts.created context context_init s.contexts) was)
  command-kept s context CtxDestroy made was =
      answered (refusal_of (contexts.destroy_refusals context s.contexts)) s _ responses.Nodata was (λ none. moves.context s (contexts.destroyed context s.contexts) was)
  command-kept s context (CtxAttach id) made was =
      answered (refusal_of (ctx_attach_refusals s context id)) s _ responses.Nodata was (λ none. moves.context s (contexts.attached context id s.contexts) was)
  command-kept s context (CtxDetach id) made was =
      answered (refusal_of (contexts.detach_refusals context id s.contexts)) s _ responses.Nodata was (λ none. moves.context s (contexts.detached context id s.contexts) was)
  command-kept s context (Submit stream) made was = answered (refusal_of (contexts.submit_refusals context stream s.contexts)) s s responses.Nodata was (λ none. moves.stay s was)
  command-kept s context (UpdateCursor scanout x y id hot_x hot_y) made was =
      answered (refusal_of (cursor_refusals s scanout id hot_x hot_y)) s _ responses.Nodata was (λ none. moves.point s scanout (cursor_change s x y id hot_x hot_y) was)
  command-kept s context (MoveCursor scanout x y) made was =
      answered (refusal_of (move_refusals s scanout)) s _ responses.Nodata was (λ none. moves.point s scanout (placed_at x y) was)

  -- what it makes and gives has to be known only where it isn't refused before its command
  abbrev pub MayMake : State → Request → Type 0
  MayMake s request =
      refusal_of (request_refusals s request.queue request.bytes) ≡ None → MadeIf Makes Gives (command_of (header_of request.bytes).kind (drop 24 request.bytes))

  ran-kept : (s : State) (context : ℕ) (refusal : Option ℕ) (command : Option Command) → (refusal ≡ None → MadeIf Makes Gives command) → P s → Q (refused_or_ran refusal s context command).0
  ran-kept s context (Some code) command made was = moves.stay s was
  ran-kept s context None (Some command) made was = command-kept s context command (made refl) was
  ran-kept s context None None made was = moves.stay s was

  answer-kept : (s : State) (request : Request) → MayMake s request → P s → Q (answer_of s request.queue request.bytes).0
  answer-kept s request made was =
      ran-kept s (header_of request.bytes).ctx_id (refusal_of (request_refusals s request.queue request.bytes)) (command_of (header_of request.bytes).kind (drop 24 request.bytes)) made was

  shaped-kept : (shape : Shape) (s : State) (request : Request) → MayMake (counted s) request → P (counted s) → Q (shaped_step shape s request).0
  shaped-kept Plain s request made was = answer-kept (counted s) request made was
  shaped-kept (Pieces n) s request made was = answer-kept (counted s) request made was
  shaped-kept Indirect s request made was = answer-kept (counted s) request made was
  shaped-kept Mixed s request made was = answer-kept (counted s) request made was
  shaped-kept (Bad fault) s request made was = moves.stay (counted s) was

  pub request-kept : (s : State) (request : Request) → MayMake (counted s) request → P (counted s) → Q (request_step s request).0
  request-kept s request made was = shaped-kept request.shape s request made was

-- acts, each where it isn't refused
pub record ActMoves (P Q : State → Type 0) : Type 0 where
  pub stay : (s : State) → P s → Q s
  pub reserve : (s : State) (client : ℕ) (geometry : Geometry) → reserve_refusal geometry.bytes s.memory ≡ None → P s
      → Q (record s { memory = after_taking s.memory (new_pages geometry.bytes s.memory); share = with_buffer client geometry (new_pages geometry.bytes s.memory) s.share })
  pub store : (s : State) (client key offset : ℕ) (bytes : List ℕ) (times : ℕ) → place_refusal client key offset (length bytes * times) s.share ≡ None → P s
      → Q (record s { memory = record s.memory { bytes = stored (pages_at key s.share) offset (repeated bytes times) s.memory.bytes } })
  pub export : (s : State) (key : ℕ) → P s → Q (record s { share = exported key s.share })
  pub import : (s : State) (client token : ℕ) → import_refusal token s.share ≡ None → P s → Q (record s { share = imported client (token_key token s.share) s.share })
  pub release : (s : State) (client key : ℕ) → release_refusal client key (shown_at client key s) s.share ≡ None → P s → Q (record s { share = released client key s.share })
  pub free : (s : State) (client key : ℕ) → free_refusal client key (has_resource s key) s.share ≡ None → P s
      → Q (record s { memory = given_back (pages_at key s.share) s.memory; share = freed key s.share })
  pub take : (s : State) (client scanout : ℕ) → take_refusal scanout s.share ≡ None → P s → Q (record s { share = leased client scanout s.share })
  pub drop : (s : State) (client scanout : ℕ) → drop_refusal client scanout (is_in_use s scanout) s.share ≡ None → P s → Q (record s { share = unleased scanout s.share })
  pub plug : (s : State) (plugs : PlugState) → length plugs.modes ≡ length s.plugs.modes → P s → Q (record s { plugs = plugs })
  pub leave : (s : State) (client : ℕ) → P s → Q (record s { share = ended client (entered client s.share) })

module _ (P Q : State → Type 0) (moves : ActMoves P Q) where
  replied : (refusal : Option ShareRefusal) (s next : State) (reply : ActReply) → P s → (refusal ≡ None → Q next) → Q (replied_by refusal s next reply).0
  replied (Some refusal) s next reply was would = moves.stay s was
  replied None s next reply was would = would refl

  pub effect-kept : (s : State) (client : ℕ) (act : Act) → P s → Q (effect_of s client act).0
  effect-kept s client Enter was = moves.stay s was
  effect-kept s client (Reserve width height format bytes) was =
      replied (reserve_refusal bytes s.memory) s _ _ was (λ none. moves.reserve s client (record { width = width; height = height; format = format; bytes = bytes }) none was)
  effect-kept s client (Store key offset bytes times) was =
      replied (place_refusal client key offset (length bytes * times) s.share) s _ _ was (λ none. moves.store s client key offset bytes times none was)
  effect-kept s client (Load key offset n) was = replied (place_refusal client key offset n s.share) s _ _ was (λ none. moves.stay s was)
  effect-kept s client (Export key) was = replied (export_refusal client key s.share) s _ _ was (λ none. moves.export s key was)
  effect-kept s client (Import token) was = replied (import_refusal token s.share) s _ _ was (λ none. moves.import s client token none was)
  effect-kept s client (Release key) was = replied (release_refusal client key (shown_at client key s) s.share) s _ _ was (λ none. moves.release s client key none was)
  effect-kept s client (Free key) was = replied (free_refusal client key (has_resource s key) s.share) s _ _ was (λ none. moves.free s client key none was)
  effect-kept s client (Take scanout) was = replied (take_refusal scanout s.share) s _ _ was (λ none. moves.take s client scanout none was)
  effect-kept s client (Drop scanout) was = replied (drop_refusal client scanout (is_in_use s scanout) s.share) s _ _ was (λ none. moves.drop s client scanout none was)
  effect-kept s client (Await lane ordinal) was = moves.stay s was
  effect-kept s client (Denied what) was = moves.stay s was
  effect-kept s client (Mode scanout width height) was = moves.plug s (plugged scanout width height s.plugs) (length-plugged scanout width height s.plugs) was
  effect-kept s client (Unplug scanout) was = moves.plug s (unplugged scanout s.plugs) (length-unplugged scanout s.plugs) was
  effect-kept s client (Sync number) was = moves.stay s was
  effect-kept s client Events was = moves.stay s was
  effect-kept s client Ack was = moves.plug s (cleared s.plugs) refl was
  effect-kept s client Leave was = moves.leave s client was

-- whatever is made
abbrev pub Anything : ℕ → Type 0
Anything id = Unit {0}

abbrev pub Anywhere : ℕ → List MemEntry → Type 0
Anywhere id ranges = Unit {0}

made_2d : (command : Command2d) → Made2d Anything Anywhere command
made_2d DisplayInfo = tt
made_2d (Create2d resource format width height) = tt
made_2d (Unref resource) = tt
made_2d (SetScanout rect scanout resource) = tt
made_2d (Flush rect resource) = tt
made_2d (Transfer rect offset resource) = tt
made_2d (Attach resource ranges) = tt
made_2d (Detach resource) = tt

made_by : (command : Command) → Made Anything Anywhere command
made_by (TwoD command) = made_2d command
made_by (CapsetInfo index) = tt
made_by (Capset id version) = tt
made_by (Edid scanout) = tt
made_by (AssignUuid resource) = tt
made_by (CreateBlob resource mem flags blob_id size ranges) = (tt, tt)
made_by (SetScanoutBlob rect scanout resource width height format stride offset) = tt
made_by (CtxCreate nlen context_init name) = tt
made_by CtxDestroy = tt
made_by (CtxAttach resource) = tt
made_by (CtxDetach resource) = tt
made_by (Submit stream) = tt
made_by (UpdateCursor scanout x y resource hot_x hot_y) = tt
made_by (MoveCursor scanout x y) = tt

pub made_if : (command : Option Command) → MadeIf Anything Anywhere command
made_if (Some command) = made_by command
made_if None = tt

-- what each move keeps, or gives of what one entry more gives
pub record AllMoves (P Q : State → Type 0) : Type 0 where
  pub count : (s : State) → Q s → P (counted s)
  pub commands : CommandMoves P Q Anything Anywhere
  pub acts : ActMoves P Q

pub after-kept : (P Q : State → Type 0) → AllMoves P Q → (s : State) (entry : Entry) → Q s → Q (after s entry)
after-kept P Q moves s (entries.Act client call act reply) was = effect-kept P Q moves.acts (counted s) client act (moves.count s was)
after-kept P Q moves s (entries.Command client call request reply) was =
    request-kept P Q Anything Anywhere moves.commands s request (λ none. made_if (command_of (header_of request.bytes).kind (drop 24 request.bytes))) (moves.count s was)

pub replay-kept : (P Q : State → Type 0) → AllMoves P Q → (s : State) (H : List Entry) → Q s → Q (replay_from s H)
replay-kept P Q moves s [] was = was
replay-kept P Q moves s (entry ∷ rest) was = replay-kept P Q moves (after s entry) rest (after-kept P Q moves s entry was)

-- no command changes memory, the shares and what is plugged
pub commands_leave : (P : Memory → ShareState → PlugState → Type 0) → CommandMoves (λ s. P s.memory s.share s.plugs) (λ s. P s.memory s.share s.plugs) Anything Anywhere
commands_leave P = record {
  stay = λ s was. was;
  create = λ s id format width height known none made was. was;
  unref = λ s id was. was;
  bind = λ s rect scanout id resource none some is was. was;
  bind_blob = λ s rect scanout id layout format none some is was. was;
  unbind = λ s scanout was. was;
  flush = λ s rect id was. was;
  receive = λ s rect offset id resource none is was. was;
  attach = λ s id ranges none made was. was;
  detach = λ s id was. was;
  assign = λ s id was. was;
  create_blob = λ s id mem flags size ranges none made given was. was;
  context = λ s now was. was;
  point = λ s scanout change was. was;
}

-- acts change memory, the shares and what is plugged alone
pub acts_leave : (P : State → Type 0) → ((s : State) (memory : Memory) (share : ShareState) (plugs : PlugState) → length plugs.modes ≡ length s.plugs.modes → P s → P (record s { memory = memory; share = share; plugs = plugs })) → ActMoves P P
acts_leave P still = record {
  stay = λ s was. was;
  reserve = λ s client geometry none was. still s _ _ s.plugs refl was;
  store = λ s client key offset bytes times none was. still s _ s.share s.plugs refl was;
  export = λ s key was. still s s.memory _ s.plugs refl was;
  import = λ s client token none was. still s s.memory _ s.plugs refl was;
  release = λ s client key none was. still s s.memory _ s.plugs refl was;
  free = λ s client key none was. still s _ _ s.plugs refl was;
  take = λ s client scanout none was. still s s.memory _ s.plugs refl was;
  drop = λ s client scanout none was. still s s.memory _ s.plugs refl was;
  plug = λ s plugs many was. still s s.memory s.share plugs many was;
  leave = λ s client was. still s s.memory _ s.plugs refl was;
}
