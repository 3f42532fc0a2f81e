-- Displays of one shape refuse the same, and are of one shape after the same commands and acts.
use Rattle.std.proofs.Common.{◌≡◌, ℕ, ℤ, ◌+◌, ◌*◌, ◌==◌, ◌&&◌, ◌||◌, not, Bool, true, false, cond, List, [], ◌∷◌, ◌++◌, length, map, replicate, get_or, drop, Option, Some, None, refl, sym, ap, subst, ◌∙◌}
use Rattle.std.proofs.lemmas.List.{length-replicate, map-append}
use Rattle.std.specs.Prelude.{is_none, is_some, nat_le, nat_lt, slice_get, slice_index}
use Rattle.std.specs.List.{find, list_any, range_with_len, slice_set}
use Rattle.std.specs.Option.{option_map}
use Rattle.std.specs.Ordering.{nat_cmp}
use Rattle.std.specs.Map.{remove_entry, set_value}
use Rattle.std.specs.BTreeMap.{insert_entry, is_at}
use Rattle.vg_formats.specs.declared.entry.MemEntry.{MemEntry}
use Rattle.vg_formats.specs.declared.format.Format.{Format}
use Rattle.vg_formats.specs.declared.rect.Rect.{Rect}
use Rattle.vg_formats.specs.Formats.{format_of}
use Rattle.vg_pages.specs.Memory.{Memory, marked}
use Rattle.vg_pages.proofs.Marked.{length-zeroed}
use Rattle.vg_backing.specs.Backing.{are_bad, backing_bytes, total}
use Rattle.vg_cursor.specs.declared.cursor.Cursor.{Cursor}
use Rattle.vg_cursor.specs.Cursor.{changed, cursor_of, hidden_at, placed_at, shown_as, unset}
use Rattle.vg_wire.specs.declared.request.Queue.{Queue}
use Rattle.vg_wire.specs.Header.{header_of}
use Rattle.vg_wire.specs.declared.two_d.Command2d.{Command2d}
use Rattle.vg_wire.specs.declared.two_d.Command2d.TheVariants.{DisplayInfo, Create2d, Unref, SetScanout, Flush, Transfer, Attach, Detach}
use Rattle.vg_wire_ext.specs.declared.command.Command.{Command}
use Rattle.vg_wire_ext.specs.declared.command.Command.TheVariants.{TwoD, CapsetInfo, Capset, Edid, AssignUuid, CreateBlob, SetScanoutBlob, CtxCreate, CtxDestroy, CtxAttach, CtxDetach, Submit, UpdateCursor, MoveCursor}
use Rattle.vg_wire_ext.specs.Commands.{command_of}
use Rattle.vg_wire_ext.specs.declared.response.Response.{Response}
use Rattle.vg_wire_ext.specs.declared.response.Response.TheVariants as responses
use Rattle.vg_wire.specs.Kinds.{ERR_INVALID_CONTEXT_ID, ERR_INVALID_PARAMETER, ERR_INVALID_RESOURCE_ID, ERR_INVALID_SCANOUT_ID, ERR_OUT_OF_MEMORY, ERR_UNSPEC}
use Rattle.vg_refusals.specs.Refusals.{refusal_of}
use Rattle.vg_resource.specs.declared.resource.Resource.{Resource}
use Rattle.vg_resource.specs.Resource.{blank, height_of, pixel_bytes, resource_at, width_of, with_blank, without}
use Rattle.vg_places.proofs.Filled.{length-filled}
use Rattle.vg_transfer.specs.Backings.{backing_at, bytes_of_rect, detach_refusals, detached, entries_at, transfer_refusals, transferred}
use Rattle.vg_blob.specs.declared.blobs.Blob.{Blob}
use Rattle.vg_blob.specs.Blobs.{BLOB_FLAGS, BLOB_MEM_GUEST, blob_at, with_blob}
use Rattle.vg_blob.specs.Uuids.{assign_refusals, assigned, forgotten}
use Rattle.vg_context.specs.Contexts as contexts
use Rattle.vg_formats.specs.Pixels.{is_empty, is_inside}
use Rattle.vg_scanout.specs.declared.scanout.Binding.{Binding}
use Rattle.vg_scanout.specs.declared.scanout.Frame.{Frame}
use Rattle.vg_scanout.specs.Scanout.{Screen, ScanoutState, after_flush, binding_at, binding_of_screen, bound, bytes_of_screen, frame_bytes, frame_of, fresh_screen, is_past_limit, is_too_large, new_frames, screen_at, screen_of, snapped, unbound, unbound_screen}
use Rattle.vg_plugs.specs.Plugs.{PlugState, cleared, plugged, unplugged}
use Rattle.vg_share.specs.declared.share.Geometry.{Geometry}
use Rattle.vg_share.specs.declared.share.ShareRefusal.{ShareRefusal}
use Rattle.vg_share.specs.Cells.{repeated}
use Rattle.vg_share.proofs.CellLemmas.{length-stored}
use Rattle.vg_share.specs.Share.{ShareState, drop_refusal, ended, entered, export_refusal, exported, free_refusal, freed, import_refusal, imported, is_leased, leased, new_pages, pages_at, place_refusal, release_refusal, released, reserve_refusal, take_refusal, token_key, unleased, with_buffer}
use Rattle.vg_client_holds.specs.declared.act.Act.{Act}
use Rattle.vg_client_holds.specs.declared.act.Act.TheVariants.{Enter, Reserve, Store, Load, Export, Import, Release, Free, Take, Drop, Await, Denied, Mode, Unplug, Sync, Events, Ack, Leave}
use Rattle.vg_client_holds.specs.declared.act.ActReply.{ActReply}
use Rattle.vg_device.specs.ActStep.{drop_step, effect_of, free_step, release_step, replied_by, reserve_step, shown_at, shows_key, store_step}
use Rattle.vg_device.specs.Answered.{answered_with}
use Rattle.vg_device.specs.BlobStep.{blob_binding, create_blob_refusals, is_in_blob, set_scanout_blob_refusals, with_scanout_blob, with_shown_blob}
use Rattle.vg_device.specs.Receive.{receive_refusal, with_received}
use Rattle.vg_device.specs.State.{State, counted, has_resource, is_blob}
use Rattle.vg_device.specs.Step.{answer_of, attach_2d_refusals, binding_of, command_step, create_2d_refusals, cursor_change, cursor_refusals, detach_2d_refusals, flush_refusals, flushed_by, image_of, move_refusals, request_refusals, set_scanout_refusals, surface_of, edid_refusals, ran, refused_or_ran, transfer_2d_step, transfer_step, two_d_step, unreferenced, with_cursor, with_scanout, with_shown}
use Rattle.vg_device.specs.declared.blobs.Layout.{Layout}
use Rattle.vg_drawers.specs.Shape.{cursor_shape, frame_shape, on_values, resource_shape, screen_shape, shape}
use Rattle.vg_drawers.proofs.ShapeLemmas as shapes

abbrev pub Alike : State → State → Type 0
Alike one other = shape one ≡ shape other

-- ---- what one sees of a display's shape

pub size : (s z : State) → Alike s z → length s.memory.bytes ≡ length z.memory.bytes
size s z e = sym (length-replicate (length s.memory.bytes) 0) ∙ ap (λ (t : State). length t.memory.bytes) e ∙ length-replicate (length z.memory.bytes) 0

pub resource : (s z : State) (id : ℕ) → Alike s z → option_map resource_shape (resource_at id s.resources) ≡ option_map resource_shape (resource_at id z.resources)
resource s z id e =
    sym (shapes.lookup-mapped resource_shape (is_at (nat_cmp id)) s.resources) ∙ ap (λ (t : State). resource_at id t.resources) e
    ∙ shapes.lookup-mapped resource_shape (is_at (nat_cmp id)) z.resources

-- What is seen of a resource's shape alone.
by-resource : {X : Type 0} (F : Option Resource → X) → ((found : Option Resource) → F (option_map resource_shape found) ≡ F found) → (s z : State) (id : ℕ) → Alike s z
    → F (resource_at id s.resources) ≡ F (resource_at id z.resources)
by-resource F same s z id e = sym (same (resource_at id s.resources)) ∙ ap F (resource s z id e) ∙ same (resource_at id z.resources)

known : (s z : State) (id : ℕ) → Alike s z → is_some (resource_at id s.resources) ≡ is_some (resource_at id z.resources)
known = by-resource is_some (shapes.some-mapped resource_shape)

unknown : (s z : State) (id : ℕ) → Alike s z → is_none (resource_at id s.resources) ≡ is_none (resource_at id z.resources)
unknown = by-resource is_none (shapes.none-mapped resource_shape)

width : (s z : State) (id : ℕ) → Alike s z → width_of (resource_at id s.resources) ≡ width_of (resource_at id z.resources)
width = by-resource width_of shapes.width-mapped

height : (s z : State) (id : ℕ) → Alike s z → height_of (resource_at id s.resources) ≡ height_of (resource_at id z.resources)
height = by-resource height_of shapes.height-mapped

pub blobbed : (s z : State) (id : ℕ) → Alike s z → is_blob s id ≡ is_blob z id
blobbed s z id e = ap (λ (t : State). is_blob t id) e

there : (s z : State) (id : ℕ) → Alike s z → has_resource s id ≡ has_resource z id
there s z id e = λ i. blobbed s z id e i || known s z id e i

pixels : (s z : State) → Alike s z → pixel_bytes s.resources ≡ pixel_bytes z.resources
pixels s z e = sym (shapes.size-mapped s.resources) ∙ ap (λ (t : State). pixel_bytes t.resources) e ∙ shapes.size-mapped z.resources

displays : (s z : State) → Alike s z → length s.setup.displays ≡ length z.setup.displays
displays s z e = ap (λ (t : State). length t.setup.displays) e

pub screen : (s z : State) (n : ℕ) → Alike s z → screen_shape (screen_at n s.scanouts) ≡ screen_shape (screen_at n z.scanouts)
screen s z n e = sym (in-shape s) ∙ ap (λ (t : State). screen_at n t.scanouts) e ∙ in-shape z
  where
    in-shape : (t : State) → screen_at n (shape t).scanouts ≡ screen_shape (screen_at n t.scanouts)
    in-shape t = ap screen_of (shapes.get-mapped screen_shape t.scanouts.screens n) ∙ shapes.screen-mapped (slice_get t.scanouts.screens n)

binding : (s z : State) (n : ℕ) → Alike s z → binding_at n s.scanouts ≡ binding_at n z.scanouts
binding s z n e = sym (in-shape s) ∙ ap (λ (t : State). binding_at n t.scanouts) e ∙ in-shape z
  where
    in-shape : (t : State) → binding_at n (shape t).scanouts ≡ binding_at n t.scanouts
    in-shape t = ap binding_of_screen (shapes.get-mapped screen_shape t.scanouts.screens n) ∙ shapes.binding-mapped (slice_get t.scanouts.screens n)

screen-bytes : (s z : State) (n : ℕ) → Alike s z → bytes_of_screen (screen_at n s.scanouts) ≡ bytes_of_screen (screen_at n z.scanouts)
screen-bytes s z n e = sym (shapes.screen-size (screen_at n s.scanouts)) ∙ ap bytes_of_screen (screen s z n e) ∙ shapes.screen-size (screen_at n z.scanouts)

bytes-of-frames : (frames frames' : List Frame) → map frame_shape frames ≡ map frame_shape frames' → frame_bytes frames ≡ frame_bytes frames'
bytes-of-frames frames frames' e = sym (shapes.frame-bytes-mapped frames) ∙ ap frame_bytes e ∙ shapes.frame-bytes-mapped frames'

past-limit : (s z : State) (n : ℕ) → Alike s z → is_past_limit n s.scanouts ≡ is_past_limit n z.scanouts
past-limit s z n e = λ i. nat_lt 268435456 (bytes-of-frames s.scanouts.frames z.scanouts.frames (ap (λ (t : State). t.scanouts.frames) e) i + screen-bytes s z n e i)

visible : (s z : State) (n : ℕ) → Alike s z → (cursor_of s.cursors n).visible ≡ (cursor_of z.cursors n).visible
visible s z n e = sym (shapes.visible-mapped s.cursors n) ∙ ap (λ (t : State). (cursor_of t.cursors n).visible) e ∙ shapes.visible-mapped z.cursors n

cursor : (s z : State) (n : ℕ) → Alike s z → cursor_shape (cursor_of s.cursors n) ≡ cursor_shape (cursor_of z.cursors n)
cursor s z n e =
    sym (shapes.get_or-mapped cursor_shape s.cursors n unset) ∙ ap (λ (t : State). get_or t.cursors n (cursor_shape unset)) e
    ∙ shapes.get_or-mapped cursor_shape z.cursors n unset

-- Entries are bad by the length of memory alone.
abbrev bad_in : ℕ → List MemEntry → Bool
bad_in n entries =
    length entries == 0 || list_any (λ (entry : MemEntry). entry.length == 0 || not (nat_le 1048576 entry.addr && nat_le (entry.addr + entry.length) (1048576 + n))) entries

bad : (s z : State) (entries : List MemEntry) → Alike s z → are_bad s.memory entries ≡ are_bad z.memory entries
bad s z entries e = ap (λ n. bad_in n entries) (size s z e)

-- ---- parts that change

memory-of : (s z : State) (m m' : Memory) → Alike s z → length m.bytes ≡ length m'.bytes → m.taken ≡ m'.taken → Alike (record s { memory = m }) (record z { memory = m' })
memory-of s z m m' e long taken = λ i. record (e i) { memory = record { bytes = replicate (long i) 0; taken = taken i } }

resources-of : (s z : State) (r r' : List (ℕ × Resource)) → Alike s z → on_values resource_shape r ≡ on_values resource_shape r' → Alike (record s { resources = r }) (record z { resources = r' })
resources-of s z r r' e same = λ i. record (e i) { resources = same i }

scanouts-of : (s z : State) (o o' : ScanoutState) → Alike s z → map screen_shape o.screens ≡ map screen_shape o'.screens → map frame_shape o.frames ≡ map frame_shape o'.frames
    → Alike (record s { scanouts = o }) (record z { scanouts = o' })
scanouts-of s z o o' e screens frames = λ i. record (e i) { scanouts = record { screens = screens i; frames = frames i } }

screens-same : (s z : State) → Alike s z → map screen_shape s.scanouts.screens ≡ map screen_shape z.scanouts.screens
screens-same s z e = ap (λ (t : State). t.scanouts.screens) e

frames-same : (s z : State) → Alike s z → map frame_shape s.scanouts.frames ≡ map frame_shape z.scanouts.frames
frames-same s z e = ap (λ (t : State). t.scanouts.frames) e

-- ---- refused or not

answered : (r r' : Option ℕ) (s z next next' : State) (response response' : Response) → r ≡ r' → Alike s z → Alike next next' → Alike (answered_with r s next response).0 (answered_with r' z next' response').0
answered r r' s z next next' response response' same e after = subst (λ q. Alike (answered_with r s next response).0 (answered_with q z next' response').0) same (by-cases r)
  where
    by-cases : (q : Option ℕ) → Alike (answered_with q s next response).0 (answered_with q z next' response').0
    by-cases (Some code) = e
    by-cases None = after

replied : (r r' : Option ShareRefusal) (s z next next' : State) (reply reply' : ActReply) → r ≡ r' → Alike s z → Alike next next' → Alike (replied_by r s next reply).0 (replied_by r' z next' reply').0
replied r r' s z next next' reply reply' same e after = subst (λ q. Alike (replied_by r s next reply).0 (replied_by q z next' reply').0) same (by-cases r)
  where
    by-cases : (q : Option ShareRefusal) → Alike (replied_by q s next reply).0 (replied_by q z next' reply').0
    by-cases (Some refusal) = e
    by-cases None = after

-- ---- 2D commands

create : (s z : State) (id format w h : ℕ) (found : Option Format) → Alike s z → Alike (record s { resources = with_blank id w h found s.resources }) (record z { resources = with_blank id w h found z.resources })
create s z id format w h (Some f) e =
    resources-of s z _ _ e
    (shapes.insert-mapped resource_shape s.resources id (blank w h f)
    ∙ ap (λ (t : State). insert_entry nat_cmp t.resources id (resource_shape (blank w h f))) e
    ∙ sym (shapes.insert-mapped resource_shape z.resources id (blank w h f)))
create s z id format w h None e = e

pub create-refusals : (s z : State) (id format w h : ℕ) → Alike s z → refusal_of (create_2d_refusals s id format w h) ≡ refusal_of (create_2d_refusals z id format w h)
create-refusals s z id format w h e = λ i. refusal_of (
    (blobbed s z id e i, ERR_INVALID_RESOURCE_ID)
    ∷ (id == 0 || known s z id e i, ERR_INVALID_RESOURCE_ID)
    ∷ (is_none (format_of format) || (w == 0 || h == 0), ERR_INVALID_PARAMETER)
    ∷ (nat_lt 134217728 (pixels s z e i + 4 * w * h), ERR_OUT_OF_MEMORY)
    ∷ [])

unbound-all : (id : ℕ) (xs ys : List (Option Screen)) → map screen_shape xs ≡ map screen_shape ys → map screen_shape (map (unbound_screen id) xs) ≡ map screen_shape (map (unbound_screen id) ys)
unbound-all id xs ys e = swap xs ∙ ap (map (unbound_screen id)) e ∙ sym (swap ys)
  where
    swap : (l : List (Option Screen)) → map screen_shape (map (unbound_screen id) l) ≡ map (unbound_screen id) (map screen_shape l)
    swap [] = refl
    swap (x ∷ more) = λ i. shapes.unbound-mapped id x i ∷ swap more i

unref : (s z : State) (id : ℕ) → Alike s z → Alike (unreferenced s id) (unreferenced z id)
unref s z id e =
    let kept : on_values resource_shape (without id s.resources) ≡ on_values resource_shape (without id z.resources) =
    shapes.remove-mapped resource_shape (is_at (nat_cmp id)) s.resources
    ∙ ap (λ (t : State). without id t.resources) e
    ∙ sym (shapes.remove-mapped resource_shape (is_at (nat_cmp id)) z.resources) in
    let screens = unbound-all id s.scanouts.screens z.scanouts.screens (screens-same s z e) in
    λ i. record (e i) {
      resources = kept i;
      backings = remove_entry (is_at (nat_cmp id)) (e i).backings;
      blobs = remove_entry (is_at (nat_cmp id)) (e i).blobs;
      contexts = contexts.forgotten id (e i).contexts;
      uuids = forgotten id (e i).uuids;
      scanouts = record { screens = screens i; frames = (e i).scanouts.frames };
    }

set-screen : (s z : State) (n : ℕ) (x y : Option Screen) → Alike s z → screen_shape x ≡ screen_shape y
    → Alike (record s { scanouts = record s.scanouts { screens = slice_set s.scanouts.screens n x } }) (record z { scanouts = record z.scanouts { screens = slice_set z.scanouts.screens n y } })
set-screen s z n x y e same =
    scanouts-of s z _ _ e
    (shapes.slice_set-mapped screen_shape s.scanouts.screens n x ∙ (λ i. slice_set (e i).scanouts.screens n (same i)) ∙ sym (shapes.slice_set-mapped screen_shape z.scanouts.screens n y))
    (frames-same s z e)

bind : (s z : State) (n : ℕ) (b b' : Binding) → Alike s z → b ≡ b' → Alike (record s { scanouts = bound n b s.scanouts }) (record z { scanouts = bound n b' z.scanouts })
bind s z n b b' e same = set-screen s z n (Some (fresh_screen b)) (Some (fresh_screen b')) e (ap (λ q. screen_shape (Some (fresh_screen q))) same)

unbind : (s z : State) (n : ℕ) → Alike s z → Alike (record s { scanouts = unbound n s.scanouts }) (record z { scanouts = unbound n z.scanouts })
unbind s z n e = set-screen s z n None None e refl

shown : (s z : State) (rect : Rect) (n id : ℕ) (found found' : Option Resource) → Alike s z → option_map resource_shape found ≡ option_map resource_shape found' → Alike (with_shown s rect n id found) (with_shown z rect n id found')
shown s z rect n id (Some r) (Some r') e same = bind s z n (binding_of id rect r) (binding_of id rect r') e (ap (binding_in id rect) same)
  where
    binding_in : ℕ → Rect → Option Resource → Binding
    binding_in id rect (Some q) = binding_of id rect q
    binding_in id rect None = binding_of id rect r
shown s z rect n id (Some r) None e same = cc
shown s z rect n id None (Some r) e same = cc
shown s z rect n id None None e same = e

set-scanout : (s z : State) (rect : Rect) (n id : ℕ) → Alike s z → Alike (with_scanout s rect n id) (with_scanout z rect n id)
set-scanout s z rect n id e = by-cases (id == 0)
  where
    by-cases : (b : Bool) → Alike (cond b (record s { scanouts = unbound n s.scanouts }) (with_shown s rect n id (resource_at id s.resources))) (cond b (record z { scanouts = unbound n z.scanouts }) (with_shown z rect n id (resource_at id z.resources)))
    by-cases true = unbind s z n e
    by-cases false = shown s z rect n id (resource_at id s.resources) (resource_at id z.resources) e (resource s z id e)

pub set-scanout-refusals : (s z : State) (rect : Rect) (n id : ℕ) → Alike s z → refusal_of (set_scanout_refusals s rect n id) ≡ refusal_of (set_scanout_refusals z rect n id)
set-scanout-refusals s z rect n id e = λ i. refusal_of (
    (nat_le (displays s z e i) n, ERR_INVALID_SCANOUT_ID)
    ∷ cond (id == 0) [] (
    (blobbed s z id e i, ERR_INVALID_PARAMETER)
    ∷ (unknown s z id e i, ERR_INVALID_RESOURCE_ID)
    ∷ (is_empty rect || not (is_inside rect (width s z id e i) (height s z id e i)), ERR_INVALID_PARAMETER)
    ∷ (is_too_large rect, ERR_OUT_OF_MEMORY)
    ∷ []))

after-all : (id : ℕ) (rect : Rect) (surface surface' : List ℕ) (xs ys : List (Option Screen)) → map screen_shape xs ≡ map screen_shape ys
    → map screen_shape (map (after_flush id rect surface) xs) ≡ map screen_shape (map (after_flush id rect surface') ys)
after-all id rect surface surface' xs ys e =
    shapes.map-to-same screen_shape (after_flush id rect surface) (shapes.after-mapped id rect surface) xs ∙ e
    ∙ sym (shapes.map-to-same screen_shape (after_flush id rect surface') (shapes.after-mapped id rect surface') ys)

flushed-frames : (s z : State) (rect : Rect) (id : ℕ) → Alike s z → map frame_shape (flushed_by s rect id).frames ≡ map frame_shape (flushed_by z rect id).frames
flushed-frames s z rect id e =
    map-append frame_shape s.scanouts.frames (new_frames s.entries id rect (surface_of s id) s.cursors 0 s.scanouts.screens)
    ∙ (λ i. map frame_shape s.scanouts.frames ++ by-shape s id rect i)
    ∙ (λ i. (e i).scanouts.frames ++ shapes.shaped_frames (e i).entries id rect 0 (e i).scanouts.screens)
    ∙ sym (λ i. map frame_shape z.scanouts.frames ++ by-shape z id rect i)
    ∙ sym (map-append frame_shape z.scanouts.frames (new_frames z.entries id rect (surface_of z id) z.cursors 0 z.scanouts.screens))
  where
    by-shape : (t : State) (id : ℕ) (rect : Rect) → map frame_shape (new_frames t.entries id rect (surface_of t id) t.cursors 0 t.scanouts.screens) ≡ shapes.shaped_frames t.entries id rect 0 (map screen_shape t.scanouts.screens)
    by-shape t id rect = shapes.new-frames-by-shape t.entries id rect (surface_of t id) t.cursors t.scanouts.screens

flush : (s z : State) (rect : Rect) (id : ℕ) → Alike s z → Alike (record s { scanouts = flushed_by s rect id }) (record z { scanouts = flushed_by z rect id })
flush s z rect id e =
    scanouts-of s z (flushed_by s rect id) (flushed_by z rect id) e
    (after-all id rect (surface_of s id) (surface_of z id) s.scanouts.screens z.scanouts.screens (screens-same s z e)) (flushed-frames s z rect id e)

pub flush-refusals : (s z : State) (rect : Rect) (id : ℕ) → Alike s z → refusal_of (flush_refusals s rect id) ≡ refusal_of (flush_refusals z rect id)
flush-refusals s z rect id e = λ i. refusal_of (
    (not (there s z id e i), ERR_INVALID_RESOURCE_ID)
    ∷ (not (blobbed s z id e i) && not (is_inside rect (width s z id e i) (height s z id e i)), ERR_INVALID_PARAMETER)
    ∷ (nat_lt 268435456 (bytes-of-frames (flushed_by s rect id).frames (flushed_by z rect id).frames (flushed-frames s z rect id e) i), ERR_OUT_OF_MEMORY)
    ∷ [])

received : (s z : State) (rect : Rect) (offset id : ℕ) (found found' : Option Resource) → Alike s z → option_map resource_shape found ≡ option_map resource_shape found'
    → on_values resource_shape (with_received s.memory id rect offset s.backings found s.resources) ≡ on_values resource_shape (with_received z.memory id rect offset z.backings found' z.resources)
received s z rect offset id (Some r) (Some r') e same = one-set s r ∙ (λ i. set_value (is_at (nat_cmp id)) (e i).resources (shape-of (same i))) ∙ sym (one-set z r')
  where
    shape-of : Option Resource → Resource
    shape-of (Some q) = q
    shape-of None = r

    long : (t : State) (q : Resource) → length (transferred t.memory (entries_at id t.backings) rect offset q.width q.pixels) ≡ length q.pixels
    long t q = length-filled (bytes_of_rect rect) (4 * q.width) (λ row column. slice_index (backing_bytes t.memory (entries_at id t.backings)) (offset + 4 * q.width * row + column)) q.pixels

    one-set : (t : State) (q : Resource) → on_values resource_shape (with_received t.memory id rect offset t.backings (Some q) t.resources) ≡ set_value (is_at (nat_cmp id)) (on_values resource_shape t.resources) (resource_shape q)
    one-set t q =
        shapes.set-mapped resource_shape (is_at (nat_cmp id)) t.resources (record q { pixels = transferred t.memory (entries_at id t.backings) rect offset q.width q.pixels })
        ∙ ap (λ n. set_value (is_at (nat_cmp id)) (on_values resource_shape t.resources) (record q { pixels = replicate n 0 })) (long t q)
received s z rect offset id (Some r) None e same = cc
received s z rect offset id None (Some r) e same = cc
received s z rect offset id None None e same = ap (λ (t : State). t.resources) e

pub receive-refusals : (s z : State) (rect : Rect) (offset id : ℕ) → Alike s z → receive_refusal id rect offset s.backings (resource_at id s.resources) ≡ receive_refusal id rect offset z.backings (resource_at id z.resources)
receive-refusals s z rect offset id e = λ i. refusal_of (transfer_refusals (known s z id e i) id rect offset (width s z id e i) (height s z id e i) (e i).backings)

transfer : (s z : State) (rect : Rect) (offset id : ℕ) → Alike s z → Alike (transfer_step s rect offset id).0 (transfer_step z rect offset id).0
transfer s z rect offset id e = subst (λ b. Alike (cond (is_blob s id) (s, responses.Nodata) (transfer_2d_step s rect offset id)).0 (cond b (z, responses.Nodata) (transfer_2d_step z rect offset id)).0) (blobbed s z id e) (by-cases (is_blob s id))
  where
    by-cases : (b : Bool) → Alike (cond b (s, responses.Nodata) (transfer_2d_step s rect offset id)).0 (cond b (z, responses.Nodata) (transfer_2d_step z rect offset id)).0
    by-cases true = e
    by-cases false =
        answered _ _ s z _ _ _ _ (receive-refusals s z rect offset id e) e
        (resources-of s z _ _ e (received s z rect offset id (resource_at id s.resources) (resource_at id z.resources) e (resource s z id e)))

backings-of : (s z : State) (change : List (ℕ × List MemEntry) → List (ℕ × List MemEntry)) → Alike s z → Alike (record s { backings = change s.backings }) (record z { backings = change z.backings })
backings-of s z change e = λ i. record (e i) { backings = change (e i).backings }

attach-refusals : (s z : State) (id : ℕ) (entries : List MemEntry) → Alike s z → refusal_of (attach_2d_refusals s id entries) ≡ refusal_of (attach_2d_refusals z id entries)
attach-refusals s z id entries e = λ i. refusal_of (
    (blobbed s z id e i, ERR_UNSPEC)
    ∷ (not (known s z id e i), ERR_INVALID_RESOURCE_ID)
    ∷ (is_some (backing_at id (e i).backings), ERR_UNSPEC)
    ∷ (bad s z entries e i, ERR_INVALID_PARAMETER)
    ∷ [])

detach-refusals : (s z : State) (id : ℕ) → Alike s z → refusal_of (detach_2d_refusals s id) ≡ refusal_of (detach_2d_refusals z id)
detach-refusals s z id e = λ i. refusal_of ((blobbed s z id e i, ERR_UNSPEC) ∷ detach_refusals (known s z id e i) id (e i).backings)

two_d : (s z : State) (command : Command2d) → Alike s z → Alike (two_d_step s command).0 (two_d_step z command).0
two_d s z DisplayInfo e = e
two_d s z (Create2d id format w h) e = answered _ _ s z _ _ _ _ (create-refusals s z id format w h e) e (create s z id format w h (format_of format) e)
two_d s z (Unref id) e = answered _ _ s z _ _ _ _ (λ i. refusal_of ((not (there s z id e i), ERR_INVALID_RESOURCE_ID) ∷ [])) e (unref s z id e)
two_d s z (SetScanout rect n id) e = answered _ _ s z _ _ _ _ (set-scanout-refusals s z rect n id e) e (set-scanout s z rect n id e)
two_d s z (Flush rect id) e = answered _ _ s z _ _ _ _ (flush-refusals s z rect id e) e (flush s z rect id e)
two_d s z (Transfer rect offset id) e = transfer s z rect offset id e
two_d s z (Attach id entries) e = answered _ _ s z _ _ _ _ (attach-refusals s z id entries e) e (backings-of s z (λ b. insert_entry nat_cmp b id entries) e)
two_d s z (Detach id) e = answered _ _ s z _ _ _ _ (detach-refusals s z id e) e (backings-of s z (detached id) e)

-- ---- other commands

blobs-of : (s z : State) (change : List (ℕ × Blob) → List (ℕ × Blob)) → Alike s z → Alike (record s { blobs = change s.blobs }) (record z { blobs = change z.blobs })
blobs-of s z change e = λ i. record (e i) { blobs = change (e i).blobs }

contexts-of : (s z : State) (change : List (ℕ × contexts.Context) → List (ℕ × contexts.Context)) → Alike s z → Alike (record s { contexts = change s.contexts }) (record z { contexts = change z.contexts })
contexts-of s z change e = λ i. record (e i) { contexts = change (e i).contexts }

create-blob-refusals : (s z : State) (id mem flags size : ℕ) (entries : List MemEntry) → Alike s z → refusal_of (create_blob_refusals s id mem flags size entries) ≡ refusal_of (create_blob_refusals z id mem flags size entries)
create-blob-refusals s z id mem flags size entries e = λ i. refusal_of (
    (known s z id e i, ERR_INVALID_RESOURCE_ID)
    ∷ (id == 0 || is_some (blob_at id (e i).blobs), ERR_INVALID_RESOURCE_ID)
    ∷ (not (mem == BLOB_MEM_GUEST) || (nat_lt BLOB_FLAGS flags || size == 0), ERR_INVALID_PARAMETER)
    ∷ (bad s z entries e i, ERR_INVALID_PARAMETER)
    ∷ (nat_lt (total entries) size, ERR_INVALID_PARAMETER)
    ∷ [])

pub show-blob-refusals : (s z : State) (rect : Rect) (n id : ℕ) (layout : Layout) → Alike s z → refusal_of (set_scanout_blob_refusals s rect n id layout) ≡ refusal_of (set_scanout_blob_refusals z rect n id layout)
show-blob-refusals s z rect n id layout e = λ i. refusal_of (
    (nat_le (displays s z e i) n, ERR_INVALID_SCANOUT_ID)
    ∷ cond (id == 0) [] (
    (not (there s z id e i), ERR_INVALID_RESOURCE_ID)
    ∷ (not (is_in_blob rect layout (blob_at id (e i).blobs)), ERR_INVALID_PARAMETER)
    ∷ (is_too_large rect, ERR_OUT_OF_MEMORY)
    ∷ []))

shown-blob : (s z : State) (rect : Rect) (n id : ℕ) (layout : Layout) (format : Option Format) → Alike s z → Alike (with_shown_blob s rect n id layout format) (with_shown_blob z rect n id layout format)
shown-blob s z rect n id layout (Some format) e = bind s z n (blob_binding id rect layout format) (blob_binding id rect layout format) e refl
shown-blob s z rect n id layout None e = e

set-scanout-blob : (s z : State) (rect : Rect) (n id : ℕ) (layout : Layout) → Alike s z → Alike (with_scanout_blob s rect n id layout) (with_scanout_blob z rect n id layout)
set-scanout-blob s z rect n id layout e = by-cases (id == 0)
  where
    by-cases : (b : Bool) → Alike (cond b (record s { scanouts = unbound n s.scanouts }) (with_shown_blob s rect n id layout (format_of layout.format))) (cond b (record z { scanouts = unbound n z.scanouts }) (with_shown_blob z rect n id layout (format_of layout.format)))
    by-cases true = unbind s z n e
    by-cases false = shown-blob s z rect n id layout (format_of layout.format) e

-- The cursor is changed in the same way.
cursors-changed : (s z : State) (n : ℕ) (change change' : Cursor → Cursor) → Alike s z → cursor_shape (change (cursor_of s.cursors n)) ≡ cursor_shape (change' (cursor_of z.cursors n))
    → map cursor_shape (changed change n s.cursors) ≡ map cursor_shape (changed change' n z.cursors)
cursors-changed s z n change change' e same =
    shapes.slice_set-mapped cursor_shape s.cursors n (change (cursor_of s.cursors n))
    ∙ (λ i. slice_set (e i).cursors n (same i))
    ∙ sym (shapes.slice_set-mapped cursor_shape z.cursors n (change' (cursor_of z.cursors n)))

snapped-frames : (s z : State) (cursors cursors' : List Cursor) (n : ℕ) → Alike s z → map frame_shape (snapped s.entries cursors n s.scanouts).frames ≡ map frame_shape (snapped z.entries cursors' n z.scanouts).frames
snapped-frames s z cursors cursors' n e =
    map-append frame_shape s.scanouts.frames (frame_of s.entries cursors n (screen_at n s.scanouts))
    ∙ (λ i. map frame_shape s.scanouts.frames ++ by-shape s cursors i)
    ∙ (λ i. (e i).scanouts.frames ++ shapes.shaped_frame (e i).entries n (screen s z n e i))
    ∙ sym (λ i. map frame_shape z.scanouts.frames ++ by-shape z cursors' i)
    ∙ sym (map-append frame_shape z.scanouts.frames (frame_of z.entries cursors' n (screen_at n z.scanouts)))
  where
    by-shape : (t : State) (some : List Cursor) → map frame_shape (frame_of t.entries some n (screen_at n t.scanouts)) ≡ shapes.shaped_frame t.entries n (screen_shape (screen_at n t.scanouts))
    by-shape t some = shapes.frame-mapped t.entries some n (screen_at n t.scanouts) ∙ sym (shapes.shaped-mapped t.entries n (screen_at n t.scanouts))

cursor-changed : (s z : State) (n : ℕ) (change change' : Cursor → Cursor) → Alike s z → cursor_shape (change (cursor_of s.cursors n)) ≡ cursor_shape (change' (cursor_of z.cursors n))
    → Alike (with_cursor s n change) (with_cursor z n change')
cursor-changed s z n change change' e same =
    let cursors = cursors-changed s z n change change' e same in
    let frames = snapped-frames s z (changed change n s.cursors) (changed change' n z.cursors) n e in
    λ i. record (e i) { cursors = cursors i; scanouts = record { screens = (e i).scanouts.screens; frames = frames i } }

-- An image's size.
long-image : (s z : State) (id : ℕ) → Alike s z → length (image_of (resource_at id s.resources)) ≡ length (image_of (resource_at id z.resources))
long-image = by-resource (λ found. length (image_of found)) shapes.length-image

moved-cursor : (s z : State) (n : ℕ) (x y : ℤ) (id hot_x hot_y : ℕ) → Alike s z
    → cursor_shape (cursor_change s x y id hot_x hot_y (cursor_of s.cursors n)) ≡ cursor_shape (cursor_change z x y id hot_x hot_y (cursor_of z.cursors n))
moved-cursor s z n x y id hot_x hot_y e = by-cases (id == 0)
  where
    by-cases : (b : Bool) → cursor_shape (cond b (hidden_at x y) (shown_as (image_of (resource_at id s.resources)) x y hot_x hot_y) (cursor_of s.cursors n))
        ≡ cursor_shape (cond b (hidden_at x y) (shown_as (image_of (resource_at id z.resources)) x y hot_x hot_y) (cursor_of z.cursors n))
    by-cases true = ap (hidden_at x y) (cursor s z n e)
    by-cases false = ap (λ size. record { visible = true; image = replicate size 0; x = x; y = y; hot_x = hot_x; hot_y = hot_y }) (long-image s z id e)

pub cursor-refusals : (s z : State) (n id hot_x hot_y : ℕ) → Alike s z → refusal_of (cursor_refusals s n id hot_x hot_y) ≡ refusal_of (cursor_refusals z n id hot_x hot_y)
cursor-refusals s z n id hot_x hot_y e = λ i. refusal_of (
    (nat_le (displays s z e i) n, ERR_INVALID_SCANOUT_ID)
    ∷ cond (id == 0) [] (
    (blobbed s z id e i, ERR_INVALID_PARAMETER)
    ∷ (unknown s z id e i, ERR_INVALID_RESOURCE_ID)
    ∷ (not (width s z id e i == 64 && height s z id e i == 64 && nat_lt hot_x 64 && nat_lt hot_y 64), ERR_INVALID_PARAMETER)
    ∷ [])
    ++ (past-limit s z n e i, ERR_OUT_OF_MEMORY)
    ∷ [])

move-refusals : (s z : State) (n : ℕ) → Alike s z → refusal_of (move_refusals s n) ≡ refusal_of (move_refusals z n)
move-refusals s z n e = λ i. refusal_of ((nat_le (displays s z e i) n, ERR_INVALID_SCANOUT_ID) ∷ (past-limit s z n e i, ERR_OUT_OF_MEMORY) ∷ [])

command : (s z : State) (context : ℕ) (c : Command) → Alike s z → Alike (command_step s context c).0 (command_step z context c).0
command s z context (TwoD c) e = two_d s z c e
command s z context (CapsetInfo index) e = e
command s z context (Capset id version) e = e
command s z context (Edid n) e = answered _ _ s z _ _ _ _ (ap (λ (t : State). refusal_of (edid_refusals t.plugs n)) e) e e
command s z context (AssignUuid id) e = answered _ _ s z _ _ _ _ (λ i. refusal_of (assign_refusals (there s z id e i))) e (λ i. record (e i) { uuids = assigned id (e i).uuids })
command s z context (CreateBlob id mem flags blob_id size entries) e =
    answered _ _ s z _ _ _ _ (create-blob-refusals s z id mem flags size entries e) e (blobs-of s z (with_blob id size entries) e)
command s z context (SetScanoutBlob rect n id w h format stride offset) e =
    let layout : Layout = record { width = w; height = h; format = format; stride = stride; offset = offset } in
    answered _ _ s z _ _ _ _ (show-blob-refusals s z rect n id layout e) e (set-scanout-blob s z rect n id layout e)
command s z context (CtxCreate nlen init name) e =
    answered _ _ s z _ _ _ _ (ap (λ (t : State). refusal_of (contexts.create_refusals context nlen init t.contexts)) e) e (contexts-of s z (contexts.created context init) e)
command s z context CtxDestroy e =
    answered _ _ s z _ _ _ _ (ap (λ (t : State). refusal_of (contexts.destroy_refusals context t.contexts)) e) e (contexts-of s z (contexts.destroyed context) e)
command s z context (CtxAttach id) e =
    answered _ _ s z _ _ _ _
    (λ i. refusal_of ((not (contexts.is_live context (e i).contexts), ERR_INVALID_CONTEXT_ID) ∷ (not (there s z id e i), ERR_INVALID_RESOURCE_ID) ∷ [])) e
    (contexts-of s z (contexts.attached context id) e)
command s z context (CtxDetach id) e =
    answered _ _ s z _ _ _ _ (ap (λ (t : State). refusal_of (contexts.detach_refusals context id t.contexts)) e) e (contexts-of s z (contexts.detached context id) e)
command s z context (Submit stream) e = answered _ _ s z _ _ _ _ (ap (λ (t : State). refusal_of (contexts.submit_refusals context stream t.contexts)) e) e e
command s z context (UpdateCursor n x y id hot_x hot_y) e =
    answered _ _ s z _ _ _ _ (cursor-refusals s z n id hot_x hot_y e) e
    (cursor-changed s z n (cursor_change s x y id hot_x hot_y) (cursor_change z x y id hot_x hot_y) e (moved-cursor s z n x y id hot_x hot_y e))
command s z context (MoveCursor n x y) e =
    answered _ _ s z _ _ _ _ (move-refusals s z n e) e (cursor-changed s z n (placed_at x y) (placed_at x y) e (ap (placed_at x y) (cursor s z n e)))

ran-alike : (s z : State) (context : ℕ) (c : Option Command) → Alike s z → Alike (ran s context c).0 (ran z context c).0
ran-alike s z context (Some c) e = command s z context c e
ran-alike s z context None e = e

pub answer : (s z : State) (queue : Queue) (bytes : List ℕ) → Alike s z → Alike (answer_of s queue bytes).0 (answer_of z queue bytes).0
answer s z queue bytes e = subst (λ r. Alike (refused_or_ran (refusal_of (request_refusals s queue bytes)) s context c).0 (refused_or_ran r z context c).0) (ap (λ (t : State). refusal_of (request_refusals t queue bytes)) e) (by-cases (refusal_of (request_refusals s queue bytes)))
  where
    context : ℕ
    context = (header_of bytes).ctx_id

    c : Option Command
    c = command_of (header_of bytes).kind (drop 24 bytes)

    by-cases : (r : Option ℕ) → Alike (refused_or_ran r s context c).0 (refused_or_ran r z context c).0
    by-cases (Some code) = e
    by-cases None = ran-alike s z context c e

-- ---- acts

share-of : (s z : State) (change : ShareState → ShareState) → Alike s z → Alike (record s { share = change s.share }) (record z { share = change z.share })
share-of s z change e = λ i. record (e i) { share = change (e i).share }

plugs-of : (s z : State) (change : PlugState → PlugState) → Alike s z → Alike (record s { plugs = change s.plugs }) (record z { plugs = change z.plugs })
plugs-of s z change e = λ i. record (e i) { plugs = change (e i).plugs }

reserve : (s z : State) (client : ℕ) (geometry : Geometry) → Alike s z → Alike (reserve_step s client geometry).0 (reserve_step z client geometry).0
reserve s z client geometry e =
    let long = length-zeroed (new_pages geometry.bytes s.memory) s.memory.bytes ∙ size s z e ∙ sym (length-zeroed (new_pages geometry.bytes z.memory) z.memory.bytes) in
    replied _ _ s z _ _ _ _ (ap (λ (t : State). reserve_refusal geometry.bytes t.memory) e) e
    (λ i. record (e i) {
      memory = record { bytes = replicate (long i) 0; taken = marked (new_pages geometry.bytes (e i).memory) true (e i).memory.taken };
      share = with_buffer client geometry (new_pages geometry.bytes (e i).memory) (e i).share;
    })

-- The bytes may be others, as many.
pub store : (s z : State) (client key offset : ℕ) (bytes bytes' : List ℕ) (times : ℕ) → Alike s z → length bytes ≡ length bytes' → Alike (store_step s client key offset bytes times).0 (store_step z client key offset bytes' times).0
store s z client key offset bytes bytes' times e same =
    let long = length-stored (pages_at key s.share) offset (repeated bytes times) s.memory.bytes ∙ size s z e ∙ sym (length-stored (pages_at key z.share) offset (repeated bytes' times) z.memory.bytes) in
    replied _ _ s z _ _ _ _ (λ i. place_refusal client key offset (same i * times) (e i).share) e
    (λ i. record (e i) { memory = record { bytes = replicate (long i) 0; taken = (e i).memory.taken } })

shown-on : (s z : State) (client key : ℕ) → Alike s z → shown_at client key s ≡ shown_at client key z
shown-on s z client key e = λ i. find (λ n. is_leased client n (e i).share && shows_key key (binding s z n e i)) (range_with_len 0 (displays s z e i))

release : (s z : State) (client key : ℕ) → Alike s z → Alike (release_step s client key).0 (release_step z client key).0
release s z client key e =
    replied _ _ s z _ _ _ _ (λ i. release_refusal client key (shown-on s z client key e i) (e i).share) e (share-of s z (released client key) e)

free : (s z : State) (client key : ℕ) → Alike s z → Alike (free_step s client key).0 (free_step z client key).0
free s z client key e =
    replied _ _ s z _ _ _ _ (λ i. free_refusal client key (there s z key e i) (e i).share) e
    (λ i. record (e i) { memory = record (e i).memory { taken = marked (pages_at key (e i).share) false (e i).memory.taken }; share = freed key (e i).share })

drop-scanout : (s z : State) (client n : ℕ) → Alike s z → Alike (drop_step s client n).0 (drop_step z client n).0
drop-scanout s z client n e =
    replied _ _ s z _ _ _ _ (λ i. drop_refusal client n (is_some (binding s z n e i) || visible s z n e i) (e i).share) e (share-of s z (unleased n) e)

-- Each act but a store, which may store other bytes.
pub act : (s z : State) (client : ℕ) (a : Act) → Alike s z → Alike (effect_of s client a).0 (effect_of z client a).0
act s z client Enter e = e
act s z client (Reserve w h format bytes) e = reserve s z client (record { width = w; height = h; format = format; bytes = bytes }) e
act s z client (Store key offset bytes times) e = store s z client key offset bytes bytes times e refl
act s z client (Load key offset n) e = replied _ _ s z _ _ _ _ (ap (λ (t : State). place_refusal client key offset n t.share) e) e e
act s z client (Export key) e = replied _ _ s z _ _ _ _ (ap (λ (t : State). export_refusal client key t.share) e) e (share-of s z (exported key) e)
act s z client (Import token) e =
    replied _ _ s z _ _ _ _ (ap (λ (t : State). import_refusal token t.share) e) e (share-of s z (λ share. imported client (token_key token share) share) e)
act s z client (Release key) e = release s z client key e
act s z client (Free key) e = free s z client key e
act s z client (Take n) e = replied _ _ s z _ _ _ _ (ap (λ (t : State). take_refusal n t.share) e) e (share-of s z (leased client n) e)
act s z client (Drop n) e = drop-scanout s z client n e
act s z client (Await lane ordinal) e = e
act s z client (Denied what) e = e
act s z client (Mode scanout width height) e = plugs-of s z (plugged scanout width height) e
act s z client (Unplug scanout) e = plugs-of s z (unplugged scanout) e
act s z client (Sync number) e = e
act s z client Events e = e
act s z client Ack e = plugs-of s z (cleared) e
act s z client Leave e = share-of s z (λ share. ended client (entered client share)) e

pub counted-alike : (s z : State) → Alike s z → Alike (counted s) (counted z)
counted-alike s z e = λ i. record (e i) { entries = (e i).entries + 1 }
