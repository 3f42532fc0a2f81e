-- What is painted beside displays of one shape.
use Rattle.std.proofs.Common.{◌≡◌, ℕ, zero, suc, ◌+◌, ◌*◌, ◌/◌, ◌%◌, ◌==◌, cond, nat_lt, List, [], ◌∷◌, length, map, drop, Option, Some, None, slice_get, refl, sym, ap, ◌∙◌}
use Rattle.std.proofs.lemmas.List.{length-map, length-replicate}
use Rattle.std.specs.Option.{option_map}
use Rattle.vg_formats.specs.declared.rect.Rect.{Rect}
use Rattle.vg_cursor.specs.declared.cursor.Cursor.{Cursor}
use Rattle.vg_cursor.specs.Cursor.{cursor_of}
use Rattle.vg_refusals.specs.Refusals.{refusal_of}
use Rattle.vg_resource.specs.declared.resource.Resource.{Resource}
use Rattle.vg_resource.specs.Resource.{resource_at}
use Rattle.vg_share.specs.Share.{new_pages, pages_at, place_refusal, reserve_refusal}
use Rattle.vg_transfer.specs.Backings.{bytes_of_rect, entries_at}
use Rattle.vg_blob.specs.Blobs.{blob_at}
use Rattle.vg_scanout.specs.declared.scanout.Frame.{Frame}
use Rattle.vg_formats.specs.Pixels.{common_of}
use Rattle.vg_scanout.specs.Scanout.{Screen, area_of, is_flushed, screen_at}
use Rattle.vg_wire.specs.Header.{header_of}
use Rattle.vg_wire.specs.declared.two_d.Command2d.{Command2d}
use Rattle.vg_wire.specs.declared.two_d.Command2d.TheVariants.{DisplayInfo, Create2d, Unref, SetScanout, Flush, Transfer, Attach, Detach}
use Rattle.vg_wire_ext.specs.Commands.{command_of}
use Rattle.vg_wire_ext.specs.declared.command.Command.{Command}
use Rattle.vg_wire_ext.specs.declared.command.Command.TheVariants.{TwoD, CapsetInfo, Capset, Edid, AssignUuid, CreateBlob, SetScanoutBlob, CtxCreate, CtxDestroy, CtxAttach, CtxDetach, Submit, UpdateCursor, MoveCursor}
use Rattle.vg_chain.specs.declared.shape.Shape.{Shape}
use Rattle.vg_chain.specs.declared.shape.Shape.TheVariants.{Plain, Pieces, Indirect, Mixed, Bad}
use Rattle.vg_client_holds.specs.declared.act.Act as acts
use Rattle.vg_client_holds.specs.declared.act.Act.TheVariants.{Enter, Reserve, Store, Load, Export, Import, Release, Free, Take, Drop, Await, Denied, Mode, Unplug, Sync, Events, Ack, Leave}
use Rattle.vg_history.specs.declared.entry.Entry.TheVariants as entries
use Rattle.vg_device.specs.declared.request.Request.{Request}
use Rattle.vg_device.specs.State.{State}
use Rattle.vg_device.specs.Step.{request_refusals}
use Rattle.vg_machine.specs.Entries.{Entry}
use Rattle.vg_machine.specs.Replay.{after}
use Rattle.vg_painted.specs.Ink.{Ink, Painting}
use Rattle.vg_painted.specs.Paint.{acted, blended_at, bound, byte_of_entries, cleared_at, commanded, commanded_2d, filled_at, flushed, flushed_at, framed, framed_at, image_at, moved, pointed, ran, received, requested, shown_at, stored_at, surface, transferred, unless, with_one}
use Rattle.vg_drawers.specs.Shape.{cursor_shape, frame_shape, resource_shape, screen_shape, shape}
use Rattle.vg_drawers.proofs.ShapeLemmas as shapes
use Rattle.vg_drawers.proofs.AlikeLemmas as alike
use Rattle.vg_drawers.proofs.AlikeLemmas.{Alike}

module _ {X Z : Type 0} (ink : Ink X Z) where
  flushed-same : (entry : ℕ) (rect : Rect) (id : ℕ) (bytes : ℕ → X) (screen : Option Screen) (old : ℕ → X) → flushed_at ink entry rect id bytes (screen_shape screen) old ≡ flushed_at ink entry rect id bytes screen old
  flushed-same entry rect id bytes (Some screen) old =
      let binding = screen.binding in
      let part = common_of binding.rect rect in
      let first = binding.offset + binding.stride * part.y + 4 * part.x in
      let byte = λ (row c : ℕ). shown_at ink entry binding.format (λ n. bytes (first + binding.stride * row + 4 * (c / 4) + n)) (c % 4) in
      λ i. cond (is_flushed id rect (Some screen)) (filled_at (area_of binding.rect part) (4 * binding.rect.width) (length-replicate {A = ℕ} (length screen.pixels) 0 i) byte old) old
  flushed-same entry rect id bytes None old = refl

  image-same : (entry : ℕ) (pixels : ℕ → X) (found : Option Resource) → image_at ink entry (option_map resource_shape found) pixels ≡ image_at ink entry found pixels
  image-same entry pixels (Some resource) = λ i place.
      cond (nat_lt place (length-replicate {A = ℕ} (length resource.pixels) 0 i)) (shown_at ink entry resource.format (λ n. pixels (4 * (place / 4) + n)) (place % 4)) ink.blank
  image-same entry pixels None = refl

  received-same : (state : State) (rect : Rect) (offset id : ℕ) (found : Option Resource) (p : Painting X Z) → received ink state rect offset id (option_map resource_shape found) p ≡ received ink state rect offset id found p
  received-same state rect offset id (Some resource) p =
      let byte = λ (at : ℕ). ink.fetched state.entries (byte_of_entries ink p.memory (entries_at id state.backings) at) in
      λ i. record p { pixels = with_one id (filled_at (bytes_of_rect rect) (4 * resource.width) (length-replicate {A = ℕ} (length resource.pixels) 0 i) (λ row c. byte (offset + 4 * resource.width * row + c)) (p.pixels id)) p.pixels }
  received-same state rect offset id None p = refl

  acted-alike : (s z : State) (client : ℕ) (a : acts.Act) (p : Painting X Z) → Alike s z → acted ink s client a p ≡ acted ink z client a p
  acted-alike s z client Enter p e = refl
  acted-alike s z client (Reserve w h format bytes) p e = λ i. unless (reserve_refusal bytes (e i).memory) p (record p { memory = cleared_at ink (new_pages bytes (e i).memory) p.memory })
  acted-alike s z client (Store key offset bytes times) p e = λ i.
      unless (place_refusal client key offset (length bytes * times) (e i).share) p
      (record p { memory = stored_at ink (alike.size s z e i) (e i).entries client (pages_at key (e i).share) offset bytes times p.memory })
  acted-alike s z client (Load key offset n) p e = refl
  acted-alike s z client (Export key) p e = refl
  acted-alike s z client (Import token) p e = refl
  acted-alike s z client (Release key) p e = refl
  acted-alike s z client (Free key) p e = refl
  acted-alike s z client (Take n) p e = refl
  acted-alike s z client (Drop n) p e = refl
  acted-alike s z client (Await lane ordinal) p e = refl
  acted-alike s z client (Denied what) p e = refl
  acted-alike s z client (Mode scanout width height) p e = refl
  acted-alike s z client (Unplug scanout) p e = refl
  acted-alike s z client (Sync number) p e = refl
  acted-alike s z client Events p e = refl
  acted-alike s z client Ack p e = refl
  acted-alike s z client Leave p e = refl

  flush-alike : (s z : State) (rect : Rect) (id : ℕ) (p : Painting X Z) → Alike s z → flushed ink s rect id p ≡ flushed ink z rect id p
  flush-alike s z rect id p e = λ i. unless (alike.flush-refusals s z rect id e i) p (record p { screens = λ n. screen n i })
    where
      bytes-of : State → ℕ → X
      bytes-of t = surface ink t.entries (blob_at id t.blobs) id p

      screen : (n : ℕ) → flushed_at ink s.entries rect id (bytes-of s) (screen_at n s.scanouts) (p.screens n) ≡ flushed_at ink z.entries rect id (bytes-of z) (screen_at n z.scanouts) (p.screens n)
      screen n =
          sym (flushed-same s.entries rect id (bytes-of s) (screen_at n s.scanouts) (p.screens n))
          ∙ (λ i. flushed_at ink (e i).entries rect id (surface ink (e i).entries (blob_at id (e i).blobs) id p) (alike.screen s z n e i) (p.screens n))
          ∙ flushed-same z.entries rect id (bytes-of z) (screen_at n z.scanouts) (p.screens n)

  transfer-alike : (s z : State) (rect : Rect) (offset id : ℕ) (p : Painting X Z) → Alike s z → transferred ink s rect offset id p ≡ transferred ink z rect offset id p
  transfer-alike s z rect offset id p e = λ i. cond (alike.blobbed s z id e i) p (unless (alike.receive-refusals s z rect offset id e i) p (copied i))
    where
      copied : received ink s rect offset id (resource_at id s.resources) p ≡ received ink z rect offset id (resource_at id z.resources) p
      copied =
          sym (received-same s rect offset id (resource_at id s.resources) p) ∙ (λ i. received ink (e i) rect offset id (alike.resource s z id e i) p)
          ∙ received-same z rect offset id (resource_at id z.resources) p

  point-alike : (s z : State) (n id hot_x hot_y : ℕ) (p : Painting X Z) → Alike s z → pointed ink s n id hot_x hot_y p ≡ pointed ink z n id hot_x hot_y p
  point-alike s z n id hot_x hot_y p e = λ i. unless (alike.cursor-refusals s z n id hot_x hot_y e i) p (cond (id == 0) p (record p { images = with_one n (image i) p.images }))
    where
      image : image_at ink s.entries (resource_at id s.resources) (p.pixels id) ≡ image_at ink z.entries (resource_at id z.resources) (p.pixels id)
      image =
          sym (image-same s.entries (p.pixels id) (resource_at id s.resources)) ∙ (λ i. image_at ink (e i).entries (alike.resource s z id e i) (p.pixels id))
          ∙ image-same z.entries (p.pixels id) (resource_at id z.resources)

  two_d-alike : (s z : State) (c : Command2d) (p : Painting X Z) → Alike s z → commanded_2d ink s c p ≡ commanded_2d ink z c p
  two_d-alike s z DisplayInfo p e = refl
  two_d-alike s z (Create2d id format w h) p e = λ i. unless (alike.create-refusals s z id format w h e i) p (record p { pixels = with_one id (λ place. ink.blank) p.pixels })
  two_d-alike s z (Unref id) p e = refl
  two_d-alike s z (SetScanout rect n id) p e = λ i. unless (alike.set-scanout-refusals s z rect n id e i) p (bound ink n id p)
  two_d-alike s z (Flush rect id) p e = flush-alike s z rect id p e
  two_d-alike s z (Transfer rect offset id) p e = transfer-alike s z rect offset id p e
  two_d-alike s z (Attach id entries) p e = refl
  two_d-alike s z (Detach id) p e = refl

  commanded-alike : (s z : State) (c : Command) (p : Painting X Z) → Alike s z → commanded ink s c p ≡ commanded ink z c p
  commanded-alike s z (TwoD c) p e = two_d-alike s z c p e
  commanded-alike s z (CapsetInfo index) p e = refl
  commanded-alike s z (Capset id version) p e = refl
  commanded-alike s z (Edid n) p e = refl
  commanded-alike s z (AssignUuid id) p e = refl
  commanded-alike s z (CreateBlob id mem flags blob_id size entries) p e = refl
  commanded-alike s z (SetScanoutBlob rect n id w h format stride offset) p e = λ i.
      unless (alike.show-blob-refusals s z rect n id (record { width = w; height = h; format = format; stride = stride; offset = offset }) e i) p (bound ink n id p)
  commanded-alike s z (CtxCreate nlen init name) p e = refl
  commanded-alike s z CtxDestroy p e = refl
  commanded-alike s z (CtxAttach id) p e = refl
  commanded-alike s z (CtxDetach id) p e = refl
  commanded-alike s z (Submit stream) p e = refl
  commanded-alike s z (UpdateCursor n x y id hot_x hot_y) p e = point-alike s z n id hot_x hot_y p e
  commanded-alike s z (MoveCursor n x y) p e = refl

  ran-alike : (s z : State) (c : Option Command) (p : Painting X Z) → Alike s z → ran ink s c p ≡ ran ink z c p
  ran-alike s z (Some c) p e = commanded-alike s z c p e
  ran-alike s z None p e = refl

  asked-alike : (s z : State) (request : Request) (p : Painting X Z) → Alike s z
      → unless (refusal_of (request_refusals s request.queue request.bytes)) p (ran ink s (command_of (header_of request.bytes).kind (drop 24 request.bytes)) p)
      ≡ unless (refusal_of (request_refusals z request.queue request.bytes)) p (ran ink z (command_of (header_of request.bytes).kind (drop 24 request.bytes)) p)
  asked-alike s z request p e = λ i.
      unless (refusal_of (request_refusals (e i) request.queue request.bytes)) p (ran-alike s z (command_of (header_of request.bytes).kind (drop 24 request.bytes)) p e i)

  requested-alike : (shape : Shape) (s z : State) (request : Request) (p : Painting X Z) → Alike s z → requested ink shape s request p ≡ requested ink shape z request p
  requested-alike (Bad fault) s z request p e = refl
  requested-alike Plain s z request p e = asked-alike s z request p e
  requested-alike (Pieces n) s z request p e = asked-alike s z request p e
  requested-alike Indirect s z request p e = asked-alike s z request p e
  requested-alike Mixed s z request p e = asked-alike s z request p e

  pub moved-alike : (s z : State) (entry : Entry) (p : Painting X Z) → Alike s z → moved ink s entry p ≡ moved ink z entry p
  moved-alike s z (entries.Act client call a reply) p e = acted-alike s z client a p e
  moved-alike s z (entries.Command client call request reply) p e = requested-alike request.shape s z request p e

  -- ---- frames

  blended-same : (cursors : List Cursor) (n width : ℕ) (screen image : ℕ → X) → blended_at ink (cursor_of (map cursor_shape cursors) n) width screen image ≡ blended_at ink (cursor_of cursors n) width screen image
  blended-same [] n width screen image = refl
  blended-same (cursor ∷ more) zero width screen image = refl
  blended-same (cursor ∷ more) (suc n) width screen image = blended-same more n width screen image

  framed-by : (t : State) (found : Option Frame) (p : Painting X Z) (old : ℕ → Z) → framed_at ink (shape t) (option_map frame_shape found) p old ≡ framed_at ink t found p old
  framed-by t (Some frame) p old = blended-same t.cursors frame.scanout frame.width (p.screens frame.scanout) (p.images frame.scanout)
  framed-by t None p old = refl

  framed-same : (t : State) (n : ℕ) (p : Painting X Z) (old : ℕ → Z) → framed_at ink (shape t) (slice_get (shape t).scanouts.frames n) p old ≡ framed_at ink t (slice_get t.scanouts.frames n) p old
  framed-same t n p old = ap (λ found. framed_at ink (shape t) found p old) (shapes.get-mapped frame_shape t.scanouts.frames n) ∙ framed-by t (slice_get t.scanouts.frames n) p old

  pub count-alike : (s z : State) → Alike s z → length s.scanouts.frames ≡ length z.scanouts.frames
  count-alike s z e = sym (length-map s.scanouts.frames frame_shape) ∙ ap (λ (t : State). length t.scanouts.frames) e ∙ length-map z.scanouts.frames frame_shape

  pub framed_at-alike : (s z : State) (n : ℕ) (p : Painting X Z) (old : ℕ → Z) → Alike s z
      → framed_at ink s (slice_get s.scanouts.frames n) p old ≡ framed_at ink z (slice_get z.scanouts.frames n) p old
  framed_at-alike s z n p old e =
      sym (framed-same s n p old) ∙ ap (λ (t : State). framed_at ink t (slice_get t.scanouts.frames n) p old) e ∙ framed-same z n p old

  pub framed-alike : (old old' new new' : State) (p : Painting X Z) → Alike old old' → Alike new new' → framed ink old new p ≡ framed ink old' new' p
  framed-alike old old' new new' p e after = λ i.
      record p { frames = λ n. cond (nat_lt n (count-alike old old' e i)) (p.frames n) (framed_at-alike new new' n p (p.frames n) after i) }
