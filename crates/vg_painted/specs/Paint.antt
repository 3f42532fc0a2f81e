-- The bytes of a display written in any ink, beside the display itself, which says what is refused, and which pages, sizes, formats and
-- bindings there are. Only what an entry writes is said, as a function of places.
use Rattle.std.specs.Prelude.{ℕ, ◌+◌, ◌-◌, ◌*◌, ◌/◌, ◌%◌, ◌==◌, ◌&&◌, nat_le, nat_lt, ℤ, pos, negsuc, if◌then◌else◌, List, [], ◌∷◌, length, drop, Option, Some, None, slice_get, slice_index}
use Rattle.vg_formats.specs.declared.entry.MemEntry.{MemEntry}
use Rattle.vg_formats.specs.declared.format.Format.{Format}
use Rattle.vg_formats.specs.declared.rect.Rect.{Rect}
use Rattle.vg_formats.specs.Formats.{shown_bytes}
use Rattle.vg_formats.specs.Pixels.{common_of}
use Rattle.vg_places.specs.declared.rectangles.Area.{Area}
use Rattle.vg_places.specs.Rectangles.{is_inside}
use Rattle.vg_pages.specs.Memory.{is_among}
use Rattle.vg_refusals.specs.Refusals.{refusal_of}
use Rattle.vg_share.specs.Cells.{place_in_buffer}
use Rattle.vg_share.specs.Share.{new_pages, pages_at, place_refusal, reserve_refusal}
use Rattle.vg_cursor.specs.declared.cursor.Cursor.{Cursor}
use Rattle.vg_cursor.specs.Blended.{image_place}
use Rattle.vg_cursor.specs.Cursor.{cursor_of}
use Rattle.vg_resource.specs.declared.resource.Resource.{Resource}
use Rattle.vg_resource.specs.Resource.{resource_at}
use Rattle.vg_transfer.specs.Backings.{bytes_of_rect, entries_at}
use Rattle.vg_blob.specs.declared.blobs.Blob.{Blob}
use Rattle.vg_blob.specs.Blobs.{blob_at}
use Rattle.vg_scanout.specs.declared.scanout.Frame.{Frame}
use Rattle.vg_scanout.specs.Scanout.{Screen, area_of, is_flushed, screen_at}
use Rattle.vg_wire.specs.Header.{header_of}
use Rattle.vg_wire.specs.declared.two_d.Command2d.{Command2d}
use Rattle.vg_wire.specs.declared.two_d.Command2d.TheVariants.{Create2d, SetScanout, Flush, Transfer}
use Rattle.vg_wire_ext.specs.Commands.{command_of}
use Rattle.vg_wire_ext.specs.declared.command.Command.{Command}
use Rattle.vg_wire_ext.specs.declared.command.Command.TheVariants.{TwoD, SetScanoutBlob, UpdateCursor}
use Rattle.vg_chain.specs.declared.shape.Shape.{Shape}
use Rattle.vg_chain.specs.declared.shape.Shape.TheVariants.{Bad}
use Rattle.vg_client_holds.specs.declared.act.Act as acts
use Rattle.vg_client_holds.specs.declared.act.Act.TheVariants.{Reserve, Store}
use Rattle.vg_client_holds.specs.declared.setup.Setup.{Setup}
use Rattle.vg_history.specs.declared.entry.Entry.TheVariants as entries
use Rattle.vg_device.specs.declared.request.Request.{Request}
use Rattle.vg_device.specs.BlobStep.{set_scanout_blob_refusals}
use Rattle.vg_device.specs.Receive.{receive_refusal}
use Rattle.vg_device.specs.State.{State, counted, is_blob, start}
use Rattle.vg_device.specs.Step.{create_2d_refusals, cursor_refusals, flush_refusals, request_refusals, set_scanout_refusals}
use Rattle.vg_machine.specs.Entries.{Entry}
use Rattle.vg_machine.specs.Replay.{after}
use Rattle.vg_painted.specs.Ink.{Ink, Painting}

-- What is refused stays as it was.
abbrev pub unless : {R P : Type 0} → Option R → P → P → P
unless (Some refusal) old new = old
unless None old new = new

-- One of many was written anew, and each other is as before.
abbrev pub with_one : {X : Type 0} → ℕ → (ℕ → X) → (ℕ → ℕ → X) → ℕ → ℕ → X
with_one id new old other place = if other == id then new place else old other place

-- Of so many places, which stand in rows, those of the rectangle hold `value i c` in its row i and column c, and each other is as before.
abbrev pub filled_at : {X : Type 0} → Area → ℕ → ℕ → (ℕ → ℕ → X) → (ℕ → X) → ℕ → X
filled_at area row_length size value old place =
    if nat_lt place size && is_inside area (place / row_length) (place % row_length) then
    value (place / row_length - area.row) (place % row_length - area.column)
    else old place

module _ {X Z : Type 0} (ink : Ink X Z) where
  -- The display's bytes before the first entry.
  abbrev pub fresh : Painting X Z
  fresh = record {
    memory = λ place. ink.blank;
    pixels = λ id place. ink.blank;
    screens = λ scanout place. ink.blank;
    images = λ scanout place. ink.blank;
    frames = λ n place. ink.plain ink.blank;
  }

  -- Memory after these pages were cleared.
  abbrev pub cleared_at : List ℕ → (ℕ → X) → ℕ → X
  cleared_at pages memory place = if is_among pages (place / 4096) then ink.blank else memory place

  -- A buffer that is reserved has cleared pages.
  abbrev pub reserved : State → ℕ → Painting X Z → Painting X Z
  reserved state bytes p =
      unless (reserve_refusal bytes state.memory) p (record p { memory = cleared_at (new_pages bytes state.memory) p.memory })

  -- Memory, of so many bytes, after an entry of a client stored these bytes so many times in a buffer's pages, from `offset` on.
  abbrev pub stored_at : ℕ → ℕ → ℕ → List ℕ → ℕ → List ℕ → ℕ → (ℕ → X) → ℕ → X
  stored_at size entry client pages offset bytes times memory place =
      let b = place_in_buffer pages place in
      if nat_lt place size && (nat_le offset b && nat_lt b (offset + length bytes * times)) then
      ink.stored entry client (place / 4096) (slice_index bytes ((b - offset) % length bytes))
      else memory place

  abbrev pub stored : State → ℕ → ℕ → ℕ → List ℕ → ℕ → Painting X Z → Painting X Z
  stored state client key offset bytes times p =
      unless (place_refusal client key offset (length bytes * times) state.share) p
      (record p { memory = stored_at (length state.memory.bytes) state.entries client (pages_at key state.share) offset bytes times p.memory })

  -- A resource that is created has cleared pixels.
  abbrev pub created : State → ℕ → ℕ → ℕ → ℕ → Painting X Z → Painting X Z
  created state id format width height p =
      unless (refusal_of (create_2d_refusals state id format width height)) p (record p { pixels = with_one id (λ place. ink.blank) p.pixels })

  -- A scanout that is bound has a cleared screen. Where it is disabled, with resource 0, nothing is written.
  abbrev pub bound : ℕ → ℕ → Painting X Z → Painting X Z
  bound scanout id p = if id == 0 then p else record p { screens = with_one scanout (λ place. ink.blank) p.screens }

  -- Byte number `at` of the entries' ranges of memory, one after another.
  abbrev pub byte_of_entries : (ℕ → X) → List MemEntry → ℕ → X
  byte_of_entries memory [] at = ink.blank
  byte_of_entries memory (entry ∷ more) at =
      if nat_lt at entry.length then memory (entry.addr - 1048576 + at) else byte_of_entries memory more (at - entry.length)

  -- A transfer copies rows of the backing to a rectangle of the resource.
  abbrev pub received : State → Rect → ℕ → ℕ → Option Resource → Painting X Z → Painting X Z
  received state rect offset id (Some resource) p =
      let row = 4 * resource.width in
      let byte = λ (at : ℕ). ink.fetched state.entries (byte_of_entries p.memory (entries_at id state.backings) at) in
      record p { pixels = with_one id (filled_at (bytes_of_rect rect) row (length resource.pixels) (λ i c. byte (offset + row * i + c)) (p.pixels id)) p.pixels }
  received state rect offset id None p = p

  abbrev pub transferred : State → Rect → ℕ → ℕ → Painting X Z → Painting X Z
  transferred state rect offset id p =
      let found = resource_at id state.resources in
      if is_blob state id then p else unless (receive_refusal id rect offset state.backings found) p (received state rect offset id found p)

  -- Byte c of a pixel as an entry shows it, which is byte `from` of the pixel in its format; a pixel has none of number 255, which stands
  -- for an A of 255.
  abbrev pub shown_from : ℕ → (ℕ → X) → ℕ → X
  shown_from entry pixel from = if from == 255 then ink.opaque else ink.shown entry (pixel from)

  abbrev pub shown_at : ℕ → Format → (ℕ → X) → ℕ → X
  shown_at entry format pixel c = shown_from entry pixel (slice_index (shown_bytes format (0 ∷ 1 ∷ 2 ∷ 3 ∷ [])) c)

  -- The bytes that a resource shows: a 2D one's pixels, and a blob's as they are fetched from memory now.
  abbrev pub surface : ℕ → Option Blob → ℕ → Painting X Z → ℕ → X
  surface entry (Some blob) id p at = if nat_lt at blob.size then ink.fetched entry (byte_of_entries p.memory blob.entries at) else ink.blank
  surface entry None id p at = p.pixels id at

  -- A screen after a flush of a rectangle of a resource with these bytes: it is written where it shows that resource, and in the part of
  -- its rectangle that is flushed.
  abbrev pub flushed_at : ℕ → Rect → ℕ → (ℕ → X) → Option Screen → (ℕ → X) → ℕ → X
  flushed_at entry rect id bytes (Some screen) old =
      let binding = screen.binding in
      let part = common_of binding.rect rect in
      let first = binding.offset + binding.stride * part.y + 4 * part.x in
      let byte = λ (i c : ℕ). shown_at entry binding.format (λ n. bytes (first + binding.stride * i + 4 * (c / 4) + n)) (c % 4) in
      if is_flushed id rect (Some screen) then filled_at (area_of binding.rect part) (4 * binding.rect.width) (length screen.pixels) byte old
      else old
  flushed_at entry rect id bytes None old = old

  abbrev pub flushed : State → Rect → ℕ → Painting X Z → Painting X Z
  flushed state rect id p =
      let bytes = surface state.entries (blob_at id state.blobs) id p in
      unless (refusal_of (flush_refusals state rect id)) p
      (record p { screens = λ scanout. flushed_at state.entries rect id bytes (screen_at scanout state.scanouts) (p.screens scanout) })

  -- An image with the pixels of a resource, as they are shown.
  abbrev pub image_at : ℕ → Option Resource → (ℕ → X) → ℕ → X
  image_at entry (Some resource) pixels place =
      if nat_lt place (length resource.pixels) then shown_at entry resource.format (λ n. pixels (4 * (place / 4) + n)) (place % 4) else ink.blank
  image_at entry None pixels place = ink.blank

  -- UPDATE_CURSOR writes an image anew, but for resource 0, which hides it.
  abbrev pub pointed : State → ℕ → ℕ → ℕ → ℕ → Painting X Z → Painting X Z
  pointed state scanout id hot_x hot_y p =
      unless (refusal_of (cursor_refusals state scanout id hot_x hot_y)) p
      (if id == 0 then p else record p { images = with_one scanout (image_at state.entries (resource_at id state.resources) (p.pixels id)) p.images })

  -- What an act, a command, a request writes, once it is counted; each other one writes no byte but of frames.
  abbrev pub acted : State → ℕ → acts.Act → Painting X Z → Painting X Z
  acted state client (Reserve width height format bytes) p = reserved state bytes p
  acted state client (Store key offset bytes times) p = stored state client key offset bytes times p
  acted state client _ p = p

  abbrev pub commanded_2d : State → Command2d → Painting X Z → Painting X Z
  commanded_2d state (Create2d id format width height) p = created state id format width height p
  commanded_2d state (SetScanout rect scanout id) p = unless (refusal_of (set_scanout_refusals state rect scanout id)) p (bound scanout id p)
  commanded_2d state (Flush rect id) p = flushed state rect id p
  commanded_2d state (Transfer rect offset id) p = transferred state rect offset id p
  commanded_2d state _ p = p

  abbrev pub commanded : State → Command → Painting X Z → Painting X Z
  commanded state (TwoD command) p = commanded_2d state command p
  commanded state (SetScanoutBlob rect scanout id width height format stride offset) p =
      unless (refusal_of (set_scanout_blob_refusals state rect scanout id (record { width = width; height = height; format = format; stride = stride; offset = offset }))) p
      (bound scanout id p)
  commanded state (UpdateCursor scanout x y id hot_x hot_y) p = pointed state scanout id hot_x hot_y p
  commanded state _ p = p

  abbrev pub ran : State → Option Command → Painting X Z → Painting X Z
  ran state (Some command) p = commanded state command p
  ran state None p = p

  abbrev pub requested : Shape → State → Request → Painting X Z → Painting X Z
  requested (Bad fault) state request p = p
  requested _ state request p =
      unless (refusal_of (request_refusals state request.queue request.bytes)) p (ran state (command_of (header_of request.bytes).kind (drop 24 request.bytes)) p)

  abbrev pub moved : State → Entry → Painting X Z → Painting X Z
  moved state (entries.Act client call act reply) p = acted state client act p
  moved state (entries.Command client call request reply) p = requested request.shape state request p

  -- A frame's byte where its pixel is byte c of pixel (i, j) of an image; where the image doesn't reach it is the screen's.
  abbrev pub over_at : ℕ → ℕ → ℕ → (ℕ → X) → X → Z
  over_at i j c image screen =
      if c == 3 then ink.solid else ink.blended screen (image (4 * (64 * j + i) + c)) (image (4 * (64 * j + i) + 3))

  abbrev pub covered_at : ℤ → ℤ → ℕ → (ℕ → X) → X → Z
  covered_at (pos i) (pos j) c image screen = if nat_lt i 64 && nat_lt j 64 then over_at i j c image screen else ink.plain screen
  covered_at (pos i) (negsuc n) c image screen = ink.plain screen
  covered_at (negsuc n) j c image screen = ink.plain screen

  -- The byte at a place of a frame of so many pixels a row, with the cursor, if it is shown.
  abbrev pub blended_at : Cursor → ℕ → (ℕ → X) → (ℕ → X) → ℕ → Z
  blended_at cursor width screen image place =
      if cursor.visible then
      covered_at (image_place cursor.x cursor.hot_x (place % (4 * width) / 4)) (image_place cursor.y cursor.hot_y (place / (4 * width))) (place % 4) image (screen place)
      else ink.plain (screen place)

  -- A frame of a display, as its screens, images and cursors are now.
  abbrev pub framed_at : State → Option Frame → Painting X Z → (ℕ → Z) → ℕ → Z
  framed_at state (Some frame) p old = blended_at (cursor_of state.cursors frame.scanout) frame.width (p.screens frame.scanout) (p.images frame.scanout)
  framed_at state None p old = old

  -- The frames of before stay, and those that the display has more are made now.
  abbrev pub framed : State → State → Painting X Z → Painting X Z
  framed old new p =
      record p { frames = λ n. if nat_lt n (length old.scanouts.frames) then p.frames n else framed_at new (slice_get new.scanouts.frames n) p (p.frames n) }

  -- The bytes after an entry: what it writes, and the frames that it makes of that.
  abbrev pub painted : State → Entry → Painting X Z → Painting X Z
  painted state entry p = framed state (after state entry) (moved (counted state) entry p)

  -- The bytes after these entries, and after a whole history.
  abbrev pub painting_from : State → List Entry → Painting X Z → Painting X Z
  painting_from state [] p = p
  painting_from state (entry ∷ more) p = painting_from (after state entry) more (painted state entry p)

  abbrev pub painting : Setup → List Entry → Painting X Z
  painting setup H = painting_from (start setup) H fresh
