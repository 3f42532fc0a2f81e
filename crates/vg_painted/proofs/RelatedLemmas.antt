-- Inks whose bytes are related paint related things.
use Rattle.std.proofs.Common.{◌≡◌, ℕ, ◌+◌, ◌-◌, ◌*◌, ◌/◌, ◌%◌, ◌==◌, ◌&&◌, Bool, true, false, cond, nat_le, nat_lt, List, [], ◌∷◌, ◌++◌, length, drop, Option, Some, None, slice_get, slice_index, refl, subst, sym}
use Rattle.std.specs.Prelude.{ℤ, pos, negsuc}
use Rattle.vg_formats.specs.declared.entry.MemEntry.{MemEntry}
use Rattle.vg_formats.specs.declared.format.Format.{Format}
use Rattle.vg_formats.specs.declared.rect.Rect.{Rect}
use Rattle.vg_formats.specs.Formats.{shown_bytes}
use Rattle.vg_formats.specs.Pixels.{common_of}
use Rattle.vg_places.specs.declared.rectangles.Area.{Area}
use Rattle.vg_places.specs.Rectangles.{is_inside}
use Rattle.vg_pages.specs.Memory.{is_among}
use Rattle.vg_refusals.specs.Refusals.{refusal_of}
use Rattle.vg_share.specs.Cells.{place_in_buffer}
use Rattle.vg_share.specs.Share.{new_pages, pages_at, place_refusal, reserve_refusal}
use Rattle.vg_cursor.specs.Blended.{image_place}
use Rattle.vg_cursor.specs.Cursor.{cursor_of}
use Rattle.vg_resource.specs.declared.resource.Resource.{Resource}
use Rattle.vg_resource.specs.Resource.{resource_at}
use Rattle.vg_transfer.specs.Backings.{bytes_of_rect, entries_at}
use Rattle.vg_blob.specs.declared.blobs.Blob.{Blob}
use Rattle.vg_blob.specs.Blobs.{blob_at}
use Rattle.vg_scanout.specs.declared.scanout.Frame.{Frame}
use Rattle.vg_scanout.specs.Scanout.{Screen, area_of, is_flushed, screen_at}
use Rattle.vg_wire.specs.Header.{header_of}
use Rattle.vg_wire.specs.declared.two_d.Command2d.{Command2d}
use Rattle.vg_wire.specs.declared.two_d.Command2d.TheVariants.{Create2d, SetScanout, Flush, Transfer}
use Rattle.vg_wire_ext.specs.Commands.{command_of}
use Rattle.vg_wire_ext.specs.declared.command.Command.{Command}
use Rattle.vg_wire_ext.specs.declared.command.Command.TheVariants.{TwoD, SetScanoutBlob, UpdateCursor}
use Rattle.vg_chain.specs.declared.shape.Shape.{Shape}
use Rattle.vg_chain.specs.declared.shape.Shape.TheVariants.{Bad}
use Rattle.vg_client_holds.specs.declared.act.Act as acts
use Rattle.vg_client_holds.specs.declared.act.Act.TheVariants.{Reserve, Store}
use Rattle.vg_client_holds.specs.declared.setup.Setup.{Setup}
use Rattle.vg_history.specs.declared.entry.Entry.TheVariants as entries
use Rattle.vg_device.specs.declared.request.Request.{Request}
use Rattle.vg_device.specs.declared.blobs.Layout.{Layout}
use Rattle.vg_device.specs.BlobStep.{set_scanout_blob_refusals}
use Rattle.vg_device.specs.Receive.{receive_refusal}
use Rattle.vg_device.specs.State.{State, counted, is_blob, start}
use Rattle.vg_device.specs.Step.{create_2d_refusals, cursor_refusals, flush_refusals, request_refusals, set_scanout_refusals}
use Rattle.vg_machine.specs.CountedWithin.{act-counts, request-counts}
use Rattle.vg_machine.specs.Entries.{Entry}
use Rattle.vg_machine.specs.Order.{client_of}
use Rattle.vg_machine.specs.Replay.{after, replay_from}
use Rattle.vg_painted.specs.Ink.{Ink, Painting}
use Rattle.vg_painted.specs.Paint.{acted, bound, byte_of_entries, cleared_at, commanded, commanded_2d, covered_at, created, filled_at, flushed, flushed_at, framed, framed_at, fresh, image_at, moved, over_at, painted, painting, painting_from, pointed, ran, received, requested, reserved, shown_at, stored, stored_at, surface, transferred, unless, with_one}
use Rattle.vg_painted.specs.Painted.{AreRelated}

-- What two inks write is related, where `By` says which entry is of which client.
pub record AreLike {X Z Y W : Type 0} (By : ℕ → ℕ → Type 0) (R : X → Y → Type 0) (S : Z → W → Type 0) (i : Ink X Z) (j : Ink Y W) : Type 0 where
  pub blank : R i.blank j.blank
  pub opaque : R i.opaque j.opaque
  pub stored : (entry client page byte : ℕ) → By entry client → R (i.stored entry client page byte) (j.stored entry client page byte)
  pub fetched : (entry : ℕ) (x : X) (y : Y) → R x y → R (i.fetched entry x) (j.fetched entry y)
  pub shown : (entry : ℕ) (x : X) (y : Y) → R x y → R (i.shown entry x) (j.shown entry y)
  pub plain : (x : X) (y : Y) → R x y → S (i.plain x) (j.plain y)
  pub blended : (x : X) (y : Y) (x1 : X) (y1 : Y) (x2 : X) (y2 : Y) → R x y → R x1 y1 → R x2 y2 → S (i.blended x x1 x2) (j.blended y y1 y2)
  pub solid : S i.solid j.solid

-- The entries, of which the first has the number behind n, are by their clients.
abbrev pub AreBy : (ℕ → ℕ → Type 0) → ℕ → List Entry → Type 0
AreBy By n [] = Unit {0}
AreBy By n (entry ∷ more) = By (n + 1) (client_of entry) × AreBy By (n + 1) more

-- ---- choices

either : {X Y : Type 0} (R : X → Y → Type 0) (b : Bool) (x x' : X) (y y' : Y) → R x y → R x' y' → R (cond b x x') (cond b y y')
either R true x x' y y' one other = one
either R false x x' y y' one other = other

either-row : {Z W : Type 0} (S : Z → W → Type 0) (b : Bool) (f f' : ℕ → Z) (g g' : ℕ → W) (place : ℕ) → S (f place) (g place) → S (f' place) (g' place) → S (cond b f f' place) (cond b g g' place)
either-row S true f f' g g' place one other = one
either-row S false f f' g g' place one other = other

module _ {X Y : Type 0} (R : X → Y → Type 0) where
  with_one-related : (id : ℕ) (new : ℕ → X) (old : ℕ → ℕ → X) (new' : ℕ → Y) (old' : ℕ → ℕ → Y) → ((place : ℕ) → R (new place) (new' place)) → ((other place : ℕ) → R (old other place) (old' other place))
      → (other place : ℕ) → R (with_one id new old other place) (with_one id new' old' other place)
  with_one-related id new old new' old' news olds other place = either R (other == id) (new place) (old other place) (new' place) (old' other place) (news place) (olds other place)

  filled-related : (area : Area) (row_length size : ℕ) (value : ℕ → ℕ → X) (old : ℕ → X) (value' : ℕ → ℕ → Y) (old' : ℕ → Y) → ((r c : ℕ) → R (value r c) (value' r c)) → ((place : ℕ) → R (old place) (old' place))
      → (place : ℕ) → R (filled_at area row_length size value old place) (filled_at area row_length size value' old' place)
  filled-related area row_length size value old value' old' values olds place =
      let r = place / row_length - area.row in
      let c = place % row_length - area.column in
      either R (nat_lt place size && is_inside area (place / row_length) (place % row_length)) (value r c) (old place) (value' r c) (old' place) (values r c) (olds place)

module _ {X Z Y W : Type 0} (By : ℕ → ℕ → Type 0) (R : X → Y → Type 0) (S : Z → W → Type 0) (i : Ink X Z) (j : Ink Y W) (like : AreLike By R S i j) where
  unless-related : {E : Type 0} (refusal : Option E) (p p' : Painting X Z) (q q' : Painting Y W) → AreRelated R S p q → AreRelated R S p' q' → AreRelated R S (unless refusal p p') (unless refusal q q')
  unless-related (Some refusal) p p' q q' one other = one
  unless-related None p p' q q' one other = other

  choice-related : (b : Bool) (p p' : Painting X Z) (q q' : Painting Y W) → AreRelated R S p q → AreRelated R S p' q' → AreRelated R S (cond b p p') (cond b q q')
  choice-related true p p' q q' one other = one
  choice-related false p p' q q' one other = other

  -- ---- acts

  reserved-related : (state : State) (bytes : ℕ) (p : Painting X Z) (q : Painting Y W) → AreRelated R S p q → AreRelated R S (reserved i state bytes p) (reserved j state bytes q)
  reserved-related state bytes p q are =
      let pages = new_pages bytes state.memory in
      unless-related (reserve_refusal bytes state.memory) p (record p { memory = cleared_at i pages p.memory }) q (record q { memory = cleared_at j pages q.memory }) are
      (record {
        memory = λ place. either R (is_among pages (place / 4096)) i.blank (p.memory place) j.blank (q.memory place) like.blank (are.memory place);
        pixels = are.pixels;
        screens = are.screens;
        images = are.images;
        frames = are.frames;
      })

  stored_at-related : (size entry client : ℕ) (pages : List ℕ) (offset : ℕ) (bytes : List ℕ) (times : ℕ) (memory : ℕ → X) (memory' : ℕ → Y) → By entry client → ((place : ℕ) → R (memory place) (memory' place))
      → (place : ℕ) → R (stored_at i size entry client pages offset bytes times memory place) (stored_at j size entry client pages offset bytes times memory' place)
  stored_at-related size entry client pages offset bytes times memory memory' by are place =
      let b = place_in_buffer pages place in
      let byte = slice_index bytes ((b - offset) % length bytes) in
      either R (nat_lt place size && (nat_le offset b && nat_lt b (offset + length bytes * times))) (i.stored entry client (place / 4096) byte) (memory place) (j.stored entry client (place / 4096) byte) (memory' place)
      (like.stored entry client (place / 4096) byte by) (are place)

  stored-related : (state : State) (client key offset : ℕ) (bytes : List ℕ) (times : ℕ) (p : Painting X Z) (q : Painting Y W) → By state.entries client → AreRelated R S p q
      → AreRelated R S (stored i state client key offset bytes times p) (stored j state client key offset bytes times q)
  stored-related state client key offset bytes times p q by are =
      let size = length state.memory.bytes in
      let pages = pages_at key state.share in
      unless-related (place_refusal client key offset (length bytes * times) state.share)
      p (record p { memory = stored_at i size state.entries client pages offset bytes times p.memory })
      q (record q { memory = stored_at j size state.entries client pages offset bytes times q.memory }) are
      (record {
        memory = stored_at-related size state.entries client pages offset bytes times p.memory q.memory by are.memory;
        pixels = are.pixels;
        screens = are.screens;
        images = are.images;
        frames = are.frames;
      })

  acted-related : (state : State) (client : ℕ) (act : acts.Act) (p : Painting X Z) (q : Painting Y W) → By state.entries client → AreRelated R S p q → AreRelated R S (acted i state client act p) (acted j state client act q)
  acted-related state client (Reserve width height format bytes) p q by are = reserved-related state bytes p q are
  acted-related state client (Store key offset bytes times) p q by are = stored-related state client key offset bytes times p q by are
  acted-related state client _ p q by are = are

  -- ---- resources

  created-related : (state : State) (id format width height : ℕ) (p : Painting X Z) (q : Painting Y W) → AreRelated R S p q → AreRelated R S (created i state id format width height p) (created j state id format width height q)
  created-related state id format width height p q are =
      unless-related (refusal_of (create_2d_refusals state id format width height))
      p (record p { pixels = with_one id (λ place. i.blank) p.pixels }) q (record q { pixels = with_one id (λ place. j.blank) q.pixels }) are
      (record {
        memory = are.memory;
        pixels = with_one-related R id (λ place. i.blank) p.pixels (λ place. j.blank) q.pixels (λ place. like.blank) are.pixels;
        screens = are.screens;
        images = are.images;
        frames = are.frames;
      })

  entries-related : (memory : ℕ → X) (memory' : ℕ → Y) (parts : List MemEntry) (at : ℕ) → ((place : ℕ) → R (memory place) (memory' place)) → R (byte_of_entries i memory parts at) (byte_of_entries j memory' parts at)
  entries-related memory memory' [] at are = like.blank
  entries-related memory memory' (entry ∷ more) at are =
      let place = entry.addr - 1048576 + at in
      either R (nat_lt at entry.length) (memory place) (byte_of_entries i memory more (at - entry.length)) (memory' place) (byte_of_entries j memory' more (at - entry.length))
      (are place) (entries-related memory memory' more (at - entry.length) are)

  received-related : (state : State) (rect : Rect) (offset id : ℕ) (found : Option Resource) (p : Painting X Z) (q : Painting Y W) → AreRelated R S p q → AreRelated R S (received i state rect offset id found p) (received j state rect offset id found q)
  received-related state rect offset id None p q are = are
  received-related state rect offset id (Some resource) p q are =
      let row = 4 * resource.width in
      let parts = entries_at id state.backings in
      let byte : ℕ → X = λ at. i.fetched state.entries (byte_of_entries i p.memory parts at) in
      let byte' : ℕ → Y = λ at. j.fetched state.entries (byte_of_entries j q.memory parts at) in
      let filled : ℕ → X = filled_at (bytes_of_rect rect) row (length resource.pixels) (λ r c. byte (offset + row * r + c)) (p.pixels id) in
      let filled' : ℕ → Y = filled_at (bytes_of_rect rect) row (length resource.pixels) (λ r c. byte' (offset + row * r + c)) (q.pixels id) in
      record {
        memory = are.memory;
        pixels = with_one-related R id filled p.pixels filled' q.pixels
            (filled-related R (bytes_of_rect rect) row (length resource.pixels) (λ r c. byte (offset + row * r + c)) (p.pixels id) (λ r c. byte' (offset + row * r + c)) (q.pixels id)
            (λ r c. let at = offset + row * r + c in like.fetched state.entries (byte_of_entries i p.memory parts at) (byte_of_entries j q.memory parts at) (entries-related p.memory q.memory parts at are.memory))
            (are.pixels id)) are.pixels;
        screens = are.screens;
        images = are.images;
        frames = are.frames;
      }

  transferred-related : (state : State) (rect : Rect) (offset id : ℕ) (p : Painting X Z) (q : Painting Y W) → AreRelated R S p q → AreRelated R S (transferred i state rect offset id p) (transferred j state rect offset id q)
  transferred-related state rect offset id p q are =
      let found = resource_at id state.resources in
      let refusal = receive_refusal id rect offset state.backings found in
      let p' = received i state rect offset id found p in
      let q' = received j state rect offset id found q in
      choice-related (is_blob state id) p (unless refusal p p') q (unless refusal q q') are
      (unless-related refusal p p' q q' are (received-related state rect offset id found p q are))

  -- ---- scanouts

  bound-related : (scanout id : ℕ) (p : Painting X Z) (q : Painting Y W) → AreRelated R S p q → AreRelated R S (bound i scanout id p) (bound j scanout id q)
  bound-related scanout id p q are =
      choice-related (id == 0) p (record p { screens = with_one scanout (λ place. i.blank) p.screens }) q (record q { screens = with_one scanout (λ place. j.blank) q.screens }) are
      (record {
        memory = are.memory;
        pixels = are.pixels;
        screens = with_one-related R scanout (λ place. i.blank) p.screens (λ place. j.blank) q.screens (λ place. like.blank) are.screens;
        images = are.images;
        frames = are.frames;
      })

  shown-related : (entry : ℕ) (format : Format) (pixel : ℕ → X) (pixel' : ℕ → Y) (c : ℕ) → ((n : ℕ) → R (pixel n) (pixel' n)) → R (shown_at i entry format pixel c) (shown_at j entry format pixel' c)
  shown-related entry format pixel pixel' c are =
      let from = slice_index (shown_bytes format (0 ∷ 1 ∷ 2 ∷ 3 ∷ [])) c in
      either R (from == 255) i.opaque (i.shown entry (pixel from)) j.opaque (j.shown entry (pixel' from)) like.opaque (like.shown entry (pixel from) (pixel' from) (are from))

  surface-related : (entry : ℕ) (found : Option Blob) (id : ℕ) (p : Painting X Z) (q : Painting Y W) → AreRelated R S p q → (at : ℕ) → R (surface i entry found id p at) (surface j entry found id q at)
  surface-related entry (Some blob) id p q are at =
      let x = byte_of_entries i p.memory blob.entries at in
      let y = byte_of_entries j q.memory blob.entries at in
      either R (nat_lt at blob.size) (i.fetched entry x) i.blank (j.fetched entry y) j.blank (like.fetched entry x y (entries-related p.memory q.memory blob.entries at are.memory)) like.blank
  surface-related entry None id p q are at = are.pixels id at

  flushed_at-related : (entry : ℕ) (rect : Rect) (id : ℕ) (bytes : ℕ → X) (bytes' : ℕ → Y) (screen : Option Screen) (old : ℕ → X) (old' : ℕ → Y)
      → ((at : ℕ) → R (bytes at) (bytes' at)) → ((place : ℕ) → R (old place) (old' place)) → (place : ℕ) → R (flushed_at i entry rect id bytes screen old place) (flushed_at j entry rect id bytes' screen old' place)
  flushed_at-related entry rect id bytes bytes' None old old' are olds place = olds place
  flushed_at-related entry rect id bytes bytes' (Some screen) old old' are olds place =
      let binding = screen.binding in
      let part = common_of binding.rect rect in
      let first = binding.offset + binding.stride * part.y + 4 * part.x in
      let byte : ℕ → ℕ → X = λ r c. shown_at i entry binding.format (λ n. bytes (first + binding.stride * r + 4 * (c / 4) + n)) (c % 4) in
      let byte' : ℕ → ℕ → Y = λ r c. shown_at j entry binding.format (λ n. bytes' (first + binding.stride * r + 4 * (c / 4) + n)) (c % 4) in
      let area = area_of binding.rect part in
      let row = 4 * binding.rect.width in
      let size = length screen.pixels in
      either-row R (is_flushed id rect (Some screen)) (filled_at area row size byte old) old (filled_at area row size byte' old') old' place
      (filled-related R area row size byte old byte' old'
      (λ r c. shown-related entry binding.format (λ n. bytes (first + binding.stride * r + 4 * (c / 4) + n)) (λ n. bytes' (first + binding.stride * r + 4 * (c / 4) + n)) (c % 4) (λ n. are (first + binding.stride * r + 4 * (c / 4) + n)))
      olds place)
      (olds place)

  flushed-related : (state : State) (rect : Rect) (id : ℕ) (p : Painting X Z) (q : Painting Y W) → AreRelated R S p q → AreRelated R S (flushed i state rect id p) (flushed j state rect id q)
  flushed-related state rect id p q are =
      let found = blob_at id state.blobs in
      let bytes : ℕ → X = surface i state.entries found id p in
      let bytes' : ℕ → Y = surface j state.entries found id q in
      unless-related (refusal_of (flush_refusals state rect id))
      p (record p { screens = λ scanout. flushed_at i state.entries rect id bytes (screen_at scanout state.scanouts) (p.screens scanout) })
      q (record q { screens = λ scanout. flushed_at j state.entries rect id bytes' (screen_at scanout state.scanouts) (q.screens scanout) }) are
      (record {
        memory = are.memory;
        pixels = are.pixels;
        screens = λ scanout. flushed_at-related state.entries rect id bytes bytes' (screen_at scanout state.scanouts) (p.screens scanout) (q.screens scanout) (surface-related state.entries found id p q are) (are.screens scanout);
        images = are.images;
        frames = are.frames;
      })

  image-related : (entry : ℕ) (found : Option Resource) (pixels : ℕ → X) (pixels' : ℕ → Y) → ((place : ℕ) → R (pixels place) (pixels' place)) → (place : ℕ) → R (image_at i entry found pixels place) (image_at j entry found pixels' place)
  image-related entry None pixels pixels' are place = like.blank
  image-related entry (Some resource) pixels pixels' are place =
      let pixel : ℕ → X = λ n. pixels (4 * (place / 4) + n) in
      let pixel' : ℕ → Y = λ n. pixels' (4 * (place / 4) + n) in
      either R (nat_lt place (length resource.pixels)) (shown_at i entry resource.format pixel (place % 4)) i.blank (shown_at j entry resource.format pixel' (place % 4)) j.blank
      (shown-related entry resource.format pixel pixel' (place % 4) (λ n. are (4 * (place / 4) + n))) like.blank

  pointed-related : (state : State) (scanout id hot_x hot_y : ℕ) (p : Painting X Z) (q : Painting Y W) → AreRelated R S p q → AreRelated R S (pointed i state scanout id hot_x hot_y p) (pointed j state scanout id hot_x hot_y q)
  pointed-related state scanout id hot_x hot_y p q are =
      let found = resource_at id state.resources in
      let image : ℕ → X = image_at i state.entries found (p.pixels id) in
      let image' : ℕ → Y = image_at j state.entries found (q.pixels id) in
      let p' : Painting X Z = record p { images = with_one scanout image p.images } in
      let q' : Painting Y W = record q { images = with_one scanout image' q.images } in
      unless-related (refusal_of (cursor_refusals state scanout id hot_x hot_y)) p (cond (id == 0) p p') q (cond (id == 0) q q') are
      (choice-related (id == 0) p p' q q' are
      (record {
        memory = are.memory;
        pixels = are.pixels;
        screens = are.screens;
        images = with_one-related R scanout image p.images image' q.images (image-related state.entries found (p.pixels id) (q.pixels id) (are.pixels id)) are.images;
        frames = are.frames;
      }))

  -- ---- commands

  commanded_2d-related : (state : State) (command : Command2d) (p : Painting X Z) (q : Painting Y W) → AreRelated R S p q → AreRelated R S (commanded_2d i state command p) (commanded_2d j state command q)
  commanded_2d-related state (Create2d id format width height) p q are = created-related state id format width height p q are
  commanded_2d-related state (SetScanout rect scanout id) p q are =
      unless-related (refusal_of (set_scanout_refusals state rect scanout id)) p (bound i scanout id p) q (bound j scanout id q) are (bound-related scanout id p q are)
  commanded_2d-related state (Flush rect id) p q are = flushed-related state rect id p q are
  commanded_2d-related state (Transfer rect offset id) p q are = transferred-related state rect offset id p q are
  commanded_2d-related state _ p q are = are

  commanded-related : (state : State) (command : Command) (p : Painting X Z) (q : Painting Y W) → AreRelated R S p q → AreRelated R S (commanded i state command p) (commanded j state command q)
  commanded-related state (TwoD command) p q are = commanded_2d-related state command p q are
  commanded-related state (SetScanoutBlob rect scanout id width height format stride offset) p q are =
      let layout : Layout = record { width = width; height = height; format = format; stride = stride; offset = offset } in
      unless-related (refusal_of (set_scanout_blob_refusals state rect scanout id layout)) p (bound i scanout id p) q (bound j scanout id q) are (bound-related scanout id p q are)
  commanded-related state (UpdateCursor scanout x y id hot_x hot_y) p q are = pointed-related state scanout id hot_x hot_y p q are
  commanded-related state _ p q are = are

  ran-related : (state : State) (command : Option Command) (p : Painting X Z) (q : Painting Y W) → AreRelated R S p q → AreRelated R S (ran i state command p) (ran j state command q)
  ran-related state (Some command) p q are = commanded-related state command p q are
  ran-related state None p q are = are

  requested-related : (shape : Shape) (state : State) (request : Request) (p : Painting X Z) (q : Painting Y W) → AreRelated R S p q → AreRelated R S (requested i shape state request p) (requested j shape state request q)
  requested-related (Bad fault) state request p q are = are
  requested-related _ state request p q are =
      let command = command_of (header_of request.bytes).kind (drop 24 request.bytes) in
      unless-related (refusal_of (request_refusals state request.queue request.bytes)) p (ran i state command p) q (ran j state command q) are (ran-related state command p q are)

  moved-related : (state : State) (entry : Entry) (p : Painting X Z) (q : Painting Y W) → By state.entries (client_of entry) → AreRelated R S p q → AreRelated R S (moved i state entry p) (moved j state entry q)
  moved-related state (entries.Act client call act reply) p q by are = acted-related state client act p q by are
  moved-related state (entries.Command client call request reply) p q by are = requested-related request.shape state request p q are

  -- ---- frames

  over-related : (n m c : ℕ) (image : ℕ → X) (image' : ℕ → Y) (screen : X) (screen' : Y) → ((place : ℕ) → R (image place) (image' place)) → R screen screen' → S (over_at i n m c image screen) (over_at j n m c image' screen')
  over-related n m c image image' screen screen' images are =
      let at = 4 * (64 * m + n) + c in
      let a = 4 * (64 * m + n) + 3 in
      either S (c == 3) i.solid (i.blended screen (image at) (image a)) j.solid (j.blended screen' (image' at) (image' a)) like.solid
      (like.blended screen screen' (image at) (image' at) (image a) (image' a) are (images at) (images a))

  covered-related : (z w : ℤ) (c : ℕ) (image : ℕ → X) (image' : ℕ → Y) (screen : X) (screen' : Y) → ((place : ℕ) → R (image place) (image' place)) → R screen screen' → S (covered_at i z w c image screen) (covered_at j z w c image' screen')
  covered-related (pos n) (pos m) c image image' screen screen' images are =
      either S (nat_lt n 64 && nat_lt m 64) (over_at i n m c image screen) (i.plain screen) (over_at j n m c image' screen') (j.plain screen')
      (over-related n m c image image' screen screen' images are) (like.plain screen screen' are)
  covered-related (pos n) (negsuc m) c image image' screen screen' images are = like.plain screen screen' are
  covered-related (negsuc n) w c image image' screen screen' images are = like.plain screen screen' are

  framed_at-related : (state : State) (frame : Option Frame) (p : Painting X Z) (q : Painting Y W) (old : ℕ → Z) (old' : ℕ → W) → AreRelated R S p q → ((place : ℕ) → S (old place) (old' place))
      → (place : ℕ) → S (framed_at i state frame p old place) (framed_at j state frame q old' place)
  framed_at-related state None p q old old' are olds place = olds place
  framed_at-related state (Some frame) p q old old' are olds place =
      let cursor = cursor_of state.cursors frame.scanout in
      let width = frame.width in
      let z = image_place cursor.x cursor.hot_x (place % (4 * width) / 4) in
      let w = image_place cursor.y cursor.hot_y (place / (4 * width)) in
      let x = p.screens frame.scanout place in
      let y = q.screens frame.scanout place in
      either S cursor.visible (covered_at i z w (place % 4) (p.images frame.scanout) x) (i.plain x) (covered_at j z w (place % 4) (q.images frame.scanout) y) (j.plain y)
      (covered-related z w (place % 4) (p.images frame.scanout) (q.images frame.scanout) x y (are.images frame.scanout) (are.screens frame.scanout place))
      (like.plain x y (are.screens frame.scanout place))

  framed-related : (old new : State) (p : Painting X Z) (q : Painting Y W) → AreRelated R S p q → AreRelated R S (framed i old new p) (framed j old new q)
  framed-related old new p q are = record {
    memory = are.memory;
    pixels = are.pixels;
    screens = are.screens;
    images = are.images;
    frames = λ n place.
        let frame = slice_get new.scanouts.frames n in
        either-row S (nat_lt n (length old.scanouts.frames)) (p.frames n) (framed_at i new frame p (p.frames n)) (q.frames n) (framed_at j new frame q (q.frames n)) place
        (are.frames n place) (framed_at-related new frame p q (p.frames n) (q.frames n) are (are.frames n) place);
  }

  -- ---- histories

  painted-related : (state : State) (entry : Entry) (p : Painting X Z) (q : Painting Y W) → By (state.entries + 1) (client_of entry) → AreRelated R S p q → AreRelated R S (painted i state entry p) (painted j state entry q)
  painted-related state entry p q by are =
      framed-related state (after state entry) (moved i (counted state) entry p) (moved j (counted state) entry q) (moved-related (counted state) entry p q by are)

  fresh-related : AreRelated R S (fresh i) (fresh j)
  fresh-related = record {
    memory = λ place. like.blank;
    pixels = λ id place. like.blank;
    screens = λ scanout place. like.blank;
    images = λ scanout place. like.blank;
    frames = λ n place. like.plain i.blank j.blank like.blank;
  }

  one-more : (state : State) (entry : Entry) → (after state entry).entries ≡ state.entries + 1
  one-more state (entries.Act client call act reply) = act-counts state client act
  one-more state (entries.Command client call request reply) = request-counts state request

  from-related : (H : List Entry) (state : State) (p : Painting X Z) (q : Painting Y W) → AreBy By state.entries H → AreRelated R S p q → AreRelated R S (painting_from i state H p) (painting_from j state H q)
  from-related [] state p q by are = are
  from-related (entry ∷ more) state p q by are =
      from-related more (after state entry) (painted i state entry p) (painted j state entry q)
      (subst (λ (n : ℕ). AreBy By n more) (sym (one-more state entry)) by.1) (painted-related state entry p q by.0 are)

  pub painting-related : (setup : Setup) (H : List Entry) → AreBy By 0 H → AreRelated R S (painting i setup H) (painting j setup H)
  painting-related setup H by = from-related H (start setup) (fresh i) (fresh j) by fresh-related

-- with one entry more what it writes is painted behind the others
pub painting-more : {X Z : Type 0} (ink : Ink X Z) (H : List Entry) (entry : Entry) (state : State) (p : Painting X Z)
    → painting_from ink state (H ++ entry ∷ []) p ≡ painted ink (replay_from state H) entry (painting_from ink state H p)
painting-more ink [] entry state p = refl
painting-more ink (x ∷ more) entry state p = painting-more ink more entry (after state x) (painted ink state x p)
