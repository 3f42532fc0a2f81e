-- Each byte of a display is the one at its place of the painting in numbers, after each history.
use Rattle.std.proofs.Common.{◌≡◌, ◌⊎◌, inl, inr, ⊎_elim, ℕ, zero, suc, ◌+◌, ◌*◌, ◌<◌, ◌≤◌, ◌==◌, Bool, true, false, cond, List, [], ◌∷◌, ◌++◌, length, drop, replicate, slice_get, Option, Some, None, refl, ap, sym, subst, ◌∙◌, arith}
use Rattle.std.specs.Prelude.{slice_index}
use Rattle.std.proofs.lemmas.Bool.{cases_lt, le-ltb, lt-ltb}
use Rattle.std.proofs.lemmas.List.{get_or_past}
use Rattle.std.proofs.lemmas.Option.{slice_get-get_or}
use Rattle.vg_pages.specs.Memory.{after_taking, fresh_memory}
use Rattle.vg_refusals.specs.Refusals.{refusal_of}
use Rattle.vg_resource.specs.declared.resource.Resource.{Resource}
use Rattle.vg_resource.specs.Resource.{resource_at}
use Rattle.vg_cursor.specs.declared.cursor.Cursor.{Cursor}
use Rattle.vg_cursor.specs.Blended.{blended}
use Rattle.vg_cursor.specs.Cursor.{cursor_of, unset}
use Rattle.vg_formats.specs.declared.rect.Rect.{Rect}
use Rattle.vg_scanout.specs.declared.scanout.Frame.{Frame}
use Rattle.vg_scanout.specs.Scanout.{Screen}
use Rattle.vg_share.specs.declared.share.Geometry.{Geometry}
use Rattle.vg_share.specs.declared.share.ShareRefusal.{ShareRefusal}
use Rattle.vg_share.specs.Cells.{repeated, stored}
use Rattle.vg_share.specs.Share.{drop_refusal, export_refusal, exported, free_refusal, freed, given_back, has_holder, import_refusal, imported, geometry_at, leased, new_pages, pages_at, place_refusal, release_refusal, released, reserve_refusal, take_refusal, token_key, unleased, with_buffer}
use Rattle.vg_wire.specs.Header.{header_of}
use Rattle.vg_wire.specs.declared.two_d.Command2d.{Command2d}
use Rattle.vg_wire.specs.declared.two_d.Command2d.TheVariants.{Create2d, SetScanout, Flush, Transfer}
use Rattle.vg_wire_ext.specs.Commands.{command_of}
use Rattle.vg_wire_ext.specs.declared.command.Command.{Command}
use Rattle.vg_wire_ext.specs.declared.command.Command.TheVariants.{TwoD, SetScanoutBlob, UpdateCursor}
use Rattle.vg_chain.specs.declared.shape.Shape.{Shape}
use Rattle.vg_chain.specs.declared.shape.Shape.TheVariants.{Plain, Pieces, Indirect, Mixed, Bad}
use Rattle.vg_client_holds.specs.declared.act.Act.{Act}
use Rattle.vg_client_holds.specs.declared.act.Act.TheVariants.{Enter, Reserve, Store, Load, Export, Import, Release, Free, Take, Drop, Await, Denied, Mode, Unplug, Sync, Events, Ack, Leave}
use Rattle.vg_client_holds.specs.declared.act.ActReply.{ActReply}
use Rattle.vg_client_holds.specs.declared.act.ActReply.TheVariants as act_replies
use Rattle.vg_client_holds.specs.declared.setup.Setup.{Setup}
use Rattle.vg_history.specs.declared.entry.Entry.TheVariants as entries
use Rattle.vg_device.specs.declared.request.Request.{Request}
use Rattle.vg_device.specs.declared.blobs.Layout.{Layout}
use Rattle.vg_device.specs.ActStep.{effect_of, is_in_use, replied_by, shown_at}
use Rattle.vg_device.specs.BlobStep.{set_scanout_blob_refusals}
use Rattle.vg_device.specs.Receive.{receive_refusal}
use Rattle.vg_device.specs.RequestStep.{shaped_step}
use Rattle.vg_device.specs.State.{State, counted, has_resource, is_blob, start}
use Rattle.vg_device.specs.Step.{answer_of, create_2d_refusals, cursor_refusals, flush_refusals, refused_or_ran, request_refusals, set_scanout_refusals}
use Rattle.vg_device.specs.Step as steps
use Rattle.vg_device.proofs.ActLemmas.{blobs-kept, held-kept, large-stored, large-taking}
use Rattle.vg_machine.specs.Entries.{Entry}
use Rattle.vg_machine.specs.Replay.{after, replay, replay_from}
use Rattle.vg_painted.specs.Ink.{Ink, Painting}
use Rattle.vg_painted.specs.Inks.{numbers}
use Rattle.vg_painted.specs.Paint.{acted, blended_at, bound, cleared_at, commanded, commanded_2d, framed, framed_at, fresh, moved, painted, painting, painting_from, ran, received, requested, stored_at, unless}
use Rattle.vg_painted.specs.Painted.{IsAt, IsPainted}
use Rattle.vg_painted.proofs.FrameLemmas.{IsMade, Makes, entry-makes}
use Rattle.vg_painted.proofs.PlaceLemmas.{blended-is, length-blend, stored-at, zeroed-at, zeros-at}
use Rattle.vg_painted.proofs.ScreenLemmas.{ImagesAt}
use Rattle.vg_painted.proofs.StandLemmas.{Stands, command-stands, replied-stands}

-- ---- acts

replied-still : (refusal : Option ShareRefusal) (state next : State) (reply : ActReply) (p : Painting ℕ ℕ) → Stands state p → Stands next p → Stands (replied_by refusal state next reply).0 p
replied-still (Some refusal) state next reply p was would = was
replied-still None state next reply p was would = would

reserve-stands : (state : State) (client : ℕ) (geometry : Geometry) (pages : List ℕ) (p : Painting ℕ ℕ) → Stands state p
    → Stands (record state { memory = after_taking state.memory pages; share = with_buffer client geometry pages state.share }) (record p { memory = cleared_at numbers pages p.memory })
reserve-stands state client geometry pages p was = record {
  memory = zeroed-at pages state.memory.bytes p.memory was.memory;
  pixels = was.pixels;
  once = was.once;
  screens = was.screens;
  images = was.images;
  backings = held-kept state.memory (after_taking state.memory pages) (large-taking state.memory pages) state.backings was.backings;
  blobs = blobs-kept state.memory (after_taking state.memory pages) (large-taking state.memory pages) state.blobs was.blobs;
}

store-stands : (state : State) (client : ℕ) (pages : List ℕ) (offset : ℕ) (bytes : List ℕ) (times : ℕ) (p : Painting ℕ ℕ) → Stands state p
    → Stands (record state { memory = record state.memory { bytes = stored pages offset (repeated bytes times) state.memory.bytes } })
    (record p { memory = stored_at numbers (length state.memory.bytes) state.entries client pages offset bytes times p.memory })
store-stands state client pages offset bytes times p was =
    let large = large-stored state.memory pages offset (repeated bytes times) in
    let next = record state.memory { bytes = stored pages offset (repeated bytes times) state.memory.bytes } in
    record {
      memory = stored-at state.entries client pages offset bytes times state.memory.bytes p.memory was.memory;
      pixels = was.pixels;
      once = was.once;
      screens = was.screens;
      images = was.images;
      backings = held-kept state.memory next large state.backings was.backings;
      blobs = blobs-kept state.memory next large state.blobs was.blobs;
    }

effect-stands : (state : State) (client : ℕ) (act : Act) (p : Painting ℕ ℕ) → Stands state p → Stands (effect_of state client act).0 (acted numbers state client act p)
effect-stands state client Enter p was = was
effect-stands state client (Reserve width height format bytes) p was =
    let geometry : Geometry = record { width = width; height = height; format = format; bytes = bytes } in
    let pages = new_pages bytes state.memory in
    replied-stands (reserve_refusal bytes state.memory) state (record state { memory = after_taking state.memory pages; share = with_buffer client geometry pages state.share })
    (act_replies.Reserved (state.share.reserved + 1) pages) p (record p { memory = cleared_at numbers pages p.memory }) was (reserve-stands state client geometry pages p was)
effect-stands state client (Store key offset bytes times) p was =
    let pages = pages_at key state.share in
    replied-stands (place_refusal client key offset (length bytes * times) state.share) state
    (record state { memory = record state.memory { bytes = stored pages offset (repeated bytes times) state.memory.bytes } }) act_replies.Ok
    p (record p { memory = stored_at numbers (length state.memory.bytes) state.entries client pages offset bytes times p.memory }) was (store-stands state client pages offset bytes times p was)
effect-stands state client (Load key offset n) p was = replied-still (place_refusal client key offset n state.share) state _ _ p was was
effect-stands state client (Export key) p was =
    replied-still (export_refusal client key state.share) state (record state { share = exported key state.share }) (act_replies.Exported (length state.share.exports + 1)) p was
    (record { memory = was.memory; pixels = was.pixels; once = was.once; screens = was.screens; images = was.images; backings = was.backings; blobs = was.blobs })
effect-stands state client (Import token) p was =
    let key = token_key token state.share in
    replied-still (import_refusal token state.share) state (record state { share = imported client key state.share }) (act_replies.Imported key (geometry_at key state.share) (pages_at key state.share)) p was
    (record { memory = was.memory; pixels = was.pixels; once = was.once; screens = was.screens; images = was.images; backings = was.backings; blobs = was.blobs })
effect-stands state client (Release key) p was =
    let next = released client key state.share in
    replied-still (release_refusal client key (shown_at client key state) state.share) state (record state { share = next }) (cond (has_holder key next) act_replies.Kept act_replies.Last) p was
    (record { memory = was.memory; pixels = was.pixels; once = was.once; screens = was.screens; images = was.images; backings = was.backings; blobs = was.blobs })
effect-stands state client (Free key) p was =
    replied-still (free_refusal client key (has_resource state key) state.share) state
    (record state { memory = given_back (pages_at key state.share) state.memory; share = freed key state.share }) act_replies.Ok p was
    (record { memory = was.memory; pixels = was.pixels; once = was.once; screens = was.screens; images = was.images; backings = was.backings; blobs = was.blobs })
effect-stands state client (Take scanout) p was =
    replied-still (take_refusal scanout state.share) state (record state { share = leased client scanout state.share }) act_replies.Ok p was
    (record { memory = was.memory; pixels = was.pixels; once = was.once; screens = was.screens; images = was.images; backings = was.backings; blobs = was.blobs })
effect-stands state client (Drop scanout) p was =
    replied-still (drop_refusal client scanout (is_in_use state scanout) state.share) state (record state { share = unleased scanout state.share }) act_replies.Ok p was
    (record { memory = was.memory; pixels = was.pixels; once = was.once; screens = was.screens; images = was.images; backings = was.backings; blobs = was.blobs })
effect-stands state client (Await lane ordinal) p was = was
effect-stands state client (Denied what) p was = was
effect-stands state client (Mode scanout width height) p was =
    record { memory = was.memory; pixels = was.pixels; once = was.once; screens = was.screens; images = was.images; backings = was.backings; blobs = was.blobs }
effect-stands state client (Unplug scanout) p was =
    record { memory = was.memory; pixels = was.pixels; once = was.once; screens = was.screens; images = was.images; backings = was.backings; blobs = was.blobs }
effect-stands state client (Sync number) p was = was
effect-stands state client Events p was = was
effect-stands state client Ack p was =
    record { memory = was.memory; pixels = was.pixels; once = was.once; screens = was.screens; images = was.images; backings = was.backings; blobs = was.blobs }
effect-stands state client Leave p was =
    record { memory = was.memory; pixels = was.pixels; once = was.once; screens = was.screens; images = was.images; backings = was.backings; blobs = was.blobs }

-- ---- requests

ran-stands : (state : State) (context : ℕ) (command : Option Command) (p : Painting ℕ ℕ) → Stands state p → Stands (steps.ran state context command).0 (ran numbers state command p)
ran-stands state context (Some command) p was = command-stands state context command p was
ran-stands state context None p was = was

refused-stands : (refusal : Option ℕ) (state : State) (context : ℕ) (command : Option Command) (p : Painting ℕ ℕ) → Stands state p → Stands (refused_or_ran refusal state context command).0 (unless refusal p (ran numbers state command p))
refused-stands (Some code) state context command p was = was
refused-stands None state context command p was = ran-stands state context command p was

answer-stands : (state : State) (request : Request) (p : Painting ℕ ℕ) → Stands state p
    → Stands (answer_of state request.queue request.bytes).0 (unless (refusal_of (request_refusals state request.queue request.bytes)) p (ran numbers state (command_of (header_of request.bytes).kind (drop 24 request.bytes)) p))
answer-stands state request p was =
    refused-stands (refusal_of (request_refusals state request.queue request.bytes)) state (header_of request.bytes).ctx_id (command_of (header_of request.bytes).kind (drop 24 request.bytes)) p was

counted-stands : (state : State) (p : Painting ℕ ℕ) → Stands state p → Stands (counted state) p
counted-stands state p was = record { memory = was.memory; pixels = was.pixels; once = was.once; screens = was.screens; images = was.images; backings = was.backings; blobs = was.blobs }

shaped-stands : (shape : Shape) (state : State) (request : Request) (p : Painting ℕ ℕ) → Stands state p → Stands (shaped_step shape state request).0 (requested numbers shape (counted state) request p)
shaped-stands Plain state request p was = answer-stands (counted state) request p (counted-stands state p was)
shaped-stands (Pieces n) state request p was = answer-stands (counted state) request p (counted-stands state p was)
shaped-stands Indirect state request p was = answer-stands (counted state) request p (counted-stands state p was)
shaped-stands Mixed state request p was = answer-stands (counted state) request p (counted-stands state p was)
shaped-stands (Bad fault) state request p was = counted-stands state p was

moved-stands : (state : State) (entry : Entry) (p : Painting ℕ ℕ) → Stands state p → Stands (after state entry) (moved numbers (counted state) entry p)
moved-stands state (entries.Act client call act reply) p was = effect-stands (counted state) client act p (counted-stands state p was)
moved-stands state (entries.Command client call request reply) p was = shaped-stands request.shape state request p was

-- ---- what is written leaves the frames of before

module _ {X Z : Type 0} (ink : Ink X Z) where
  unless-frames : {R : Type 0} (refusal : Option R) (p q : Painting X Z) → q.frames ≡ p.frames → (unless refusal p q).frames ≡ p.frames
  unless-frames (Some refusal) p q are = refl
  unless-frames None p q are = are

  chosen-frames : (b : Bool) (p q : Painting X Z) → q.frames ≡ p.frames → (cond b p q).frames ≡ p.frames
  chosen-frames true p q are = refl
  chosen-frames false p q are = are

  received-frames : (state : State) (rect : Rect) (offset id : ℕ) (found : Option Resource) (p : Painting X Z) → (received ink state rect offset id found p).frames ≡ p.frames
  received-frames state rect offset id (Some resource) p = refl
  received-frames state rect offset id None p = refl

  bound-frames : (scanout id : ℕ) (p : Painting X Z) → (bound ink scanout id p).frames ≡ p.frames
  bound-frames scanout id p = chosen-frames (id == 0) p _ refl

  acted-frames : (state : State) (client : ℕ) (act : Act) (p : Painting X Z) → (acted ink state client act p).frames ≡ p.frames
  acted-frames state client (Reserve width height format bytes) p = unless-frames (reserve_refusal bytes state.memory) p _ refl
  acted-frames state client (Store key offset bytes times) p = unless-frames (place_refusal client key offset (length bytes * times) state.share) p _ refl
  acted-frames state client _ p = refl

  two_d-frames : (state : State) (command : Command2d) (p : Painting X Z) → (commanded_2d ink state command p).frames ≡ p.frames
  two_d-frames state (Create2d id format width height) p = unless-frames (refusal_of (create_2d_refusals state id format width height)) p _ refl
  two_d-frames state (SetScanout rect scanout id) p = unless-frames (refusal_of (set_scanout_refusals state rect scanout id)) p (bound ink scanout id p) (bound-frames scanout id p)
  two_d-frames state (Flush rect id) p = unless-frames (refusal_of (flush_refusals state rect id)) p _ refl
  two_d-frames state (Transfer rect offset id) p =
      let found = resource_at id state.resources in
      let refusal = receive_refusal id rect offset state.backings found in
      let next = received ink state rect offset id found p in
      chosen-frames (is_blob state id) p (unless refusal p next) (unless-frames refusal p next (received-frames state rect offset id found p))
  two_d-frames state _ p = refl

  commanded-frames : (state : State) (command : Command) (p : Painting X Z) → (commanded ink state command p).frames ≡ p.frames
  commanded-frames state (TwoD command) p = two_d-frames state command p
  commanded-frames state (SetScanoutBlob rect scanout id width height format stride offset) p =
      let layout : Layout = record { width = width; height = height; format = format; stride = stride; offset = offset } in
      unless-frames (refusal_of (set_scanout_blob_refusals state rect scanout id layout)) p (bound ink scanout id p) (bound-frames scanout id p)
  commanded-frames state (UpdateCursor scanout x y id hot_x hot_y) p = unless-frames (refusal_of (cursor_refusals state scanout id hot_x hot_y)) p _ (chosen-frames (id == 0) p _ refl)
  commanded-frames state _ p = refl

  ran-frames : (state : State) (command : Option Command) (p : Painting X Z) → (ran ink state command p).frames ≡ p.frames
  ran-frames state (Some command) p = commanded-frames state command p
  ran-frames state None p = refl

  requested-frames : (shape : Shape) (state : State) (request : Request) (p : Painting X Z) → (requested ink shape state request p).frames ≡ p.frames
  requested-frames (Bad fault) state request p = refl
  requested-frames _ state request p =
      let command = command_of (header_of request.bytes).kind (drop 24 request.bytes) in
      unless-frames (refusal_of (request_refusals state request.queue request.bytes)) p (ran ink state command p) (ran-frames state command p)

  pub moved-frames : (state : State) (entry : Entry) (p : Painting X Z) → (moved ink state entry p).frames ≡ p.frames
  moved-frames state (entries.Act client call act reply) p = acted-frames state client act p
  moved-frames state (entries.Command client call request reply) p = requested-frames request.shape state request p

-- ---- frames

-- each byte of each frame is the one at its place
abbrev FramesAt : List Frame → (ℕ → ℕ → ℕ) → Type 0
FramesAt frames at = (n : ℕ) (frame : Frame) → slice_get frames n ≡ Some frame → (place : ℕ) → place < length frame.pixels → slice_index frame.pixels place ≡ at n place

-- a place of two lists is one of the first, or behind it
pub first-or-behind : (xs ys : List Frame) (n : ℕ) (x : Frame) → slice_get (xs ++ ys) n ≡ Some x → ((n < length xs) × (slice_get xs n ≡ Some x)) ⊎ ((length xs ≤ n) × (m : ℕ) × (slice_get ys m ≡ Some x))
first-or-behind [] ys n x is = inr (omega arith, n, is)
first-or-behind (y ∷ xs) ys zero x is = inl (omega arith, is)
first-or-behind (y ∷ xs) ys (suc n) x is =
    ⊎_elim (λ first. inl (let low : n < length xs = first.0 in omega (arith, low), first.1))
    (λ behind. inr (let high : length xs ≤ n = behind.0 in omega (arith, high), behind.1, behind.2))
    (first-or-behind xs ys n x is)

pub unset-hidden : unset.visible ≡ false
unfolding unset
unset-hidden = refl

hidden-blend : (cursor : Cursor) (width : ℕ) (screen : List ℕ) (at image : ℕ → ℕ) → cursor.visible ≡ false → IsAt screen at → (k : ℕ) → slice_index (blended cursor width screen) k ≡ blended_at numbers cursor width at image k
unfolding blended
hidden-blend cursor width screen at image hidden is k = rw hidden (is k)

-- a frame that is made
made-at : (cursors : List Cursor) (frame : Frame) (screens : List (Option Screen)) (q : Painting ℕ ℕ) (n : ℕ) (made : IsMade n cursors screens frame) → IsAt made.screen.pixels (q.screens frame.scanout) → ImagesAt cursors q.images
    → (k : ℕ) → k < length frame.pixels → slice_index frame.pixels k ≡ blended_at numbers (cursor_of cursors frame.scanout) frame.width (q.screens frame.scanout) (q.images frame.scanout) k
made-at cursors frame screens q n made is are k within =
    let cursor = cursor_of cursors frame.scanout in
    let screen = made.screen in
    let width = screen.binding.rect.width in
    let at = q.screens frame.scanout in
    let image = q.images frame.scanout in
    let inside : k < length screen.pixels = omega (arith, within, ap (λ (xs : List ℕ). length xs) made.pixels, length-blend cursor width screen.pixels) in
    let shown : slice_index (blended cursor width screen.pixels) k ≡ blended_at numbers cursor width at image k =
    elim (cases_lt frame.scanout (length cursors)) [
      | inl there ↦ blended-is cursor width screen.pixels at image is (are frame.scanout cursor (slice_get-get_or cursors frame.scanout unset there)) k inside
      | inr past ↦ hidden-blend cursor width screen.pixels at image (ap (λ (c : Cursor). c.visible) (get_or_past cursors frame.scanout unset past) ∙ unset-hidden) is k
    ]
    in
    ap (λ (xs : List ℕ). slice_index xs k) made.pixels ∙ shown ∙ ap (λ (w : ℕ). blended_at numbers cursor w at image k) (sym made.width)

frames-stand : (m : ℕ) (old new : State) (q : Painting ℕ ℕ) → Makes m old new → Stands new q → FramesAt old.scanouts.frames q.frames → FramesAt new.scanouts.frames (framed numbers old new q).frames
frames-stand m old new q makes stands were = λ n frame is place within.
    let here : slice_get (old.scanouts.frames ++ makes.more) n ≡ Some frame = ap (λ (fs : List Frame). slice_get fs n) (sym makes.frames) ∙ is in
    let row : Option Frame → ℕ → ℕ = λ found. framed_at numbers new found q (q.frames n) in
    elim (first-or-behind old.scanouts.frames makes.more n frame here) [
      | inl first ↦
          were n frame first.1 place within
          ∙ sym (ap (λ b. cond b (q.frames n) (row (slice_get new.scanouts.frames n)) place) (lt-ltb n (length old.scanouts.frames) first.0))
      | inr behind ↦
          let made = makes.made behind.1 frame behind.2 in
          made-at new.cursors frame new.scanouts.screens q m made (stands.screens frame.scanout made.screen made.there) stands.images place within
          ∙ sym (ap (λ (found : Option Frame). row found place) is)
          ∙ sym (ap (λ b. cond b (q.frames n) (row (slice_get new.scanouts.frames n)) place) (le-ltb n (length old.scanouts.frames) behind.0))
    ]

-- ---- histories

record Holds (state : State) (p : Painting ℕ ℕ) : Type 0 where
  stands : Stands state p
  frames : FramesAt state.scanouts.frames p.frames

painted-holds : (state : State) (entry : Entry) (p : Painting ℕ ℕ) → Holds state p → Holds (after state entry) (painted numbers state entry p)
painted-holds state entry p was =
    let q : Painting ℕ ℕ = moved numbers (counted state) entry p in
    let new : State = after state entry in
    let stands = moved-stands state entry p was.stands in
    let before : FramesAt state.scanouts.frames q.frames = subst (FramesAt state.scanouts.frames) (sym (moved-frames numbers (counted state) entry p)) was.frames in
    record {
      stands = record { memory = stands.memory; pixels = stands.pixels; once = stands.once; screens = stands.screens; images = stands.images; backings = stands.backings; blobs = stands.blobs };
      frames = frames-stand (state.entries + 1) state new q (entry-makes state entry) stands before;
    }

all-hold : (H : List Entry) (state : State) (p : Painting ℕ ℕ) → Holds state p → Holds (replay_from state H) (painting_from numbers state H p)
all-hold [] state p was = was
all-hold (entry ∷ more) state p was = all-hold more (after state entry) (painted numbers state entry p) (painted-holds state entry p was)

-- ---- the beginning

first-bytes : (count : ℕ) → IsAt (fresh_memory count).bytes (λ place. 0)
unfolding fresh_memory
first-bytes count = zeros-at (4096 * count)

first-screens : (n : ℕ) (scanout : ℕ) (screen : Screen) → slice_get {X = Option Screen} (replicate n None) scanout ≡ Some (Some screen) → ⊥
first-screens zero scanout screen is = cc
first-screens (suc n) zero screen is = cc
first-screens (suc n) (suc scanout) screen is = first-screens n scanout screen is

unset-at : IsAt unset.image (λ place. 0)
unfolding unset
unset-at = zeros-at 16384

first-images : (n : ℕ) → ImagesAt (replicate n unset) (λ scanout place. 0)
first-images zero scanout cursor is = cc
first-images (suc n) zero cursor is = subst (λ (c : Cursor). IsAt c.image (λ place. 0)) (same is) unset-at
  where
    same : {x y : Cursor} → ◌≡◌ {A = Option Cursor} (Some x) (Some y) → x ≡ y
    same eq = cc
first-images (suc n) (suc scanout) cursor is = first-images n scanout cursor is

first-holds : (setup : Setup) → Holds (start setup) (fresh numbers)
first-holds setup = record {
  stands = record {
    memory = first-bytes setup.pages;
    pixels = λ id resource is. cc;
    once = tt;
    screens = λ scanout screen is. absurd (first-screens (length setup.displays) scanout screen is);
    images = first-images (length setup.displays);
    backings = λ k d within. absurd (omega (arith, within));
    blobs = λ k d within. absurd (omega (arith, within));
  };
  frames = λ n frame is place within. cc;
}

pub all-painted : (setup : Setup) (H : List Entry) → IsPainted (replay setup H) (painting numbers setup H)
all-painted setup H =
    let holds = all-hold H (start setup) (fresh numbers) (first-holds setup) in
    record { memory = holds.stands.memory; pixels = holds.stands.pixels; screens = holds.stands.screens; images = holds.stands.images; frames = holds.frames }
