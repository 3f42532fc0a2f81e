-- What an entry writes is where the painting in numbers has it: each command and each act.
use Rattle.std.proofs.Common.{◌≡◌, ℕ, ◌+◌, ◌*◌, ◌==◌, ◌||◌, Bool, true, false, not, cond, List, [], ◌∷◌, length, slice_get, Option, Some, None, refl, arith}
use Rattle.std.specs.Prelude.{IfSome, is_none, is_some, nat_le, ℤ}
use Rattle.std.specs.List.{All}
use Rattle.std.specs.Ordering.{nat_cmp}
use Rattle.std.specs.BTreeMap.{insert_entry, is_at}
use Rattle.std.proofs.lemmas.Bool.{or_parts}
use Rattle.std.proofs.lemmas.List.{get_or_past}
use Rattle.std.proofs.lemmas.Map.Entries.{All-lookup}
use Rattle.vg_laws.proofs.Bools.{and-right, not-false}
use Rattle.vg_formats.specs.declared.entry.MemEntry.{MemEntry}
use Rattle.vg_formats.specs.declared.format.Format.{Format}
use Rattle.vg_formats.specs.declared.rect.Rect.{Rect}
use Rattle.vg_formats.specs.Formats.{format_of}
use Rattle.vg_pages.specs.Memory.{Memory}
use Rattle.vg_backing.specs.Backing.{AreHeld, backing_bytes}
use Rattle.vg_backing.proofs.HeldLemmas.{held-with, held-without}
use Rattle.vg_refusals.specs.Refusals.{refusal_of}
use Rattle.vg_resource.specs.declared.resource.Resource.{Resource}
use Rattle.vg_resource.specs.Resource.{blank, resource_at, with_blank}
use Rattle.vg_transfer.specs.Backings.{backing_at, bytes_of_rect, detached, entries_at, transferred}
use Rattle.vg_transfer.proofs.CopyLemmas.{held-by}
use Rattle.vg_blob.specs.declared.blobs.Blob.{Blob}
use Rattle.vg_blob.specs.Uuids.{assign_refusals, assigned, number_for, uuid_bytes}
use Rattle.vg_context.specs.Contexts as contexts
use Rattle.vg_blob.specs.Blobs.{IsHeld, blob_at, with_blob}
use Rattle.vg_cursor.specs.declared.cursor.Cursor.{Cursor}
use Rattle.vg_cursor.specs.Cursor.{cursor_of, hidden_at, placed_at, shown_as}
use Rattle.vg_scanout.specs.declared.scanout.Binding.{Binding}
use Rattle.vg_scanout.specs.Scanout as scanouts
use Rattle.vg_scanout.specs.Scanout.{is_too_large, screen_at, unbound}
use Rattle.vg_share.specs.declared.share.ShareRefusal.{ShareRefusal}
use Rattle.vg_wire.specs.declared.two_d.Command2d.{Command2d}
use Rattle.vg_wire.specs.declared.two_d.Command2d.TheVariants.{DisplayInfo, Create2d, Unref, SetScanout, Flush, Transfer, Attach, Detach}
use Rattle.vg_wire_ext.specs.declared.command.Command.{Command}
use Rattle.vg_wire_ext.specs.declared.command.Command.TheVariants.{TwoD, CapsetInfo, Capset, Edid, AssignUuid, CreateBlob, SetScanoutBlob, CtxCreate, CtxDestroy, CtxAttach, CtxDetach, Submit, UpdateCursor, MoveCursor}
use Rattle.vg_wire_ext.specs.declared.response.Response.{Response}
use Rattle.vg_wire_ext.specs.declared.response.Response.TheVariants as responses
use Rattle.vg_client_holds.specs.declared.act.ActReply.{ActReply}
use Rattle.vg_device.specs.declared.blobs.Layout.{Layout}
use Rattle.vg_device.specs.Answered.{answered_with}
use Rattle.vg_device.specs.ActStep.{replied_by}
use Rattle.vg_device.specs.BlobStep.{blob_binding, create_blob_refusals, is_in_blob, set_scanout_blob_refusals, set_scanout_blob_step, with_scanout_blob, with_shown_blob}
use Rattle.vg_device.specs.ContextStep.{ctx_attach_refusals}
use Rattle.vg_device.specs.Receive.{receive_refusal, with_received}
use Rattle.vg_device.specs.State.{State, has_resource, is_blob}
use Rattle.vg_device.specs.Step.{attach_2d_refusals, binding_of, block_of, command_step, detach_2d_refusals, edid_refusals, create_2d_refusals, cursor_change, cursor_refusals, flush_refusals, flushed_by, image_of, move_refusals, set_scanout_refusals, show_refusals, surface_in, surface_of, transfer_2d_step, two_d_step, unref_refusals, unreferenced, with_cursor, with_scanout, with_shown}
use Rattle.vg_painted.specs.Ink.{Painting}
use Rattle.vg_painted.specs.Inks.{numbers}
use Rattle.vg_painted.specs.Paint.{bound, byte_of_entries, commanded, commanded_2d, filled_at, flushed_at, image_at, received, surface, unless, with_one}
use Rattle.vg_painted.specs.Painted.{IsAt}
use Rattle.vg_painted.proofs.OnceLemmas.{Once, once-insert, once-remove, once-set}
use Rattle.vg_painted.proofs.PlaceLemmas.{entries-at, image-is, taken-at}
use Rattle.vg_painted.proofs.ResourceLemmas.{PixelsAt, created-pixels, held-good, pixels-set, transferred-at, without-pixels}
use Rattle.vg_painted.proofs.ScreenLemmas.{ImagesAt, ScreensAt, bound-screens, flushed-screens, kept-images, new-images, unbound-from, unbound-screens}

-- All but frames stands where the painting has it, resources have numbers of their own, and what backings and blobs have lies in memory.
pub record Stands (state : State) (p : Painting ℕ ℕ) : Type 0 where
  pub memory : IsAt state.memory.bytes p.memory
  pub pixels : PixelsAt state.resources p.pixels
  pub once : Once state.resources
  pub screens : ScreensAt state.scanouts.screens p.screens
  pub images : ImagesAt state.cursors p.images
  pub backings : All (λ entry. AreHeld state.memory entry.1) state.backings
  pub blobs : All (IsHeld state.memory) state.blobs

-- ---- refusals

-- none of the conditions holds
abbrev AllOff : {R : Type 0} → List (Bool × R) → Type 0
AllOff [] = Unit {0}
AllOff ((holds, refusal) ∷ more) = (holds ≡ false) × AllOff more

off-cons : {R : Type 0} (b : Bool) (refusal : R) (more : List (Bool × R)) → refusal_of ((b, refusal) ∷ more) ≡ None → (refusal_of more ≡ None → AllOff more) → (b ≡ false) × AllOff more
off-cons true refusal more none rest = cc
off-cons false refusal more none rest = (refl, rest none)

all-off : {R : Type 0} (refusals : List (Bool × R)) → refusal_of refusals ≡ None → AllOff refusals
all-off [] none = tt
all-off ((holds, refusal) ∷ more) none = off-cons holds refusal more none (all-off more)

-- ---- what is refused, and what is not

answered-stands : (refusal : Option ℕ) (state next : State) (response : Response) (p q : Painting ℕ ℕ) → Stands state p → (refusal ≡ None → Stands next q) → Stands (answered_with refusal state next response).0 (unless refusal p q)
answered-stands (Some code) state next response p q was would = was
answered-stands None state next response p q was would = would refl

answered-still : (refusal : Option ℕ) (state next : State) (response : Response) (p : Painting ℕ ℕ) → Stands state p → (refusal ≡ None → Stands next p) → Stands (answered_with refusal state next response).0 p
answered-still (Some code) state next response p was would = was
answered-still None state next response p was would = would refl

pub replied-stands : (refusal : Option ShareRefusal) (state next : State) (reply : ActReply) (p q : Painting ℕ ℕ) → Stands state p → Stands next q → Stands (replied_by refusal state next reply).0 (unless refusal p q)
replied-stands (Some refusal) state next reply p q was would = was
replied-stands None state next reply p q was would = would

-- ---- resources

found-none : (found : Option Resource) → is_some found ≡ false → found ≡ None
found-none (Some resource) is = cc
found-none None is = refl

once-created : (id width height : ℕ) (format : Option Format) (resources : List (ℕ × Resource)) → is_some (resource_at id resources) ≡ false → Once resources → Once (with_blank id width height format resources)
once-created id width height None resources free once = once
once-created id width height (Some format) resources free once = once-insert id (blank width height format) resources (found-none (resource_at id resources) free) once

create-stands : (state : State) (id format width height : ℕ) (p : Painting ℕ ℕ) → Stands state p → refusal_of (create_2d_refusals state id format width height) ≡ None
    → Stands (record state { resources = with_blank id width height (format_of format) state.resources }) (record p { pixels = with_one id (λ place. 0) p.pixels })
create-stands state id format width height p was none =
    let off = all-off (create_2d_refusals state id format width height) none in
    let free = (or_parts (id == 0) (is_some (resource_at id state.resources)) off.1.0).1 in
    let known = (or_parts (is_none (format_of format)) (width == 0 || height == 0) off.1.1.0).0 in
    record {
      memory = was.memory;
      pixels = created-pixels id width height (format_of format) state.resources p.pixels known was.pixels;
      once = once-created id width height (format_of format) state.resources free was.once;
      screens = was.screens;
      images = was.images;
      backings = was.backings;
      blobs = was.blobs;
    }

abbrev BlobHeld : Memory → Blob → Type 0
BlobHeld memory blob = AreHeld memory blob.entries

unref-stands : (state : State) (id : ℕ) (p : Painting ℕ ℕ) → Stands state p → Stands (unreferenced state id) p
unref-stands state id p was = record {
  memory = was.memory;
  pixels = without-pixels id state.resources p.pixels was.once was.pixels;
  once = once-remove id state.resources was.once;
  screens = unbound-from id state.scanouts.screens p.screens was.screens;
  images = was.images;
  backings = held-without (AreHeld state.memory) state.backings (is_at (nat_cmp id)) was.backings;
  blobs = held-without (BlobHeld state.memory) state.blobs (is_at (nat_cmp id)) was.blobs;
}

attach-stands : (state : State) (id : ℕ) (parts : List MemEntry) (p : Painting ℕ ℕ) → Stands state p → refusal_of (attach_2d_refusals state id parts) ≡ None
    → Stands (record state { backings = insert_entry nat_cmp state.backings id parts }) p
attach-stands state id parts p was none =
    let off = all-off (attach_2d_refusals state id parts) none in
    record {
      memory = was.memory;
      pixels = was.pixels;
      once = was.once;
      screens = was.screens;
      images = was.images;
      backings = held-with (AreHeld state.memory) state.backings id parts was.backings (held-good state.memory parts off.1.1.1.0);
      blobs = was.blobs;
    }

detach-stands : (state : State) (id : ℕ) (p : Painting ℕ ℕ) → Stands state p → Stands (record state { backings = detached id state.backings }) p
detach-stands state id p was = record {
  memory = was.memory;
  pixels = was.pixels;
  once = was.once;
  screens = was.screens;
  images = was.images;
  backings = held-without (AreHeld state.memory) state.backings (is_at (nat_cmp id)) was.backings;
  blobs = was.blobs;
}

blob-stands : (state : State) (id mem flags size : ℕ) (parts : List MemEntry) (p : Painting ℕ ℕ) → Stands state p → refusal_of (create_blob_refusals state id mem flags size parts) ≡ None
    → Stands (record state { blobs = with_blob id size parts state.blobs }) p
blob-stands state id mem flags size parts p was none =
    let off = all-off (create_blob_refusals state id mem flags size parts) none in
    let blob : Blob = record { size = size; entries = parts } in
    record {
      memory = was.memory;
      pixels = was.pixels;
      once = was.once;
      screens = was.screens;
      images = was.images;
      backings = was.backings;
      blobs = held-with (BlobHeld state.memory) state.blobs id blob was.blobs (held-good state.memory parts off.1.1.1.0);
    }

-- ---- transfers

received-stands : (state : State) (rect : Rect) (offset id : ℕ) (found : Option Resource) (p : Painting ℕ ℕ) → resource_at id state.resources ≡ found → Stands state p
    → Stands (record state { resources = with_received state.memory id rect offset state.backings found state.resources }) (received numbers state rect offset id found p)
received-stands state rect offset id None p there was = was
received-stands state rect offset id (Some resource) p there was =
    let parts = entries_at id state.backings in
    let held : AreHeld state.memory parts = held-by state.memory (backing_at id state.backings) (All-lookup (AreHeld state.memory) (is_at (nat_cmp id)) state.backings was.backings) in
    let pixels = transferred state.memory parts rect offset resource.width resource.pixels in
    let at : ℕ → ℕ = filled_at (bytes_of_rect rect) (4 * resource.width) (length resource.pixels) (λ i c. byte_of_entries numbers p.memory parts (offset + 4 * resource.width * i + c)) (p.pixels id) in
    record {
      memory = was.memory;
      pixels = pixels-set id resource pixels state.resources at p.pixels there
          (transferred-at state.memory parts rect offset resource.width resource.pixels p.memory (p.pixels id) was.memory held (was.pixels id resource there)) was.pixels;
      once = once-set id (record resource { pixels = pixels }) state.resources was.once;
      screens = was.screens;
      images = was.images;
      backings = was.backings;
      blobs = was.blobs;
    }

chosen-stands : (b : Bool) (state : State) (step : State × Response) (p q : Painting ℕ ℕ) → Stands state p → Stands step.0 q → Stands (cond b (state, responses.Nodata) step).0 (cond b p q)
chosen-stands true state step p q was would = was
chosen-stands false state step p q was would = would

transfer-stands : (state : State) (rect : Rect) (offset id : ℕ) (p : Painting ℕ ℕ) → Stands state p → Stands (two_d_step state (Transfer rect offset id)).0 (commanded_2d numbers state (Transfer rect offset id) p)
transfer-stands state rect offset id p was =
    let found = resource_at id state.resources in
    let refusal = receive_refusal id rect offset state.backings found in
    let next : State = record state { resources = with_received state.memory id rect offset state.backings found state.resources } in
    let q : Painting ℕ ℕ = received numbers state rect offset id found p in
    chosen-stands (is_blob state id) state (transfer_2d_step state rect offset id) p (unless refusal p q) was
    (answered-stands refusal state next responses.Nodata p q was (λ none. received-stands state rect offset id found p refl was))

-- ---- scanouts

unbound-stands : (state : State) (scanout : ℕ) (p : Painting ℕ ℕ) → Stands state p → Stands (record state { scanouts = unbound scanout state.scanouts }) p
unbound-stands state scanout p was = record {
  memory = was.memory;
  pixels = was.pixels;
  once = was.once;
  screens = unbound-screens scanout state.scanouts.screens p.screens was.screens;
  images = was.images;
  backings = was.backings;
  blobs = was.blobs;
}

bound-stands : (state : State) (scanout : ℕ) (binding : Binding) (p : Painting ℕ ℕ) → Stands state p
    → Stands (record state { scanouts = scanouts.bound scanout binding state.scanouts }) (record p { screens = with_one scanout (λ place. 0) p.screens })
bound-stands state scanout binding p was = record {
  memory = was.memory;
  pixels = was.pixels;
  once = was.once;
  screens = bound-screens scanout binding state.scanouts.screens p.screens was.screens;
  images = was.images;
  backings = was.backings;
  blobs = was.blobs;
}

set-stands : (b : Bool) (state : State) (rect : Rect) (scanout id : ℕ) (found : Option Resource) (p : Painting ℕ ℕ) → Stands state p → (b ≡ false → is_none found ≡ false)
    → Stands (cond b (record state { scanouts = unbound scanout state.scanouts }) (with_shown state rect scanout id found)) (cond b p (record p { screens = with_one scanout (λ place. 0) p.screens }))
set-stands true state rect scanout id found p was some = unbound-stands state scanout p was
set-stands false state rect scanout id None p was some = let clash : true ≡ false = some refl in cc
set-stands false state rect scanout id (Some resource) p was some = bound-stands state scanout (binding_of id rect resource) p was

pub set-some : (b : Bool) (first : Bool × ℕ) (blob : Bool × ℕ) (rect : Rect) (found : Option Resource) → refusal_of (first ∷ cond b [] (blob ∷ show_refusals rect found)) ≡ None → b ≡ false → is_none found ≡ false
set-some true first blob rect found none is = cc
set-some false first blob rect found none is = (all-off (first ∷ blob ∷ show_refusals rect found) none).1.1.0

set_scanout-stands : (state : State) (rect : Rect) (scanout id : ℕ) (p : Painting ℕ ℕ) → Stands state p
    → Stands (two_d_step state (SetScanout rect scanout id)).0 (commanded_2d numbers state (SetScanout rect scanout id) p)
set_scanout-stands state rect scanout id p was =
    let found = resource_at id state.resources in
    answered-stands (refusal_of (set_scanout_refusals state rect scanout id)) state (with_scanout state rect scanout id) responses.Nodata p (bound numbers scanout id p) was
    (λ none. set-stands (id == 0) state rect scanout id found p was
    (set-some (id == 0) (nat_le (length state.setup.displays) scanout, 0x1202) (is_blob state id, 0x1205) rect found none))

set-blob-stands : (b : Bool) (state : State) (rect : Rect) (scanout id : ℕ) (layout : Layout) (format : Option Format) (p : Painting ℕ ℕ) → Stands state p → (b ≡ false → is_some format ≡ true)
    → Stands (cond b (record state { scanouts = unbound scanout state.scanouts }) (with_shown_blob state rect scanout id layout format)) (cond b p (record p { screens = with_one scanout (λ place. 0) p.screens }))
set-blob-stands true state rect scanout id layout format p was some = unbound-stands state scanout p was
set-blob-stands false state rect scanout id layout None p was some = let clash : false ≡ true = some refl in cc
set-blob-stands false state rect scanout id layout (Some format) p was some = bound-stands state scanout (blob_binding id rect layout format) p was

laid-out : (rect : Rect) (layout : Layout) (blob : Option Blob) → is_in_blob rect layout blob ≡ true → is_some (format_of layout.format) ≡ true
laid-out rect layout None is = cc
laid-out rect layout (Some blob) is = and-right _ (is_some (format_of layout.format)) is

pub set-blob-some : (b : Bool) (first known : Bool × ℕ) (rect : Rect) (layout : Layout) (blob : Option Blob) (last : Bool × ℕ)
    → refusal_of (first ∷ cond b [] (known ∷ (not (is_in_blob rect layout blob), 0x1205) ∷ last ∷ [])) ≡ None → b ≡ false → is_some (format_of layout.format) ≡ true
set-blob-some true first known rect layout blob last none is = cc
set-blob-some false first known rect layout blob last none is =
    laid-out rect layout blob (not-false (is_in_blob rect layout blob) (all-off (first ∷ known ∷ (not (is_in_blob rect layout blob), 0x1205) ∷ last ∷ []) none).1.1.0)

set_scanout_blob-stands : (state : State) (rect : Rect) (scanout id : ℕ) (layout : Layout) (p : Painting ℕ ℕ) → Stands state p
    → Stands (set_scanout_blob_step state rect scanout id layout).0 (unless (refusal_of (set_scanout_blob_refusals state rect scanout id layout)) p (bound numbers scanout id p))
set_scanout_blob-stands state rect scanout id layout p was =
    answered-stands (refusal_of (set_scanout_blob_refusals state rect scanout id layout)) state (with_scanout_blob state rect scanout id layout) responses.Nodata p (bound numbers scanout id p) was
    (λ none. set-blob-stands (id == 0) state rect scanout id layout (format_of layout.format) p was
    (set-blob-some (id == 0) (nat_le (length state.setup.displays) scanout, 0x1202) (not (has_resource state id), 0x1203) rect layout (blob_at id state.blobs) (is_too_large rect, 0x1201) none))

-- ---- flushes

surface-at : (state : State) (entry id : ℕ) (blob : Option Blob) (found : Option Resource) (p : Painting ℕ ℕ) → Stands state p → IfSome blob (BlobHeld state.memory) → resource_at id state.resources ≡ found
    → (is_some blob || is_some found) ≡ true → IsAt (surface_in state.memory blob found) (surface numbers entry blob id p)
surface-at state entry id (Some blob) found p was held there some =
    taken-at blob.size (backing_bytes state.memory blob.entries) (byte_of_entries numbers p.memory blob.entries) (entries-at state.memory p.memory was.memory blob.entries held)
surface-at state entry id None (Some resource) p was held there some = was.pixels id resource there
surface-at state entry id None None p was held there some = cc

flush-stands : (state : State) (rect : Rect) (id : ℕ) (p : Painting ℕ ℕ) → Stands state p → Stands (two_d_step state (Flush rect id)).0 (commanded_2d numbers state (Flush rect id) p)
flush-stands state rect id p was =
    let refusals = flush_refusals state rect id in
    let blob = blob_at id state.blobs in
    let bytes : ℕ → ℕ = surface numbers state.entries blob id p in
    let at : ℕ → ℕ → ℕ = λ scanout. flushed_at numbers state.entries rect id bytes (screen_at scanout state.scanouts) (p.screens scanout) in
    answered-stands (refusal_of refusals) state (record state { scanouts = flushed_by state rect id }) responses.Nodata p (record p { screens = at }) was
    (λ none.
    let some = not-false (has_resource state id) (all-off refusals none).0 in
    let held = All-lookup (BlobHeld state.memory) (is_at (nat_cmp id)) state.blobs was.blobs in
    record {
      memory = was.memory;
      pixels = was.pixels;
      once = was.once;
      screens = flushed-screens state.entries id rect (surface_of state id) bytes state.scanouts p.screens
          (surface-at state state.entries id blob (resource_at id state.resources) p was held refl some) was.screens;
      images = was.images;
      backings = was.backings;
      blobs = was.blobs;
    })

-- ---- cursors

cursor-kept : (state : State) (scanout : ℕ) (change : Cursor → Cursor) (p : Painting ℕ ℕ) → (change (cursor_of state.cursors scanout)).image ≡ (cursor_of state.cursors scanout).image → Stands state p
    → Stands (with_cursor state scanout change) p
cursor-kept state scanout change p same was = record {
  memory = was.memory;
  pixels = was.pixels;
  once = was.once;
  screens = was.screens;
  images = kept-images state.cursors scanout (change (cursor_of state.cursors scanout)) p.images same was.images;
  backings = was.backings;
  blobs = was.blobs;
}

empty-at : IsAt [] (λ place. 0)
empty-at = λ k. get_or_past [] k 0 (omega arith)

image-at : (entry id : ℕ) (resources : List (ℕ × Resource)) (found : Option Resource) (at : ℕ → ℕ → ℕ) → resource_at id resources ≡ found → PixelsAt resources at → IsAt (image_of found) (image_at numbers entry found (at id))
image-at entry id resources None at there are = empty-at
image-at entry id resources (Some resource) at there are = image-is entry resource (at id) (are id resource there)

cursor-by : (b : Bool) (state : State) (scanout id : ℕ) (x y : ℤ) (hot_x hot_y : ℕ) (p : Painting ℕ ℕ) → Stands state p
    → Stands (with_cursor state scanout (cond b (hidden_at x y) (shown_as (image_of (resource_at id state.resources)) x y hot_x hot_y)))
    (cond b p (record p { images = with_one scanout (image_at numbers state.entries (resource_at id state.resources) (p.pixels id)) p.images }))
cursor-by true state scanout id x y hot_x hot_y p was = cursor-kept state scanout (hidden_at x y) p refl was
cursor-by false state scanout id x y hot_x hot_y p was =
    let found = resource_at id state.resources in
    let new : Cursor = shown_as (image_of found) x y hot_x hot_y (cursor_of state.cursors scanout) in
    record {
      memory = was.memory;
      pixels = was.pixels;
      once = was.once;
      screens = was.screens;
      images = new-images state.cursors scanout new (image_at numbers state.entries found (p.pixels id)) p.images (image-at state.entries id state.resources found p.pixels refl was.pixels) was.images;
      backings = was.backings;
      blobs = was.blobs;
    }

-- ---- commands

two_d-stands : (state : State) (command : Command2d) (p : Painting ℕ ℕ) → Stands state p → Stands (two_d_step state command).0 (commanded_2d numbers state command p)
two_d-stands state DisplayInfo p was = was
two_d-stands state (Create2d id format width height) p was =
    answered-stands (refusal_of (create_2d_refusals state id format width height)) state (record state { resources = with_blank id width height (format_of format) state.resources }) responses.Nodata
    p (record p { pixels = with_one id (λ place. 0) p.pixels }) was (create-stands state id format width height p was)
two_d-stands state (Unref id) p was =
    answered-still (refusal_of (unref_refusals state id)) state (unreferenced state id) responses.Nodata p was (λ none. unref-stands state id p was)
two_d-stands state (SetScanout rect scanout id) p was = set_scanout-stands state rect scanout id p was
two_d-stands state (Flush rect id) p was = flush-stands state rect id p was
two_d-stands state (Transfer rect offset id) p was = transfer-stands state rect offset id p was
two_d-stands state (Attach id parts) p was =
    answered-still (refusal_of (attach_2d_refusals state id parts)) state (record state { backings = insert_entry nat_cmp state.backings id parts }) responses.Nodata p was (attach-stands state id parts p was)
two_d-stands state (Detach id) p was =
    answered-still (refusal_of (detach_2d_refusals state id)) state (record state { backings = detached id state.backings }) responses.Nodata p was (λ none. detach-stands state id p was)

pub command-stands : (state : State) (context : ℕ) (command : Command) (p : Painting ℕ ℕ) → Stands state p → Stands (command_step state context command).0 (commanded numbers state command p)
command-stands state context (TwoD command) p was = two_d-stands state command p was
command-stands state context (CapsetInfo index) p was = was
command-stands state context (Capset id version) p was = was
command-stands state context (Edid scanout) p was =
    answered-still (refusal_of (edid_refusals state.plugs scanout)) state state _ p was (λ none. was)
command-stands state context (AssignUuid id) p was =
    answered-still (refusal_of (assign_refusals (has_resource state id))) state (record state { uuids = assigned id state.uuids }) (responses.Uuid (uuid_bytes (number_for id state.uuids))) p was
    (λ none. record { memory = was.memory; pixels = was.pixels; once = was.once; screens = was.screens; images = was.images; backings = was.backings; blobs = was.blobs })
command-stands state context (CreateBlob id mem flags blob_id size parts) p was =
    answered-still (refusal_of (create_blob_refusals state id mem flags size parts)) state (record state { blobs = with_blob id size parts state.blobs }) responses.Nodata p was
    (blob-stands state id mem flags size parts p was)
command-stands state context (SetScanoutBlob rect scanout id width height format stride offset) p was =
    set_scanout_blob-stands state rect scanout id (record { width = width; height = height; format = format; stride = stride; offset = offset }) p was
command-stands state context (CtxCreate nlen context_init name) p was =
    answered-still (refusal_of (contexts.create_refusals context nlen context_init state.contexts)) state (record state { contexts = contexts.created context context_init state.contexts }) responses.Nodata p was
    (λ none. record { memory = was.memory; pixels = was.pixels; once = was.once; screens = was.screens; images = was.images; backings = was.backings; blobs = was.blobs })
command-stands state context CtxDestroy p was =
    answered-still (refusal_of (contexts.destroy_refusals context state.contexts)) state (record state { contexts = contexts.destroyed context state.contexts }) responses.Nodata p was
    (λ none. record { memory = was.memory; pixels = was.pixels; once = was.once; screens = was.screens; images = was.images; backings = was.backings; blobs = was.blobs })
command-stands state context (CtxAttach id) p was =
    answered-still (refusal_of (ctx_attach_refusals state context id)) state (record state { contexts = contexts.attached context id state.contexts }) responses.Nodata p was
    (λ none. record { memory = was.memory; pixels = was.pixels; once = was.once; screens = was.screens; images = was.images; backings = was.backings; blobs = was.blobs })
command-stands state context (CtxDetach id) p was =
    answered-still (refusal_of (contexts.detach_refusals context id state.contexts)) state (record state { contexts = contexts.detached context id state.contexts }) responses.Nodata p was
    (λ none. record { memory = was.memory; pixels = was.pixels; once = was.once; screens = was.screens; images = was.images; backings = was.backings; blobs = was.blobs })
command-stands state context (Submit stream) p was =
    answered-still (refusal_of (contexts.submit_refusals context stream state.contexts)) state state responses.Nodata p was (λ none. was)
command-stands state context (UpdateCursor scanout x y id hot_x hot_y) p was =
    answered-stands (refusal_of (cursor_refusals state scanout id hot_x hot_y)) state (with_cursor state scanout (cursor_change state x y id hot_x hot_y)) responses.Nodata
    p (cond (id == 0) p (record p { images = with_one scanout (image_at numbers state.entries (resource_at id state.resources) (p.pixels id)) p.images })) was
    (λ none. cursor-by (id == 0) state scanout id x y hot_x hot_y p was)
command-stands state context (MoveCursor scanout x y) p was =
    answered-still (refusal_of (move_refusals state scanout)) state (with_cursor state scanout (placed_at x y)) responses.Nodata p was (λ none. cursor-kept state scanout (placed_at x y) p refl was)
