-- What a command does to the tags of screens and images.
use Rattle.std.proofs.Common.{rules, ◌≡◌, ⊎_elim, ℕ, ◌+◌, ◌-◌, ◌*◌, ◌/◌, ◌%◌, ◌==◌, ◌&&◌, Bool, true, false, cond, List, [], ◌∷◌, length, nat_le, nat_lt, slice_get, slice_set, slice_index, Option, Some, None, refl, ap, sym, subst, ◌∙◌}
use Rattle.std.specs.Prelude.{is_none, is_some, not, ℤ}
use Rattle.std.proofs.lemmas.Bool.{eqb-true, eqb-false}
use Rattle.vg_formats.specs.declared.format.Format.{Format}
use Rattle.vg_formats.specs.declared.rect.Rect.{Rect}
use Rattle.vg_formats.specs.Formats.{format_of, shown_bytes}
use Rattle.vg_formats.specs.Pixels.{are_meeting, common_of}
use Rattle.vg_places.specs.Rectangles.{is_inside}
use Rattle.vg_refusals.specs.Refusals.{refusal_of}
use Rattle.vg_resource.specs.declared.resource.Resource.{Resource}
use Rattle.vg_resource.specs.Resource.{resource_at, with_blank}
use Rattle.vg_blob.specs.Blobs.{blob_at}
use Rattle.vg_cursor.specs.declared.cursor.Cursor.{Cursor}
use Rattle.vg_cursor.specs.Cursor.{cursor_of, hidden_at, placed_at, shown_as}
use Rattle.vg_scanout.specs.declared.scanout.Binding.{Binding}
use Rattle.vg_scanout.specs.Scanout as scanouts
use Rattle.vg_scanout.specs.Scanout.{Screen, after_flush, area_of, fresh_screen, is_bound_to, is_flushed, is_too_large, screen_at, screen_of, unbound, unbound_screen}
use Rattle.vg_wire.specs.declared.two_d.Command2d.{Command2d}
use Rattle.vg_wire.specs.declared.two_d.Command2d.TheVariants.{DisplayInfo, Create2d, Unref, SetScanout, Flush, Transfer, Attach, Detach}
use Rattle.vg_wire_ext.specs.declared.command.Command.{Command}
use Rattle.vg_wire_ext.specs.declared.command.Command.TheVariants.{TwoD, CapsetInfo, Capset, Edid, AssignUuid, CreateBlob, SetScanoutBlob, CtxCreate, CtxDestroy, CtxAttach, CtxDetach, Submit, UpdateCursor, MoveCursor}
use Rattle.vg_wire_ext.specs.declared.response.Response.{Response}
use Rattle.vg_wire_ext.specs.declared.response.Response.TheVariants as responses
use Rattle.vg_device.specs.declared.blobs.Layout.{Layout}
use Rattle.vg_device.specs.Answered.{answered_with}
use Rattle.vg_device.specs.BlobStep.{blob_binding, set_scanout_blob_refusals, set_scanout_blob_step, with_scanout_blob, with_shown_blob}
use Rattle.vg_device.specs.Receive.{receive_refusal, with_received}
use Rattle.vg_device.specs.State.{State, has_resource, is_blob}
use Rattle.vg_device.specs.Step.{binding_of, command_step, create_2d_refusals, cursor_change, cursor_refusals, flush_refusals, flushed_by, image_of, move_refusals, set_scanout_refusals, surface_of, transfer_2d_step, two_d_step, unref_refusals, unreferenced, with_cursor, with_scanout, with_shown}
use Rattle.vg_painted.specs.Ink.{Painting}
use Rattle.vg_painted.specs.Inks.{Opaque, Tag, Zero, shown_by, tags}
use Rattle.vg_painted.specs.Paint.{bound, commanded, commanded_2d, filled_at, flushed_at, image_at, received, shown_at, surface, unless, with_one}
use Rattle.vg_origin.specs.Shown.{IsBoundTo, PointsTo}
use Rattle.vg_painted.proofs.OnceLemmas.{map-found, set-found}
use Rattle.vg_painted.proofs.ScreenLemmas.{cursor-there, still-there, no-screen}
use Rattle.vg_painted.proofs.StandLemmas.{set-blob-some, set-some}

-- A byte of a screen is cleared, opaque, as before on a scanout that was bound, or shown from the resource to which it was bound.
pub data Shows (state : State) (p : Painting Tag (List Tag)) (scanout : ℕ) (old new : Tag) : Type 0 where
  clear : new ≡ Zero → Shows state p scanout old new
  solid : new ≡ Opaque → Shows state p scanout old new
  stays : (screen : Screen) → new ≡ old → slice_get state.scanouts.screens scanout ≡ Some (Some screen) → Shows state p scanout old new
  shows : (id at : ℕ) → new ≡ shown_by state.entries (surface tags state.entries (blob_at id state.blobs) id p at) → IsBoundTo state scanout id → Shows state p scanout old new

-- One of an image is cleared, opaque, as before on a cursor that was shown, or shown from the resource that the command points to.
pub data Points (state : State) (command : Command) (p : Painting Tag (List Tag)) (scanout : ℕ) (old new : Tag) : Type 0 where
  cleared_image : new ≡ Zero → Points state command p scanout old new
  opaque_image : new ≡ Opaque → Points state command p scanout old new
  kept_image : (cursor : Cursor) → new ≡ old → slice_get state.cursors scanout ≡ Some cursor → cursor.visible ≡ true → Points state command p scanout old new
  new_image : (id at : ℕ) → new ≡ shown_by state.entries (p.pixels id at) → PointsTo state command scanout id → Points state command p scanout old new

-- so of each byte of screens that are bound, and of images that are shown, afterwards
pub record AllShow (state : State) (command : Command) (next : State) (p q : Painting Tag (List Tag)) : Type 0 where
  pub screens : (scanout : ℕ) (screen : Screen) → slice_get next.scanouts.screens scanout ≡ Some (Some screen) → (place : ℕ) → Shows state p scanout (p.screens scanout place) (q.screens scanout place)
  pub images : (scanout : ℕ) (cursor : Cursor) → slice_get next.cursors scanout ≡ Some cursor → cursor.visible ≡ true → (place : ℕ) → Points state command p scanout (p.images scanout place) (q.images scanout place)

-- ---- what stays

same-screens : (state : State) (p q : Painting Tag (List Tag)) → q.screens ≡ p.screens → (scanout : ℕ) (screen : Screen) → slice_get state.scanouts.screens scanout ≡ Some (Some screen) → (place : ℕ)
    → Shows state p scanout (p.screens scanout place) (q.screens scanout place)
same-screens state p q are scanout screen is place = stays screen (ap (λ (f : ℕ → ℕ → Tag). f scanout place) are) is

same-images : (state : State) (command : Command) (p q : Painting Tag (List Tag)) → q.images ≡ p.images → (scanout : ℕ) (cursor : Cursor) → slice_get state.cursors scanout ≡ Some cursor → cursor.visible ≡ true → (place : ℕ)
    → Points state command p scanout (p.images scanout place) (q.images scanout place)
same-images state command p q are scanout cursor is shown place = kept_image cursor (ap (λ (f : ℕ → ℕ → Tag). f scanout place) are) is shown

pub itself : (state : State) (command : Command) (p : Painting Tag (List Tag)) → AllShow state command state p p
itself state command p = record { screens = same-screens state p p refl; images = same-images state command p p refl }

record HasSame (old new : State) : Type 0 where
  screens : new.scanouts.screens ≡ old.scanouts.screens
  cursors : new.cursors ≡ old.cursors

same : (state : State) (command : Command) (next : State) (p : Painting Tag (List Tag)) → HasSame state next → AllShow state command next p p
same state command next p is = record {
  screens = λ scanout screen there. same-screens state p p refl scanout screen (subst (λ (xs : List (Option Screen)). slice_get xs scanout ≡ Some (Some screen)) is.screens there);
  images = λ scanout cursor there shown. same-images state command p p refl scanout cursor (subst (λ (xs : List Cursor). slice_get xs scanout ≡ Some cursor) is.cursors there) shown;
}

answered-show : (refusal : Option ℕ) (state : State) (command : Command) (next : State) (response : Response) (p q : Painting Tag (List Tag)) → (refusal ≡ None → AllShow state command next p q)
    → AllShow state command (answered_with refusal state next response).0 p (unless refusal p q)
answered-show (Some code) state command next response p q would = itself state command p
answered-show None state command next response p q would = would refl

answered-same : (refusal : Option ℕ) (state : State) (command : Command) (next : State) (response : Response) (p : Painting Tag (List Tag)) → HasSame state next
    → AllShow state command (answered_with refusal state next response).0 p p
answered-same (Some code) state command next response p is = itself state command p
answered-same None state command next response p is = same state command next p is

answered-kept : (refusal : Option ℕ) (state : State) (command : Command) (next : State) (response : Response) (p : Painting Tag (List Tag)) → AllShow state command next p p
    → AllShow state command (answered_with refusal state next response).0 p p
answered-kept (Some code) state command next response p would = itself state command p
answered-kept None state command next response p would = would

-- ---- resources

create-shows : (state : State) (command : Command) (id width height : ℕ) (format : Option Format) (p : Painting Tag (List Tag))
    → AllShow state command (record state { resources = with_blank id width height format state.resources }) p (record p { pixels = with_one id (λ place. Zero) p.pixels })
create-shows state command id width height format p = record { screens = same-screens state p p refl; images = same-images state command p p refl }

unref-shows : (state : State) (command : Command) (id : ℕ) (p : Painting Tag (List Tag)) → AllShow state command (unreferenced state id) p p
unref-shows state command id p = record {
  screens = λ scanout screen is.
      let (old, there, now) = map-found (unbound_screen id) state.scanouts.screens scanout (Some screen) is in
      same-screens state p p refl scanout screen (there ∙ ap Some (still-there (is_bound_to id old) old screen now));
  images = same-images state command p p refl;
}

received-shows : (state : State) (command : Command) (rect : Rect) (offset id : ℕ) (found : Option Resource) (p : Painting Tag (List Tag))
    → AllShow state command (record state { resources = with_received state.memory id rect offset state.backings found state.resources }) p (received tags state rect offset id found p)
received-shows state command rect offset id None p = record { screens = same-screens state p p refl; images = same-images state command p p refl }
received-shows state command rect offset id (Some resource) p =
    record { screens = same-screens state p (received tags state rect offset id (Some resource) p) refl; images = same-images state command p (received tags state rect offset id (Some resource) p) refl }

chosen-shows : (b : Bool) (state : State) (command : Command) (step : State × Response) (p q : Painting Tag (List Tag)) → AllShow state command step.0 p q → AllShow state command (cond b (state, responses.Nodata) step).0 p (cond b p q)
chosen-shows true state command step p q would = itself state command p
chosen-shows false state command step p q would = would

transfer-shows : (state : State) (command : Command) (rect : Rect) (offset id : ℕ) (p : Painting Tag (List Tag)) → AllShow state command (two_d_step state (Transfer rect offset id)).0 p (commanded_2d tags state (Transfer rect offset id) p)
transfer-shows state command rect offset id p =
    let found = resource_at id state.resources in
    let refusal = receive_refusal id rect offset state.backings found in
    let next : State = record state { resources = with_received state.memory id rect offset state.backings found state.resources } in
    let q : Painting Tag (List Tag) = received tags state rect offset id found p in
    chosen-shows (is_blob state id) state command (transfer_2d_step state rect offset id) p (unless refusal p q)
    (answered-show refusal state command next responses.Nodata p q (λ none. received-shows state command rect offset id found p))

-- ---- scanouts

unbound-shows : (state : State) (command : Command) (scanout : ℕ) (p : Painting Tag (List Tag)) → AllShow state command (record state { scanouts = unbound scanout state.scanouts }) p p
unbound-shows state command scanout p = record {
  screens = λ other screen is.
      ⊎_elim (λ both. absurd (no-screen screen both.1)) (λ apart. same-screens state p p refl other screen apart.1) (set-found state.scanouts.screens scanout None other (Some screen) is);
  images = same-images state command p p refl;
}

one-shows : (state : State) (p : Painting Tag (List Tag)) (scanout other place : ℕ) (b : Bool) → (b ≡ false → (screen : Screen) × (slice_get state.scanouts.screens other ≡ Some (Some screen)))
    → Shows state p other (p.screens other place) (cond b Zero (p.screens other place))
one-shows state p scanout other place true was = clear refl
one-shows state p scanout other place false was = let (screen, is) = was refl in stays screen refl is

bound-shows : (state : State) (command : Command) (scanout : ℕ) (binding : Binding) (p : Painting Tag (List Tag))
    → AllShow state command (record state { scanouts = scanouts.bound scanout binding state.scanouts }) p (record p { screens = with_one scanout (λ place. Zero) p.screens })
bound-shows state command scanout binding p = record {
  screens = λ other screen is place.
      one-shows state p scanout other place (other == scanout)
      (λ apart. ⊎_elim (λ both. absurd (eqb-false other scanout apart both.0)) (λ was. (screen, was.1)) (set-found state.scanouts.screens scanout (Some (fresh_screen binding)) other (Some screen) is));
  images = same-images state command p p refl;
}

set-shows : (b : Bool) (state : State) (command : Command) (rect : Rect) (scanout id : ℕ) (found : Option Resource) (p : Painting Tag (List Tag)) → (b ≡ false → found ≡ None → ⊥)
    → AllShow state command (cond b (record state { scanouts = unbound scanout state.scanouts }) (with_shown state rect scanout id found)) p (cond b p (record p { screens = with_one scanout (λ place. Zero) p.screens }))
set-shows true state command rect scanout id found p some = unbound-shows state command scanout p
set-shows false state command rect scanout id None p some = absurd (some refl refl)
set-shows false state command rect scanout id (Some resource) p some = bound-shows state command scanout (binding_of id rect resource) p

set-blob-shows : (b : Bool) (state : State) (command : Command) (rect : Rect) (scanout id : ℕ) (layout : Layout) (format : Option Format) (p : Painting Tag (List Tag)) → (b ≡ false → format ≡ None → ⊥)
    → AllShow state command (cond b (record state { scanouts = unbound scanout state.scanouts }) (with_shown_blob state rect scanout id layout format)) p (cond b p (record p { screens = with_one scanout (λ place. Zero) p.screens }))
set-blob-shows true state command rect scanout id layout format p some = unbound-shows state command scanout p
set-blob-shows false state command rect scanout id layout None p some = absurd (some refl refl)
set-blob-shows false state command rect scanout id layout (Some format) p some = bound-shows state command scanout (blob_binding id rect layout format) p

clash : {P : Type 0} → false ≡ true → P
clash eq = cc

some-found : {X : Type 0} (found : Option X) → is_none found ≡ false → found ≡ None → ⊥
some-found None is none = cc
some-found (Some x) is none = cc

some-format : (format : Option Format) → is_some format ≡ true → format ≡ None → ⊥
some-format None is none = cc
some-format (Some x) is none = cc

set_scanout-shows : (state : State) (command : Command) (rect : Rect) (scanout id : ℕ) (p : Painting Tag (List Tag))
    → AllShow state command (two_d_step state (SetScanout rect scanout id)).0 p (commanded_2d tags state (SetScanout rect scanout id) p)
set_scanout-shows state command rect scanout id p =
    let found = resource_at id state.resources in
    answered-show (refusal_of (set_scanout_refusals state rect scanout id)) state command (with_scanout state rect scanout id) responses.Nodata p (bound tags scanout id p)
    (λ none. set-shows (id == 0) state command rect scanout id found p (λ other. some-found found
    (set-some (id == 0) (nat_le (length state.setup.displays) scanout, 0x1202) (is_blob state id, 0x1205) rect found none other)))

set_scanout_blob-shows : (state : State) (command : Command) (rect : Rect) (scanout id : ℕ) (layout : Layout) (p : Painting Tag (List Tag))
    → AllShow state command (set_scanout_blob_step state rect scanout id layout).0 p (unless (refusal_of (set_scanout_blob_refusals state rect scanout id layout)) p (bound tags scanout id p))
set_scanout_blob-shows state command rect scanout id layout p =
    answered-show (refusal_of (set_scanout_blob_refusals state rect scanout id layout)) state command (with_scanout_blob state rect scanout id layout) responses.Nodata p (bound tags scanout id p)
    (λ none. set-blob-shows (id == 0) state command rect scanout id layout (format_of layout.format) p (λ other. some-format (format_of layout.format)
    (set-blob-some (id == 0) (nat_le (length state.setup.displays) scanout, 0x1202) (not (has_resource state id), 0x1203) rect layout (blob_at id state.blobs) (is_too_large rect, 0x1201) none other)))

-- ---- flushes

-- a byte of a pixel that is shown
from-shows : (b : Bool) (state : State) (p : Painting Tag (List Tag)) (scanout id at : ℕ) (old : Tag) → IsBoundTo state scanout id
    → Shows state p scanout old (cond b Opaque (shown_by state.entries (surface tags state.entries (blob_at id state.blobs) id p at)))
from-shows true state p scanout id at old is = solid refl
from-shows false state p scanout id at old is = shows id at refl is

filled-shows : (t : Bool) (state : State) (p : Painting Tag (List Tag)) (scanout : ℕ) (screen : Screen) (old new : Tag) → slice_get state.scanouts.screens scanout ≡ Some (Some screen) → Shows state p scanout old new
    → Shows state p scanout old (cond t new old)
filled-shows true state p scanout screen old new there is = is
filled-shows false state p scanout screen old new there is = stays screen refl there

row-shows : (b : Bool) (state : State) (p : Painting Tag (List Tag)) (scanout : ℕ) (screen : Screen) (f g : ℕ → Tag) (place : ℕ) → slice_get state.scanouts.screens scanout ≡ Some (Some screen)
    → (b ≡ true → Shows state p scanout (g place) (f place)) → Shows state p scanout (g place) (cond b f g place)
row-shows true state p scanout screen f g place there is = is refl
row-shows false state p scanout screen f g place there is = stays screen refl there

and-left : (a b : Bool) → (a && b) ≡ true → a ≡ true
and-left true b is = refl
and-left false b is = cc

flushed-shows : (state : State) (rect : Rect) (id : ℕ) (p : Painting Tag (List Tag)) (scanout place : ℕ) (found : Option (Option Screen)) (old : Option Screen) (screen : Screen)
    → slice_get state.scanouts.screens scanout ≡ found → found ≡ Some old → after_flush id rect (surface_of state id) old ≡ Some screen
    → Shows state p scanout (p.screens scanout place) (flushed_at tags state.entries rect id (surface tags state.entries (blob_at id state.blobs) id p) (screen_of found) (p.screens scanout) place)
flushed-shows state rect id p scanout place found None screen at is now = absurd (no-screen screen (sym now))
flushed-shows state rect id p scanout place found (Some old) screen at is now =
    let there : slice_get state.scanouts.screens scanout ≡ Some (Some old) = at ∙ is in
    let bytes : ℕ → Tag = surface tags state.entries (blob_at id state.blobs) id p in
    let binding = old.binding in
    let part = common_of binding.rect rect in
    let first = binding.offset + binding.stride * part.y + 4 * part.x in
    let row = 4 * binding.rect.width in
    let area = area_of binding.rect part in
    let byte : ℕ → ℕ → Tag = λ i c. shown_at tags state.entries binding.format (λ n. bytes (first + binding.stride * i + 4 * (c / 4) + n)) (c % 4) in
    let i = place / row - area.row in
    let c = place % row - area.column in
    let from = slice_index (shown_bytes binding.format (0 ∷ 1 ∷ 2 ∷ 3 ∷ [])) (c % 4) in
    subst (λ (f : Option (Option Screen)). Shows state p scanout (p.screens scanout place) (flushed_at tags state.entries rect id bytes (screen_of f) (p.screens scanout) place)) (sym is)
    (row-shows (is_flushed id rect (Some old)) state p scanout old (filled_at area row (length old.pixels) byte (p.screens scanout)) (p.screens scanout) place there
    (λ flushes.
    let to : IsBoundTo state scanout id = record { screen = old; there = there; resource = eqb-true old.binding.resource id (and-left (old.binding.resource == id) (are_meeting binding.rect rect) flushes) } in
    filled-shows (nat_lt place (length old.pixels) && is_inside area (place / row) (place % row)) state p scanout old (p.screens scanout place) (byte i c) there
    (from-shows (from == 255) state p scanout id (first + binding.stride * i + 4 * (c / 4) + from) (p.screens scanout place) to)))

flush-shows : (state : State) (command : Command) (rect : Rect) (id : ℕ) (p : Painting Tag (List Tag)) → AllShow state command (two_d_step state (Flush rect id)).0 p (commanded_2d tags state (Flush rect id) p)
flush-shows state command rect id p =
    let bytes : ℕ → Tag = surface tags state.entries (blob_at id state.blobs) id p in
    let q : Painting Tag (List Tag) = record p { screens = λ scanout. flushed_at tags state.entries rect id bytes (screen_at scanout state.scanouts) (p.screens scanout) } in
    answered-show (refusal_of (flush_refusals state rect id)) state command (record state { scanouts = flushed_by state rect id }) responses.Nodata p q
    (λ none. record {
      screens = λ scanout screen is place.
          let (old, there, now) = map-found (after_flush id rect (surface_of state id)) state.scanouts.screens scanout (Some screen) is in
          flushed-shows state rect id p scanout place (slice_get state.scanouts.screens scanout) old screen refl there now;
      images = same-images state command p p refl;
    })

-- ---- cursors

image-byte : (b : Bool) (state : State) (command : Command) (p : Painting Tag (List Tag)) (scanout id at : ℕ) (old : Tag) → PointsTo state command scanout id
    → Points state command p scanout old (cond b Opaque (shown_by state.entries (p.pixels id at)))
image-byte true state command p scanout id at old to = opaque_image refl
image-byte false state command p scanout id at old to = new_image id at refl to

image-within : (t : Bool) (state : State) (command : Command) (p : Painting Tag (List Tag)) (scanout : ℕ) (old new : Tag) → Points state command p scanout old new → Points state command p scanout old (cond t new Zero)
image-within true state command p scanout old new is = is
image-within false state command p scanout old new is = cleared_image refl

image-shows : (state : State) (command : Command) (p : Painting Tag (List Tag)) (scanout id : ℕ) (found : Option Resource) (place : ℕ) (old : Tag) → PointsTo state command scanout id
    → Points state command p scanout old (image_at tags state.entries found (p.pixels id) place)
image-shows state command p scanout id None place old to = cleared_image refl
image-shows state command p scanout id (Some resource) place old to =
    let from = slice_index (shown_bytes resource.format (0 ∷ 1 ∷ 2 ∷ 3 ∷ [])) (place % 4) in
    image-within (nat_lt place (length resource.pixels)) state command p scanout old (shown_at tags state.entries resource.format (λ n. p.pixels id (4 * (place / 4) + n)) (place % 4))
    (image-byte (from == 255) state command p scanout id (4 * (place / 4) + from) old to)

one-points : (b : Bool) (state : State) (command : Command) (p : Painting Tag (List Tag)) (scanout other place : ℕ) (new : Tag) → (b ≡ true → Points state command p other (p.images other place) new)
    → (b ≡ false → Points state command p other (p.images other place) (p.images other place)) → Points state command p other (p.images other place) (cond b new (p.images other place))
one-points true state command p scanout other place new yes_new no_new = yes_new refl
one-points false state command p scanout other place new yes_new no_new = no_new refl

kept-points : (state : State) (command : Command) (scanout : ℕ) (change : Cursor → Cursor) (p : Painting Tag (List Tag)) → ((change (cursor_of state.cursors scanout)).visible ≡ true → (cursor_of state.cursors scanout).visible ≡ true)
    → AllShow state command (with_cursor state scanout change) p p
kept-points state command scanout change p same = record {
  screens = same-screens state p p refl;
  images = λ other cursor is shown place.
      let new = change (cursor_of state.cursors scanout) in
      ⊎_elim (λ both.
      let there = subst (λ (n : ℕ). slice_get (slice_set state.cursors scanout new) n ≡ Some cursor) both.0 is in
      let was = same (ap (λ (c : Cursor). c.visible) (sym both.1) ∙ shown) in
      let before : slice_get state.cursors other ≡ Some (cursor_of state.cursors scanout) = subst (λ (n : ℕ). slice_get state.cursors n ≡ Some (cursor_of state.cursors scanout)) (sym both.0) (cursor-there state.cursors scanout new cursor there) in
      kept_image (cursor_of state.cursors scanout) refl before was)
      (λ apart. kept_image cursor refl apart.1 shown) (set-found state.cursors scanout new other cursor is);
}

update-shows : (b : Bool) (state : State) (command : Command) (scanout id : ℕ) (x y : ℤ) (hot_x hot_y : ℕ) (p : Painting Tag (List Tag)) → (b ≡ false → PointsTo state command scanout id)
    → AllShow state command (with_cursor state scanout (cond b (hidden_at x y) (shown_as (image_of (resource_at id state.resources)) x y hot_x hot_y))) p
    (cond b p (record p { images = with_one scanout (image_at tags state.entries (resource_at id state.resources) (p.pixels id)) p.images }))
update-shows true state command scanout id x y hot_x hot_y p to = kept-points state command scanout (hidden_at x y) p clash
update-shows false state command scanout id x y hot_x hot_y p to =
    let found = resource_at id state.resources in
    let new : Cursor = shown_as (image_of found) x y hot_x hot_y (cursor_of state.cursors scanout) in
    record {
      screens = same-screens state p p refl;
      images = λ other cursor is shown place.
          one-points (other == scanout) state command p scanout other place (image_at tags state.entries found (p.pixels id) place)
          (λ same. subst (λ (n : ℕ). Points state command p n (p.images n place) (image_at tags state.entries found (p.pixels id) place)) (sym (eqb-true other scanout same))
          (image-shows state command p scanout id found place (p.images scanout place) (to refl)))
          (λ apart. ⊎_elim (λ both. absurd (eqb-false other scanout apart both.0)) (λ was. kept_image cursor refl was.1 shown) (set-found state.cursors scanout new other cursor is));
    }

-- ---- commands

two_d-shows : (state : State) (whole : Command) (command : Command2d) (p : Painting Tag (List Tag)) → AllShow state whole (two_d_step state command).0 p (commanded_2d tags state command p)
two_d-shows state whole DisplayInfo p = itself state whole p
two_d-shows state whole (Create2d id format width height) p =
    answered-show (refusal_of (create_2d_refusals state id format width height)) state whole (record state { resources = with_blank id width height (format_of format) state.resources }) responses.Nodata
    p (record p { pixels = with_one id (λ place. Zero) p.pixels }) (λ none. create-shows state whole id width height (format_of format) p)
two_d-shows state whole (Unref id) p = answered-kept (refusal_of (unref_refusals state id)) state whole (unreferenced state id) responses.Nodata p (unref-shows state whole id p)
two_d-shows state whole (SetScanout rect scanout id) p = set_scanout-shows state whole rect scanout id p
two_d-shows state whole (Flush rect id) p = flush-shows state whole rect id p
two_d-shows state whole (Transfer rect offset id) p = transfer-shows state whole rect offset id p
two_d-shows state whole (Attach id parts) p = search (rules, answered-same)
two_d-shows state whole (Detach id) p = search (rules, answered-same)

pub command-shows : (state : State) (context : ℕ) (command : Command) (p : Painting Tag (List Tag)) → AllShow state command (command_step state context command).0 p (commanded tags state command p)
command-shows state context (TwoD command) p = two_d-shows state (TwoD command) command p
command-shows state context (CapsetInfo index) p = itself state _ p
command-shows state context (Capset id version) p = itself state _ p
command-shows state context (Edid scanout) p = search (rules, answered-same)
command-shows state context (AssignUuid id) p = search (rules, answered-same)
command-shows state context (CreateBlob id mem flags blob_id size parts) p = search (rules, answered-same)
command-shows state context (SetScanoutBlob rect scanout id width height format stride offset) p =
    set_scanout_blob-shows state _ rect scanout id (record { width = width; height = height; format = format; stride = stride; offset = offset }) p
command-shows state context (CtxCreate nlen context_init name) p = search (rules, answered-same)
command-shows state context CtxDestroy p = search (rules, answered-same)
command-shows state context (CtxAttach id) p = search (rules, answered-same)
command-shows state context (CtxDetach id) p = search (rules, answered-same)
command-shows state context (Submit stream) p = search (rules, answered-same)
command-shows state context (UpdateCursor scanout x y id hot_x hot_y) p =
    let command : Command = UpdateCursor scanout x y id hot_x hot_y in
    answered-show (refusal_of (cursor_refusals state scanout id hot_x hot_y)) state command (with_cursor state scanout (cursor_change state x y id hot_x hot_y)) responses.Nodata
    p (cond (id == 0) p (record p { images = with_one scanout (image_at tags state.entries (resource_at id state.resources) (p.pixels id)) p.images }))
    (λ none. update-shows (id == 0) state command scanout id x y hot_x hot_y p
    (λ other. record { x = x; y = y; hot_x = hot_x; hot_y = hot_y; is = refl; some = eqb-false id 0 other; accepted = none }))
command-shows state context (MoveCursor scanout x y) p =
    answered-kept (refusal_of (move_refusals state scanout)) state (MoveCursor scanout x y) (with_cursor state scanout (placed_at x y)) responses.Nodata p
    (kept-points state (MoveCursor scanout x y) scanout (placed_at x y) p (λ shown. shown))
