-- Screens, images and frames show bytes of buffers that the scanouts' clients had.
use Rattle.std.proofs.Common.{◌≡◌, ◌⊎◌, inl, inr, ⊎_elim, ℕ, zero, suc, ◌+◌, ◌*◌, ◌/◌, ◌%◌, ◌==◌, ◌&&◌, Bool, true, false, cond, List, [], ◌∷◌, ◌++◌, length, take, nat_lt, replicate, slice_get, Option, Some, None, refl, ap, sym, subst, ◌∙◌, arith}
use Rattle.std.specs.Prelude.{is_some, ℤ, pos, negsuc}
use Rattle.std.proofs.lemmas.Bool.{cases_lt, le-ltb, lt-ltb}
use Rattle.std.proofs.lemmas.List.{get_or_past}
use Rattle.std.proofs.lemmas.Option.{get_or_from_slice_get, slice_get-get_or}
use Rattle.vg_laws.proofs.Bools.{left-true, right-true}
use Rattle.vg_blob.specs.declared.blobs.Blob.{Blob}
use Rattle.vg_blob.specs.Blobs.{blob_at, entries_of}
use Rattle.vg_pages.specs.Memory.{is_among}
use Rattle.vg_cursor.specs.declared.cursor.Cursor.{Cursor}
use Rattle.vg_cursor.specs.Blended.{image_place}
use Rattle.vg_cursor.specs.Cursor.{cursor_of, unset}
use Rattle.vg_scanout.specs.declared.scanout.Frame.{Frame}
use Rattle.vg_scanout.specs.Scanout.{ScanoutState, Screen, binding_at, binding_of_screen}
use Rattle.vg_share.specs.Share.{ShareState, is_leased, pages_at}
use Rattle.vg_wire_ext.specs.declared.command.Command.{Command}
use Rattle.vg_client_holds.specs.declared.setup.Setup.{Setup}
use Rattle.vg_device.specs.ActStep.{is_in_use}
use Rattle.vg_device.specs.State.{State, counted}
use Rattle.vg_machine.specs.Entries.{Entry}
use Rattle.vg_machine.specs.Replay.{after, replay}
use Rattle.vg_painted.specs.Ink.{Painting}
use Rattle.vg_painted.specs.Inks.{From, Opaque, Tag, Zero, fetched_by, shown_by, tags}
use Rattle.vg_origin.specs.Origin.{HasPage, InEntries, IsAttached, IsFetched, state_at, tags_at}
use Rattle.vg_painted.specs.Paint.{blended_at, byte_of_entries, covered_at, framed_at, moved, over_at, painted, painting, surface}
use Rattle.vg_origin.specs.Shown.{AreFair, AreShown, IsBoundTo, IsFair, IsShown, PointsTo, Updates}
use Rattle.vg_origin.proofs.EntryLemmas.{Commands, Still, entry-shows}
use Rattle.vg_painted.proofs.FrameLemmas.{IsMade, entry-makes}
use Rattle.vg_origin.proofs.LeaseLemmas.{lease-kept}
use Rattle.vg_origin.proofs.MemoryLemmas.{Next, next-moment, of-buffer}
use Rattle.vg_painted.proofs.PaintedLemmas.{first-or-behind, moved-frames, unset-hidden}
use Rattle.vg_origin.proofs.PixelLemmas.{all-fetched, byte-from, fetched-of, kept-fetched}
use Rattle.vg_origin.proofs.ShownLemmas.{Points, Shows, clear, cleared_image, kept_image, new_image, opaque_image, shows, solid, stays}

-- ---- a scanout in use

bound-in-use : (state : State) (scanout : ℕ) (screen : Screen) → slice_get state.scanouts.screens scanout ≡ Some (Some screen) → is_in_use state scanout ≡ true
bound-in-use state scanout screen is =
    left-true (is_some (binding_at scanout state.scanouts)) (cursor_of state.cursors scanout).visible (ap (λ (found : Option (Option Screen)). is_some (binding_of_screen found)) is)

visible-in-use : (state : State) (scanout : ℕ) (cursor : Cursor) → slice_get state.cursors scanout ≡ Some cursor → cursor.visible ≡ true → is_in_use state scanout ≡ true
visible-in-use state scanout cursor is shown =
    right-true (is_some (binding_at scanout state.scanouts)) (cursor_of state.cursors scanout).visible (ap (λ (c : Cursor). c.visible) (get_or_from_slice_get state.cursors scanout cursor unset is) ∙ shown)

-- ---- tags from moment to moment

-- what a scanout in use shows it goes on to show
lift : (setup : Setup) (H : List Entry) (scanout i : ℕ) (entry : Entry) (tag : Tag) → Next setup H i entry → is_in_use (state_at setup H i) scanout ≡ true → IsShown setup H scanout i tag → IsShown setup H scanout (suc i) tag
lift setup H scanout i entry Zero next used is = tt
lift setup H scanout i entry Opaque next used is = tt
lift setup H scanout i entry (From store page fetch show) next used (first, low, key, fetch_is, show_is) =
    let now : is_leased show_is.fair.client scanout (state_at setup H (suc i)).share ≡ true =
    subst (λ (s : State). is_leased show_is.fair.client scanout s.share ≡ true) (sym next.state) (lease-kept (state_at setup H i) entry show_is.fair.client scanout used show_is.still)
    in
    (first, omega (arith, low), key, fetch_is, record { before = show_is.before; number = show_is.number; by = show_is.by; fair = show_is.fair; still = now })

-- what is shown now
shown-now : (setup : Setup) (H : List Entry) (scanout key i : ℕ) (tag : Tag) → IsFetched setup H key (suc i) tag → (fair : IsFair (state_at setup H i).share scanout key) → (state_at setup H (suc i)).share ≡ (state_at setup H i).share
    → (IsBoundTo (state_at setup H i) scanout key ⊎ ((entry : Entry) × (slice_get H i ≡ Some entry) × Updates (state_at setup H i) entry scanout key)) → IsShown setup H scanout (suc i) (shown_by (i + 1) tag)
shown-now setup H scanout key i Zero is fair same by = tt
shown-now setup H scanout key i Opaque is fair same by = absurd is
shown-now setup H scanout key i (From store page fetch show) (none, low, fetch_is) fair same by =
    let now : is_leased fair.client scanout (state_at setup H (suc i)).share ≡ true = subst (λ (share : ShareState). is_leased fair.client scanout share ≡ true) (sym same) fair.leased in
    (omega (arith, low), omega arith, key, fetch_is, record { before = i; number = refl; by = by; fair = fair; still = now })

-- a byte of what a resource shows now
surface-by : (setup : Setup) (H : List Entry) (i id at : ℕ) (blob : Option Blob) → AreFair setup H → (state_at setup H (suc i)).share ≡ (state_at setup H i).share → blob_at id (state_at setup H i).blobs ≡ blob
    → IsFetched setup H id (suc i) (surface tags (i + 1) blob id (tags_at setup H i) at)
surface-by setup H i id at None fair same is = kept-fetched setup H id i ((tags_at setup H i).pixels id at) (all-fetched setup H fair.backed i id at)
surface-by setup H i id at (Some blob) fair same is =
    let memory = (tags_at setup H i).memory in
    let byte = byte_of_entries tags memory blob.entries at in
    within (nat_lt at blob.size) (
    ⊎_elim (λ none. subst (λ (tag : Tag). IsFetched setup H id (suc i) (fetched_by (i + 1) tag)) (sym none) tt)
    (λ some.
    let place = some.0 in
    let attached : IsAttached (state_at setup H i) id place = inr (subst (λ (b : Option Blob). InEntries (entries_of b) place) (sym is) some.2) in
    let has = fair.backed i id place attached in
    let now : HasPage setup H id (place / 4096) (suc i) = subst (λ (share : ShareState). is_among (pages_at id share) (place / 4096) ≡ true) (sym same) has in
    subst (λ (tag : Tag). IsFetched setup H id (suc i) (fetched_by (i + 1) tag)) (sym some.1) (fetched-of setup H id i place (memory place) attached now (of-buffer setup H i id place has)))
    (byte-from memory blob.entries at))
  where
    within : (b : Bool) → IsFetched setup H id (suc i) (fetched_by (i + 1) (byte_of_entries tags (tags_at setup H i).memory blob.entries at))
        → IsFetched setup H id (suc i) (cond b (fetched_by (i + 1) (byte_of_entries tags (tags_at setup H i).memory blob.entries at)) Zero)
    within true fetched = fetched
    within false fetched = tt

-- ---- screens and images

-- at a moment each byte of a screen that is bound, and of an image that is shown, is shown so
record AllShown (setup : Setup) (H : List Entry) (i : ℕ) : Type 0 where
  screens : (scanout : ℕ) (screen : Screen) → slice_get (state_at setup H i).scanouts.screens scanout ≡ Some (Some screen) → (place : ℕ) → IsShown setup H scanout i ((tags_at setup H i).screens scanout place)
  images : (scanout : ℕ) (cursor : Cursor) → slice_get (state_at setup H i).cursors scanout ≡ Some cursor → cursor.visible ≡ true → (place : ℕ) → IsShown setup H scanout i ((tags_at setup H i).images scanout place)

module _ (setup : Setup) (H : List Entry) (fair : AreFair setup H) (i : ℕ) (entry : Entry) (next : Next setup H i entry) (was : AllShown setup H i) where
  screen-shown : (scanout place : ℕ) (new : Tag) → (state_at setup H (suc i)).share ≡ (state_at setup H i).share → Shows (counted (state_at setup H i)) (tags_at setup H i) scanout ((tags_at setup H i).screens scanout place) new
      → IsShown setup H scanout (suc i) new
  screen-shown scanout place new same (clear is) = subst (IsShown setup H scanout (suc i)) (sym is) tt
  screen-shown scanout place new same (solid is) = subst (IsShown setup H scanout (suc i)) (sym is) tt
  screen-shown scanout place new same (stays screen is there) =
      subst (IsShown setup H scanout (suc i)) (sym is)
      (lift setup H scanout i entry ((tags_at setup H i).screens scanout place) next (bound-in-use (state_at setup H i) scanout screen there) (was.screens scanout screen there place))
  screen-shown scanout place new same (shows id at is bound) =
      let state = state_at setup H i in
      let to : IsBoundTo state scanout id = record { screen = bound.screen; there = bound.there; resource = bound.resource } in
      let number : state.entries + 1 ≡ i + 1 = ap (λ (n : ℕ). n + 1) next.count in
      let byte : ℕ → Tag = λ n. surface tags n (blob_at id state.blobs) id (tags_at setup H i) at in
      subst (IsShown setup H scanout (suc i)) (sym (is ∙ ap (λ (n : ℕ). shown_by n (byte n)) number))
      (shown-now setup H scanout id i (byte (i + 1)) (surface-by setup H i id at (blob_at id state.blobs) fair same refl) (fair.bindings i scanout id to) same (inl to))

  image-shown : (command : Command) (scanout place : ℕ) (new : Tag) → (state_at setup H (suc i)).share ≡ (state_at setup H i).share → Commands (state_at setup H i) entry (tags_at setup H i)
      → Points (counted (state_at setup H i)) command (tags_at setup H i) scanout ((tags_at setup H i).images scanout place) new → ((key : ℕ) → PointsTo (counted (state_at setup H i)) command scanout key → Updates (state_at setup H i) entry scanout key)
      → IsShown setup H scanout (suc i) new
  image-shown command scanout place new same commands (cleared_image is) updates = subst (IsShown setup H scanout (suc i)) (sym is) tt
  image-shown command scanout place new same commands (opaque_image is) updates = subst (IsShown setup H scanout (suc i)) (sym is) tt
  image-shown command scanout place new same commands (kept_image cursor is there visible) updates =
      subst (IsShown setup H scanout (suc i)) (sym is)
      (lift setup H scanout i entry ((tags_at setup H i).images scanout place) next (visible-in-use (state_at setup H i) scanout cursor there visible) (was.images scanout cursor there visible place))
  image-shown command scanout place new same commands (new_image id at is to) updates =
      let state = state_at setup H i in
      let number : state.entries + 1 ≡ i + 1 = ap (λ (n : ℕ). n + 1) next.count in
      let byte : Tag = (tags_at setup H i).pixels id at in
      let update = updates id to in
      subst (IsShown setup H scanout (suc i)) (sym (is ∙ ap (λ (n : ℕ). shown_by n byte) number))
      (shown-now setup H scanout id i byte (kept-fetched setup H id i byte (all-fetched setup H fair.backed i id at)) (fair.updates i entry next.there scanout id update) same (inr (entry, next.there, update)))

  entry-shown : Still (state_at setup H i) (after (state_at setup H i) entry) (tags_at setup H i) (painted tags (state_at setup H i) entry (tags_at setup H i)) ⊎ Commands (state_at setup H i) entry (tags_at setup H i)
      → AllShown setup H (suc i)
  entry-shown (inl still) =
      let state = state_at setup H i in
      let scanouts : (state_at setup H (suc i)).scanouts ≡ state.scanouts = ap (λ (s : State). s.scanouts) next.state ∙ still.scanouts in
      let cursors : (state_at setup H (suc i)).cursors ≡ state.cursors = ap (λ (s : State). s.cursors) next.state ∙ still.cursors in
      let screens : (tags_at setup H (suc i)).screens ≡ (tags_at setup H i).screens = ap (λ (q : Painting Tag (List Tag)). q.screens) next.tags ∙ still.screens in
      let images : (tags_at setup H (suc i)).images ≡ (tags_at setup H i).images = ap (λ (q : Painting Tag (List Tag)). q.images) next.tags ∙ still.images in
      record {
        screens = λ scanout screen is place.
            let there : slice_get state.scanouts.screens scanout ≡ Some (Some screen) = subst (λ (x : ScanoutState). slice_get x.screens scanout ≡ Some (Some screen)) scanouts is in
            subst (λ (f : ℕ → ℕ → Tag). IsShown setup H scanout (suc i) (f scanout place)) (sym screens)
            (lift setup H scanout i entry ((tags_at setup H i).screens scanout place) next (bound-in-use state scanout screen there) (was.screens scanout screen there place));
        images = λ scanout cursor is visible place.
            let there : slice_get state.cursors scanout ≡ Some cursor = subst (λ (x : List Cursor). slice_get x scanout ≡ Some cursor) cursors is in
            subst (λ (f : ℕ → ℕ → Tag). IsShown setup H scanout (suc i) (f scanout place)) (sym images)
            (lift setup H scanout i entry ((tags_at setup H i).images scanout place) next (visible-in-use state scanout cursor there visible) (was.images scanout cursor there visible place));
      }
  entry-shown (inr commands) =
      let state = state_at setup H i in
      let q : Painting Tag (List Tag) = painted tags state entry (tags_at setup H i) in
      let share : (state_at setup H (suc i)).share ≡ state.share = ap (λ (s : State). s.share) next.state ∙ commands.share in
      record {
        screens = λ scanout screen is place.
            let there : slice_get (after state entry).scanouts.screens scanout ≡ Some (Some screen) = subst (λ (s : State). slice_get s.scanouts.screens scanout ≡ Some (Some screen)) next.state is in
            subst (λ (r : Painting Tag (List Tag)). IsShown setup H scanout (suc i) (r.screens scanout place)) (sym next.tags)
            (screen-shown scanout place (q.screens scanout place) share (commands.shows.screens scanout screen there place));
        images = λ scanout cursor is visible place.
            let there : slice_get (after state entry).cursors scanout ≡ Some cursor = subst (λ (s : State). slice_get s.cursors scanout ≡ Some cursor) next.state is in
            subst (λ (r : Painting Tag (List Tag)). IsShown setup H scanout (suc i) (r.images scanout place)) (sym next.tags)
            (image-shown commands.command scanout place (q.images scanout place) share commands (commands.shows.images scanout cursor there visible place) (λ key points. commands.updates scanout key points));
      }

no-screen : (n scanout : ℕ) (screen : Screen) → slice_get {X = Option Screen} (replicate n None) scanout ≡ Some (Some screen) → ⊥
no-screen zero scanout screen is = cc
no-screen (suc n) zero screen is = cc
no-screen (suc n) (suc scanout) screen is = no-screen n scanout screen is

none-visible : (n scanout : ℕ) (cursor : Cursor) → slice_get (replicate n unset) scanout ≡ Some cursor → cursor.visible ≡ true → ⊥
none-visible zero scanout cursor is visible = cc
none-visible (suc n) zero cursor is visible = clash (sym unset-hidden ∙ ap visible_of is ∙ visible)
  where
    visible_of : Option Cursor → Bool
    visible_of (Some c) = c.visible
    visible_of None = false

    clash : false ≡ true → ⊥
    clash eq = cc
none-visible (suc n) (suc scanout) cursor is visible = none-visible n scanout cursor is visible

-- nothing new at the end of a history
lift-end : (setup : Setup) (H : List Entry) (scanout i : ℕ) (tag : Tag) → take (suc i) H ≡ take i H → IsShown setup H scanout i tag → IsShown setup H scanout (suc i) tag
lift-end setup H scanout i Zero same is = tt
lift-end setup H scanout i Opaque same is = tt
lift-end setup H scanout i (From store page fetch show) same (first, low, key, fetch_is, show_is) =
    let now : is_leased show_is.fair.client scanout (state_at setup H (suc i)).share ≡ true =
    subst (λ (es : List Entry). is_leased show_is.fair.client scanout (replay setup es).share ≡ true) (sym same) show_is.still
    in
    (first, omega (arith, low), key, fetch_is, record { before = show_is.before; number = show_is.number; by = show_is.by; fair = show_is.fair; still = now })

all-shown : (setup : Setup) (H : List Entry) → AreFair setup H → (i : ℕ) → AllShown setup H i
all-shown setup H fair zero = record {
  screens = λ scanout screen is place. tt;
  images = λ scanout cursor is visible place. tt;
}
all-shown setup H fair (suc i) =
    let was = all-shown setup H fair i in
    elim (next-moment setup H i) [
      | inl same ↦
          record {
            screens = λ scanout screen is place.
                let there = subst (λ (es : List Entry). slice_get (replay setup es).scanouts.screens scanout ≡ Some (Some screen)) same is in
                subst (λ (es : List Entry). IsShown setup H scanout (suc i) ((painting tags setup es).screens scanout place)) (sym same)
                (lift-end setup H scanout i ((tags_at setup H i).screens scanout place) same (was.screens scanout screen there place));
            images = λ scanout cursor is visible place.
                let there = subst (λ (es : List Entry). slice_get (replay setup es).cursors scanout ≡ Some cursor) same is in
                subst (λ (es : List Entry). IsShown setup H scanout (suc i) ((painting tags setup es).images scanout place)) (sym same)
                (lift-end setup H scanout i ((tags_at setup H i).images scanout place) same (was.images scanout cursor there visible place));
          }
      | inr (entry, next) ↦ entry-shown setup H fair i entry next was (entry-shows (state_at setup H i) entry (tags_at setup H i))
    ]

-- ---- frames

module _ (setup : Setup) (H : List Entry) (scanout e : ℕ) where
  over-shown : (b : Bool) (screen image a : Tag) → IsShown setup H scanout e screen → IsShown setup H scanout e image → IsShown setup H scanout e a → AreShown setup H scanout e (cond b (Opaque ∷ []) (screen ∷ image ∷ a ∷ []))
  over-shown true screen image a one two three = (tt, tt)
  over-shown false screen image a one two three = (one, (two, (three, tt)))

  either-shown : (b : Bool) (one other : List Tag) → AreShown setup H scanout e one → AreShown setup H scanout e other → AreShown setup H scanout e (cond b one other)
  either-shown true one other first second = first
  either-shown false one other first second = second

  covered-shown : (z w : ℤ) (c : ℕ) (image : ℕ → Tag) (screen : Tag) → ((place : ℕ) → IsShown setup H scanout e (image place)) → IsShown setup H scanout e screen → AreShown setup H scanout e (covered_at tags z w c image screen)
  covered-shown (pos x) (pos y) c image screen images is =
      let at = 4 * (64 * y + x) + c in
      let a = 4 * (64 * y + x) + 3 in
      either-shown (nat_lt x 64 && nat_lt y 64) (over_at tags x y c image screen) (screen ∷ []) (over-shown (c == 3) screen (image at) (image a) is (images at) (images a)) (is, tt)
  covered-shown (pos x) (negsuc n) c image screen images is = (is, tt)
  covered-shown (negsuc n) w c image screen images is = (is, tt)

  blended-by : (b : Bool) (z w : ℤ) (c : ℕ) (image : ℕ → Tag) (screen : Tag) → (b ≡ true → (place : ℕ) → IsShown setup H scanout e (image place)) → IsShown setup H scanout e screen
      → AreShown setup H scanout e (cond b (covered_at tags z w c image screen) (screen ∷ []))
  blended-by true z w c image screen images is = covered-shown z w c image screen (images refl) is
  blended-by false z w c image screen images is = (is, tt)

-- a cursor that is shown is there
cursor-found : (cursors : List Cursor) (scanout : ℕ) → (cursor_of cursors scanout).visible ≡ true → slice_get cursors scanout ≡ Some (cursor_of cursors scanout)
cursor-found cursors scanout visible =
    elim (cases_lt scanout (length cursors)) [
      | inl there ↦ slice_get-get_or cursors scanout unset there
      | inr past ↦ clash (sym unset-hidden ∙ sym (ap (λ (c : Cursor). c.visible) (get_or_past cursors scanout unset past)) ∙ visible)
    ]
  where
    clash : {P : Type 0} → false ≡ true → P
    clash eq = cc

-- a frame that is made at a moment
made-shown : (setup : Setup) (H : List Entry) (i e : ℕ) (frame : Frame) → AllShown setup H i → IsMade e (state_at setup H i).cursors (state_at setup H i).scanouts.screens frame → (place : ℕ)
    → AreShown setup H frame.scanout i (blended_at tags (cursor_of (state_at setup H i).cursors frame.scanout) frame.width ((tags_at setup H i).screens frame.scanout) ((tags_at setup H i).images frame.scanout) place)
made-shown setup H i e frame shown made place =
    let scanout = frame.scanout in
    let cursor = cursor_of (state_at setup H i).cursors scanout in
    let width = frame.width in
    blended-by setup H scanout i cursor.visible (image_place cursor.x cursor.hot_x (place % (4 * width) / 4)) (image_place cursor.y cursor.hot_y (place / (4 * width))) (place % 4)
    ((tags_at setup H i).images scanout) ((tags_at setup H i).screens scanout place)
    (λ visible k. shown.images scanout cursor (cursor-found (state_at setup H i).cursors scanout visible) visible k)
    (shown.screens scanout made.screen made.there place)

pub frames-shown : (setup : Setup) (H : List Entry) → AreFair setup H → (i n : ℕ) (frame : Frame) → slice_get (state_at setup H i).scanouts.frames n ≡ Some frame → (place : ℕ)
    → AreShown setup H frame.scanout frame.entry ((tags_at setup H i).frames n place)
frames-shown setup H fair zero n frame is place = cc
frames-shown setup H fair (suc i) n frame is place =
    elim (next-moment setup H i) [
      | inl same ↦
          let there = subst (λ (es : List Entry). slice_get (replay setup es).scanouts.frames n ≡ Some frame) same is in
          subst (λ (es : List Entry). AreShown setup H frame.scanout frame.entry ((painting tags setup es).frames n place)) (sym same) (frames-shown setup H fair i n frame there place)
      | inr (entry, next) ↦
          let state = state_at setup H i in
          let now = state_at setup H (suc i) in
          let p = tags_at setup H i in
          let q : Painting Tag (List Tag) = painted tags state entry p in
          let old = state.scanouts.frames in
          let makes = entry-makes state entry in
          let m : Painting Tag (List Tag) = moved tags (counted state) entry p in
          let later : slice_get (after state entry).scanouts.frames n ≡ Some frame = subst (λ (s : State). slice_get s.scanouts.frames n ≡ Some frame) next.state is in
          let here : slice_get (old ++ makes.more) n ≡ Some frame = ap (λ (fs : List Frame). slice_get fs n) (sym makes.frames) ∙ later in
          let row : Option Frame → ℕ → List Tag = λ found. framed_at tags (after state entry) found m (m.frames n) in
          subst (λ (r : Painting Tag (List Tag)). AreShown setup H frame.scanout frame.entry (r.frames n place)) (sym next.tags)
          (⊎_elim (λ first.
          let same : q.frames n place ≡ p.frames n place =
          ap (λ b. cond b (m.frames n) (row (slice_get (after state entry).scanouts.frames n)) place) (lt-ltb n (length old) first.0)
          ∙ ap (λ (f : ℕ → ℕ → List Tag). f n place) (moved-frames tags (counted state) entry p)
          in
          subst (AreShown setup H frame.scanout frame.entry) (sym same) (frames-shown setup H fair i n frame first.1 place))
          (λ behind.
          let made = makes.made behind.1 frame behind.2 in
          let same : q.frames n place ≡ row (Some frame) place =
          ap (λ b. cond b (m.frames n) (row (slice_get (after state entry).scanouts.frames n)) place) (le-ltb n (length old) behind.0)
          ∙ ap (λ (found : Option Frame). row found place) later
          in
          let number : frame.entry ≡ suc i = let first = made.number in let count = next.count in omega (arith, first, count) in
          let there : IsMade (state.entries + 1) now.cursors now.scanouts.screens frame = subst (λ (s : State). IsMade (state.entries + 1) s.cursors s.scanouts.screens frame) (sym next.state) made in
          let shown = made-shown setup H (suc i) (state.entries + 1) frame (all-shown setup H fair (suc i)) there place in
          let moved_on = subst (λ (x : State × Painting Tag (List Tag)). AreShown setup H frame.scanout (suc i)
          (blended_at tags (cursor_of x.0.cursors frame.scanout) frame.width (x.1.screens frame.scanout) (x.1.images frame.scanout) place)) (λ k. (next.state k, next.tags k)) shown in
          subst (λ (e : ℕ). AreShown setup H frame.scanout e (q.frames n place)) (sym number) (subst (AreShown setup H frame.scanout (suc i)) (sym same) moved_on))
          (first-or-behind old makes.more n frame here))
    ]
