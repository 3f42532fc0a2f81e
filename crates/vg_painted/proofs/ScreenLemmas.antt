-- Screens and images, as commands change them.
use Rattle.std.proofs.Common.{◌≡◌, inl, inr, ℕ, ◌+◌, ◌*◌, ◌/◌, ◌%◌, Bool, true, false, cond, List, length, map, drop, slice_get, slice_set, Option, Some, None, refl, ap, sym, subst, ◌∙◌, arith}
use Rattle.std.proofs.lemmas.List.{length-set}
use Rattle.std.proofs.lemmas.Option.{slice_get-get_or, slice_get_within}
use Rattle.vg_formats.specs.declared.rect.Rect.{Rect}
use Rattle.vg_formats.specs.Pixels.{common_of}
use Rattle.vg_formats.specs.Shown.{shown_byte}
use Rattle.vg_cursor.specs.declared.cursor.Cursor.{Cursor}
use Rattle.vg_cursor.specs.Cursor.{cursor_of, unset}
use Rattle.vg_scanout.specs.declared.scanout.Binding.{Binding}
use Rattle.vg_scanout.specs.Scanout.{ScanoutState, Screen, after_flush, area_of, flushed_pixels, flushed_screen, fresh_screen, is_bound_to, is_flushed, screen_at, screen_of, unbound_screen}
use Rattle.vg_painted.specs.Inks.{numbers}
use Rattle.vg_painted.specs.Paint.{filled_at, flushed_at, shown_at, with_one}
use Rattle.vg_painted.specs.Painted.{IsAt}
use Rattle.vg_painted.proofs.OnceLemmas.{map-found, set-found}
use Rattle.vg_painted.proofs.PlaceLemmas.{filled-at, surface-byte, zeros-at}
use Rattle.vg_painted.proofs.ResourceLemmas.{one-itself, one-other}

-- Each byte of each screen, and of each cursor's image, is the one at its place.
abbrev pub ScreensAt : List (Option Screen) → (ℕ → ℕ → ℕ) → Type 0
ScreensAt screens at = (scanout : ℕ) (screen : Screen) → slice_get screens scanout ≡ Some (Some screen) → IsAt screen.pixels (at scanout)

abbrev pub ImagesAt : List Cursor → (ℕ → ℕ → ℕ) → Type 0
ImagesAt cursors at = (scanout : ℕ) (cursor : Cursor) → slice_get cursors scanout ≡ Some cursor → IsAt cursor.image (at scanout)

-- ---- bound and disabled

fresh-at : (binding : Binding) → IsAt (fresh_screen binding).pixels (λ place. 0)
unfolding fresh_screen
fresh-at binding = zeros-at (4 * binding.rect.width * binding.rect.height)

screen-same : (one other : Screen) → ◌≡◌ {A = Option Screen} (Some one) (Some other) → one ≡ other
screen-same one other eq = cc

pub no-screen : (one : Screen) → ◌≡◌ {A = Option Screen} (Some one) None → ⊥
no-screen one eq = cc

pub bound-screens : (scanout : ℕ) (binding : Binding) (screens : List (Option Screen)) (at : ℕ → ℕ → ℕ) → ScreensAt screens at
    → ScreensAt (slice_set screens scanout (Some (fresh_screen binding))) (with_one scanout (λ place. 0) at)
bound-screens scanout binding screens at are = λ other screen is.
    elim (set-found screens scanout (Some (fresh_screen binding)) other (Some screen) is) [
      | inl both ↦
          one-itself scanout (λ place. 0) at other screen.pixels both.0
          (subst (λ (s : Screen). IsAt s.pixels (λ place. 0)) (sym (screen-same screen (fresh_screen binding) both.1)) (fresh-at binding))
      | inr apart ↦ one-other scanout (λ place. 0) at other screen.pixels apart.0 (are other screen apart.1)
    ]

pub unbound-screens : (scanout : ℕ) (screens : List (Option Screen)) (at : ℕ → ℕ → ℕ) → ScreensAt screens at → ScreensAt (slice_set screens scanout None) at
unbound-screens scanout screens at are = λ other screen is.
    elim (set-found screens scanout None other (Some screen) is) [
      | inl both ↦ absurd (no-screen screen both.1)
      | inr apart ↦ are other screen apart.1
    ]

-- a screen that is still there is as before
pub still-there : (b : Bool) (old : Option Screen) (screen : Screen) → ◌≡◌ {A = Option Screen} (cond b None old) (Some screen) → old ≡ Some screen
still-there true old screen is = cc
still-there false old screen is = is

pub unbound-from : (id : ℕ) (screens : List (Option Screen)) (at : ℕ → ℕ → ℕ) → ScreensAt screens at → ScreensAt (map (unbound_screen id) screens) at
unbound-from id screens at are = λ scanout screen is.
    let (old, there, now) = map-found (unbound_screen id) screens scanout (Some screen) is in
    are scanout screen (there ∙ ap Some (still-there (is_bound_to id old) old screen now))

-- ---- flushed

flushed-by : (b : Bool) (entry : ℕ) (rect : Rect) (surface : List ℕ) (bytes : ℕ → ℕ) (old screen : Screen) (at : ℕ → ℕ) → IsAt surface bytes → IsAt old.pixels at
    → ◌≡◌ {A = Option Screen} (cond b (flushed_screen rect surface (Some old)) (Some old)) (Some screen)
    → IsAt screen.pixels (cond b (filled_at (area_of old.binding.rect (common_of old.binding.rect rect)) (4 * old.binding.rect.width) (length old.pixels)
    (λ i c. shown_at numbers entry old.binding.format (λ n. bytes (old.binding.offset + old.binding.stride * (common_of old.binding.rect rect).y + 4 * (common_of old.binding.rect rect).x + old.binding.stride * i + 4 * (c / 4) + n)) (c % 4)) at) at)
flushed-by true entry rect surface bytes old screen at is are now =
    let binding = old.binding in
    let part = common_of binding.rect rect in
    let first = binding.offset + binding.stride * part.y + 4 * part.x in
    let next : Screen = record old { pixels = flushed_pixels binding rect surface old.pixels } in
    subst (λ (s : Screen). IsAt s.pixels (filled_at (area_of binding.rect part) (4 * binding.rect.width) (length old.pixels)
    (λ i c. shown_at numbers entry binding.format (λ n. bytes (first + binding.stride * i + 4 * (c / 4) + n)) (c % 4)) at)) (screen-same next screen now)
    (filled-at (area_of binding.rect part) (4 * binding.rect.width) (λ i c. shown_byte binding.format (drop (first + binding.stride * i) surface) c)
    (λ i c. shown_at numbers entry binding.format (λ n. bytes (first + binding.stride * i + 4 * (c / 4) + n)) (c % 4)) old.pixels at
    (λ i c. surface-byte entry binding.format surface bytes (first + binding.stride * i) c is) are)
flushed-by false entry rect surface bytes old screen at is are now = subst (λ (s : Screen). IsAt s.pixels at) (screen-same old screen now) are

flushed-one : (entry id : ℕ) (rect : Rect) (surface : List ℕ) (bytes : ℕ → ℕ) (found : Option (Option Screen)) (old : Option Screen) (screen : Screen) (at : ℕ → ℕ) → IsAt surface bytes
    → found ≡ Some old → after_flush id rect surface old ≡ Some screen → ((was : Screen) → old ≡ Some was → IsAt was.pixels at)
    → IsAt screen.pixels (flushed_at numbers entry rect id bytes (screen_of found) at)
flushed-one entry id rect surface bytes found None screen at is there now are = absurd (no-screen screen (sym now))
flushed-one entry id rect surface bytes found (Some old) screen at is there now are =
    subst (λ (f : Option (Option Screen)). IsAt screen.pixels (flushed_at numbers entry rect id bytes (screen_of f) at)) (sym there)
    (flushed-by (is_flushed id rect (Some old)) entry rect surface bytes old screen at is (are old refl) now)

pub flushed-screens : (entry id : ℕ) (rect : Rect) (surface : List ℕ) (bytes : ℕ → ℕ) (state : ScanoutState) (at : ℕ → ℕ → ℕ) → IsAt surface bytes → ScreensAt state.screens at
    → ScreensAt (map (after_flush id rect surface) state.screens) (λ scanout. flushed_at numbers entry rect id bytes (screen_at scanout state) (at scanout))
flushed-screens entry id rect surface bytes state at is are = λ scanout screen now.
    let (old, there, after) = map-found (after_flush id rect surface) state.screens scanout (Some screen) now in
    flushed-one entry id rect surface bytes (slice_get state.screens scanout) old screen (at scanout) is there after
    (λ was same. are scanout was (there ∙ ap Some same))

-- ---- images

-- a cursor that is written over was there
pub cursor-there : (cursors : List Cursor) (scanout : ℕ) (new now : Cursor) → slice_get (slice_set cursors scanout new) scanout ≡ Some now → slice_get cursors scanout ≡ Some (cursor_of cursors scanout)
cursor-there cursors scanout new now is =
    slice_get-get_or cursors scanout unset (omega (arith, slice_get_within (slice_set cursors scanout new) scanout now is, length-set cursors scanout new))

-- it keeps its image
pub kept-images : (cursors : List Cursor) (scanout : ℕ) (new : Cursor) (at : ℕ → ℕ → ℕ) → new.image ≡ (cursor_of cursors scanout).image → ImagesAt cursors at → ImagesAt (slice_set cursors scanout new) at
kept-images cursors scanout new at same are = λ other cursor is.
    elim (set-found cursors scanout new other cursor is) [
      | inl both ↦
          let there = subst (λ (n : ℕ). slice_get (slice_set cursors scanout new) n ≡ Some cursor) both.0 is in
          let was : IsAt (cursor_of cursors scanout).image (at scanout) = are scanout (cursor_of cursors scanout) (cursor-there cursors scanout new cursor there) in
          let image : (cursor_of cursors scanout).image ≡ cursor.image = sym same ∙ ap (λ (c : Cursor). c.image) (sym both.1) in
          subst (λ (xs : List ℕ). IsAt xs (at other)) image (subst (λ (n : ℕ). IsAt (cursor_of cursors scanout).image (at n)) (sym both.0) was)
      | inr apart ↦ are other cursor apart.1
    ]

-- it gets another
pub new-images : (cursors : List Cursor) (scanout : ℕ) (new : Cursor) (image : ℕ → ℕ) (at : ℕ → ℕ → ℕ) → IsAt new.image image → ImagesAt cursors at → ImagesAt (slice_set cursors scanout new) (with_one scanout image at)
new-images cursors scanout new image at is are = λ other cursor now.
    elim (set-found cursors scanout new other cursor now) [
      | inl both ↦ one-itself scanout image at other cursor.image both.0 (subst (λ (c : Cursor). IsAt c.image image) (sym both.1) is)
      | inr apart ↦ one-other scanout image at other cursor.image apart.0 (are other cursor apart.1)
    ]
