-- Parts of a display without its bytes: what is looked up in them, and how they change.
use Rattle.std.proofs.Common.{◌≡◌, ℕ, zero, suc, ◌+◌, ◌==◌, Bool, true, false, cond, List, [], ◌∷◌, ◌++◌, length, map, replicate, get_or, Option, Some, None, refl, sym, ap, ◌∙◌}
use Rattle.std.proofs.lemmas.List.{length-replicate, map-append}
use Rattle.std.specs.Prelude.{slice_get, is_none, is_some}
use Rattle.std.specs.List.{fold, slice_set, sum_by}
use Rattle.std.specs.Option.{option_map}
use Rattle.std.specs.Ordering.{nat_cmp, match_ordering}
use Rattle.std.specs.declared.cmp.Ordering.{Ordering}
use Rattle.std.specs.declared.cmp.Ordering.TheVariants.{Less, Equal, Greater}
use Rattle.std.specs.Map.{lookup, remove_entry, set_value, values_of}
use Rattle.std.specs.BTreeMap.{insert_entry}
use Rattle.vg_formats.specs.declared.rect.Rect.{Rect}
use Rattle.vg_places.proofs.Places.{length-tabulate}
use Rattle.vg_formats.specs.Shown.{shown_byte, shown_row}
use Rattle.vg_cursor.specs.declared.cursor.Cursor.{Cursor}
use Rattle.vg_cursor.specs.Cursor.{cursor_of}
use Rattle.vg_resource.specs.declared.resource.Resource.{Resource}
use Rattle.vg_resource.specs.Resource.{height_of, pixel_bytes, width_of}
use Rattle.vg_scanout.specs.declared.scanout.Frame.{Frame}
use Rattle.vg_scanout.specs.Scanout.{Screen, after_flush, binding_of_screen, bytes_of_screen, flushed_screen, frame_bytes, frame_of, is_flushed, new_frame, new_frames, screen_of, unbound_screen}
use Rattle.vg_scanout.proofs.RowLemmas.{length-pixels}
use Rattle.vg_scanout.proofs.ScreenLemmas.{length-blended}
use Rattle.vg_formats.specs.Pixels.{common_of}
use Rattle.vg_device.specs.Step.{image_of}
use Rattle.vg_drawers.specs.Shape.{cursor_shape, frame_shape, on_values, resource_shape, screen_shape, zeros_for}

-- ---- values of entries

mapped-by : {X : Type 0} (f : X → X) (b : Bool) (x : X) (one other : Option X) → one ≡ option_map f other → cond b (Some (f x)) one ≡ option_map f (cond b (Some x) other)
mapped-by f true x one other is = refl
mapped-by f false x one other is = is

pub lookup-mapped : {X : Type 0} (f : X → X) (test : ℕ → Bool) (es : List (ℕ × X)) → lookup test (on_values f es) ≡ option_map f (lookup test es)
lookup-mapped f test [] = refl
lookup-mapped f test (e ∷ es) = mapped-by f (test e.0) e.1 (lookup test (on_values f es)) (lookup test es) (lookup-mapped f test es)

inserted-by : {X : Type 0} (f : X → X) (o : Ordering) (k : ℕ) (v : X) (e : ℕ × X) (es more : List (ℕ × X)) (more' : List (ℕ × X)) → on_values f more ≡ more'
    → on_values f (match_ordering o ((k, v) ∷ e ∷ es) ((e.0, v) ∷ es) (e ∷ more)) ≡ match_ordering o ((k, f v) ∷ (e.0, f e.1) ∷ on_values f es) ((e.0, f v) ∷ on_values f es) ((e.0, f e.1) ∷ more')
inserted-by f Less k v e es more more' is = refl
inserted-by f Equal k v e es more more' is = refl
inserted-by f Greater k v e es more more' is = ap (λ l. (e.0, f e.1) ∷ l) is

pub insert-mapped : {X : Type 0} (f : X → X) (es : List (ℕ × X)) (k : ℕ) (v : X) → on_values f (insert_entry nat_cmp es k v) ≡ insert_entry nat_cmp (on_values f es) k (f v)
insert-mapped f [] k v = refl
insert-mapped f (e ∷ es) k v = inserted-by f (nat_cmp k e.0) k v e es (insert_entry nat_cmp es k v) (insert_entry nat_cmp (on_values f es) k (f v)) (insert-mapped f es k v)

removed-by : {X : Type 0} (f : X → X) (b : Bool) (e : ℕ × X) (es more more' : List (ℕ × X)) → on_values f more ≡ more' → on_values f (cond b es (e ∷ more)) ≡ cond b (on_values f es) ((e.0, f e.1) ∷ more')
removed-by f true e es more more' is = refl
removed-by f false e es more more' is = ap (λ l. (e.0, f e.1) ∷ l) is

pub remove-mapped : {X : Type 0} (f : X → X) (test : ℕ → Bool) (es : List (ℕ × X)) → on_values f (remove_entry test es) ≡ remove_entry test (on_values f es)
remove-mapped f test [] = refl
remove-mapped f test (e ∷ es) = removed-by f (test e.0) e es (remove_entry test es) (remove_entry test (on_values f es)) (remove-mapped f test es)

set-by : {X : Type 0} (f : X → X) (b : Bool) (w : X) (e : ℕ × X) (es more more' : List (ℕ × X)) → on_values f more ≡ more'
    → on_values f (cond b ((e.0, w) ∷ es) (e ∷ more)) ≡ cond b ((e.0, f w) ∷ on_values f es) ((e.0, f e.1) ∷ more')
set-by f true w e es more more' is = refl
set-by f false w e es more more' is = ap (λ l. (e.0, f e.1) ∷ l) is

pub set-mapped : {X : Type 0} (f : X → X) (test : ℕ → Bool) (es : List (ℕ × X)) (w : X) → on_values f (set_value test es w) ≡ set_value test (on_values f es) (f w)
set-mapped f test [] w = refl
set-mapped f test (e ∷ es) w = set-by f (test e.0) w e es (set_value test es w) (set_value test (on_values f es) (f w)) (set-mapped f test es w)

-- ---- lists

pub get-mapped : {X : Type 0} (f : X → X) (xs : List X) (n : ℕ) → slice_get (map f xs) n ≡ option_map f (slice_get xs n)
get-mapped f [] n = refl
get-mapped f (x ∷ xs) zero = refl
get-mapped f (x ∷ xs) (suc n) = get-mapped f xs n

pub get_or-mapped : {X : Type 0} (f : X → X) (xs : List X) (n : ℕ) (d : X) → get_or (map f xs) n (f d) ≡ f (get_or xs n d)
get_or-mapped f [] n d = refl
get_or-mapped f (x ∷ xs) zero d = refl
get_or-mapped f (x ∷ xs) (suc n) d = get_or-mapped f xs n d

pub slice_set-mapped : {X : Type 0} (f : X → X) (xs : List X) (n : ℕ) (x : X) → map f (slice_set xs n x) ≡ slice_set (map f xs) n (f x)
slice_set-mapped f [] n x = refl
slice_set-mapped f (y ∷ ys) zero x = refl
slice_set-mapped f (y ∷ ys) (suc n) x = ap (λ l. f y ∷ l) (slice_set-mapped f ys n x)

pub map-to-same : {X Y : Type 0} (g : X → Y) (h : X → X) → ((x : X) → g (h x) ≡ g x) → (xs : List X) → map g (map h xs) ≡ map g xs
map-to-same g h same [] = refl
map-to-same g h same (x ∷ xs) = λ i. same x i ∷ map-to-same g h same xs i

sum-mapped : {X : Type 0} (f : X → ℕ) (g : X → X) → ((x : X) → f (g x) ≡ f x) → (sum : ℕ) (xs : List X) → fold (λ a x. a + f x) sum (map g xs) ≡ fold (λ a x. a + f x) sum xs
sum-mapped f g same sum [] = refl
sum-mapped f g same sum (x ∷ xs) = sum-mapped f g same (sum + f (g x)) xs ∙ ap (λ n. fold (λ a y. a + f y) (sum + n) xs) (same x)

-- ---- resources

pub width-mapped : (found : Option Resource) → width_of (option_map resource_shape found) ≡ width_of found
width-mapped (Some resource) = refl
width-mapped None = refl

pub height-mapped : (found : Option Resource) → height_of (option_map resource_shape found) ≡ height_of found
height-mapped (Some resource) = refl
height-mapped None = refl

pub some-mapped : {X : Type 0} (f : X → X) (found : Option X) → is_some (option_map f found) ≡ is_some found
some-mapped f (Some x) = refl
some-mapped f None = refl

pub none-mapped : {X : Type 0} (f : X → X) (found : Option X) → is_none (option_map f found) ≡ is_none found
none-mapped f (Some x) = refl
none-mapped f None = refl

values-mapped : (es : List (ℕ × Resource)) → values_of (on_values resource_shape es) ≡ map resource_shape (values_of es)
values-mapped [] = refl
values-mapped (e ∷ es) = ap (λ l. resource_shape e.1 ∷ l) (values-mapped es)

pub size-mapped : (resources : List (ℕ × Resource)) → pixel_bytes (on_values resource_shape resources) ≡ pixel_bytes resources
size-mapped resources =
    ap (sum_by (λ (resource : Resource). length resource.pixels)) (values-mapped resources)
    ∙ sum-mapped (λ (resource : Resource). length resource.pixels) resource_shape (λ resource. length-replicate (length resource.pixels) 0) 0 (values_of resources)

pub length-image : (found : Option Resource) → length (image_of (option_map resource_shape found)) ≡ length (image_of found)
unfolding shown_row
length-image (Some resource) =
    length-tabulate (shown_byte resource.format (zeros_for resource.pixels)) (length (zeros_for resource.pixels)) ∙ length-replicate (length resource.pixels) 0
    ∙ sym (length-tabulate (shown_byte resource.format resource.pixels) (length resource.pixels))
length-image None = refl

-- ---- screens and frames

pub binding-mapped : (found : Option (Option Screen)) → binding_of_screen (option_map screen_shape found) ≡ binding_of_screen found
binding-mapped (Some (Some screen)) = refl
binding-mapped (Some None) = refl
binding-mapped None = refl

pub screen-mapped : (found : Option (Option Screen)) → screen_of (option_map screen_shape found) ≡ screen_shape (screen_of found)
screen-mapped (Some screen) = refl
screen-mapped None = refl

pub screen-size : (screen : Option Screen) → bytes_of_screen (screen_shape screen) ≡ bytes_of_screen screen
screen-size (Some screen) = length-replicate (length screen.pixels) 0
screen-size None = refl

pub flushed-mapped : (id : ℕ) (rect : Rect) (screen : Option Screen) → is_flushed id rect (screen_shape screen) ≡ is_flushed id rect screen
flushed-mapped id rect (Some screen) = refl
flushed-mapped id rect None = refl

unbound-by : (b : Bool) (screen : Screen) → screen_shape (cond b None (Some screen)) ≡ cond b None (screen_shape (Some screen))
unbound-by true screen = refl
unbound-by false screen = refl

pub unbound-mapped : (id : ℕ) (screen : Option Screen) → screen_shape (unbound_screen id screen) ≡ unbound_screen id (screen_shape screen)
unbound-mapped id (Some screen) = unbound-by (screen.binding.resource == id) screen
unbound-mapped id None = refl

after-by : (b : Bool) (rect : Rect) (surface : List ℕ) (screen : Screen) → screen_shape (cond b (flushed_screen rect surface (Some screen)) (Some screen)) ≡ screen_shape (Some screen)
after-by true rect surface screen =
    ap (λ n. Some (record screen { pixels = replicate n 0 })) (length-pixels screen.binding (common_of screen.binding.rect rect) surface screen.pixels)
after-by false rect surface screen = refl

-- A flush leaves a screen's size and binding.
pub after-mapped : (id : ℕ) (rect : Rect) (surface : List ℕ) (screen : Option Screen) → screen_shape (after_flush id rect surface screen) ≡ screen_shape screen
after-mapped id rect surface (Some screen) = after-by (is_flushed id rect (Some screen)) rect surface screen
after-mapped id rect surface None = refl

-- A frame of a screen, without its bytes.
abbrev pub shaped_frame : ℕ → ℕ → Option Screen → List Frame
shaped_frame entry n (Some screen) = record {
  scanout = n;
  width = screen.binding.rect.width;
  height = screen.binding.rect.height;
  entry = entry;
  pixels = zeros_for screen.pixels;
} ∷ []
shaped_frame entry n None = []

pub frame-mapped : (entry : ℕ) (cursors : List Cursor) (n : ℕ) (screen : Option Screen) → map frame_shape (frame_of entry cursors n screen) ≡ shaped_frame entry n screen
frame-mapped entry cursors n (Some screen) =
    ap (λ size. record { scanout = n; width = screen.binding.rect.width; height = screen.binding.rect.height; entry = entry; pixels = replicate size 0 } ∷ [])
    (length-blended (cursor_of cursors n) screen.binding.rect.width screen.pixels)
frame-mapped entry cursors n None = refl

pub shaped-mapped : (entry n : ℕ) (screen : Option Screen) → shaped_frame entry n (screen_shape screen) ≡ shaped_frame entry n screen
shaped-mapped entry n (Some screen) =
    ap (λ size. record { scanout = n; width = screen.binding.rect.width; height = screen.binding.rect.height; entry = entry; pixels = replicate size 0 } ∷ [])
    (length-replicate (length screen.pixels) 0)
shaped-mapped entry n None = refl

abbrev pub shaped_new : ℕ → ℕ → Rect → ℕ → Option Screen → List Frame
shaped_new entry id rect n screen = cond (is_flushed id rect screen) (shaped_frame entry n screen) []

abbrev pub shaped_frames : ℕ → ℕ → Rect → ℕ → List (Option Screen) → List Frame
shaped_frames entry id rect n [] = []
shaped_frames entry id rect n (screen ∷ more) = shaped_new entry id rect n screen ++ shaped_frames entry id rect (n + 1) more

new-by : (b : Bool) (entry : ℕ) (rect : Rect) (surface : List ℕ) (cursors : List Cursor) (n : ℕ) (screen : Option Screen)
    → map frame_shape (cond b (frame_of entry cursors n (flushed_screen rect surface screen)) []) ≡ cond b (shaped_frame entry n screen) []
new-by true entry rect surface cursors n (Some screen) =
    frame-mapped entry cursors n (flushed_screen rect surface (Some screen))
    ∙ ap (λ size. record { scanout = n; width = screen.binding.rect.width; height = screen.binding.rect.height; entry = entry; pixels = replicate size 0 } ∷ [])
    (length-pixels screen.binding (common_of screen.binding.rect rect) surface screen.pixels)
new-by true entry rect surface cursors n None = refl
new-by false entry rect surface cursors n screen = refl

new_frames-mapped : (entry id : ℕ) (rect : Rect) (surface : List ℕ) (cursors : List Cursor) (n : ℕ) (screens : List (Option Screen))
    → map frame_shape (new_frames entry id rect surface cursors n screens) ≡ shaped_frames entry id rect n screens
unfolding new_frames
new_frames-mapped entry id rect surface cursors n [] = refl
new_frames-mapped entry id rect surface cursors n (screen ∷ more) =
    map-append frame_shape (new_frame entry id rect surface cursors n screen) (new_frames entry id rect surface cursors (n + 1) more)
    ∙ (λ i. new-by (is_flushed id rect screen) entry rect surface cursors n screen i ++ new_frames-mapped entry id rect surface cursors (n + 1) more i)

shaped_frames-mapped : (entry id : ℕ) (rect : Rect) (n : ℕ) (screens : List (Option Screen)) → shaped_frames entry id rect n (map screen_shape screens) ≡ shaped_frames entry id rect n screens
shaped_frames-mapped entry id rect n [] = refl
shaped_frames-mapped entry id rect n (screen ∷ more) =
    λ i. cond (flushed-mapped id rect screen i) (shaped-mapped entry n screen i) [] ++ shaped_frames-mapped entry id rect (n + 1) more i

-- The frames of a flush, by their screens without bytes.
pub new-frames-by-shape : (entry id : ℕ) (rect : Rect) (surface : List ℕ) (cursors : List Cursor) (screens : List (Option Screen))
    → map frame_shape (new_frames entry id rect surface cursors 0 screens) ≡ shaped_frames entry id rect 0 (map screen_shape screens)
new-frames-by-shape entry id rect surface cursors screens = new_frames-mapped entry id rect surface cursors 0 screens ∙ sym (shaped_frames-mapped entry id rect 0 screens)

pub frame-bytes-mapped : (frames : List Frame) → frame_bytes (map frame_shape frames) ≡ frame_bytes frames
frame-bytes-mapped frames = sum-mapped (λ (frame : Frame). length frame.pixels) frame_shape (λ frame. length-replicate (length frame.pixels) 0) 0 frames

-- ---- cursors

pub visible-mapped : (cursors : List Cursor) (n : ℕ) → (cursor_of (map cursor_shape cursors) n).visible ≡ (cursor_of cursors n).visible
visible-mapped [] n = refl
visible-mapped (cursor ∷ more) zero = refl
visible-mapped (cursor ∷ more) (suc n) = visible-mapped more n
