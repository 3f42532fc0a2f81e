-- What a flush shows and a transfer copies, pixel by pixel.
use Rattle.std.proofs.Common.{◌≡◌, ◌≢◌, ℕ, ◌+◌, ◌-◌, ◌*◌, ◌%◌, ◌<◌, ◌≤◌, ◌==◌, ◌&&◌, ◌||◌, Bool, true, false, not, cond, inl, inr, List, [], ◌∷◌, length, map, min, max, get_or, slice_get, slice_index, take, drop, Option, Some, None, Result, Ok, sym, ap, ◌∙◌, refl, subst, arith}
use Rattle.std.specs.Prelude.{IfSome, is_none, is_some}
use Rattle.std.specs.List.{All}
use Rattle.std.specs.Option.{option_map}
use Rattle.std.specs.Map.{values_of}
use Rattle.std.specs.Ordering.{nat_cmp}
use Rattle.std.specs.BTreeMap.{is_at}
use Rattle.std.proofs.lemmas.Bool.Decides.{nat_tests}
use Rattle.std.proofs.lemmas.List.{drop-drop}
use Rattle.std.proofs.lemmas.Nat.{div-mul-add, mod-mul-add}
use Rattle.std.proofs.lemmas.Option.{slice_get-map}
use Rattle.std.proofs.lemmas.Map.Views.{IfSome-lookup_from_All}
use Rattle.vg_laws.proofs.Lists.{holds-at}
use Rattle.vg_laws.proofs.Options.{some-same}
use Rattle.vg_places.proofs.PixelLemmas.{pixel-in, pixel-out}
use Rattle.vg_formats.specs.declared.entry.MemEntry.{MemEntry}
use Rattle.vg_formats.specs.declared.format.Format.{Format}
use Rattle.vg_formats.specs.declared.rect.Rect.{Rect}
use Rattle.vg_formats.specs.Formats.{shown_bytes}
use Rattle.vg_formats.specs.Pixels.{Covers, are_meeting, common_of, is_inside}
use Rattle.vg_formats.specs.Shown.{pixel_at, shown_byte}
use Rattle.vg_formats.proofs.ShownLemmas.{length-shown_bytes}
use Rattle.vg_pages.specs.Memory.{Memory}
use Rattle.vg_wire_ext.specs.declared.response.Response.TheVariants as responses
use Rattle.vg_resource.specs.declared.resource.Resource.{Resource}
use Rattle.vg_scanout.specs.Scanout.{Screen}
use Rattle.vg_transfer.specs.Pixels.{CopiesRect}
use Rattle.vg_transfer.specs.Backings.{transfer, transfer_refusals, entries_at, transferred}
use Rattle.vg_transfer.proofs.CopyLemmas.{none-holds}
use Rattle.vg_backing.specs.Backing.{backing_bytes}
use Rattle.vg_scanout.specs.Fits.{IsScreen}
use Rattle.vg_resource.specs.Resource.{IsWhole, height_of, resource_at, width_of}
use Rattle.vg_device.specs.Pixels.{CopiesEachPixel, CopiesPixels, ShowsEachPixel, ShowsOnEach, ShowsScreen, pixel_in, pixel_in_blob}
use Rattle.vg_places.specs.Pixels.{pixel_of}
use Rattle.vg_device.specs.Receive.{receive_refusal, with_received}
use Rattle.vg_refusals.specs.Refusals.{refusal_of, unless_refused}
use Rattle.vg_scanout.specs.Scanout.{after_flush, are_too_many, area_of, flushed_pixels, flushed_screen, is_flushed}
use Rattle.vg_blob.specs.declared.blobs.Blob.{Blob}
use Rattle.vg_blob.specs.Blobs.{blob_at, blob_bytes}
use Rattle.vg_scanout.specs.declared.scanout.Binding.{Binding}
use Rattle.vg_device.specs.Answered.{answered_by}
use Rattle.vg_device.specs.State.{IsConsistent, IsShowing, ShowsEither, ShowsResource, State, counted, has_resource, is_blob}
use Rattle.vg_device.specs.Step.{flush_refusals, flush_step, flushed_by, pixels_of, surface_in, surface_of, transfer_2d_step, transfer_step}
use Rattle.vg_device.proofs.MapLemmas.{set_itself, set_other}
use Rattle.vg_device.proofs.ShowingLemmas.{shown-found}

-- a command that was answered OK_NODATA was not refused
accepted : (refusal : Option ℕ) (state next : State) → (answered_by refusal state next).1 ≡ responses.Nodata → (refusal ≡ None) × ((answered_by refusal state next).0 ≡ next)
accepted (Some code) state next done = cc
accepted None state next done = (refl, refl)

there-is : {X : Type 0} (found : Option X) → is_none found ≡ false → (x : X) × (found ≡ Some x)
there-is (Some x) some = (x, refl)
there-is None some = cc

-- byte c of a shown pixel, of pixels that start at a place
byte-shown : (format : Format) (surface : List ℕ) (from i c : ℕ) → c < 4 → shown_byte format (drop from surface) (4 * i + c) ≡ get_or (shown_bytes format (take 4 (drop (from + 4 * i) surface))) c 0
byte-shown format surface from i c below =
    let at : 4 * i + c ≡ i * 4 + c = omega arith in
    ap (shown_byte format (drop from surface)) at
    ∙ ap (λ n. slice_index (shown_bytes format (pixel_at (drop from surface) n)) ((i * 4 + c) % 4)) (div-mul-add i 4 c below)
    ∙ ap (slice_index (shown_bytes format (pixel_at (drop from surface) i))) (mod-mul-add i 4 c below)
    ∙ ap (λ pixels. get_or (shown_bytes format (take 4 pixels)) c 0) (drop-drop (4 * i) from surface)

-- the ends of what two ranges have in common, counted from the first one's start
abbrev skipped : ℕ → ℕ → ℕ
skipped a b = max a b - a

abbrev common : ℕ → ℕ → ℕ → ℕ → ℕ
common a w b v = min (a + w) (b + v) - max a b

-- place x of the first range, where the second has it
record IsCommon (a w b v x : ℕ) : Type 0 where
  reached : x ≡ skipped a b + (x - skipped a b)
  point : max a b + (x - skipped a b) ≡ a + x
  below : x - skipped a b < common a w b v
  wide : skipped a b + common a w b v ≤ w

is-common : (a w b v x : ℕ) → x < w → b ≤ a + x → a + x < b + v → IsCommon a w b v x
is-common a w b v x within low high = record { reached = omega arith; point = omega arith; below = omega arith; wide = omega arith }

common-covers : (a w b v x : ℕ) → skipped a b ≤ x → x < skipped a b + common a w b v → (b ≤ a + x) × (a + x < b + v)
common-covers a w b v x low high = (omega arith, omega arith)

common-wide : (a w b v : ℕ) → 0 < common a w b v → skipped a b + common a w b v ≤ w
common-wide a w b v some = omega arith

-- where a pixel of the part stands in the surface
point-at : (offset stride px py i j x y : ℕ) → px + i ≡ x → py + j ≡ y → offset + stride * py + 4 * px + stride * j + 4 * i ≡ offset + stride * y + 4 * x
point-at offset stride px py i j x y column row = rw (← column, ← row) (grind arith)

-- pixel (u, v) of these bytes as a binding shows it
abbrev shown-in : Binding → List ℕ → ℕ → ℕ → List ℕ
shown-in binding surface u v = shown_bytes binding.format (take 4 (drop (binding.offset + binding.stride * v + 4 * u) surface))

shows-covered : (rect : Rect) (surface : List ℕ) (screen : Screen) (x y : ℕ) → IsScreen (Some screen)
    → x < screen.binding.rect.width → y < screen.binding.rect.height → Covers rect (screen.binding.rect.x + x) (screen.binding.rect.y + y)
    → pixel_of (flushed_pixels screen.binding rect surface screen.pixels) screen.binding.rect.width x y
    ≡ shown-in screen.binding surface (screen.binding.rect.x + x) (screen.binding.rect.y + y)
shows-covered rect surface screen x y whole across down covers =
    let binding = screen.binding in
    let all = binding.rect in
    let part = common_of all rect in
    let h : IsCommon all.x all.width rect.x rect.width x = is-common all.x all.width rect.x rect.width x across covers.0 covers.1 in
    let v : IsCommon all.y all.height rect.y rect.height y = is-common all.y all.height rect.y rect.height y down covers.2 covers.3 in
    let i = x - skipped all.x rect.x in
    let j = y - skipped all.y rect.y in
    let from = binding.offset + binding.stride * part.y + 4 * part.x in
    let value : ℕ → ℕ → ℕ = λ i c. shown_byte binding.format (drop (from + binding.stride * i) surface) c in
    let place = point-at binding.offset binding.stride part.x part.y i j (all.x + x) (all.y + y) h.point v.point in
    let pixel = take 4 (drop (binding.offset + binding.stride * (all.y + y) + 4 * (all.x + x)) surface) in
    pixel-in (area_of all part) all.width all.height value screen.pixels (shown_bytes binding.format pixel) (skipped all.x rect.x) i j x y
    whole.0 (length-shown_bytes binding.format pixel) refl (omega (arith, h.wide)) h.reached v.reached across down (omega (arith, h.below)) v.below
    (λ c below.
    byte-shown binding.format surface (from + binding.stride * j) i c below
    ∙ ap (λ n. get_or (shown_bytes binding.format (take 4 (drop n surface))) c 0) place)

-- a pixel of a 2D resource stands where a binding to it has it
row-of : (width x y : ℕ) → 0 + 4 * width * y + 4 * x ≡ 4 * (width * y + x)
row-of width x y = grind arith

shown-2d : (binding : Binding) (resource : Resource) (u v : ℕ) → ShowsResource binding resource → shown-in binding resource.pixels u v ≡ pixel_in resource u v
shown-2d binding resource u v shows =
    ap (λ format. shown_bytes format (take 4 (drop (binding.offset + binding.stride * v + 4 * u) resource.pixels))) shows.format
    ∙ ap (λ offset. shown_bytes resource.format (take 4 (drop (offset + binding.stride * v + 4 * u) resource.pixels))) shows.offset
    ∙ ap (λ stride. shown_bytes resource.format (take 4 (drop (0 + stride * v + 4 * u) resource.pixels))) shows.stride
    ∙ ap (λ n. shown_bytes resource.format (take 4 (drop n resource.pixels))) (row-of resource.width u v)

shows-else : (rect : Rect) (surface : List ℕ) (screen : Screen) (x y : ℕ) → IsScreen (Some screen)
    → x < screen.binding.rect.width → y < screen.binding.rect.height → ¬ Covers rect (screen.binding.rect.x + x) (screen.binding.rect.y + y)
    → pixel_of (flushed_pixels screen.binding rect surface screen.pixels) screen.binding.rect.width x y ≡ pixel_of screen.pixels screen.binding.rect.width x y
shows-else rect surface screen x y whole across down apart =
    let binding = screen.binding in
    let all = binding.rect in
    let part = common_of all rect in
    let from = binding.offset + binding.stride * part.y + 4 * part.x in
    let value : ℕ → ℕ → ℕ = λ i c. shown_byte binding.format (drop (from + binding.stride * i) surface) c in
    pixel-out (area_of all part) all.width all.height value screen.pixels x y whole.0 across down
    (λ i c k row column four down_is across_is.
    let h = common-covers all.x all.width rect.x rect.width x (omega (arith, across_is, four)) (omega (arith, across_is, column)) in
    let v = common-covers all.y all.height rect.y rect.height y (omega (arith, down_is)) (omega (arith, down_is, row)) in
    apart (h.0, h.1, v.0, v.1))
    (λ some. let wide = common-wide all.x all.width rect.x rect.width (omega (arith, some)) in omega (arith, wide))

-- a point of both rectangles shows that they meet
covers-meets : (whole rect : Rect) (x y : ℕ) → x < whole.width → y < whole.height → Covers rect (whole.x + x) (whole.y + y) → are_meeting whole rect ≡ true
covers-meets whole rect x y across down covers = grind (arith, nat_tests)

bound-by : (id : ℕ) (rect : Rect) (screen : Screen) → is_flushed id rect (Some screen) ≡ true → screen.binding.resource ≡ id
bound-by id rect screen is = grind (arith, nat_tests)

same-number : (n m : ℕ) → n ≡ m → (n == m) ≡ true
same-number n m same = grind (arith, nat_tests)

apart-by : (id : ℕ) (rect : Rect) (screen : Screen) (x y : ℕ) → is_flushed id rect (Some screen) ≡ false → screen.binding.resource ≡ id
    → x < screen.binding.rect.width → y < screen.binding.rect.height → Covers rect (screen.binding.rect.x + x) (screen.binding.rect.y + y) → ⊥
apart-by id rect screen x y is same across down covers =
    let bound = same-number screen.binding.resource id same in
    let meets = covers-meets screen.binding.rect rect x y across down covers in
    apart-tests _ _ bound meets is
  where
    apart-tests : (a b : Bool) → a ≡ true → b ≡ true → (a && b) ≡ false → ⊥
    apart-tests true true one other both = cc
    apart-tests true false one other both = cc
    apart-tests false b one other both = cc

shows-screen : (id : ℕ) (rect : Rect) (surface : List ℕ) (value : ℕ → ℕ → List ℕ) (screen : Screen) (b : Bool) → is_flushed id rect (Some screen) ≡ b → IsScreen (Some screen)
    → (screen.binding.resource ≡ id → (u v : ℕ) → shown-in screen.binding surface u v ≡ value u v)
    → (next : Screen) × (cond b (flushed_screen rect surface (Some screen)) (Some screen) ≡ Some next) × ShowsScreen id rect value screen next
shows-screen id rect surface value screen true is whole shows =
    let bound : screen.binding.resource ≡ id = bound-by id rect screen is in (
      record screen { pixels = flushed_pixels screen.binding rect surface screen.pixels },
      refl,
      record {
        binding = refl;
        shown = λ same x y across down. (
          λ covers. shows-covered rect surface screen x y whole across down covers ∙ shows same (screen.binding.rect.x + x) (screen.binding.rect.y + y),
          shows-else rect surface screen x y whole across down,
        );
        other = λ other. absurd (other bound);
      },
    )
shows-screen id rect surface value screen false is whole shows = (
  screen,
  refl,
  record {
    binding = refl;
    shown = λ same x y across down. (λ covers. absurd (apart-by id rect screen x y is same across down covers), λ apart. refl);
    other = λ other. refl;
  },
)

-- what a flush is refused for, once there is the resource
abbrev later-flush : State → Rect → ℕ → List (Bool × ℕ)
later-flush state rect id =
    (not (is_blob state id) && not (is_inside rect (width_of (resource_at id state.resources)) (height_of (resource_at id state.resources))), 0x1205)
    ∷ (are_too_many (flushed_by state rect id).frames, 0x1201)
    ∷ []

after-at : (id : ℕ) (rect : Rect) (surface : List ℕ) (screens : List (Option Screen)) (scanout : ℕ) (screen next : Screen) → slice_get screens scanout ≡ Some (Some screen)
    → after_flush id rect surface (Some screen) ≡ Some next → slice_get (map (after_flush id rect surface) screens) scanout ≡ Some (Some next)
after-at id rect surface screens scanout screen next at after =
    slice_get-map (after_flush id rect surface) screens scanout ∙ ap (option_map (after_flush id rect surface)) at ∙ ap Some after

-- a screen that is bound to a 2D resource shows it
shows-either : (binding : Binding) (blob : Option Blob) (found : Option Resource) (resource : Resource) → blob ≡ None → found ≡ Some resource → ShowsEither binding blob found → ShowsResource binding resource
shows-either binding None found resource none is shows =
    let (one, there, shown) = shown-found binding found shows in
    subst (ShowsResource binding) (some-same (sym there ∙ is)) shown
shows-either binding (Some blob) found resource none is shows = cc

shows-its : (blobs : List (ℕ × Blob)) (resources : List (ℕ × Resource)) (id : ℕ) (resource : Resource) (screen : Screen) → blob_at id blobs ≡ None → resource_at id resources ≡ Some resource
    → IsShowing blobs resources (Some screen) → screen.binding.resource ≡ id → ShowsResource screen.binding resource
shows-its blobs resources id resource screen none is showing same =
    shows-either screen.binding (blob_at screen.binding.resource blobs) (resource_at screen.binding.resource resources) resource
    (ap (λ n. blob_at n blobs) same ∙ none) (ap (λ n. resource_at n resources) same ∙ is) showing

-- each screen after a flush of these bytes, of which the pixels are these
shows-on-each : (rect : Rect) (id : ℕ) (surface : List ℕ) (value : Binding → ℕ → ℕ → List ℕ) (state : State) → All IsScreen state.scanouts.screens → surface_of state id ≡ surface
    → ((scanout : ℕ) (screen : Screen) → slice_get state.scanouts.screens scanout ≡ Some (Some screen) → screen.binding.resource ≡ id
    → (u v : ℕ) → shown-in screen.binding surface u v ≡ value screen.binding u v)
    → ShowsOnEach rect id value state (record state { scanouts = flushed_by state rect id })
shows-on-each rect id surface value state screens is shows scanout screen at =
    let whole = holds-at IsScreen state.scanouts.screens scanout (Some screen) screens at in
    let (next, after, shown) = shows-screen id rect surface (value screen.binding) screen (is_flushed id rect (Some screen)) refl whole (shows scanout screen at) in (
      next,
      after-at id rect (surface_of state id) state.scanouts.screens scanout screen next at (ap (λ bytes. after_flush id rect bytes (Some screen)) is ∙ after),
      shown,
    )

shows-by : (rect : Rect) (id : ℕ) (state : State) (blob : Option Blob) (found : Option Resource) → blob_at id state.blobs ≡ blob → resource_at id state.resources ≡ found
    → IsConsistent state → All IsScreen state.scanouts.screens → (is_some blob || is_some found) ≡ true
    → ShowsEachPixel rect id state (record state { scanouts = flushed_by state rect id })
shows-by rect id state (Some blob) found is there known screens some =
    inl (blob, is, shows-on-each rect id (blob_bytes state.memory blob) (pixel_in_blob state.memory blob) state screens (ap (λ b. surface_in state.memory b (resource_at id state.resources)) is) (λ scanout screen at same u v. refl))
shows-by rect id state None (Some resource) is there known screens some =
    inr (
      resource,
      is,
      there,
      shows-on-each rect id resource.pixels (λ binding. pixel_in resource) state screens
          (ap (λ b. surface_in state.memory b (resource_at id state.resources)) is ∙ ap pixels_of there)
          (λ scanout screen at same u v.
          let showing = holds-at (IsShowing state.blobs state.resources) state.scanouts.screens scanout (Some screen) known.showing at in
          shown-2d screen.binding resource u v (shows-its state.blobs state.resources id resource screen is there showing same)),
    )
shows-by rect id state None None is there known screens some = cc

-- a display keeps what it keeps when an entry is counted
pub consistent-counted : (state : State) → IsConsistent state → IsConsistent (counted state)
consistent-counted state was = record {
  setup = was.setup;
  pages = was.pages;
  backings = was.backings;
  blobs = was.blobs;
  screens = was.screens;
  showing = was.showing;
  leases = was.leases;
  share = was.share;
  reserved = omega (arith, was.reserved);
  exports = omega (arith, was.exports);
  given = omega (arith, was.given);
  cursors = was.cursors;
  plugs = was.plugs;
}

pub shows-each-pixel : (rect : Rect) (id : ℕ) (state : State) → IsConsistent state → All IsScreen state.scanouts.screens
    → (flush_step state rect id).1 ≡ responses.Nodata → ShowsEachPixel rect id state (flush_step state rect id).0
shows-each-pixel rect id state known screens done =
    let next : State = record state { scanouts = flushed_by state rect id } in
    let went = accepted (refusal_of (flush_refusals state rect id)) state next done in
    let some = none-holds (not (has_resource state id)) 0x1203 (later-flush state rect id) went.0 in
    subst (λ (now : State). ShowsEachPixel rect id state now) (sym went.1)
    (shows-by rect id state (blob_at id state.blobs) (resource_at id state.resources) refl refl known screens (is-not (has_resource state id) some.0))
  where
    is-not : (b : Bool) → not b ≡ false → b ≡ true
    is-not true none = refl
    is-not false none = cc

-- a transfer that isn't refused copies
transfer-went : (memory : Memory) (id : ℕ) (rect : Rect) (offset width height : ℕ) (backings : List (ℕ × List MemEntry)) (pixels : List ℕ)
    → refusal_of (transfer_refusals true id rect offset width height backings) ≡ None
    → transfer true memory id rect offset width height backings pixels ≡ (transferred memory (entries_at id backings) rect offset width pixels, Ok tt)
unfolding transfer
transfer-went memory id rect offset width height backings pixels none =
    ap (λ refusal. unless_refused refusal pixels (transferred memory (entries_at id backings) rect offset width pixels)) none

-- each transfer from these backings copies its rectangle
abbrev pub CopyEach : Memory → List (ℕ × List MemEntry) → Type 0
CopyEach memory backings =
    (id : ℕ) (rect : Rect) (offset width height : ℕ) (pixels : List ℕ) → length pixels ≡ 4 * width * height
    → ◌≡◌ {A = Result (Unit {0}) ℕ} (transfer true memory id rect offset width height backings pixels).1 (Ok tt)
    → CopiesRect rect offset width height (backing_bytes memory (entries_at id backings)) pixels (transfer true memory id rect offset width height backings pixels).0

copies-found : (rect : Rect) (offset id : ℕ) (memory : Memory) (resources : List (ℕ × Resource)) (backings : List (ℕ × List MemEntry)) (found : Option Resource)
    → resource_at id resources ≡ found → receive_refusal id rect offset backings found ≡ None → IfSome found IsWhole → CopyEach memory backings
    → (resource : Resource) × (next : Resource) × (resource_at id resources ≡ Some resource) × (resource_at id (with_received memory id rect offset backings found resources) ≡ Some next)
    × CopiesPixels rect offset (backing_bytes memory (entries_at id backings)) resource next
    × ((other : ℕ) → other ≢ id → resource_at other (with_received memory id rect offset backings found resources) ≡ resource_at other resources)
copies-found rect offset id memory resources backings None is went whole copy = cc
copies-found rect offset id memory resources backings (Some resource) is went whole copy =
    let entries = entries_at id backings in
    let bytes = backing_bytes memory entries in
    let next : Resource = record resource { pixels = transferred memory entries rect offset resource.width resource.pixels } in
    let done = transfer-went memory id rect offset resource.width resource.height backings resource.pixels went in
    let copies = copy id rect offset resource.width resource.height resource.pixels whole.0 (ap (λ (pair : List ℕ × Result (Unit {0}) ℕ). pair.1) done) in
    let now : CopiesRect rect offset resource.width resource.height bytes resource.pixels next.pixels =
    subst (λ (pair : List ℕ × Result (Unit {0}) ℕ). CopiesRect rect offset resource.width resource.height bytes resource.pixels pair.0) done copies
    in (
      resource,
      next,
      is,
      set_itself id resource next resources is,
      record { width = refl; height = refl; format = refl; copied = now.copied; kept = now.kept },
      λ other apart. set_other other id next apart resources,
    )

copies-2d : (rect : Rect) (offset id : ℕ) (state : State) → All IsWhole (values_of state.resources) → CopyEach state.memory state.backings
    → (transfer_2d_step state rect offset id).1 ≡ responses.Nodata → CopiesEachPixel rect offset id state (transfer_2d_step state rect offset id).0
copies-2d rect offset id state whole copy done =
    let found = resource_at id state.resources in
    let next : State = record state { resources = with_received state.memory id rect offset state.backings found state.resources } in
    let went = accepted (receive_refusal id rect offset state.backings found) state next done in
    let one = IfSome-lookup_from_All IsWhole (is_at (nat_cmp id)) state.resources whole in
    subst (λ (now : State). CopiesEachPixel rect offset id state now) (sym went.1)
    (inr (copies-found rect offset id state.memory state.resources state.backings found refl went.0 one copy))

copies-by : (rect : Rect) (offset id : ℕ) (state : State) (blob : Option Blob) → blob_at id state.blobs ≡ blob → All IsWhole (values_of state.resources) → CopyEach state.memory state.backings
    → (cond (is_some blob) (state, responses.Nodata) (transfer_2d_step state rect offset id)).1 ≡ responses.Nodata
    → CopiesEachPixel rect offset id state (cond (is_some blob) (state, responses.Nodata) (transfer_2d_step state rect offset id)).0
copies-by rect offset id state (Some blob) is whole copy done = inl (blob, is, refl)
copies-by rect offset id state None is whole copy done = copies-2d rect offset id state whole copy done

pub copies-each-pixel : (rect : Rect) (offset id : ℕ) (state : State) → All IsWhole (values_of state.resources) → CopyEach state.memory state.backings
    → (transfer_step state rect offset id).1 ≡ responses.Nodata → CopiesEachPixel rect offset id state (transfer_step state rect offset id).0
copies-each-pixel rect offset id state whole copy done = copies-by rect offset id state (blob_at id state.blobs) refl whole copy done
