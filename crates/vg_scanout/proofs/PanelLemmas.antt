-- What is kept of the scanouts, and the screens that it stands for.
use Rattle.std.proofs.Common.{◌≡◌, inl, inr, ℕ, zero, suc, ◌+◌, ◌-◌, ◌*◌, ◌%◌, ◌<◌, ◌≤◌, Bool, true, false, cond, List, [], ◌∷◌, ◌++◌, length, map, take, drop, get_or, slice_set, replicate, Option, Some, None, if◌then◌else◌, refl, sym, ap, ◌∙◌, subst, arith, append_assoc}
use Rattle.std.specs.Prelude.{slice_get}
use Rattle.std.specs.List.{All}
use Rattle.std.proofs.Math.Nat.{mul_comm, mul-mod_right}
use Rattle.std.proofs.lemmas.Bool.{cases_eq}
use Rattle.std.proofs.lemmas.List.{append-nil, map-set, drop_all, take_all, length-append, length-map}
use Rattle.std.proofs.lemmas.List.{get_or-map, get_or_default, get_or_push, get_or_append_left}
use Rattle.std.proofs.lemmas.List.Sums.{sum_by-append}
use Rattle.std.proofs.lemmas.List.Elements.{All-tail, All-map}
use Rattle.std.proofs.lemmas.Option.{get_or_from_slice_get}
use Rattle.vg_places.specs.declared.rectangles.Area.{Area}
use Rattle.vg_places.specs.Places.{tabulate}
use Rattle.vg_places.specs.Rectangles.{filled, place_of}
use Rattle.vg_places.proofs.Filled.{filled-inside, filled_whole, row-fits}
use Rattle.vg_formats.specs.declared.format.Format.TheVariants.{B8G8R8A8}
use Rattle.vg_formats.specs.Shown.{shown_byte, shown_rows}
use Rattle.vg_formats.specs.declared.rect.Rect.{Rect}
use Rattle.vg_cursor.specs.declared.cursor.Cursor.{Cursor}
use Rattle.vg_cursor.specs.Blended.{blended}
use Rattle.vg_cursor.specs.Cursor.{cursor_of}
use Rattle.vg_scanout.specs.declared.scanout.Binding.{Binding}
use Rattle.vg_scanout.specs.declared.scanout.Frame.{Frame}
use Rattle.vg_scanout.specs.declared.panel.Ground.{Ground}
use Rattle.vg_scanout.specs.declared.panel.Ground.TheVariants.{Blank, Shared, Kept}
use Rattle.vg_scanout.specs.declared.panel.Panel.{Panel}
use Rattle.vg_scanout.specs.Fits.{IsScreen}
use Rattle.vg_scanout.specs.Panels.{AreAnew, AreRegrounded, IsAmong, IsAnew, IsPanel, ArePanels, ShowsFrame, IsGround, bytes_made, bytes_of, is_panel_of, is_touched, pixels_of_frame, pixels_on, pixels_in, regrounded, screen_in, screens_in, unbound_panel}
use Rattle.std.specs.Prelude.{Result, Ok, nat_lt}
use Rattle.vg_laws.proofs.Lists.{get-front}
use Rattle.vg_scanout.specs.Scanout.{ScanoutState, Screen, after_flush, area_of, bind, flushed_pixels, flushed_screen, frame_of, fresh_screen, new_bytes, new_frame_bytes, pixels_with, unbound_screen}

get-behind : {X : Type 0} (xs : List X) (x : X) (more : List X) → slice_get (xs ++ (x ∷ more)) (length xs) ≡ Some x
get-behind [] x more = refl
get-behind (y ∷ xs) x more = get-behind xs x more

among-more : (n m : ℕ) (on : Ground) → n ≤ m → IsAmong n on → IsAmong m on
among-more n m Blank most among = tt
among-more n m (Shared k) most among = omega (arith, most, among)
among-more n m (Kept pixels) most among = tt

shows-more : (n m : ℕ) (panel : Option Panel) → n ≤ m → ShowsFrame n panel → ShowsFrame m panel
shows-more n m (Some panel) most shows = among-more n m panel.base most shows
shows-more n m None most shows = tt

pixels-behind : (frames more : List Frame) (size : ℕ) (on : Ground) → IsAmong (length frames) on → pixels_on (frames ++ more) size on ≡ pixels_on frames size on
pixels-behind frames more size Blank among = refl
pixels-behind frames more size (Shared k) among = ap pixels_of_frame (get-front frames more k among)
pixels-behind frames more size (Kept pixels) among = refl

-- a screen is as before behind more frames
pub screen-behind : (frames more : List Frame) (panel : Option Panel) → ShowsFrame (length frames) panel → screen_in (frames ++ more) panel ≡ screen_in frames panel
screen-behind frames more (Some panel) shows =
    ap (λ (pixels : List ℕ). Some (record { binding = panel.binding; pixels = pixels })) (pixels-behind frames more _ panel.base shows)
screen-behind frames more None shows = refl

pub screens-behind : (frames more : List Frame) (panels : List (Option Panel)) → All (ShowsFrame (length frames)) panels → screens_in (frames ++ more) panels ≡ screens_in frames panels
screens-behind frames more [] all = refl
screens-behind frames more (panel ∷ panels) all =
    ap (λ screen. screen ∷ screens_in (frames ++ more) panels) (screen-behind frames more panel (all 0 panel (omega arith)))
    ∙ ap (λ screens. screen_in frames panel ∷ screens) (screens-behind frames more panels (All-tail (ShowsFrame (length frames)) panel panels all))

-- these panels stand for these screens
pub record StandFor (frames : List Frame) (panels : List (Option Panel)) (screens : List (Option Screen)) : Type 0 where
  pub same : screens_in frames panels ≡ screens
  pub shows : All (ShowsFrame (length frames)) panels

-- what is kept of a scanout that a flush doesn't touch, behind more frames
pub anew-apart : (id : ℕ) (rect : Rect) (surface : List ℕ) (old more : List Frame) (panel : Option Panel) → is_touched id rect panel ≡ false → ShowsFrame (length old) panel
    → IsAnew id rect surface old (old ++ more) None panel
anew-apart id rect surface old more None apart shows = (tt, after-none id rect surface)
  where
    after-none : (id : ℕ) (rect : Rect) (surface : List ℕ) → None ≡ after_flush id rect surface None
    after-none id rect surface = refl
anew-apart id rect surface old more (Some panel) apart shows = (
  shows-more (length old) (length (old ++ more)) (Some panel) (omega (arith, length-append old more)) shows,
  screen-behind old more (Some panel) shows ∙ sym (ap (λ (b : Bool). if b then flushed_screen rect surface (screen_in old (Some panel)) else screen_in old (Some panel)) apart),
)

anew-on : (old front : List Frame) (frame : Frame) (binding : Binding) (pixels : List ℕ) (size : ℕ) (visible : Bool) → (visible ≡ false → frame.pixels ≡ pixels)
    → IsAmong (length (front ++ (frame ∷ []))) (cond visible (Kept pixels) (Shared (length front)))
    × (pixels_on (front ++ (frame ∷ [])) size (cond visible (Kept pixels) (Shared (length front))) ≡ pixels)
anew-on old front frame binding pixels size true same = (tt, refl)
anew-on old front frame binding pixels size false same =
    (omega (arith, length-append front (frame ∷ [])), ap pixels_of_frame (get-behind front frame []) ∙ same refl)

hidden-plain : (visible : Bool) (xs ys : List ℕ) → visible ≡ false → cond visible xs ys ≡ ys
hidden-plain true xs ys hidden = cc
hidden-plain false xs ys hidden = refl

-- the frame of a screen with no cursor on it
pub frame-plain : (entry : ℕ) (cursors : List Cursor) (scanout : ℕ) (screen : Screen) (frame : Frame) → ◌≡◌ {A = List Frame} (frame ∷ []) (frame_of entry cursors scanout (Some screen))
    → (cursor_of cursors scanout).visible ≡ false → frame.pixels ≡ screen.pixels
unfolding blended
frame-plain entry cursors scanout screen frame made hidden =
    ap (λ (f : Frame). f.pixels) (one made) ∙ hidden-plain (cursor_of cursors scanout).visible _ screen.pixels hidden
  where
    one : {x y : Frame} → ◌≡◌ {A = List Frame} (x ∷ []) (y ∷ []) → x ≡ y
    one same = cc

-- such a frame has the screen's pixels as they are
pub frame-hidden : (entry : ℕ) (cursors : List Cursor) (scanout : ℕ) (screen : Screen) → (cursor_of cursors scanout).visible ≡ false
    → ◌≡◌ {A = List Frame} (record { scanout = scanout; width = screen.binding.rect.width; height = screen.binding.rect.height; entry = entry; pixels = screen.pixels } ∷ []) (frame_of entry cursors scanout (Some screen))
unfolding blended
frame-hidden entry cursors scanout screen hidden =
    ap (λ (pixels : List ℕ). record { scanout = scanout; width = screen.binding.rect.width; height = screen.binding.rect.height; entry = entry; pixels = pixels } ∷ [])
    (sym (hidden-plain (cursor_of cursors scanout).visible _ screen.pixels hidden))

-- what a flush touches
pub touched-some : {X : Type 0} (touched : Bool) (x y : X) → Some x ≡ (if touched then Some y else None) → (touched ≡ true) × (x ≡ y)
touched-some true x y is = (refl, cc)
touched-some false x y is = cc

-- that of one that it touches, once it has its frame
pub anew-touched : (id : ℕ) (rect : Rect) (surface : List ℕ) (old front : List Frame) (frame : Frame) (panel : Panel) (visible : Bool) (on : Ground) → is_touched id rect (Some panel) ≡ true
    → (visible ≡ false → frame.pixels ≡ flushed_pixels panel.binding rect surface (pixels_in old panel))
    → on ≡ cond visible (Kept (flushed_pixels panel.binding rect surface (pixels_in old panel))) (Shared (length front))
    → IsAnew id rect surface old (front ++ (frame ∷ [])) (Some on) (Some panel)
anew-touched id rect surface old front frame panel visible on touched same is =
    let pixels = flushed_pixels panel.binding rect surface (pixels_in old panel) in
    let size = 4 * panel.binding.rect.width * panel.binding.rect.height in
    let stands = anew-on old front frame panel.binding pixels size visible same in (
      subst (IsAmong (length (front ++ (frame ∷ [])))) (sym is) stands.0,
      ap (λ (ps : List ℕ). Some (record { binding = panel.binding; pixels = ps })) (ap (pixels_on (front ++ (frame ∷ [])) size) is ∙ stands.1)
          ∙ sym (ap (λ (b : Bool). if b then flushed_screen rect surface (screen_in old (Some panel)) else screen_in old (Some panel)) touched),
    )

-- behind more frames
pub anew-more : (id : ℕ) (rect : Rect) (surface : List ℕ) (old now more : List Frame) (on : Option Ground) (panel : Option Panel)
    → IsAnew id rect surface old now on panel → IsAnew id rect surface old (now ++ more) on panel
anew-more id rect surface old now more on panel anew =
    (shows-more (length now) (length (now ++ more)) (regrounded on panel) (omega (arith, length-append now more)) anew.0, screen-behind now more (regrounded on panel) anew.0 ∙ anew.1)

-- one ground more, and perhaps a frame
pub each-anew : (id : ℕ) (rect : Rect) (surface : List ℕ) (old frames more : List Frame) (front : List Frame) (standing now : List (Option Ground)) (one : Option Ground) (panels : List (Option Panel)) (i : ℕ)
    → length standing ≡ i → now ≡ standing ++ (one ∷ []) → more ≡ frames ++ front
    → ((k : ℕ) → k < i → IsAnew id rect surface old (old ++ frames) (get_or standing k None) (get_or panels k None))
    → IsAnew id rect surface old (old ++ more) one (get_or panels i None)
    → (k : ℕ) → k < i + 1 → IsAnew id rect surface old (old ++ more) (get_or now k None) (get_or panels k None)
each-anew id rect surface old frames more front standing now one panels i long added made each here k within = elim (cases_eq k i) [
  | inl same ↦
      (let at : get_or now i None ≡ one = ap (λ (xs : List (Option Ground)). get_or xs i None) added ∙ get_or_push standing one None i long in
      subst (λ (n : ℕ). IsAnew id rect surface old (old ++ more) (get_or now n None) (get_or panels n None)) (sym same)
      (subst (λ (x : Option Ground). IsAnew id rect surface old (old ++ more) x (get_or panels i None)) (sym at) here))
  | inr apart ↦
      (let less : k < i = omega (arith, within, apart) in
      let at : get_or now k None ≡ get_or standing k None = ap (λ (xs : List (Option Ground)). get_or xs k None) added ∙ get_or_append_left standing (one ∷ []) None k (omega (arith, less, long)) in
      let frames_are : (old ++ frames) ++ front ≡ old ++ more = append_assoc old frames front ∙ ap (λ (fs : List Frame). old ++ fs) (sym made) in
      subst (λ (x : Option Ground). IsAnew id rect surface old (old ++ more) x (get_or panels k None)) (sym at)
      (subst (λ (fs : List Frame). IsAnew id rect surface old fs (get_or standing k None) (get_or panels k None)) frames_are
      (anew-more id rect surface old (old ++ frames) front (get_or standing k None) (get_or panels k None) (each k less))))
]

screens-anew : (id : ℕ) (rect : Rect) (surface : List ℕ) (old frames : List Frame) (panels now : List (Option Panel)) → length now ≡ length panels
    → ((k : ℕ) → k < length panels → screen_in frames (get_or now k None) ≡ after_flush id rect surface (screen_in old (get_or panels k None)))
    → screens_in frames now ≡ map (after_flush id rect surface) (screens_in old panels)
screens-anew id rect surface old frames [] [] long each = refl
screens-anew id rect surface old frames [] (p ∷ now) long each = absurd (omega (arith, long))
screens-anew id rect surface old frames (panel ∷ panels) [] long each = absurd (omega (arith, long))
screens-anew id rect surface old frames (panel ∷ panels) (p ∷ now) long each =
    ap (λ s. s ∷ screens_in frames now) (each 0 (omega arith))
    ∙ ap (λ ss. after_flush id rect surface (screen_in old panel) ∷ ss) (screens-anew id rect surface old frames panels now (omega (arith, long)) (λ k within. each (suc k) (omega (arith, within))))

-- what is kept of the scanouts, after a flush
pub stand-flushed : (id : ℕ) (rect : Rect) (surface : List ℕ) (old frames : List Frame) (standing : List (Option Ground)) (panels now : List (Option Panel))
    → AreAnew id rect surface old frames standing panels → AreRegrounded standing panels now → StandFor frames now (map (after_flush id rect surface) (screens_in old panels))
stand-flushed id rect surface old frames standing panels now anew re = record {
  same = screens-anew id rect surface old frames panels now re.count (λ k within. ap (screen_in frames) (re.each k within) ∙ (anew.each k within).1);
  shows = λ k d within.
      let inside : k < length panels = omega (arith, within, re.count) in
      subst (ShowsFrame (length frames)) (sym (get_or_default now k d None within ∙ re.each k inside)) (anew.each k inside).0;
}

-- all that were lent were put on new standing, and written back
pub regrounded-back : (standing : List (Option Ground)) (n : ℕ) (old lent now : List (Option Panel)) → lent ≡ old → length lent ≡ n → AreRegrounded standing lent now
    → AreRegrounded standing old (take n (now ++ drop (length now) old))
regrounded-back standing n old lent now same size re =
    let rest : drop (length now) old ≡ [] = drop_all (length now) old (omega (arith, re.count, ap length same)) in
    let all : take n (now ++ drop (length now) old) ≡ now = ap (λ ys. take n (now ++ ys)) rest ∙ ap (take n) (append-nil now) ∙ take_all n now (omega (arith, re.count, size)) in
    subst (AreRegrounded standing old) (sym all) (subst (λ (xs : List (Option Panel)). AreRegrounded standing xs now) same re)

-- screens that are screens, of panels that stand for them
pub are-panels : (frames : List Frame) (panels : List (Option Panel)) (screens : List (Option Screen)) → StandFor frames panels screens → All IsScreen screens → ArePanels frames panels
are-panels frames panels screens stand all = λ k d within.
    (stand.shows k d within, subst IsScreen (get_or-map (screen_in frames) panels k d (screen_in frames d) within) (subst (λ ss. All IsScreen ss) (sym stand.same) all k (screen_in frames d) (omega (arith, within, length-map panels (screen_in frames)))))

pub are-screens : (frames : List Frame) (panels : List (Option Panel)) → ArePanels frames panels → All IsScreen (screens_in frames panels)
are-screens frames panels all = All-map IsScreen (screen_in frames) panels (λ k d within. (all k d within).1)

-- with one frame more, the screens stay
pub stand-snapped : (frames more : List Frame) (panels : List (Option Panel)) → ArePanels frames panels → StandFor (frames ++ more) panels (screens_in frames panels)
stand-snapped frames more panels all = record {
  same = screens-behind frames more panels (λ k d within. (all k d within).0);
  shows = λ k d within. shows-more (length frames) (length (frames ++ more)) (get_or panels k d) (omega (arith, length-append frames more)) (all k d within).0;
}

unbound-one : (frames : List Frame) (id : ℕ) (panel : Option Panel) (is : Bool) → cond is None (screen_in frames panel) ≡ screen_in frames (cond is None panel)
unbound-one frames id panel true = refl
unbound-one frames id panel false = refl

same-test : (frames : List Frame) (id : ℕ) (panel : Option Panel) → unbound_screen id (screen_in frames panel) ≡ screen_in frames (unbound_panel id panel)
same-test frames id (Some panel) = unbound-one frames id (Some panel) (is_panel_of id (Some panel))
same-test frames id None = refl

-- the scanouts of a resource are disabled
pub screens-unbound : (frames : List Frame) (id : ℕ) (panels : List (Option Panel)) → screens_in frames (map (unbound_panel id) panels) ≡ map (unbound_screen id) (screens_in frames panels)
screens-unbound frames id [] = refl
screens-unbound frames id (panel ∷ panels) =
    ap (λ screen. screen ∷ screens_in frames (map (unbound_panel id) panels)) (sym (same-test frames id panel))
    ∙ ap (λ screens. unbound_screen id (screen_in frames panel) ∷ screens) (screens-unbound frames id panels)

pub screens-set : (frames : List Frame) (panels : List (Option Panel)) (scanout : ℕ) (panel : Option Panel) → screens_in frames (slice_set panels scanout panel) ≡ slice_set (screens_in frames panels) scanout (screen_in frames panel)
screens-set frames panels scanout panel = map-set (screen_in frames) panels scanout panel

no-screens : (frames : List Frame) (n : ℕ) → screens_in frames (replicate n None) ≡ replicate n None
no-screens frames zero = refl
no-screens frames (suc n) = ap (λ screens. None ∷ screens) (no-screens frames n)

pub no-scanouts : (n : ℕ) (frames : List Frame) (panels : List (Option Panel)) → frames ≡ [] → panels ≡ replicate n None
    → ◌≡◌ {A = ScanoutState} (record { screens = screens_in frames panels; frames = frames }) (record { screens = replicate n None; frames = [] })
no-scanouts n frames panels none all =
    ap (λ (fs : List Frame). record { screens = screens_in fs panels; frames = fs }) none
    ∙ ap (λ (screens : List (Option Screen)). record { screens = screens; frames = [] }) (ap (screens_in []) all ∙ no-screens [] n)

unbound-panel-is : (frames : List Frame) (is : Bool) (panel : Option Panel) → IsPanel frames panel → IsPanel frames (cond is None panel)
unbound-panel-is frames true panel here = (tt, tt)
unbound-panel-is frames false panel here = here

pub unbound-panels : (frames : List Frame) (id : ℕ) (panels : List (Option Panel)) → ArePanels frames panels → ArePanels frames (map (unbound_panel id) panels)
unbound-panels frames id panels are = All-map (IsPanel frames) (unbound_panel id) panels (λ k d within. unbound-panel-is frames (is_panel_of id (get_or panels k d)) (get_or panels k d) (are k d within))

-- a scanout is bound
pub bound-done : (scanout : ℕ) (binding : Binding) (frames : List Frame) (panels : List (Option Panel)) → nat_lt 33554432 (4 * binding.rect.width * binding.rect.height) ≡ false
    → ◌≡◌ {A = ScanoutState × Result (Unit {0}) ℕ} (record { screens = screens_in frames (slice_set panels scanout (Some (record { binding = binding; base = Blank }))); frames = frames }, Ok tt)
    (bind scanout binding (record { screens = screens_in frames panels; frames = frames }))
unfolding bind fresh_screen
bound-done scanout binding frames panels small =
    rw small (ap (λ screens. (record { screens = screens; frames = frames }, Ok tt)) (screens-set frames panels scanout (Some (record { binding = binding; base = Blank }))))

-- the screen of a scanout is that of its panel
pub screen-at : (frames : List Frame) (panels : List (Option Panel)) (scanout : ℕ) (panel : Option Panel) → scanout < length panels → panel ≡ get_or panels scanout panel
    → screen_in frames panel ≡ get_or (screens_in frames panels) scanout (screen_in frames panel)
screen-at frames panels scanout panel within is =
    ap (screen_in frames) is ∙ sym (get_or-map (screen_in frames) panels scanout panel (screen_in frames panel) within)

bytes-chosen : (touched : Bool) (m n : ℕ) → m ≡ n → cond touched m 0 ≡ cond touched n 0
bytes-chosen true m n same = same
bytes-chosen false m n same = refl

made-one : (id : ℕ) (rect : Rect) (frames : List Frame) (panel : Option Panel) → IsPanel frames panel → bytes_of id rect panel ≡ new_frame_bytes id rect (screen_in frames panel)
made-one id rect frames (Some panel) is = bytes-chosen (is_touched id rect (Some panel)) _ _ (sym is.1.0)
made-one id rect frames None is = refl

-- how many bytes a flush makes
pub bytes-made : (id : ℕ) (rect : Rect) (frames : List Frame) (panels : List (Option Panel)) → ArePanels frames panels → bytes_made id rect panels ≡ new_bytes id rect (screens_in frames panels)
bytes-made id rect frames [] are = refl
bytes-made id rect frames (panel ∷ panels) are =
    let made = sum_by-append (bytes_of id rect) (panel ∷ []) panels in
    let new = sum_by-append (new_frame_bytes id rect) (screen_in frames panel ∷ []) (screens_in frames panels) in
    let first = made-one id rect frames panel (are 0 panel (omega arith)) in
    omega (arith, made, new, first, bytes-made id rect frames panels (All-tail (IsPanel frames) panel panels are))

-- a scanout that is bound has a screen of its rectangle's bytes
pub panel-length : (frames : List Frame) (panels : List (Option Panel)) (scanout : ℕ) (found : Option Panel) (panel : Panel) → scanout < length panels → found ≡ get_or panels scanout found → found ≡ Some panel
    → ArePanels frames panels → length (pixels_in frames panel) ≡ 4 * panel.binding.rect.width * panel.binding.rect.height
panel-length frames panels scanout found panel within is some are =
    (subst (IsPanel frames) (sym is ∙ some) (are scanout found within)).1.0

-- a rectangle of all of a list is filled alike over any other list of that length
filled-alike : (height row_length : ℕ) (value : ℕ → ℕ → ℕ) (old new : List ℕ) → 0 < row_length → length old ≡ height * row_length → length new ≡ length old
    → filled (record { row = 0; column = 0; width = row_length; height = height }) row_length value new ≡ filled (record { row = 0; column = 0; width = row_length; height = height }) row_length value old
filled-alike height row_length value old new some long same =
    let all : Area = record { row = 0; column = 0; width = row_length; height = height } in
    let done = filled all row_length value old in
    let at : (i c : ℕ) → i < height → c < row_length → value i c ≡ get_or done (i * row_length + c) 0 = λ i c row column.
    (let place : place_of all row_length i c ≡ i * row_length + c = omega arith in
    let within : i * row_length + c + 1 ≤ length old = row-fits 0 i height row_length c 1 (length old) (i * row_length + c) (omega arith) (omega (arith, column)) row (omega (arith, long)) in
    sym (get_or_from_slice_get done (i * row_length + c) (value i c) 0
    (subst (λ k. slice_get done k ≡ Some (value i c)) place (filled-inside all row_length value old i c (omega arith) row column (omega (arith, within, place))))))
    in
    filled_whole height row_length value new (λ k. get_or done k 0) some (same ∙ long) at
    ∙ ap (λ n. tabulate n (λ k. get_or done k 0)) same
    ∙ sym (filled_whole height row_length value old (λ k. get_or done k 0) some long at)

-- all of a screen is shown over any pixels, as many
pub whole-ground : (binding : Binding) (own pixels : List ℕ) → 0 < binding.rect.width → length own ≡ 4 * binding.rect.width * binding.rect.height → length pixels ≡ length own
    → IsGround binding binding.rect own pixels
whole-ground binding own pixels some long same =
    let rect = binding.rect in
    let all : area_of rect rect ≡ record { row = 0; column = 0; width = 4 * rect.width; height = rect.height } =
    ap (λ n. record { row = n; column = 4 * (rect.x - rect.x); width = 4 * rect.width; height = rect.height }) (omega arith)
    ∙ ap (λ n. record { row = 0; column = n; width = 4 * rect.width; height = rect.height }) (omega arith)
    in
    record {
      long = same;
      same = λ surface.
          (let offset = binding.offset + binding.stride * rect.y + 4 * rect.x in
          let value = λ (i c : ℕ). shown_byte binding.format (drop (offset + binding.stride * i) surface) c in
          subst (λ area. filled area (4 * rect.width) value pixels ≡ filled area (4 * rect.width) value own) (sym all)
          (filled-alike rect.height (4 * rect.width) value own pixels (omega (arith, some)) (omega (arith, long)) same));
    }

-- a screen's own pixels are such too
pub own-ground : (binding : Binding) (part : Rect) (own pixels : List ℕ) → pixels ≡ own → IsGround binding part own pixels
own-ground binding part own pixels is = record {
  long = ap length is;
  same = λ surface. ap (pixels_with binding part surface) is;
}

-- the rows of a screen, one behind the other, lie in the surface
pub piece-fits : (offset stride y x w h size : ℕ) → 0 < h → offset + stride * (y + h - 1) + 4 * (x + w) ≤ size → stride ≡ 4 * w → offset + stride * y + 4 * x + stride * h ≤ size
piece-fits offset stride y x w zero size some fits same = absurd (omega (arith, some))
piece-fits offset stride y x w (suc k) size some fits same =
    let rows : y + suc k - 1 ≡ y + k = omega arith in
    let there : offset + stride * (y + k) + 4 * (x + w) ≤ size = subst (λ n. offset + stride * n + 4 * (x + w) ≤ size) rows fits in
    omega (arith, there, same)

-- a screen that is one piece of the surface
pub one-piece : (binding : Binding) (surface own : List ℕ)
    → ((row_length height offset : ℕ) (pixels screen : List ℕ) → 0 < row_length → row_length % 4 ≡ 0 → length screen ≡ height * row_length → offset + height * row_length ≤ length pixels
    → take (height * row_length) (drop offset pixels) ≡ shown_rows B8G8R8A8 (record { row = 0; column = 0; width = row_length; height = height }) row_length pixels row_length offset screen)
    → binding.format ≡ B8G8R8A8 → binding.stride ≡ 4 * binding.rect.width → 0 < binding.rect.width → length own ≡ 4 * binding.rect.width * binding.rect.height
    → binding.offset + binding.stride * binding.rect.y + 4 * binding.rect.x + binding.stride * binding.rect.height ≤ length surface
    → take (binding.stride * binding.rect.height) (drop (binding.offset + binding.stride * binding.rect.y + 4 * binding.rect.x) surface) ≡ pixels_with binding binding.rect surface own
one-piece binding surface own law format stride some long inside =
    let rect = binding.rect in
    let row = 4 * rect.width in
    let offset = binding.offset + binding.stride * rect.y + 4 * rect.x in
    let all : area_of rect rect ≡ record { row = 0; column = 0; width = row; height = rect.height } =
    ap (λ n. record { row = n; column = 4 * (rect.x - rect.x); width = row; height = rect.height }) (omega arith)
    ∙ ap (λ n. record { row = 0; column = n; width = row; height = rect.height }) (omega arith)
    in
    let size : binding.stride * rect.height ≡ rect.height * row = ap (λ n. n * rect.height) stride ∙ mul_comm row rect.height in
    let whole = law row rect.height offset surface own (omega (arith, some)) (mul-mod_right 4 rect.width) (omega (arith, long)) (omega (arith, inside, size)) in
    ap (λ n. take n (drop offset surface)) size
    ∙ whole
    ∙ ap (λ area. shown_rows B8G8R8A8 area row surface row offset own) (sym all)
    ∙ ap (λ n. shown_rows B8G8R8A8 (area_of rect rect) row surface n offset own) (sym stride)
    ∙ ap (λ f. shown_rows f (area_of rect rect) row surface binding.stride offset own) (sym format)
