-- A frame of a screen as it is: whether it may be made, and the one that is made.
use Rattle.std.proofs.Common.{◌≡◌, ◌≤◌, ◌<◌, ◌+◌, ◌*◌, ℕ, zero, suc, Bool, true, false, List, [], ◌∷◌, ◌++◌, length, get_or, replicate, Option, Some, None, Result, Ok, Err, refl, sym, ap, ◌∙◌, subst, arith}
use Rattle.std.proofs.lemmas.Bool.Decides.{nat_tests}
use Rattle.std.proofs.lemmas.List.{append-nil, get_or-map, length-map}
use Rattle.std.proofs.lemmas.List.Sums.{sum_by_push}
use Rattle.std.proofs.lemmas.Option.{slice_get-get_or}
use Rattle.vg_cursor.specs.declared.cursor.Cursor.{Cursor}
use Rattle.vg_cursor.specs.Cursor.{cursor_of}
use Rattle.vg_scanout.specs.declared.panel.Panel.{Panel}
use Rattle.vg_scanout.specs.declared.scanout.Frame.{Frame}
use Rattle.vg_scanout.specs.Panels.{ArePanels, IsPanel, pixels_in, screen_in, screens_in}
use Rattle.vg_scanout.specs.Scanout.{ScanoutState, Screen, bytes_of_screen, frame_bytes, frame_of, is_past_limit, screen_at, screen_of, snap, snapped}
use Rattle.vg_refusals.specs.Refusals.{refusal_of, unless_refused}
use Rattle.vg_scanout.proofs.PanelLemmas.{are-panels, are-screens, stand-snapped}
use Rattle.vg_scanout.proofs.ScreenLemmas.{length-blended}

-- what the scanouts are, by what is kept of them
state_in : List Frame → List (Option Panel) → ScanoutState
state_in frames panels = record { screens = screens_in frames panels; frames = frames }

screen-there : (frames : List Frame) (panels : List (Option Panel)) (scanout : ℕ) (d : Option Screen) → scanout < length (screens_in frames panels)
    → screen_at scanout (state_in frames panels) ≡ get_or (screens_in frames panels) scanout d
unfolding state_in
screen-there frames panels scanout d within = ap screen_of (slice_get-get_or (screens_in frames panels) scanout d within)

screen-found : (frames : List Frame) (panels : List (Option Panel)) (scanout : ℕ) (found : Option Panel) → scanout < length panels → found ≡ get_or panels scanout found
    → screen_at scanout (state_in frames panels) ≡ screen_in frames found
screen-found frames panels scanout found within is =
    screen-there frames panels scanout (screen_in frames found) (omega (arith, within, length-map panels (screen_in frames)))
    ∙ get_or-map (screen_in frames) panels scanout found (screen_in frames found) within ∙ ap (screen_in frames) (sym is)

-- cursors of which the one of this scanout is so
cursor-repeated : (scanout : ℕ) (cursor : Cursor) → cursor_of (replicate (suc scanout) cursor) scanout ≡ cursor
cursor-repeated zero cursor = refl
cursor-repeated (suc n) cursor = cursor-repeated n cursor

pub cursors-like : (scanout : ℕ) (cursor : Cursor) → (cursors : List Cursor) × (cursor_of cursors scanout ≡ cursor)
cursors-like scanout cursor = (replicate (suc scanout) cursor, cursor-repeated scanout cursor)

-- the frame of a screen may be made, or it may not
snap-made : (entry : ℕ) (cursors : List Cursor) (scanout : ℕ) (state : ScanoutState) (screen : Option Screen) → screen_at scanout state ≡ screen → frame_bytes state.frames + bytes_of_screen screen ≤ 268435456
    → ◌≡◌ {A = ScanoutState × Result (Unit {0}) ℕ} (record state { frames = state.frames ++ frame_of entry cursors scanout screen }, Ok tt) (snap entry cursors scanout state)
unfolding snap
snap-made entry cursors scanout state screen is few =
    let same = ap bytes_of_screen is in
    let test : is_past_limit scanout state ≡ false = grind (arith, nat_tests, same, few) in
    ap (λ (s : Option Screen). (record state { frames = state.frames ++ frame_of entry cursors scanout s }, Ok tt)) (sym is)
    ∙ sym (ap (λ (b : Bool). unless_refused (refusal_of ((b, 0x1201) ∷ [])) state (snapped entry cursors scanout state)) test)

snap-none-made : (entry : ℕ) (cursors : List Cursor) (scanout : ℕ) (state : ScanoutState) (screen : Option Screen) → screen_at scanout state ≡ screen → 268435456 < frame_bytes state.frames + bytes_of_screen screen
    → ◌≡◌ {A = ScanoutState × Result (Unit {0}) ℕ} (state, Err 0x1201) (snap entry cursors scanout state)
unfolding snap
snap-none-made entry cursors scanout state screen is many =
    let same = ap bytes_of_screen is in
    let test : is_past_limit scanout state ≡ true = grind (arith, nat_tests, same, many) in
    sym (ap (λ (b : Bool). unless_refused (refusal_of ((b, 0x1201) ∷ [])) state (snapped entry cursors scanout state)) test)

-- of a scanout that is disabled none is made
pub snap-disabled : (entry : ℕ) (cursors : List Cursor) (scanout : ℕ) (frames : List Frame) (panels : List (Option Panel)) (found : Option Panel) → scanout < length panels → found ≡ get_or panels scanout found → found ≡ None
    → frame_bytes frames ≤ 268435456
    → ◌≡◌ {A = ScanoutState × Result (Unit {0}) ℕ} (record { screens = screens_in frames panels; frames = frames }, Ok tt) (snap entry cursors scanout (record { screens = screens_in frames panels; frames = frames }))
unfolding state_in
snap-disabled entry cursors scanout frames panels found within is none few =
    ap (λ (fs : List Frame). (record { screens = screens_in frames panels; frames = fs }, Ok tt)) (sym (append-nil frames))
    ∙ snap-made entry cursors scanout (state_in frames panels) None (screen-found frames panels scanout found within is ∙ ap (screen_in frames) none) (omega (arith, few))

-- how many bytes the screen has
screen-bytes : (frames : List Frame) (panels : List (Option Panel)) (scanout : ℕ) (found : Option Panel) (panel : Panel) → scanout < length panels → found ≡ get_or panels scanout found → found ≡ Some panel → ArePanels frames panels
    → length (pixels_in frames panel) ≡ 4 * panel.binding.rect.width * panel.binding.rect.height
screen-bytes frames panels scanout found panel within is some are =
    let here : IsPanel frames (Some panel) = subst (IsPanel frames) (sym is ∙ some) (are scanout found within) in
    here.1.0

pub snap-refused : (entry : ℕ) (cursors : List Cursor) (scanout : ℕ) (frames : List Frame) (panels : List (Option Panel)) (found : Option Panel) (panel : Panel) (size : ℕ) → scanout < length panels → found ≡ get_or panels scanout found → found ≡ Some panel
    → ArePanels frames panels → size ≡ 4 * panel.binding.rect.width * panel.binding.rect.height → 268435456 < frame_bytes frames + size
    → ◌≡◌ {A = ScanoutState × Result (Unit {0}) ℕ} (record { screens = screens_in frames panels; frames = frames }, Err 0x1201) (snap entry cursors scanout (record { screens = screens_in frames panels; frames = frames }))
unfolding state_in
snap-refused entry cursors scanout frames panels found panel size within is some are long many =
    let size_is = screen-bytes frames panels scanout found panel within is some are in
    snap-none-made entry cursors scanout (state_in frames panels) (screen_in frames (Some panel)) (screen-found frames panels scanout found within is ∙ ap (screen_in frames) some)
    (omega (arith, many, long, size_is))

pub snap-done : (entry : ℕ) (cursors : List Cursor) (scanout : ℕ) (frames now : List Frame) (panels : List (Option Panel)) (found : Option Panel) (panel : Panel) (frame : Frame) (size : ℕ)
    → scanout < length panels → found ≡ get_or panels scanout found → found ≡ Some panel
    → ArePanels frames panels → size ≡ 4 * panel.binding.rect.width * panel.binding.rect.height → frame_bytes frames + size ≤ 268435456
    → ◌≡◌ {A = List Frame} (frame ∷ []) (frame_of entry cursors scanout (screen_in frames (Some panel))) → now ≡ frames ++ (frame ∷ [])
    → ◌≡◌ {A = ScanoutState × Result (Unit {0}) ℕ} (record { screens = screens_in now panels; frames = now }, Ok tt) (snap entry cursors scanout (record { screens = screens_in frames panels; frames = frames }))
unfolding state_in
snap-done entry cursors scanout frames now panels found panel frame size within is some are long few made added =
    let size_is = screen-bytes frames panels scanout found panel within is some are in
    let all : now ≡ frames ++ frame_of entry cursors scanout (screen_in frames (Some panel)) = added ∙ ap (λ (fs : List Frame). frames ++ fs) made in
    let screens : screens_in now panels ≡ screens_in frames panels = ap (λ (fs : List Frame). screens_in fs panels) added ∙ (stand-snapped frames (frame ∷ []) panels are).same in
    ap (λ (ss : List (Option Screen)). (record { screens = ss; frames = now }, Ok tt)) screens
    ∙ ap (λ (fs : List Frame). (record { screens = screens_in frames panels; frames = fs }, Ok tt)) all
    ∙ snap-made entry cursors scanout (state_in frames panels) (screen_in frames (Some panel)) (screen-found frames panels scanout found within is ∙ ap (screen_in frames) some)
    (omega (arith, few, long, size_is))

frame-length : (entry : ℕ) (cursors : List Cursor) (scanout : ℕ) (screen : Screen) (frame : Frame) → ◌≡◌ {A = List Frame} (frame ∷ []) (frame_of entry cursors scanout (Some screen))
    → length frame.pixels ≡ length screen.pixels
frame-length entry cursors scanout screen frame made =
    ap length (ap (λ (f : Frame). f.pixels) (one made)) ∙ length-blended (cursor_of cursors scanout) screen.binding.rect.width screen.pixels
  where
    one : {x y : Frame} → ◌≡◌ {A = List Frame} (x ∷ []) (y ∷ []) → x ≡ y
    one same = cc

-- the bytes of all frames with the one that is made
pub bytes-snapped : (entry : ℕ) (cursors : List Cursor) (scanout : ℕ) (frames now : List Frame) (panels : List (Option Panel)) (found : Option Panel) (panel : Panel) (frame : Frame) (size : ℕ)
    → scanout < length panels → found ≡ get_or panels scanout found → found ≡ Some panel → ArePanels frames panels → size ≡ 4 * panel.binding.rect.width * panel.binding.rect.height
    → ◌≡◌ {A = List Frame} (frame ∷ []) (frame_of entry cursors scanout (screen_in frames (Some panel))) → now ≡ frames ++ (frame ∷ [])
    → frame_bytes frames + size ≡ frame_bytes now
bytes-snapped entry cursors scanout frames now panels found panel frame size within is some are long made added =
    let size_is = screen-bytes frames panels scanout found panel within is some are in
    let all : frame_bytes now ≡ frame_bytes frames + length frame.pixels = ap frame_bytes added ∙ sum_by_push (λ (f : Frame). length f.pixels) frames frame in
    omega (arith, all, long, size_is, frame-length entry cursors scanout (record { binding = panel.binding; pixels = pixels_in frames panel }) frame made)

pub panels-made : (frames now : List Frame) (panels : List (Option Panel)) (frame : Frame) → now ≡ frames ++ (frame ∷ []) → ArePanels frames panels → ArePanels now panels
panels-made frames now panels frame added are =
    subst (λ (fs : List Frame). ArePanels fs panels) (sym added)
    (are-panels (frames ++ (frame ∷ [])) panels (screens_in frames panels) (stand-snapped frames (frame ∷ []) panels are) (are-screens frames panels are))
