-- What the code keeps of a scanout: its binding, and where its screen's pixels stand.
use Rattle.std.specs.Prelude.{◌≡◌, ℕ, ◌*◌, ◌<◌, ◌≤◌, ◌==◌, ◌&&◌, Bool, false, if◌then◌else◌, List, [], length, map, get_or, replicate, slice_get, Option, Some, None}
use Rattle.std.specs.List.{All, sum_by}
use Rattle.vg_formats.specs.declared.rect.Rect.{Rect}
use Rattle.vg_formats.specs.Pixels.{are_meeting}
use Rattle.vg_scanout.specs.declared.scanout.Binding.{Binding}
use Rattle.vg_scanout.specs.declared.scanout.Frame.{Frame}
use Rattle.vg_scanout.specs.declared.panel.Ground.{Ground}
use Rattle.vg_scanout.specs.declared.panel.Ground.TheVariants.{Blank, Shared, Kept}
use Rattle.vg_scanout.specs.declared.panel.Panel.{Panel}
use Rattle.vg_scanout.specs.Fits.{IsScreen}
use Rattle.vg_scanout.specs.Scanout.{Screen, after_flush, pixels_with}

-- The pixels of a frame, if there is one.
abbrev pub pixels_of_frame : Option Frame → List ℕ
pixels_of_frame (Some frame) = frame.pixels
pixels_of_frame None = []

-- The pixels of a screen of so many bytes: all 0, those of frame number k of these, or its own.
abbrev pub pixels_on : List Frame → ℕ → Ground → List ℕ
pixels_on frames size Blank = replicate size 0
pixels_on frames size (Shared k) = pixels_of_frame (slice_get frames k)
pixels_on frames size (Kept pixels) = pixels

abbrev pub pixels_in : List Frame → Panel → List ℕ
pixels_in frames panel = pixels_on frames (4 * panel.binding.rect.width * panel.binding.rect.height) panel.base

-- The screen of a scanout, by what is kept of it and the frames.
abbrev pub screen_in : List Frame → Option Panel → Option Screen
screen_in frames (Some panel) = Some (record { binding = panel.binding; pixels = pixels_in frames panel })
screen_in frames None = None

abbrev pub screens_in : List Frame → List (Option Panel) → List (Option Screen)
screens_in frames panels = map (screen_in frames) panels

-- There is the frame that it is.
abbrev pub IsAmong : ℕ → Ground → Type 0
IsAmong count Blank = Unit {0}
IsAmong count (Shared k) = k < count
IsAmong count (Kept pixels) = Unit {0}

-- There is the frame that it shows.
abbrev pub ShowsFrame : ℕ → Option Panel → Type 0
ShowsFrame count (Some panel) = IsAmong count panel.base
ShowsFrame count None = Unit {0}

abbrev pub IsPanel : List Frame → Option Panel → Type 0
IsPanel frames panel = ShowsFrame (length frames) panel × IsScreen (screen_in frames panel)

abbrev pub ArePanels : List Frame → List (Option Panel) → Type 0
ArePanels frames panels = All (IsPanel frames) panels

-- What is kept of a scanout that is disabled where it is bound to the resource.
abbrev pub is_panel_of : ℕ → Option Panel → Bool
is_panel_of id (Some panel) = panel.binding.resource == id
is_panel_of id None = false

abbrev pub unbound_panel : ℕ → Option Panel → Option Panel
unbound_panel id panel = if is_panel_of id panel then None else panel

-- A flush of this rectangle of the resource touches the screen.
abbrev pub is_touched : ℕ → Rect → Option Panel → Bool
is_touched id rect (Some panel) = (panel.binding.resource == id) && are_meeting panel.binding.rect rect
is_touched id rect None = false

-- What is kept of a scanout once its screen stands on this ground, if there is one.
abbrev pub regrounded : Option Ground → Option Panel → Option Panel
regrounded (Some on) (Some panel) = Some (record panel { base = on })
regrounded (Some on) None = None
regrounded None panel = panel

-- With this ground, if there is one, what is kept of a scanout stands for its screen after a flush; `old` and `now` are the frames
-- before it and after it.
abbrev pub IsAnew : ℕ → Rect → List ℕ → List Frame → List Frame → Option Ground → Option Panel → Type 0
IsAnew id rect surface old now on panel =
    ShowsFrame (length now) (regrounded on panel)
    × (screen_in now (regrounded on panel) ≡ after_flush id rect surface (screen_in old panel))

-- Each of these has such a ground.
pub record AreAnew (id : ℕ) (rect : Rect) (surface : List ℕ) (old now : List Frame) (standing : List (Option Ground)) (panels : List (Option Panel)) : Type 0 where
  pub count : length standing ≡ length panels
  pub each : (k : ℕ) → k < length panels → IsAnew id rect surface old now (get_or standing k None) (get_or panels k None)

-- Each of these is on its new ground, if it has one.
pub record AreRegrounded (standing : List (Option Ground)) (old now : List (Option Panel)) : Type 0 where
  pub count : length now ≡ length old
  pub each : (k : ℕ) → k < length old → get_or now k None ≡ regrounded (get_or standing k None) (get_or old k None)

-- With this ground, if there is one, what is kept of a scanout stands for its screen as it is, where there are no frames; `old` are
-- those that there were.
abbrev pub IsUnframed : List Frame → Option Ground → Option Panel → Type 0
IsUnframed old on panel = ShowsFrame 0 (regrounded on panel) × (screen_in [] (regrounded on panel) ≡ screen_in old panel)

-- Each of these has such a ground.
pub record AreUnframed (old : List Frame) (standing : List (Option Ground)) (panels : List (Option Panel)) : Type 0 where
  pub count : length standing ≡ length panels
  pub each : (k : ℕ) → k < length panels → IsUnframed old (get_or standing k None) (get_or panels k None)

-- A screen has no more bytes than a screen may have.
abbrev pub IsSmall : Option Panel → Type 0
IsSmall (Some panel) = 4 * panel.binding.rect.width * panel.binding.rect.height ≤ 33554432
IsSmall None = Unit {0}

-- How many bytes the frame has that a flush makes of this, and of all of these.
abbrev pub bytes_of : ℕ → Rect → Option Panel → ℕ
bytes_of id rect (Some panel) = if is_touched id rect (Some panel) then 4 * panel.binding.rect.width * panel.binding.rect.height else 0
bytes_of id rect None = 0

abbrev pub bytes_made : ℕ → Rect → List (Option Panel) → ℕ
bytes_made id rect panels = sum_by (bytes_of id rect) panels

-- With this part of a screen shown over them, these pixels are as the screen's own would be.
pub record IsGround (binding : Binding) (part : Rect) (own pixels : List ℕ) : Type 0 where
  pub long : length pixels ≡ length own
  pub same : (surface : List ℕ) → pixels_with binding part surface pixels ≡ pixels_with binding part surface own

-- The rows of a screen that this part of it touches, as a screen of their own.
abbrev pub rows_touched : Binding → Rect → Binding
rows_touched binding part = record binding { rect = record { x = binding.rect.x; y = part.y; width = binding.rect.width; height = part.height } }
