-- Who plugs and unplugs displays. All of it is our own.
use Rattle.std.specs.Prelude.{◌≡◌, ◌≤◌, ◌<◌, ℕ, false, true}
use Rattle.vg_limits.specs.Limits.{version_2}
use Rattle.vg_client_holds.specs.declared.act.Act.{Act}
use Rattle.vg_client_holds.specs.declared.act.Act.TheVariants.{Enter, Await, Denied, Mode, Unplug, Leave}
use Rattle.vg_client_holds.specs.declared.act.What.TheVariants.{Name}
use Rattle.vg_client_holds.specs.declared.holds.Holds.{Holds}

-- The act is one of its client's part: the host alone plugs and unplugs displays that there are, of a size that a display can have,
-- and does nothing else but enter, wait for fences, be denied a name, and leave.
abbrev pub IsPart : Holds → Act → Type 0
IsPart holds (Mode scanout width height) =
    (holds.host ≡ true) × (scanout < holds.displays) × (1 ≤ width) × (width ≤ version_2.width) × (1 ≤ height) × (height ≤ version_2.height)
IsPart holds (Unplug scanout) = (holds.host ≡ true) × (scanout < holds.displays)
IsPart holds Enter = Unit {0}
IsPart holds (Await lane ordinal) = Unit {0}
IsPart holds (Denied Name) = Unit {0}
IsPart holds Leave = Unit {0}
IsPart holds _ = holds.host ≡ false
