-- What contracts ask: that bindings and screens fit what they show.
use Rattle.std.specs.Prelude.{◌≡◌, ℕ, ◌+◌, ◌-◌, ◌*◌, ◌≤◌, length, Option, Some, None}
use Rattle.vg_scanout.specs.declared.scanout.Binding.{Binding}
use Rattle.vg_scanout.specs.Scanout.{Screen}

-- The pixels of a binding's rectangle stand in a surface of so many bytes.
abbrev pub FitsSurface : ℕ → Binding → Type 0
FitsSurface size binding =
    binding.offset + binding.stride * (binding.rect.y + binding.rect.height - 1) + 4 * (binding.rect.x + binding.rect.width) ≤ size

-- Those of the screens that are bound to the resource do.
abbrev pub FitSurface : ℕ → ℕ → Option Screen → Type 0
FitSurface id size (Some screen) = screen.binding.resource ≡ id → FitsSurface size screen.binding
FitSurface id size None = Unit {0}

-- A screen has the pixels of its rectangle, within the limit.
abbrev pub IsScreen : Option Screen → Type 0
IsScreen (Some screen) = (length screen.pixels ≡ 4 * screen.binding.rect.width * screen.binding.rect.height) × (length screen.pixels ≤ 33554432)
IsScreen None = Unit {0}
