-- What private contracts say of jobs.
use Rattle.std.specs.Prelude.{◌≡◌, ◌≤◌, ℕ, ◌+◌, ◌-◌, ◌*◌, false, List, [], length, if◌then◌else◌, Option, Some, None}
use Rattle.vg_formats.specs.declared.rect.Rect.{Rect}
use Rattle.vg_formats.specs.Pixels.{is_empty}
use Rattle.vg_pages.specs.Lending.{Lending}
use Rattle.vg_wire.specs.Header.{header_of}
use Rattle.vg_device.specs.declared.request.Request.{Request}
use Rattle.vg_machine.specs.Blocks.{names_context}

-- The bytes that were lent, and the pages that have them; none once they are in their places.
abbrev pub bytes_in : Option Lending → Option (List ℕ)
bytes_in (Some lent) = Some lent.bytes
bytes_in None = None

abbrev pub pages_in : Option Lending → List ℕ
pages_in (Some lent) = lent.pages
pages_in None = []

-- The context that the request names, if it names one.
abbrev pub context_of : Request → Option ℕ
context_of request = if names_context request then Some (header_of request.bytes).ctx_id else None

-- The rectangle has pixels and lies in a resource of this width, whose pixels are of so many bytes; and the bytes reach to its end.
pub record FitsBytes (rect : Rect) (width size : ℕ) (bytes : List ℕ) : Type 0 where
  pub some : is_empty rect ≡ false
  pub columns : rect.x + rect.width ≤ width
  pub rows : 4 * width * (rect.y + rect.height) ≤ size
  pub long : 4 * width * (rect.height - 1) + 4 * rect.width ≤ length bytes

abbrev pub Fits : Rect → ℕ → ℕ → Option (List ℕ) → Type 0
Fits rect width size (Some bytes) = FitsBytes rect width size bytes
Fits rect width size None = Unit {0}
