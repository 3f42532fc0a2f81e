-- All backings that are held, and a rectangle without pixels.
use Rattle.std.proofs.Common.{◌≡◌, ℕ, ◌*◌, ◌⊎◌, List, true, inl, inr, arith}
use Rattle.std.specs.List.{All}
use Rattle.std.proofs.lemmas.Bool.{cases_eq}
use Rattle.std.proofs.lemmas.Bool.Decides.{nat_tests}
use Rattle.vg_formats.specs.declared.entry.MemEntry.{MemEntry}
use Rattle.vg_formats.specs.declared.rect.Rect.{Rect}
use Rattle.vg_formats.specs.Pixels.{is_empty}
use Rattle.vg_pages.specs.Memory.{Memory}
use Rattle.vg_backing.specs.Backing.{AreHeld}

abbrev pub AllHeld : Memory → List (ℕ × List MemEntry) → Type 0
AllHeld memory backings = All (λ entry. AreHeld memory entry.1) backings

-- a rectangle without pixels has no columns or no rows
pub empty-parts : (rect : Rect) → is_empty rect ≡ true → (4 * rect.width ≡ 0) ⊎ (rect.height ≡ 0)
empty-parts rect empty =
    elim (cases_eq rect.width 0) [
      | inl none ↦ inl (omega (arith, none))
      | inr some ↦ inr (grind (arith, nat_tests))
    ]
