-- A screen without pixels has none that a cursor could lie over.
use Rattle.std.proofs.Common.{◌≡◌, ℕ, Bool, true, false, cond, List, [], ◌∷◌, length, refl, arith}
use Rattle.vg_places.specs.Places.{tabulate}
use Rattle.vg_cursor.specs.declared.cursor.Cursor.{Cursor}
use Rattle.vg_cursor.specs.Blended.{blended, blended_place}

pub empty-blended : (cursor : Cursor) (width : ℕ) (old : List ℕ) → length old ≡ 0 → old ≡ blended cursor width old
unfolding blended
empty-blended cursor width [] none = by_test cursor.visible
  where
    by_test : (b : Bool) → [] ≡ cond b (tabulate 0 (blended_place cursor width [])) []
    by_test true = refl
    by_test false = refl
empty-blended cursor width (byte ∷ more) none = absurd (omega (arith, none))
