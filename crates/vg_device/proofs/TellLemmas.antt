-- A screen is told by its pixels, so one list alone has what a flush shows.
use Rattle.std.proofs.Common.{◌≡◌, ◌≢◌, ℕ, ◌+◌, ◌*◌, ◌==◌, Bool, true, false, List, length, sym, refl, ◌∙◌, arith}
use Rattle.std.proofs.lemmas.Bool.Decides.{nat_tests}
use Rattle.vg_formats.specs.declared.rect.Rect.{Rect}
use Rattle.vg_places.specs.Pixels.{pixel_of}
use Rattle.vg_scanout.specs.Scanout.{Screen}
use Rattle.vg_transfer.proofs.WholeLemmas.{by-cover, pixels-tell}
use Rattle.vg_device.specs.Pixels.{ShowsScreen}

pub one-screen : (id : ℕ) (rect : Rect) (value : ℕ → ℕ → List ℕ) (old one other : Screen)
    → length one.pixels ≡ 4 * old.binding.rect.width * old.binding.rect.height → length other.pixels ≡ 4 * old.binding.rect.width * old.binding.rect.height
    → ShowsScreen id rect value old one → ShowsScreen id rect value old other → one.pixels ≡ other.pixels
one-screen id rect value old one other long as_long first second = by_test (old.binding.resource == id) refl
  where
    by_test : (b : Bool) → (old.binding.resource == id) ≡ b → one.pixels ≡ other.pixels
    by_test true e =
        let whole = old.binding.rect in
        let is : old.binding.resource ≡ id = grind (arith, nat_tests, e) in
        pixels-tell whole.width whole.height one.pixels other.pixels long as_long (λ x y across down.
        let a = first.shown is x y across down in
        let b = second.shown is x y across down in
        by-cover rect (whole.x + x) (whole.y + y) (pixel_of one.pixels whole.width x y ≡ pixel_of other.pixels whole.width x y)
        (λ inside. a.0 inside ∙ sym (b.0 inside))
        (λ outside. a.1 outside ∙ sym (b.1 outside)))
    by_test false e =
        let apart : old.binding.resource ≢ id = grind (arith, nat_tests, e) in
        first.other apart ∙ sym (second.other apart)
