-- The display of a scanout as it is plugged, and its block.
use Rattle.std.proofs.Common.{◌≡◌, ◌==◌, ◌≤◌, ℕ, List, [], ◌∷◌, length, Some, true, false, cond, Bool, sym, ap, ◌∙◌, arith}
use Rattle.std.specs.List.{All}
use Rattle.std.proofs.lemmas.List.{length-map}
use Rattle.std.proofs.lemmas.List.Elements.{All-cons, All-nil}
use Rattle.vg_edid.specs.Edid.{edid_bytes}
use Rattle.vg_wire_ext.specs.declared.response.Response.TheVariants as responses
use Rattle.vg_limits.specs.Limits.{Limits, of_queues, version_1, version_2}
use Rattle.vg_client_holds.specs.Setup.{AreDisplays}
use Rattle.vg_plugs.specs.Plugs.{IsSize, PlugState, mode_at, with_displays}
use Rattle.vg_plugs.proofs.PlugLemmas.{size-is}
use Rattle.vg_device.specs.State.{IsConsistent, State}
use Rattle.vg_device.specs.Step.{edid_step}

pub edid-given : (state : State) (scanout : ℕ) (size : ℕ × ℕ) (block : List ℕ) → mode_at scanout state.plugs.modes ≡ Some size
    → block ≡ edid_bytes size.0 size.1 scanout → edid_step state scanout ≡ (state, responses.Edid block)
edid-given state scanout size block is made = rw is (ap (λ b. (state, responses.Edid b)) (sym made))

-- displays of either version are such as can be plugged
within-2 : (queues : ℕ × ℕ) → ((of_queues queues).width ≤ version_2.width) × ((of_queues queues).height ≤ version_2.height)
within-2 queues = by_test (queues.0 == 64)
  where
    by_test : (b : Bool) → ((cond b version_1 version_2).width ≤ version_2.width) × ((cond b version_1 version_2).height ≤ version_2.height)
    by_test true = (omega arith, omega arith)
    by_test false = (omega arith, omega arith)

sizes-by : (most : Limits) (displays : List (ℕ × ℕ)) → most.width ≤ version_2.width → most.height ≤ version_2.height → AreDisplays most displays → All IsSize displays
sizes-by most [] wide high are = All-nil IsSize
sizes-by most ((width, height) ∷ more) wide high are =
    let is = are.0 in
    All-cons IsSize (width, height) more (size-is width height is.0 (omega (arith, is.1, wide)) is.2 (omega (arith, is.3, high))) (sizes-by most more wide high are.1)

pub sizes-are : (queues : ℕ × ℕ) (displays : List (ℕ × ℕ)) → AreDisplays (of_queues queues) displays → All IsSize displays
sizes-are queues displays are = let within = within-2 queues in sizes-by (of_queues queues) displays within.0 within.1 are

pub as-many : (displays : List (ℕ × ℕ)) → length (with_displays displays).modes ≡ length displays
as-many displays = length-map _ _

-- a display keeps what it keeps where as many displays are plugged otherwise
pub consistent-plugs : (state : State) (plugs : PlugState) → length plugs.modes ≡ length state.plugs.modes → IsConsistent state → IsConsistent (record state { plugs = plugs })
consistent-plugs state plugs many was = record {
  setup = was.setup;
  pages = was.pages;
  backings = was.backings;
  blobs = was.blobs;
  screens = was.screens;
  showing = was.showing;
  leases = was.leases;
  share = was.share;
  reserved = was.reserved;
  exports = was.exports;
  given = was.given;
  cursors = was.cursors;
  plugs = many ∙ was.plugs;
}
