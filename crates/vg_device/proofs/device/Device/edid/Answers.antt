use Rattle.std.proofs.Common.{◌∙◌, ap, arith, subst, sym}
use Rattle.vg_plugs.specs.Plugs.{FitsDisplay, mode_at}
use Rattle.vg_plugs.proofs.PlugLemmas.{mode-within, sizes-of}
use Rattle.vg_device.specs.State.{State}
use Rattle.vg_device.proofs.EdidLemmas.{edid-given}
use Rattle.vg_device.proofs.device.Device.edid.Goals as goal

pub edid-requires-clause-width : goal.edid-requires-clause-width
edid-requires-clause-width c =
    let is = sizes-of (c.in-Some.width, c.in-Some.height) (subst FitsDisplay c.in-Some.is c.mode.ensures.fits) in
    (is.0, omega (arith, is.1))

pub edid-requires-clause-height : goal.edid-requires-clause-height
edid-requires-clause-height c =
    let is = sizes-of (c.in-Some.width, c.in-Some.height) (subst FitsDisplay c.in-Some.is c.mode.ensures.fits) in
    (is.2, omega (arith, is.3))

pub edid-requires-clause-scanout : goal.edid-requires-clause-scanout
edid-requires-clause-scanout c =
    let within = mode-within c.self.inside.plugs.modes c.args.scanout _ (sym c.mode.ensures.mode ∙ c.in-Some.is) in
    omega (arith, within, c.self.invariant.plugs, c.self.invariant.setup.at_most)

pub returns-in-Some : goal.returns-in-Some
returns-in-Some c =
    let at = ap (λ (state : State). mode_at c.args.scanout state.plugs.modes) (sym c.self.view_is) ∙ sym c.mode.ensures.mode ∙ c.in-Some.is in
    edid-given c.args.self.now c.args.scanout _ c.edid.result at c.edid.ensures.block
