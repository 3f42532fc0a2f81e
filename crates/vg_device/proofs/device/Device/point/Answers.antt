use Rattle.std.proofs.Common.{rules, ◌<◌, ◌∙◌, List, Option, length, ap, arith, refl, subst, sym}
use Rattle.std.specs.List.{All}
use Rattle.vg_cursor.specs.Cursor.{changed}
use Rattle.vg_scanout.specs.Scanout.{Screen}
use Rattle.vg_device.specs.ChangeWithin.{change_of}
use Rattle.vg_device.specs.State.{IsShowing, State}
use Rattle.vg_device.proofs.CursorLemmas.{cursor-changed, pointed-done, pointed-refused, screens-snapped}
use Rattle.vg_device.proofs.device.Device.point.Goals as goal

pub invariant_of-self-in-Err : goal.invariant_of-self-in-Err
invariant_of-self-in-Err c =
    let s = c.self.inside in
    let change = change_of c.args.change.now in
    let displays = subst (λ (state : State). c.args.scanout < length state.setup.displays) (sym c.self.view_is) c.requires.scanout in
    let like = cursor-changed change s.cursors c.args.scanout (omega (arith, displays, c.self.invariant.cursors)) ∙ sym c.look_after-look.ensures.look in
    let step = c.in_ok-code.ensures.done (changed change c.args.scanout s.cursors) like in
    let was = c.self.invariant in
    let same = screens-snapped s.entries c.args.scanout (changed change c.args.scanout s.cursors) s.scanouts c.snap.new.self c.in_ok-code.field-0 step in
    record {
      setup = was.setup;
      pages = was.pages;
      backings = was.backings;
      blobs = was.blobs;
      screens = ap length same ∙ was.screens;
      showing = subst (λ (screens : List (Option Screen)). All (IsShowing s.blobs s.resources.resources) screens) (sym same) was.showing;
      leases = was.leases;
      share = was.share;
      reserved = was.reserved;
      exports = was.exports;
      given = was.given;
      cursors = was.cursors;
      plugs = was.plugs;
    }

pub returns-in-Err-clause-step : goal.returns-in-Err-clause-step
returns-in-Err-clause-step c =
    let s = c.self.inside in
    let change = change_of c.args.change.now in
    let displays = subst (λ (state : State). c.args.scanout < length state.setup.displays) (sym c.self.view_is) c.requires.scanout in
    let like = cursor-changed change s.cursors c.args.scanout (omega (arith, displays, c.self.invariant.cursors)) ∙ sym c.look_after-look.ensures.look in
    let step = c.in_ok-code.ensures.done (changed change c.args.scanout s.cursors) like in
    let state : State = record { setup = s.setup; entries = s.entries; memory = s.pages; resources = s.resources.resources; backings = s.backings; blobs = s.blobs; contexts = s.contexts; uuids = s.uuids; cursors = s.cursors; scanouts = s.scanouts; share = s.share; plugs = s.plugs } in
    rw (← c.self.view_is)
    (pointed-refused state c.args.scanout change (changed change c.args.scanout s.cursors) c.snap.new.self c.in_ok-code.field-0 c.in-Err.code step c.in-Err.is)

pub invariant_of-self-2 : goal.invariant_of-self-2
invariant_of-self-2 c =
    let s = c.self.inside in
    let change = change_of c.args.change.now in
    let displays = subst (λ (state : State). c.args.scanout < length state.setup.displays) (sym c.self.view_is) c.requires.scanout in
    let like = cursor-changed change s.cursors c.args.scanout (omega (arith, displays, c.self.invariant.cursors)) ∙ sym c.look_after-look.ensures.look in
    let step = c.in_ok-code.ensures.done (changed change c.args.scanout s.cursors) like in
    let was = c.self.invariant in
    let same = screens-snapped s.entries c.args.scanout (changed change c.args.scanout s.cursors) s.scanouts c.snap.new.self c.in_ok-code.field-0 step in
    record {
      setup = was.setup;
      pages = was.pages;
      backings = was.backings;
      blobs = was.blobs;
      screens = ap length same ∙ was.screens;
      showing = subst (λ (screens : List (Option Screen)). All (IsShowing s.blobs s.resources.resources) screens) (sym same) was.showing;
      leases = was.leases;
      share = was.share;
      reserved = was.reserved;
      exports = was.exports;
      given = was.given;
      cursors = search rules;
      plugs = was.plugs;
    }

pub returns-clause-step : goal.returns-clause-step
returns-clause-step c =
    let s = c.self.inside in
    let change = change_of c.args.change.now in
    let displays = subst (λ (state : State). c.args.scanout < length state.setup.displays) (sym c.self.view_is) c.requires.scanout in
    let like = cursor-changed change s.cursors c.args.scanout (omega (arith, displays, c.self.invariant.cursors)) ∙ sym c.look_after-look.ensures.look in
    let step = c.in_ok-code.ensures.done (changed change c.args.scanout s.cursors) like in
    let state : State = record { setup = s.setup; entries = s.entries; memory = s.pages; resources = s.resources.resources; backings = s.backings; blobs = s.blobs; contexts = s.contexts; uuids = s.uuids; cursors = s.cursors; scanouts = s.scanouts; share = s.share; plugs = s.plugs } in
    rw (← c.self.view_is, c.change_cursor.ensures)
    (pointed-done state c.args.scanout change (changed change c.args.scanout s.cursors) c.snap.new.self c.in_ok-code.field-0 refl step c.in_default.not-Err)
