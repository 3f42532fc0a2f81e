use Rattle.std.proofs.Common.{◌≤◌, ◌∙◌, rules, sym, ap}
use Rattle.vg_driver.proofs.HalfLemmas.{note_there, signal_known}
use Rattle.vg_driver.proofs.heard.Heard.signal.Goals as goal

pub meet_known-requires : goal.meet_known-requires
meet_known-requires g c =
    let d = c.self.inside in
    let least : c.ordinal-ordinal.result ≤ d.known = search rules in
    note_there g.M.Machine d.lane c.ordinal-ordinal.result d.known d.note c.self.invariant c.ordinal-ordinal.ensures.bound.0 least

pub returns-clause-told : goal.returns-clause-told
returns-clause-told g c =
    let d = c.self.inside in
    let least : c.args.fence.now.ordinal ≤ d.known = search rules in
    signal_known g.M.Machine d.lane d.known d.note c.args.fence.now c.args.token.now c.meet_known.new.token c.self.invariant (c.requires ∙ ap (λ h. h.lane) (sym c.self.view_is)) least c.meet_known.ensures.watched c.meet_known.ensures.seen
