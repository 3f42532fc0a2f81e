use Rattle.std.proofs.Common.{◌≡◌, false, sym, subst}
use Rattle.vg_front.specs.Desks.{AddsTokens, DeskData, is_busy}
use Rattle.vg_front.proofs.DeskLemmas.{adds_tokens}
use Rattle.vg_front.proofs.desk.Desk.close.Goals as goal

pub returns-clause-tokens : goal.returns-clause-tokens
returns-clause-tokens g c =
    let d = c.self.inside in
    let k = c.self.invariant.0 in
    let old : DeskData g.row.P.Denot g.row.T.Denot = record { lists = d.end; first = d.first; homes = d.homes.items; waiting = d.waiting.items; halted = d.halted } in
    let idle = subst (λ o. is_busy o ≡ false) (sym c.self.view_is) c.requires.idle in
    subst (λ o. AddsTokens g.T.Turn.lane_of g.T.Turn.count_of o c.args.tokens.now.items c.put_tokens.new.tokens.items) c.self.view_is (adds_tokens g.P.Tagged.is_wanted g.T.Turn.lane_of g.T.Turn.count_of old k.0 k.1 idle c.args.tokens.now.items c.put_tokens.new.tokens.items c.put_tokens.ensures.tokens)
