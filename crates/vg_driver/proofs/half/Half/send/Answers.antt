use Rattle.std.proofs.Common.{◌∙◌, ℕ, length, sym, ap, subst}
use Rattle.vg_chain.specs.Made.{IsNeeded}
use Rattle.vg_cargo.specs.Ends.{HasRoom}
use Rattle.vg_driver.proofs.HalfLemmas.{half_sent, has_room}
use Rattle.vg_driver.proofs.half.Half.send.Goals as goal

pub next_head-requires : goal.next_head-requires
next_head-requires g c = has_room c.self.inside.end c.args.shape (length c.args.parcel.request) c.args.parcel.room
    (subst (λ o. (count : ℕ) × IsNeeded c.args.shape (length c.args.parcel.request) c.args.parcel.room count × HasRoom o count) (sym c.self.view_is) c.requires.parcel.room)

pub publish-requires-clause-room : goal.publish-requires-clause-room
publish-requires-clause-room g c =
    subst (λ p. (count : ℕ) × IsNeeded c.args.shape (length p.request) p.room count × HasRoom c.self.inside.end count) (sym (ap (λ x. x.parcel) c.load.ensures))
    (subst (λ o. (count : ℕ) × IsNeeded c.args.shape (length c.args.parcel.request) c.args.parcel.room count × HasRoom o count) (sym c.self.view_is) c.requires.parcel.room)

pub invariant_of-self-2 : goal.invariant_of-self-2
invariant_of-self-2 g c =
    let d = c.self.inside in
    (half_sent g.M.Machine g.Q.OfQueue.queue d.end d.heard.items c.self.invariant.0 c.args.shape c.load.result c.publish.new.self c.publish.ensures.published, c.published.ensures.count_is ∙ c.published-count.ensures)

pub returns : goal.returns
returns g c = ((c.pass_of-pass.result, c.pass_of-pass.ensures), c.call-call.ensures ∙ ap (λ p. p.order.call) c.pass_of-pass.ensures.pass)
