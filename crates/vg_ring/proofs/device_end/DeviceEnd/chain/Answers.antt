use Rattle.std.proofs.Common.{sym, subst}
use Rattle.vg_chain.specs.Memory.{memory}
use Rattle.vg_chain.specs.Walk.{Walks}
use Rattle.vg_cargo.specs.Entries.{Has}
use Rattle.vg_split.specs.Plays.{device_of}
use Rattle.vg_split.proofs.TableLemmas.{chain_is, walk_of_cargo}
use Rattle.vg_ring.proofs.device_end.DeviceEnd.chain.Goals as goal

pub returns-clause-chain : goal.returns-clause-chain
returns-clause-chain g c =
    let t = c.self.inside in
    let v = device_of t.pass.me.0 in
    let k = c.self.invariant.2 in
    let on = c.self.invariant.0 in
    let e = c.args.right.now.entry in
    let held = k.lent_held e (subst (λ l. Has e l.lent) (sym c.self.view_is) c.requires.lent) in
    let p = c.parts.result in
    let x = c.parts.ensures.extent in
    let table = c.read_table.new.table.items in
    let walks' = subst (λ xs. Walks (memory p.form p.base p.request p.room p.tables.now) xs c.head.result c.in_ok-walked.walked) c.as_slice.ensures.value c.in_ok-walked.ensures in
    let walks = subst (λ f. Walks (memory f p.base p.request p.room p.tables.now) table c.head.result c.in_ok-walked.walked) c.parts.ensures.form walks' in
    walk_of_cargo e c.args.cargo.now c.in_ok-walked.walked c.requires.cargo
    (chain_is t.size table v.held e c.args.cargo.now p.base p.request p.room p.tables.now c.head.result c.in_ok-walked.walked c.a_walk_has_one_result.ensures c.a_layout_is_walked.ensures on.least c.in_ok-read_table.ensures.length c.in_ok-read_table.ensures.table held (k.whole e held) (k.apart e held) (k.some_place e held) (k.places_below e held)
    c.requires.cargo x.base x.request x.room x.measured c.parts.ensures.tables c.head.ensures walks)
