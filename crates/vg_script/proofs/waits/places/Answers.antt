use Rattle.std.proofs.Common.{rules, arith, ◌≡◌, ◌++◌}
use Rattle.vg_script.specs.SearchWithin.{places_in}
use Rattle.vg_script.proofs.WalkLemmas.{clients_next, clients_over}
use Rattle.vg_script.proofs.waits.places.Goals as goal

pub loop-client-preserved : goal.loop-client-preserved
loop-client-preserved c =
    let added : c.put_places.new.places.items ≡ c.loop-client.places.items ++ places_in c.loop-client.client 0 c.index-clients-client.result = search rules in
    clients_next c.loop-client.client c.args.clients.now c.index-clients-client.result c.loop-client.places.items c.put_places.new.places.items _ (search arith) (search rules)
    added c.loop-client.invariant

pub returns : goal.returns
returns c = clients_over c.loop-client.client c.args.clients.now c.loop-client.places.items _ (search arith) c.loop-client.invariant
