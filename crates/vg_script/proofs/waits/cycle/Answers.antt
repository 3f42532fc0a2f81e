use Rattle.std.proofs.Common.{rules, arith, ◌≡◌, ◌∙◌, ◌<◌, ◌≤◌, ap, length, map, get_or, Some, None}
use Rattle.vg_script.specs.SearchWithin.{find_in, fresh}
use Rattle.vg_script.specs.WalkWithin.{target_in}
use Rattle.vg_script.proofs.WalkLemmas.{found_client, next_client, no_client, cycle_some, cycle_none, size_at, sizes_length}
use Rattle.vg_script.proofs.waits.cycle.Goals as goal

pub returns-in-Some : goal.returns-in-Some
returns-in-Some c =
    let clients = c.args.clients.now in
    let target = target_in clients c.in_ok-places.places.items in
    let lt : c.loop-client.client < length clients = search arith in
    let within : c.loop-client.client < length (map length clients) = omega (arith, lt, sizes_length clients) in
    let size : get_or (map length clients) c.loop-client.client 0 ≡ length c.index-clients-client.result = size_at clients c.loop-client.client c.index-clients-client.result lt (search rules) in
    let found : find_in target c.args.total c.loop-client.client (length c.index-clients-client.result) 0 (fresh (length clients)) ≡ Some c.in-Some.place = search rules in
    cycle_some clients c.in_ok-places.places.items c.args.total c.loop-client.client c.in-Some.place c.number_of.result c.in_ok-places.ensures c.requires.total
    (found_client target c.args.total (length clients) c.loop-client.client c.in-Some.place (map length clients) _ within
    (ap (λ n. find_in target c.args.total c.loop-client.client n 0 (fresh (length clients))) size ∙ found) c.loop-client.invariant)
    c.number_of.ensures

pub loop-client-preserved : goal.loop-client-preserved
loop-client-preserved c =
    let clients = c.args.clients.now in
    let target = target_in clients c.in_ok-places.places.items in
    let lt : c.loop-client.client < length clients = search arith in
    let within : c.loop-client.client < length (map length clients) = omega (arith, lt, sizes_length clients) in
    let size : get_or (map length clients) c.loop-client.client 0 ≡ length c.index-clients-client.result = size_at clients c.loop-client.client c.index-clients-client.result lt (search rules) in
    let none : find_in target c.args.total c.loop-client.client (length c.index-clients-client.result) 0 (fresh (length clients)) ≡ None = search rules in
    next_client target c.args.total (length clients) c.loop-client.client (map length clients) _ within
    (ap (λ n. find_in target c.args.total c.loop-client.client n 0 (fresh (length clients))) size ∙ none) c.loop-client.invariant

pub returns : goal.returns
returns c =
    let clients = c.args.clients.now in
    let over : length (map length clients) ≤ c.loop-client.client = (let le : length clients ≤ c.loop-client.client = search arith in omega (arith, le, sizes_length clients)) in
    cycle_none clients c.in_ok-places.places.items c.args.total c.in_ok-places.ensures c.requires.total
    (no_client (target_in clients c.in_ok-places.places.items) c.args.total (length clients) c.loop-client.client (map length clients) _ over c.loop-client.invariant)
