use Rattle.vg_laws.proofs.Results.{on_err}
use Rattle.vg_client.proofs.OutcomeLemmas.{played-none}
use Rattle.vg_client.proofs.PlayLemmas.{added-none, denied-told, may-deny, stood-denied, stood-undenied}
use Rattle.vg_client.proofs.play.deny.Goals as goal

pub returns-in_err-played-clause-begun : goal.returns-in_err-played-clause-begun
returns-in_err-played-clause-begun g c =
    let client = c.args.client.now in
    on_err _ (stood-undenied client client c.args.what (added-none client))

pub returns-in_err-added-clause-begun : goal.returns-in_err-added-clause-begun
returns-in_err-added-clause-begun g c = on_err _ (stood-undenied c.args.client.now c.make_act.new.client c.args.what c.in_err-added.ensures.err)

pub returns-in_err-add-clause-begun : goal.returns-in_err-add-clause-begun
returns-in_err-add-clause-begun g c = on_err _ (stood-denied c.args.client.now c.make_act.new.client c.args.what c.in_ok-added.added c.in_ok-added.ensures.done)

pub returns-clause-done : goal.returns-clause-done
returns-clause-done g c =
    let client = c.args.client.now in
    let none = played-none client.token.seen c.in_ok-played.played c.in_ok-played.ensures.0 c.in_ok-played.ensures.1 in
    denied-told client c.make_act.new.client c.args.what c.in_ok-played.played c.add.new.self c.in_ok-added.added c.requires.ready none c.in_ok-added.ensures.done c.in_ok-add.ensures.entries c.in_ok-add.ensures.last

pub make_act-requires-clause-may : goal.make_act-requires-clause-may
make_act-requires-clause-may g c = may-deny c.args.client.now.token c.args.what c.requires.ready.active c.requires.ready.small.guest c.requires.may
