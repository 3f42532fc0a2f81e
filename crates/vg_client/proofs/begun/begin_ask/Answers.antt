use Rattle.std.proofs.Common.{◌≡◌, ◌∙◌, Some, ap, inl, inr, sym}
use Rattle.vg_laws.proofs.Results.{on_err, err_then}
use Rattle.vg_client_holds.specs.declared.holds.Holds.{Holds}
use Rattle.vg_driver.specs.Asks.{denied_for}
use Rattle.vg_client.proofs.PlayLemmas.{added-none, map_ok, tickets-kept}
use Rattle.vg_client.proofs.StepLemmas.{ask-denied, ask-unbegun, either_way}
use Rattle.vg_client.proofs.begun.begin_ask.Goals as goal

pub returns-in_err-what-clause-begun : goal.returns-in_err-what-clause-begun
returns-in_err-what-clause-begun g c = on_err _ (ask-unbegun c.args.ask.now c.args.client.now c.args.client.now (added-none c.args.client.now))

pub returns-in-Some-clause-done : goal.returns-in-Some-clause-done
returns-in-Some-clause-done g c =
    let client = c.args.client.now in
    let ask = c.args.ask.now in
    let is : denied_for client.token.account.holds ask ≡ Some c.in-Some.what = ap (λ (h : Holds). denied_for h ask) (sym c.holds.ensures) ∙ sym c.in_ok-what.ensures.first ∙ c.in-Some.is in
    map_ok c.deny.result (λ played denied. inr (c.in-Some.what, is, denied)) c.deny.ensures.done

pub returns-in-Some-clause-begun : goal.returns-in-Some-clause-begun
returns-in-Some-clause-begun g c =
    let client = c.args.client.now in
    let ask = c.args.ask.now in
    let is : denied_for client.token.account.holds ask ≡ Some c.in-Some.what = ap (λ (h : Holds). denied_for h ask) (sym c.holds.ensures) ∙ sym c.in_ok-what.ensures.first ∙ c.in-Some.is in
    err_then _ (ask-denied ask c.in-Some.what client c.deny.new.client is) c.deny.ensures.begun

pub returns-in-Some-clause-out : goal.returns-in-Some-clause-out
returns-in-Some-clause-out g c = either_way c.deny.result (λ played denied. tickets-kept denied.gone_on.added c.requires.out) (λ stood. tickets-kept stood.2 c.requires.out) c.deny.ensures.done c.deny.ensures.begun

pub begin_allowed-requires-clause-allowed : goal.begin_allowed-requires-clause-allowed
begin_allowed-requires-clause-allowed g c = ap (λ (h : Holds). denied_for h c.args.ask.now) (sym c.holds.ensures) ∙ sym c.in_ok-what.ensures.first ∙ c.in-None.is

pub returns-in-None-clause-done : goal.returns-in-None-clause-done
returns-in-None-clause-done g c = map_ok c.begin_allowed.result (λ played begun. inl begun) c.begin_allowed.ensures.done

pub returns-in-None-clause-begun : goal.returns-in-None-clause-begun
returns-in-None-clause-begun g c = err_then _ (ask-unbegun c.args.ask.now c.args.client.now c.begin_allowed.new.client) c.begin_allowed.ensures.begun
