use Rattle.std.proofs.Common.{◌+◌, ◌∙◌, ap, refl, sym}
use Rattle.vg_laws.proofs.Results.{on_err}
use Rattle.vg_history.specs.declared.entry.Entry.TheVariants as entries
use Rattle.vg_wire.specs.declared.request.Queue.{Queue}
use Rattle.vg_driver.specs.Asks.{request_for}
use Rattle.vg_driver.proofs.OfferLemmas.{made_queue}
use Rattle.vg_client.specs.declared.given.Given.TheVariants as givens
use Rattle.vg_client.proofs.PlayLemmas.{done-by, unadded}
use Rattle.vg_client.proofs.play.submit.Goals as goal

pub returns-clause-done : goal.returns-clause-done
returns-clause-done g c =
    let client = c.args.client.now in
    let account = client.token.account in
    let answer = c.in_ok-answer.answer in
    let added = c.in_ok-answer.ensures.added in (
      added.0,
      answer.reply,
      done-by client _ (entries.Command account.number (account.used + 1) (request_for c.args.ask.now added.0) answer.reply) (record { number = answer.entry; given = givens.Command c.queue.result answer.reply })
          added.1 c.requires.active.present refl refl refl refl refl (ap (λ (q : Queue). givens.Command q answer.reply) (c.queue.ensures ∙ sym (made_queue c.args.ask.now added.0))),
      tt,
    )

pub returns-in_err-answer-clause-err : goal.returns-in_err-answer-clause-err
returns-in_err-answer-clause-err g c = on_err _ (unadded c.args.client.now _ c.in_err-answer.ensures.err refl)
