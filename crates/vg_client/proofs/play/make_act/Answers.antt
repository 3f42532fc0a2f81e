use Rattle.std.proofs.Common.{◌+◌, refl}
use Rattle.vg_laws.proofs.Results.{on_err}
use Rattle.vg_history.specs.declared.entry.Entry.TheVariants as entries
use Rattle.vg_client.proofs.ReplyLemmas.{few-act}
use Rattle.vg_client.proofs.PlayLemmas.{done-by, given-is, stays-act, unadded}
use Rattle.vg_client.proofs.play.make_act.Goals as goal

pub returns-clause-done : goal.returns-clause-done
returns-clause-done g c =
    let account = c.args.client.now.token.account in
    let reply = c.in_ok-number.reply in
    let added = c.in_ok-number.ensures.added in
    let is = given-is account.number (account.used + 1) c.args.act reply c.is_denial-is_told.result c.given_act.result c.is_denial-is_told.ensures c.given_act.ensures in (
      reply,
      done-by c.args.client.now _ (entries.Act account.number (account.used + 1) c.args.act reply) (record { number = c.in_ok-number.number; given = c.given_act.result })
          added.0 c.requires.may.present (stays-act account.number (account.used + 1) c.args.act reply c.requires.stays) refl refl refl refl is,
      few-act added.1.0 account.number c.args.act reply c.is_denial-is_told.result c.given_act.result c.requires.few added.1.1 c.given_act.ensures,
    )

pub returns-in_err-number-clause-err : goal.returns-in_err-number-clause-err
returns-in_err-number-clause-err g c = on_err _ (unadded c.args.client.now _ c.in_err-number.ensures.err refl)
