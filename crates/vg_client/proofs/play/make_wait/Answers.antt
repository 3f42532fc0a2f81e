use Rattle.std.proofs.Common.{◌+◌, refl}
use Rattle.vg_laws.proofs.Results.{on_err}
use Rattle.vg_client_holds.specs.declared.act.Act.TheVariants as acts
use Rattle.vg_client_holds.specs.declared.act.ActReply.TheVariants as act_replies
use Rattle.vg_history.specs.declared.entry.Entry.TheVariants as entries
use Rattle.vg_client.specs.declared.given.Given.TheVariants as givens
use Rattle.vg_client.proofs.PlayLemmas.{done-by, unadded}
use Rattle.vg_client.proofs.play.make_wait.Goals as goal

pub returns-clause-done : goal.returns-clause-done
returns-clause-done g c =
    let account = c.args.client.now.token.account in
    let fence = c.args.fence in (
      done-by c.args.client.now _ (entries.Act account.number (account.used + 1) (acts.Await fence.lane fence.ordinal) act_replies.Ok)
          (record { number = c.in_ok-number.number; given = givens.Act act_replies.Ok }) c.in_ok-number.ensures.added.0 c.requires.active.present refl refl refl refl refl refl,
      tt,
    )

pub returns-in_err-number-clause-err : goal.returns-in_err-number-clause-err
returns-in_err-number-clause-err g c = on_err _ (unadded c.args.client.now _ c.in_err-number.ensures.err refl)
