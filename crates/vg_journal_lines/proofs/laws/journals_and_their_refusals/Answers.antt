use Rattle.vg_journal_lines.proofs.EntryLaws.{CommandsAreSaid}
use Rattle.vg_journal_lines.proofs.EndLemmas.{run_kept}
use Rattle.vg_journal_lines.proofs.RefusalLaws.{ended, one_refusal, refused}
use Rattle.vg_journal_lines.proofs.laws.journals_and_their_refusals.Goals as goal

pub returns : goal.returns
returns c =
    let requests = c.requests_and_their_text.ensures in
    let replies = c.command_replies_and_their_text.ensures in
    let commands : CommandsAreSaid = record {
      text_request = requests.text;
      text_reply = replies.text;
      plain_request = requests.plain;
      plain_reply = replies.plain;
      request_said = requests.said;
      reply_said = replies.said;
      request_only = requests.only;
      reply_only = replies.only;
    } in
    record {
      ended = ended commands;
      refused = λ bytes front rest read below is text no_more unended. refused commands bytes front rest read is text no_more below unended;
      kept = run_kept;
      one = one_refusal;
    }
