use Rattle.vg_journal_lines.proofs.EntryLaws.{CommandsAreSaid}
use Rattle.vg_journal_lines.proofs.OnlyLaws.{pieces_only}
use Rattle.vg_journal_lines.proofs.RunLaws.{journal_read, one_read, one_text}
use Rattle.vg_journal_lines.proofs.laws.journals_and_their_text.Goals as goal

pub returns : goal.returns
returns c =
    let requests = c.requests_and_their_text.ensures in
    let replies = c.command_replies_and_their_text.ensures in
    let commands : CommandsAreSaid = record {
      text_request = requests.text;
      text_reply = replies.text;
      plain_request = requests.plain;
      plain_reply = replies.plain;
      request_said = requests.said;
      reply_said = replies.said;
      request_only = requests.only;
      reply_only = replies.only;
    } in
    record { read = journal_read commands; one_read = one_read; only = pieces_only commands; one = one_text commands }
