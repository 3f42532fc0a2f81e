use Rattle.vg_journal_lines.proofs.EntryLaws.{CommandsAreSaid, entry_back, entry_ends, entry_only, entry_parts, one_entry, text_entry}
use Rattle.vg_journal_lines.proofs.laws.entries_and_their_words.Goals as goal

pub returns : goal.returns
returns c =
    let requests = c.requests_and_their_text.ensures in
    let replies = c.command_replies_and_their_text.ensures in
    let commands : CommandsAreSaid = record {
      text_request = requests.text;
      text_reply = replies.text;
      plain_request = requests.plain;
      plain_reply = replies.plain;
      request_said = requests.said;
      reply_said = replies.said;
      request_only = requests.only;
      reply_only = replies.only;
    } in
    record { text = text_entry commands; parts = entry_parts commands; line = entry_ends commands; back = entry_back commands; only = entry_only commands; one = one_entry commands }
