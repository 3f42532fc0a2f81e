use Rattle.vg_legal.proofs.DriveLemmas.{is-run, lanes-new, legal-run}
use Rattle.vg_legal.proofs.driving.drive_in.Goals as goal

pub ends-requires-clause-tokens : goal.ends-requires-clause-tokens
ends-requires-clause-tokens g c = lanes-new c.args.device.opened.start c.args.device.opened.lanes c.in_ok-book.tokens.items c.requires.book.1 c.in_ok-book.ensures.lanes

pub returns-clause-journal : goal.returns-clause-journal
returns-clause-journal g c =
    let script = c.args.script in
    let closed = c.in_ok-closed.closed in
    let run = is-run script c.run_threads.new.root closed.history closed.frames.items c.calls_stand_behind.ensures.closed c.clients_make_one_history.ensures c.in_ok-front.ensures.joined c.in_ok-closed.ensures.ended in
    legal-run script c.journal_of.result c.args.setup closed.history closed.frames.items c.requires.setup run c.journal_of.ensures.parts c.journal_of.ensures.control c.journal_of.ensures.cursor
