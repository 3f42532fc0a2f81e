use Rattle.vg_journal_read.proofs.ReadLemmas.{every_journal}
use Rattle.vg_journal_read.proofs.whole.read.Goals as goal

pub returns-clause-every_journal : goal.returns-clause-every_journal
returns-clause-every_journal c = every_journal c.args.bytes.now c.read_pieces.result c.journals_and_their_text.ensures.one c.read_pieces.ensures.ok c.read_pieces.ensures.err
