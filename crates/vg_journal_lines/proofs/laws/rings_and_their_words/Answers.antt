use Rattle.vg_journal_lines.proofs.CountLaws.{plain_rings, rings_back, rings_only}
use Rattle.vg_journal_lines.proofs.laws.rings_and_their_words.Goals as goal

pub returns : goal.returns
returns c = record { plain = plain_rings; back = rings_back; only = rings_only }
