use Rattle.vg_book_uses.proofs.MeetLemmas.{call_more}
use Rattle.vg_book_uses.proofs.meet.Post.meet.Goals as goal

pub returns-clause-heard : goal.returns-clause-heard
returns-clause-heard g c = call_more _ _ _ _ c.meet.ensures.more_note c.self.invariant
