use Rattle.std.proofs.Common.{arith}
use Rattle.vg_text.proofs.PackingLemmas.{some_said}
use Rattle.vg_text.proofs.spelling.Spelling.is_done.Goals as goal

pub returns-clause-more : goal.returns-clause-more
returns-clause-more c = λ no. rw (← c.self.view_is) (some_said c.self.inside.rest.now c.self.invariant (search (arith, no, c.is_empty.ensures)))
