use Rattle.vg_legal.proofs.driving.journal_in.Goals as goal

pub returns-clause-completed : goal.returns-clause-completed
returns-clause-completed g c = let driven = c.in_ok-driven.driven in (driven.control, driven.cursor, c.in_ok-driven.ensures.completed)
