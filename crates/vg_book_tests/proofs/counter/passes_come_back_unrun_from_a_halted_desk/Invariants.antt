use Rattle.vg_book_tests.proofs.counter.passes_come_back_unrun_from_a_halted_desk.Given as goal

-- The book that was just opened.
abbrev pub ghosts-shares : goal.ghosts-shares
ghosts-shares g a = record { table = a.opened.table }
