use Rattle.vg_book_tests.proofs.counter.two_threads_make_a_thousand_acts_each.Given as goal

-- The book that was just opened.
abbrev pub ghosts-adds : goal.ghosts-adds
ghosts-adds g a = record { table = a.opened.table }
