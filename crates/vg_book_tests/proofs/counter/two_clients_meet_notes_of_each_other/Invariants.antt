use Rattle.vg_book_tests.proofs.counter.two_clients_meet_notes_of_each_other.Given as goal

-- The book that was just opened.
abbrev pub ghosts-meets : goal.ghosts-meets
ghosts-meets g a = record { table = a.opened.table }
