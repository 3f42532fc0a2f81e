use Rattle.vg_book_tests.proofs.counter.four_clients_and_three_lanes_make_five_thousand_entries.Given as goal

-- The book that was just opened.
abbrev pub ghosts-shares : goal.ghosts-shares
ghosts-shares g a = record { table = a.opened.table }
