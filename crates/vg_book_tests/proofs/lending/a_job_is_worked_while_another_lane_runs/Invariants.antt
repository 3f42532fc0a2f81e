use Rattle.vg_book_tests.proofs.lending.a_job_is_worked_while_another_lane_runs.Given as goal

-- The book that was just opened.
abbrev pub ghosts-lends : goal.ghosts-lends
ghosts-lends g a = record { table = a.opened.table }
