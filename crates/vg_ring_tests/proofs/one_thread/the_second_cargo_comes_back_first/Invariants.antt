use Rattle.vg_ring_tests.proofs.one_thread.the_second_cargo_comes_back_first.Given as goal

-- the ring that was just made
abbrev pub ghosts-turns : goal.ghosts-turns
ghosts-turns g a = record { ring = a.made.table }
