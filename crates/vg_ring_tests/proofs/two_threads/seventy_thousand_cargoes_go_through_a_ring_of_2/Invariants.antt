use Rattle.vg_ring_tests.proofs.two_threads.seventy_thousand_cargoes_go_through_a_ring_of_2.Given as goal

-- the ring that was just made
abbrev pub ghosts-carries : goal.ghosts-carries
ghosts-carries g a = record { ring = a.made.table }
