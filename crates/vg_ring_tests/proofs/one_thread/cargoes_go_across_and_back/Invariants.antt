use Rattle.vg_ring_tests.proofs.one_thread.cargoes_go_across_and_back.Given as goal

-- the ring that was just made
abbrev pub ghosts-carry : goal.ghosts-carry
ghosts-carry g a = record { ring = a.made.table }
