use Rattle.vg_ring_tests.proofs.one_thread.a_bad_chain_is_read_as_its_fault.Given as goal

-- the ring that was just made
abbrev pub ghosts-carry : goal.ghosts-carry
ghosts-carry g a = record { ring = a.made.table }
