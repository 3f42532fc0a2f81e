use Rattle.vg_ring_bench.proofs.carried.Given as goal

-- the ring that was just made
abbrev pub ghosts-over_ring : goal.ghosts-over_ring
ghosts-over_ring g a = record { ring = a.made.table }
