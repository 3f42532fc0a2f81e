use Rattle.vg_legal.proofs.driving.drive.Given as goal

-- The book that was just opened.
abbrev pub ghosts-with_rings : goal.ghosts-with_rings
ghosts-with_rings g a = record { table = a.opened.table }
