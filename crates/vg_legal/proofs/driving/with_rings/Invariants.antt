use Rattle.vg_legal.proofs.driving.with_rings.Given as goal

-- The rings that were just made.
abbrev pub ghosts-journal_in : goal.ghosts-journal_in
ghosts-journal_in g a = record { control = a.device.control.table; cursor = a.device.cursor.table }
