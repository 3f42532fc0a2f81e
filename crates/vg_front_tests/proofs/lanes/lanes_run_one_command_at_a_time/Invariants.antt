use Rattle.vg_front_tests.proofs.lanes.lanes_run_one_command_at_a_time.Given as goal

-- the rings that were just made
abbrev pub ghosts-run_lanes : goal.ghosts-run_lanes
ghosts-run_lanes g a = record { control = a.control.table; cursor = a.cursor.table }
