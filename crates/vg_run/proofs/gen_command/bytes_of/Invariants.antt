use Rattle.std.proofs.Common.{◌≡◌, ◌≤◌, ◌*◌, ◌^◌, take}
use Rattle.vg_run.specs.Generates.{frame_bytes}
use Rattle.vg_run.proofs.gen_command.bytes_of.Given as goal

abbrev pub invariant-loop-frame : goal.invariant-loop-frame
invariant-loop-frame l = (l.bytes ≡ frame_bytes (take l.frame-index l.frames)) × (l.bytes ≤ l.frame-index * 2 ^ 64)
