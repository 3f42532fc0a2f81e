use Rattle.std.specs.Prelude.{Bool, true, false}
use Rattle.vg_wire.specs.declared.request.Queue.{Queue}
use Rattle.vg_wire.specs.declared.request.Queue.TheVariants.{Control, Cursor}

-- The queue is the control queue.
abbrev pub is_control : Queue → Bool
is_control Control = true
is_control Cursor = false
