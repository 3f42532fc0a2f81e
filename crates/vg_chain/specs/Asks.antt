use Rattle.std.specs.Prelude.{ℕ, List}
use Rattle.vg_wire.specs.declared.request.Queue.{Queue}
use Rattle.vg_chain.specs.declared.shape.Shape.{Shape}
use Rattle.vg_chain.specs.declared.asked.Asked.{Asked}

-- What is asked by these bytes on this queue, with this room, in a chain of this shape.
abbrev pub asked : Queue → List ℕ → ℕ → Shape → Asked
asked queue bytes room shape = record { queue = queue; bytes = bytes; room = room; shape = shape }
