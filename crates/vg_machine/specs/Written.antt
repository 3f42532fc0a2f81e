-- What crosses with a command: what its request asks for, what its reply writes into the room, and the reply that is read there.
use Rattle.std.specs.Prelude.{ℕ, List, [], length, take, min}
use Rattle.vg_chain.specs.declared.asked.Asked.{Asked}
use Rattle.vg_chain.specs.Asks.{asked}
use Rattle.vg_chain.specs.declared.shape.Shape.{Shape}
use Rattle.vg_chain.specs.declared.shape.Shape.TheVariants.{Bad}
use Rattle.vg_device.specs.declared.request.Request.{Request}
use Rattle.vg_device.specs.declared.request.Reply.{Reply}
use Rattle.vg_device.specs.declared.request.Reply.TheVariants.{Response, Fault}

abbrev pub asks_of : Request → Asked
asks_of request = asked request.queue request.bytes request.room request.shape

-- As many of the bytes as there is room for.
abbrev pub within : ℕ → List ℕ → List ℕ
within room bytes = take (min (length bytes) room) bytes

-- What a reply writes into a room of so many bytes: as much of a response as it holds, and nothing of a fault.
abbrev pub written_in : ℕ → Reply → List ℕ
written_in room (Response bytes) = within room bytes
written_in room (Fault fault) = []

-- The reply to a request of this shape, by what is in its room: the fault of a bad chain, and else the response.
abbrev pub read_by : Shape → List ℕ → Reply
read_by (Bad fault) bytes = Fault fault
read_by _ bytes = Response bytes
