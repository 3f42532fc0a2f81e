-- What a request and its reply may have in a journal.
use Rattle.std.specs.Prelude.{◌≡◌, ℕ, ◌<◌, ◌≤◌, ◌^◌, ◌==◌, if◌then◌else◌, length}
use Rattle.std.specs.Bool.{⊤}
use Rattle.vg_wire.specs.declared.request.Queue.{Queue}
use Rattle.vg_wire.specs.declared.request.Queue.TheVariants.{Control, Cursor}
use Rattle.vg_device.specs.declared.request.Request.{Request}
use Rattle.vg_device.specs.declared.request.Reply.{Reply}
use Rattle.vg_device.specs.declared.request.Reply.TheVariants.{Fault, Response}
use Rattle.vg_line_words.specs.Words.{AreBelow}
use Rattle.vg_command_lines.specs.Shapes.{ShapeInRange}

-- The queue of a lane: lane 65 is that of the cursor.
abbrev pub queue_of : ℕ → Queue
queue_of lane = if lane == 65 then Cursor else Control

pub record RequestInRange (request : Request) : Type 0 where
  -- lanes 0 to 65
  pub lane : request.lane < 66
  pub queue : request.queue ≡ queue_of request.lane
  pub ordinal : request.ordinal < 2 ^ 63
  pub room : request.room ≤ 8192
  pub shape : ShapeInRange request.shape
  pub bytes : AreBelow 256 request.bytes
  pub few : length request.bytes ≤ 49152

abbrev pub CommandReplyInRange : Reply → Type 0
CommandReplyInRange (Response bytes) = AreBelow 256 bytes × (length bytes ≤ 8192)
CommandReplyInRange (Fault fault) = ⊤
