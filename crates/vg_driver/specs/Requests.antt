-- The request of a command: by the way that it goes, and its ordinal on its lane.
use Rattle.std.specs.Prelude.{◌≡◌, ℕ, ◌+◌, ◌<◌, ◌≤◌, nat_lt, if◌then◌else◌, List, length, Option, Ok}
use Rattle.vg_wire.specs.declared.header.Header.{Header}
use Rattle.vg_wire.specs.declared.request.Queue.{Queue}
use Rattle.vg_wire.specs.declared.request.Queue.TheVariants as queues
use Rattle.vg_wire.specs.declared.two_d.Command2d.TheVariants as commands
use Rattle.vg_wire_ext.specs.declared.command.Command.{Command}
use Rattle.vg_wire_ext.specs.declared.command.Command.TheVariants.{TwoD, Edid, AssignUuid, CreateBlob, CtxCreate, Submit}
use Rattle.vg_wire_ext.specs.Commands.{FitsEntries, command_kind}
use Rattle.vg_wire_ext.specs.Request.{queue_of, request_bytes}
use Rattle.vg_chain.specs.declared.shape.Shape.{Shape}
use Rattle.vg_chain.specs.declared.shape.Shape.TheVariants.{Plain, Indirect}
use Rattle.vg_client_holds.specs.declared.act.What.{What}
use Rattle.vg_device.specs.declared.request.Request.{Request}
use Rattle.vg_client_holds.specs.declared.holds.Holds.{Holds}
use Rattle.vg_client_holds.specs.Holds.{denied_request}
use Rattle.vg_machine.specs.Lane.{lane_of}
use Rattle.vg_driver.specs.declared.request.Way.{Way}
use Rattle.vg_driver.specs.declared.request.Way.TheVariants.{Control, Timeline, Cursor}

-- A command on the control queue has a fence, whose id is its ordinal; on a timeline it has a ring index beside it (VIRTIO 1.2,
-- 5.7.6.7, FLAG_FENCE 1 and FLAG_INFO_RING_IDX 2). One on the cursor queue has neither.
abbrev pub header_by : Way → ℕ → ℕ → Header
header_by (Control context) kind ordinal = record { kind = kind; flags = 1; fence_id = ordinal; ctx_id = context; ring_idx = 0 }
header_by (Timeline context ring) kind ordinal = record { kind = kind; flags = 3; fence_id = ordinal; ctx_id = context; ring_idx = ring }
header_by Cursor kind ordinal = record { kind = kind; flags = 0; fence_id = 0; ctx_id = 0; ring_idx = 0 }

-- The queue of each way.
abbrev pub queue_by : Way → Queue
queue_by Cursor = queues.Cursor
queue_by way = queues.Control

-- Lane 0 holds the control queue's commands without a ring index, lane 1 + r those of ring index r, and lane 65 the cursor queue's.
abbrev pub lane_by : Way → ℕ
lane_by (Control context) = 0
lane_by (Timeline context ring) = 1 + ring
lane_by Cursor = 65

-- How many bytes there are for the response: as many as it has where it is accepted, which on the cursor queue is none.
abbrev pub room_on : Queue → Command → ℕ
room_on queues.Cursor command = 0
room_on queues.Control (TwoD commands.DisplayInfo) = 408
room_on queues.Control (Edid scanout) = 1056
room_on queues.Control (AssignUuid resource) = 40
room_on queues.Control command = 24

-- A request with more than eight entries is laid out in a table of its own.
abbrev pub shape_of : Command → Shape
shape_of (TwoD (commands.Attach resource entries)) = if nat_lt 8 (length entries) then Indirect else Plain
shape_of (CreateBlob resource mem flags blob_id size entries) = if nat_lt 8 (length entries) then Indirect else Plain
shape_of command = Plain

-- The request of a command that goes a way, as its ordinal is.
abbrev pub request_by : Way → Command → ℕ → Request
request_by way command ordinal = record {
  queue = queue_by way;
  lane = lane_by way;
  ordinal = ordinal;
  room = room_on (queue_by way) command;
  shape = shape_of command;
  bytes = request_bytes (header_by way (command_kind command) ordinal) command;
}

-- The request of these bytes, as they are, and as its ordinal is.
abbrev pub raw_request : Queue → ℕ → Shape → List ℕ → ℕ → Request
raw_request queue room shape bytes ordinal = record {
  queue = queue;
  lane = lane_of queue bytes;
  ordinal = ordinal;
  room = room;
  shape = shape;
  bytes = bytes;
}

-- What a client with these holds is denied of a command that goes a way: no ordinal is looked at.
abbrev pub denied_by : Holds → Way → Command → Option What
denied_by holds way command = denied_request holds (Ok (header_by way (command_kind command) 0, command))

-- There are 64 timelines.
abbrev pub IsWay : Way → Type 0
IsWay (Control context) = Unit {0}
IsWay (Timeline context ring) = ring < 64
IsWay Cursor = Unit {0}

-- A request of at most 49,152 bytes: its header has 24, its fields before the entries 8 or 32, and each entry 16, or 8 before the
-- stream; and a name has at most 64. All other commands are shorter.
abbrev pub IsShort : Command → Type 0
IsShort (TwoD (commands.Attach resource entries)) = length entries ≤ 3070
IsShort (CreateBlob resource mem flags blob_id size entries) = length entries ≤ 3068
IsShort (CtxCreate nlen context_init name) = length name ≤ 64
IsShort (Submit stream) = length stream ≤ 49120
IsShort command = Unit {0}

-- A command that can go this way: the way's queue is the command's.
abbrev pub MayGo : Way → Command → Type 0
MayGo way command = IsWay way × FitsEntries command × (queue_by way ≡ queue_of command)
