use Rattle.std.specs.Prelude.{◌≡◌, ℕ, Bool, not, List, ◌++◌, length, drop, nat_lt, nat_le, if◌then◌else◌, Result, Ok, Err, ok_or, option_map}
use Rattle.vg_wire.specs.declared.header.Header.{Header}
use Rattle.vg_wire.specs.declared.request.Queue.{Queue}
use Rattle.vg_wire.specs.declared.request.Queue.TheVariants.{Control, Cursor}
use Rattle.vg_wire.specs.declared.request.Malformed.{Malformed}
use Rattle.vg_wire.specs.declared.request.Malformed.TheVariants.{ShortHeader, UnknownKind, WrongQueue, ShortBody}
use Rattle.vg_wire.specs.Header.{header_of, header_bytes}
use Rattle.vg_wire.specs.Kinds as kinds
use Rattle.vg_wire_ext.specs.declared.command.Command.{Command}
use Rattle.vg_wire_ext.specs.declared.command.Command.TheVariants.{UpdateCursor, MoveCursor}
use Rattle.vg_wire_ext.specs.Commands.{is_known, command_of, command_body}

-- Kinds from 0x0300 on are the cursor queue's (VIRTIO 1.2, 5.7.6.10), the others the control queue's.
abbrev pub is_queue_of : ℕ → Queue → Bool
is_queue_of kind Control = nat_lt kind kinds.UPDATE_CURSOR
is_queue_of kind Cursor = nat_le kinds.UPDATE_CURSOR kind

-- The queue that a command belongs to.
abbrev pub queue_of : Command → Queue
queue_of (UpdateCursor scanout x y resource hot_x hot_y) = Cursor
queue_of (MoveCursor scanout x y) = Cursor
queue_of _ = Control

-- The request of a header and the bytes after it, or the first thing that is wrong with them.
abbrev pub request_after : Queue → Header → List ℕ → Result (Header × Command) Malformed
request_after queue header body =
    if not (is_known header.kind) then Err (UnknownKind header.kind)
    else if not (is_queue_of header.kind queue) then Err WrongQueue
    else ok_or (option_map (λ command. (header, command)) (command_of header.kind body)) ShortBody

-- What bytes that came on a queue are: a header and its command, or the first thing that is wrong with them.
abbrev pub request_of : Queue → List ℕ → Result (Header × Command) Malformed
request_of queue bytes =
    if nat_lt (length bytes) 24 then Err ShortHeader
    else request_after queue (header_of bytes) (drop 24 bytes)

-- The bytes that came on the queue are this request.
abbrev pub Reads : Queue → List ℕ → Header → Command → Type 0
Reads queue bytes header command = request_of queue bytes ≡ Ok (header, command)

-- The bytes that came on the queue are no request, for this reason first.
abbrev pub Refuses : Queue → List ℕ → Malformed → Type 0
Refuses queue bytes malformed = request_of queue bytes ≡ Err malformed

-- The one spelling of a request, with padding 0.
abbrev pub request_bytes : Header → Command → List ℕ
request_bytes header command = header_bytes header ++ command_body command
