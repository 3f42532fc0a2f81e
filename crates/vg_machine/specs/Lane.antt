use Rattle.std.specs.Prelude.{ℕ, ◌+◌, ◌==◌, ◌&&◌, List, length, nat_le, if◌then◌else◌, bit_and}
use Rattle.vg_wire.specs.declared.request.Queue.{Queue}
use Rattle.vg_wire.specs.declared.request.Queue.TheVariants.{Control, Cursor}
use Rattle.vg_wire.specs.declared.header.Header.{Header}
use Rattle.vg_wire.specs.Header.{header_of}

-- The lane of a header on the control queue: ring index r has lane 1 + r (VIRTIO 1.2, 5.7.6.7, INFO_RING_IDX).
abbrev pub lane_of_header : Header → ℕ
lane_of_header header = if bit_and header.flags 2 == 2 && nat_le header.ring_idx 63 then 1 + header.ring_idx else 0

-- The lane of a request: lane 65 is the cursor queue, lane 0 holds control commands without a ring index.
abbrev pub lane_of : Queue → List ℕ → ℕ
lane_of Cursor bytes = 65
lane_of Control bytes = if nat_le 24 (length bytes) then lane_of_header (header_of bytes) else 0
