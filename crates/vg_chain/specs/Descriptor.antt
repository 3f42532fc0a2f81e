use Rattle.std.specs.Prelude.{ℕ, ◌+◌, ◌*◌, ◌/◌, ◌%◌, ◌==◌, nat_lt, Bool, not, ◌&&◌, List, map, if◌then◌else◌}
use Rattle.std.specs.List.{range_with_len}
use Rattle.vg_chain.specs.declared.descriptor.Descriptor.{Descriptor}
use Rattle.vg_chain.specs.declared.descriptor.Segment.{Segment}
use Rattle.vg_chain.specs.declared.form.Form.{Form}
use Rattle.vg_chain.specs.declared.form.Form.TheVariants.{Split, Packed}
use Rattle.vg_numbers.specs.Numbers.{number_at}

-- The flags of a descriptor (VIRTIO 1.2, 2.7.5): bit 0 says that another descriptor comes next, bit 1 that the device
-- writes, bit 2 that the descriptor refers to a table.
abbrev pub NEXT : ℕ
NEXT = 1

abbrev pub WRITE : ℕ
WRITE = 2

abbrev pub INDIRECT : ℕ
INDIRECT = 4

abbrev pub has_flag : ℕ → Descriptor → Bool
has_flag flag d = d.flags / flag % 2 == 1

abbrev pub has_next : Descriptor → Bool
has_next d = has_flag NEXT d

abbrev pub is_writable : Descriptor → Bool
is_writable d = has_flag WRITE d

abbrev pub is_indirect : Descriptor → Bool
is_indirect d = has_flag INDIRECT d

-- The flags of a descriptor that refers to no table.
abbrev pub flags_of : Bool → Bool → ℕ
flags_of writes more = (if writes then WRITE else 0) + (if more then NEXT else 0)

-- The bytes that a descriptor has in memory (VIRTIO 1.2, 2.7.5 and 2.8).
abbrev pub descriptor_size : ℕ
descriptor_size = 16

-- A descriptor that refers to a table is neither readable nor writable, whatever its WRITE bit is (VIRTIO 1.2, 2.7.5.3.2).
abbrev pub is_read : Descriptor → Bool
is_read d = not (is_indirect d) && not (is_writable d)

abbrev pub is_write : Descriptor → Bool
is_write d = not (is_indirect d) && is_writable d

abbrev pub segment_of : Descriptor → Segment
segment_of d = record { addr = d.addr; len = d.len }

-- The descriptor whose bytes stand from place at (VIRTIO 1.2, 2.7.5, struct virtq_desc).
abbrev pub descriptor_at : ℕ → List ℕ → Descriptor
descriptor_at at bytes = record {
  addr = number_at 8 at bytes;
  len = number_at 4 (at + 8) bytes;
  flags = number_at 2 (at + 12) bytes;
  next = number_at 2 (at + 14) bytes;
}

-- The n descriptors that stand one after another from the front (VIRTIO 1.2, 2.7.5.3, struct indirect_descriptor_table).
abbrev pub descriptors_in : ℕ → List ℕ → List Descriptor
descriptors_in n bytes = map (λ i. descriptor_at (descriptor_size * i) bytes) (range_with_len 0 n)

-- The descriptor at place i of a packed table of n (VIRTIO 1.2, 2.8 struct pvirtq_desc, and 2.8.7): its address, its length, an id,
-- and its flags, of which WRITE alone counts. The id doesn't. The descriptors follow each other to the table's end.
abbrev pub packed_at : ℕ → ℕ → List ℕ → Descriptor
packed_at n i bytes = record {
  addr = number_at 8 (descriptor_size * i) bytes;
  len = number_at 4 (descriptor_size * i + 8) bytes;
  flags = flags_of (number_at 2 (descriptor_size * i + 14) bytes / WRITE % 2 == 1) (nat_lt (i + 1) n);
  next = if nat_lt (i + 1) n then i + 1 else 0;
}

-- The n descriptors of a packed table.
abbrev pub packed_in : ℕ → List ℕ → List Descriptor
packed_in n bytes = map (λ i. packed_at n i bytes) (range_with_len 0 n)

-- The n descriptors of a table in either form.
abbrev pub table_in : Form → ℕ → List ℕ → List Descriptor
table_in Split n bytes = descriptors_in n bytes
table_in Packed n bytes = packed_in n bytes
