use Rattle.std.specs.Prelude.{ℕ, ◌*◌, ◌%◌, ◌==◌, nat_lt, Bool, not, ◌&&◌, ◌||◌, List, [], ◌∷◌, Option, Some, None}
use Rattle.vg_refusals.specs.Refusals.{refusal_of}
use Rattle.vg_chain.specs.declared.chain.ChainFault.{ChainFault}
use Rattle.vg_chain.specs.declared.chain.ChainFault.TheVariants.{Index, Loop, Nested, NextWithIndirect, TableLength, Order, Range}
use Rattle.vg_chain.specs.declared.descriptor.Descriptor.{Descriptor}
use Rattle.vg_chain.specs.declared.form.Form.{Form}
use Rattle.vg_chain.specs.declared.form.Form.TheVariants.{Split, Packed}
use Rattle.vg_chain.specs.Descriptor.{descriptor_size, has_next, is_indirect, is_read}
use Rattle.vg_chain.specs.Memory.{Memory, is_in_range}

-- The length of a table is that of one or more descriptors, of no more than the queue has (VIRTIO 1.2, 2.7.5.3.1).
abbrev pub is_bad_length : ℕ → Descriptor → Bool
is_bad_length size d = (d.len == 0) || not (d.len % descriptor_size == 0) || nat_lt (descriptor_size * size) d.len

-- Whether a descriptor stands in a list: in the split form where it has NEXT, in the packed form also where others stand before
-- it. There a descriptor that refers to a table stands in none (VIRTIO 1.2, 2.7.5.3.1 and 2.8.7).
abbrev pub is_listed : Form → Bool → Descriptor → Bool
is_listed Split behind d = has_next d
is_listed Packed behind d = has_next d || behind

-- A descriptor's faults, in the order in which they are looked for: in a queue of this size, inside of an indirect table
-- or not, where the place was met before or not, a readable segment was or not, and a writable one was or not.
abbrev pub faults : Memory → ℕ → Bool → Bool → Bool → Bool → Descriptor → List (Bool × ChainFault)
faults m size inside met read wrote d =
    (met, Loop)
    ∷ (is_indirect d && inside, Nested)
    ∷ (is_indirect d && is_listed m.form (read || wrote) d, NextWithIndirect)
    ∷ (is_indirect d && is_bad_length size d, TableLength)
    ∷ (is_read d && wrote, Order)
    ∷ (not (is_in_range m d), Range)
    ∷ []

-- The first fault of a place of a table, which has this descriptor or lies past the table's end.
abbrev pub fault_of : Memory → ℕ → Bool → Bool → Bool → Bool → Option Descriptor → Option ChainFault
fault_of m size inside met read wrote None = Some Index
fault_of m size inside met read wrote (Some d) = refusal_of (faults m size inside met read wrote d)
