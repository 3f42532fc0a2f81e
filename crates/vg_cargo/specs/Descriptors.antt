use Rattle.std.specs.Prelude.{ℕ, ◌+◌, ◌*◌, ◌/◌, ◌%◌, ◌^◌}
use Rattle.vg_chain.specs.declared.descriptor.Descriptor.{Descriptor}

-- The second word of a descriptor has its length, flags and next, the lowest bits first.
abbrev pub rest_word : Descriptor → ℕ
rest_word d = d.len + d.flags * 2 ^ 32 + d.next * 2 ^ 48

abbrev pub descriptor_from : ℕ → ℕ → Descriptor
descriptor_from addr rest = record { addr = addr; len = rest % 2 ^ 32; flags = rest / 2 ^ 32 % 2 ^ 16; next = rest / 2 ^ 48 }
