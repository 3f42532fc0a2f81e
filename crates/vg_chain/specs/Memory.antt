use Rattle.std.specs.Prelude.{ℕ, ◌+◌, ◌-◌, ◌/◌, nat_le, Bool, ◌&&◌, List, length, drop, if◌then◌else◌}
use Rattle.vg_chain.specs.declared.descriptor.Descriptor.{Descriptor}
use Rattle.vg_chain.specs.declared.form.Form.{Form}
use Rattle.vg_chain.specs.Space.{room_at, tables_at}
use Rattle.vg_chain.specs.Descriptor.{is_writable, is_indirect, descriptor_size, table_in}

-- What a chain may refer to: the request's bytes from the base, the room for the response, and the bytes of indirect
-- tables, which are of the virtqueue's form.
pub record Memory : Type 0 where
  pub form : Form
  pub base : ℕ
  pub request : ℕ
  pub room : ℕ
  pub tables : List ℕ

abbrev pub memory : Form → ℕ → ℕ → ℕ → List ℕ → Memory
memory form base request room tables = record { form = form; base = base; request = request; room = room; tables = tables }

-- Whether len bytes from addr lie in the size bytes from start. No byte at all may stand at their end.
abbrev pub lies_in : ℕ → ℕ → ℕ → ℕ → Bool
lies_in start size addr len = nat_le start addr && nat_le (addr + len) (start + size)

-- Whether what a descriptor refers to is there.
abbrev pub is_in_range : Memory → Descriptor → Bool
is_in_range m d =
    if is_indirect d then lies_in (tables_at m.base) (length m.tables) d.addr d.len
    else (if is_writable d then lies_in (room_at m.base) m.room d.addr d.len else lies_in m.base m.request d.addr d.len)

-- The table that a descriptor refers to.
abbrev pub table_of : Memory → Descriptor → List Descriptor
table_of m d = table_in m.form (d.len / descriptor_size) (drop (d.addr - tables_at m.base) m.tables)
