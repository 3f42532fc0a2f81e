use Rattle.std.specs.Prelude.{◌≡◌, ◌≢◌, ℕ, zero, suc, ◌+◌, ◌-◌, ◌*◌, ◌/◌, ◌≤◌, ◌==◌, Bool, true, false, Option, None, Some, Ok, Err, List, [], ◌∷◌, ◌++◌, length, drop, min, replicate, slice_get, slice_index, if◌then◌else◌}
use Rattle.std.specs.List.{range_with_len, flat_map}
use Rattle.vg_chain.specs.declared.chain.Chain.{Chain}
use Rattle.vg_chain.specs.declared.chain.ChainFault.TheVariants.{Index, Loop, Nested, NextWithIndirect, TableLength, Order, Range}
use Rattle.vg_chain.specs.declared.descriptor.Descriptor.{Descriptor}
use Rattle.vg_chain.specs.declared.descriptor.Segment.{Segment}
use Rattle.vg_chain.specs.declared.form.Form.{Form}
use Rattle.vg_chain.specs.declared.form.Form.TheVariants.{Split, Packed}
use Rattle.vg_chain.specs.declared.part.Part.{Part}
use Rattle.vg_chain.specs.declared.shape.Shape.{Shape}
use Rattle.vg_chain.specs.declared.shape.Shape.TheVariants.{Plain, Pieces, Indirect, Mixed, Bad}
use Rattle.vg_numbers.specs.Numbers.{le}
use Rattle.vg_chain.specs.Space.{most_request, most_room, room_at, tables_at, header_size, IsPlaced}
use Rattle.vg_chain.specs.Descriptor.{NEXT, WRITE, INDIRECT, is_writable, flags_of, descriptor_size}
use Rattle.vg_chain.specs.Memory.{Memory, memory}
use Rattle.vg_chain.specs.Walk.{Walks}

-- The descriptor of a part after which none comes, and of one after which that at this place does.
abbrev pub last_of : Part → Descriptor
last_of part = record { addr = part.addr; len = part.len; flags = flags_of part.writes false; next = 0 }

abbrev pub joined : Part → ℕ → Descriptor
joined part next = record { addr = part.addr; len = part.len; flags = flags_of part.writes true; next = next }

-- A part's descriptor, where these parts come after it and stand at these places.
abbrev pub followed : Part → List Part → List ℕ → Descriptor
followed part [] nexts = last_of part
followed part (other ∷ more) nexts = joined part (slice_index nexts 0)

-- The descriptors of these parts, of which all but the first stand at these places.
abbrev pub linked : List Part → List ℕ → List Descriptor
linked [] nexts = []
linked (part ∷ more) nexts = followed part more nexts ∷ linked more (drop 1 nexts)

-- At most k pieces of this size that make up n bytes from addr, the last one perhaps shorter, and none of them empty.
abbrev pub pieces : ℕ → ℕ → ℕ → ℕ → List Part
pieces zero size addr n = []
pieces (suc k) size addr n = if n == 0 then [] else (record { addr = addr; len = min size n; writes = false } ∷ pieces k size (addr + size) (n - size))

abbrev pub room_of : ℕ → ℕ → List Part
room_of r b = if r == 0 then [] else (record { addr = room_at b; len = r; writes = true } ∷ [])

-- Where there is no part at all, there is an empty one.
abbrev pub or_empty : ℕ → List Part → List Part
or_empty b [] = record { addr = b; len = 0; writes = false } ∷ []
or_empty b (part ∷ more) = part ∷ more

-- A request of n bytes in at most k pieces, with room for r bytes, at base b.
abbrev pub parts_of : ℕ → ℕ → ℕ → ℕ → List Part
parts_of k n r b = or_empty b (pieces k ((n + (k - 1)) / k) b n ++ room_of r b)

-- What is left of it after its header.
abbrev pub rest_of : ℕ → ℕ → ℕ → List Part
rest_of n r b = pieces 1 (n - header_size) (b + header_size) (n - header_size) ++ room_of r b

-- A descriptor's bytes in a table of the split form (VIRTIO 1.2, 2.7.5), and in one of the packed form (2.8 and 2.8.7), where the id
-- is 0, and of the flags WRITE alone stands.
unfoldable pub split_bytes : Descriptor → List ℕ
split_bytes d = le 8 d.addr ++ le 4 d.len ++ le 2 d.flags ++ le 2 d.next

unfoldable pub packed_bytes : Descriptor → List ℕ
packed_bytes d = le 8 d.addr ++ le 4 d.len ++ le 2 0 ++ le 2 (if is_writable d then WRITE else 0)

abbrev pub bytes_of : Form → Descriptor → List ℕ
bytes_of Split d = split_bytes d
bytes_of Packed d = packed_bytes d

-- The bytes of a table in this form.
abbrev pub table_bytes : Form → List Descriptor → List ℕ
table_bytes form table = flat_map (bytes_of form) table

-- In a table the descriptors stand at 0, 1, 2 and so on.
abbrev pub in_table : List Part → List Descriptor
in_table parts = linked parts (range_with_len 1 (length parts))

-- A descriptor that refers to the table of so many bytes at base b.
abbrev pub referring : ℕ → ℕ → ℕ → ℕ → Descriptor
referring b len flags next = record { addr = tables_at b; len = len; flags = flags; next = next }

-- The descriptors in the ring, and the bytes of the tables in each form.
pub record Layout : Type 0 where
  pub ring : List Descriptor
  pub tables : Form → List ℕ

-- No bytes in either form.
abbrev pub no_tables : Form → List ℕ
no_tables form = []

-- The bytes of this table.
abbrev pub one_table : List Descriptor → Form → List ℕ
one_table table form = table_bytes form table

abbrev pub flat : List Part → List ℕ → Layout
flat parts places = record { ring = linked parts (drop 1 places); tables = no_tables }

abbrev pub in_parts : Part → List Part → ℕ → ℕ → Layout
in_parts first rest b place = record {
  ring = joined first place ∷ referring b (descriptor_size * length (in_table rest)) INDIRECT 0 ∷ [];
  tables = one_table (in_table rest);
}

abbrev pub by_table : ℕ → List Part → ℕ → ℕ → Layout
by_table b parts flags next = record {
  ring = referring b (descriptor_size * length (in_table parts)) flags next ∷ [];
  tables = one_table (in_table parts);
}

-- The header of a request in the ring, and the rest by a table; where that table were empty, or the request is, all in the ring.
abbrev pub mixed : ℕ → ℕ → ℕ → List Part → List ℕ → Layout
mixed n r b [] places = flat (parts_of 1 n r b) places
mixed n r b (part ∷ more) places =
    if n == 0 then flat (parts_of 1 n r b) places
    else in_parts (record { addr = b; len = min header_size n; writes = false }) (part ∷ more) b (slice_index places 1)

-- How a shape lays out a request of n bytes with room for r bytes at base b, in a queue of size q. The descriptors
-- in the ring stand at these places, the head first. No descriptor without NEXT tells a place. A table of bad length ends
-- within its second descriptor.
abbrev pub made : Shape → ℕ → ℕ → ℕ → ℕ → List ℕ → Layout
made Plain n r b q places = flat (parts_of 1 n r b) places
made (Pieces k) n r b q places = flat (parts_of k n r b) places
made Indirect n r b q places = by_table b (parts_of 1 n r b) INDIRECT 0
made Mixed n r b q places = mixed n r b (rest_of n r b) places
made (Bad Index) n r b q places = record { ring = joined (record { addr = b; len = n; writes = false }) q ∷ []; tables = no_tables }
made (Bad Loop) n r b q places = record { ring = joined (record { addr = b; len = n; writes = false }) (slice_index places 0) ∷ []; tables = no_tables }
made (Bad Nested) n r b q places = record { ring = referring b descriptor_size INDIRECT 0 ∷ []; tables = one_table (referring b descriptor_size INDIRECT 0 ∷ []) }
made (Bad NextWithIndirect) n r b q places = record {
  ring = referring b (descriptor_size * length (in_table (parts_of 1 n r b))) (INDIRECT + NEXT) (slice_index places 1) ∷ last_of (record { addr = b; len = 0; writes = false }) ∷ [];
  tables = one_table (in_table (parts_of 1 n r b));
}
made (Bad TableLength) n r b q places = record { ring = referring b (descriptor_size + 8) INDIRECT 0 ∷ []; tables = (λ form. replicate (2 * descriptor_size) 0) }
made (Bad Order) n r b q places = record {
  ring = joined (record { addr = room_at b; len = r; writes = true }) (slice_index places 1) ∷ last_of (record { addr = b; len = n; writes = false }) ∷ [];
  tables = no_tables;
}
made (Bad Range) n r b q places = record { ring = last_of (record { addr = b; len = n + 1; writes = false }) ∷ []; tables = no_tables }

-- The descriptors stand at these places of a table, one at each.
abbrev pub Stands : List Descriptor → List ℕ → List Descriptor → Type 0
Stands table places [] = Unit {0}
Stands table [] (d ∷ more) = ⊥
Stands table (place ∷ places) (d ∷ more) = (slice_get table place ≡ Some d) × Stands table places more

-- No place stands twice in the list.
abbrev pub AreOther : ℕ → List ℕ → Type 0
AreOther place [] = Unit {0}
AreOther place (other ∷ places) = (place ≢ other) × AreOther place places

abbrev pub AreApart : List ℕ → Type 0
AreApart [] = Unit {0}
AreApart (place ∷ places) = AreOther place places × AreApart places

-- A request goes in 2 to 8 pieces.
abbrev pub IsCount : Shape → Type 0
IsCount Plain = Unit {0}
IsCount (Pieces k) = (2 ≤ k) × (k ≤ 8)
IsCount Indirect = Unit {0}
IsCount Mixed = Unit {0}
IsCount (Bad fault) = Unit {0}

-- The shapes that a virtqueue of this form can spell. In a packed ring the descriptors of a chain follow each other by place, so
-- none of them can name another, in a table none refers to a table, and one in a list doesn't.
abbrev pub Spells : Form → Shape → Type 0
Spells Split shape = Unit {0}
Spells Packed Plain = Unit {0}
Spells Packed (Pieces k) = Unit {0}
Spells Packed Indirect = Unit {0}
Spells Packed Mixed = ⊥
Spells Packed (Bad Index) = ⊥
Spells Packed (Bad Loop) = ⊥
Spells Packed (Bad Nested) = ⊥
Spells Packed (Bad NextWithIndirect) = Unit {0}
Spells Packed (Bad TableLength) = Unit {0}
Spells Packed (Bad Order) = Unit {0}
Spells Packed (Bad Range) = Unit {0}

-- A request, its room and its base that a shape can lay out in a queue of this form and size.
pub record IsRequest (form : Form) (shape : Shape) (n r b q : ℕ) : Type 0 where
  pub spells : Spells form shape
  pub request : n ≤ most_request
  pub room : r ≤ most_room
  pub base : IsPlaced b
  pub queue : 2 ≤ q
  pub count : IsCount shape

-- The layout stands in the ring's table of a queue of size q, at places that are all different, the head first.
pub record IsLaid (shape : Shape) (n r b q : ℕ) (table : List Descriptor) (head : ℕ) (others : List ℕ) : Type 0 where
  pub size : length table ≡ q
  pub apart : AreApart (head ∷ others)
  pub stands : Stands table (head ∷ others) (made shape n r b q (head ∷ others)).ring

-- What it may refer to.
abbrev pub memory_of : Form → Shape → ℕ → ℕ → ℕ → ℕ → List ℕ → Memory
memory_of form shape n r b q places = memory form b n r ((made shape n r b q places).tables form)

-- The segments are the len bytes from addr, in order.
abbrev pub Covers : ℕ → ℕ → List Segment → Type 0
Covers addr len [] = len ≡ 0
Covers addr len (segment ∷ more) = (segment.addr ≡ addr) × (segment.len ≤ len) × Covers (addr + segment.len) (len - segment.len) more

-- The segments of parts: those that the device reads, and those that it writes.
abbrev pub segment_in : Part → Segment
segment_in part = record { addr = part.addr; len = part.len }

abbrev pub reads : List Part → List Segment
reads [] = []
reads (part ∷ more) = (if part.writes then [] else (segment_in part ∷ [])) ++ reads more

abbrev pub writes : List Part → List Segment
writes [] = []
writes (part ∷ more) = (if part.writes then (segment_in part ∷ []) else []) ++ writes more

abbrev pub chain_of : List Part → Chain
chain_of parts = record { readable = reads parts; writable = writes parts }

-- The parts to which a shape's descriptors refer, in order, wherever the descriptors stand. A bad chain has none.
abbrev pub mixed_parts : ℕ → ℕ → ℕ → List Part → List Part
mixed_parts n r b [] = parts_of 1 n r b
mixed_parts n r b (part ∷ more) = if n == 0 then parts_of 1 n r b else (record { addr = b; len = min header_size n; writes = false } ∷ part ∷ more)

abbrev pub parts_in : Shape → ℕ → ℕ → ℕ → List Part
parts_in Plain n r b = parts_of 1 n r b
parts_in (Pieces k) n r b = parts_of k n r b
parts_in Indirect n r b = parts_of 1 n r b
parts_in Mixed n r b = mixed_parts n r b (rest_of n r b)
parts_in (Bad fault) n r b = []

-- The chain that a shape makes of a request of n bytes and its room for r bytes, at base b.
abbrev pub chain_in : Shape → ℕ → ℕ → ℕ → Chain
chain_in shape n r b = chain_of (parts_in shape n r b)

-- The walk comes to this chain, which is the request's bytes and the room's.
abbrev pub GivesAll : Chain → Memory → List Descriptor → ℕ → ℕ → ℕ → ℕ → Type 0
GivesAll chain m table head n r b = Walks m table head (Ok chain) × Covers b n chain.readable × Covers (room_at b) r chain.writable

-- What the walk of a shape's layout comes to: the fault of a bad one, else the shape's own segments, one by one.
abbrev pub GivesIts : Shape → Memory → List Descriptor → ℕ → ℕ → ℕ → ℕ → Type 0
GivesIts (Bad fault) m table head n r b = Walks m table head (Err fault)
GivesIts Plain m table head n r b = GivesAll (chain_in Plain n r b) m table head n r b
GivesIts (Pieces k) m table head n r b = GivesAll (chain_in (Pieces k) n r b) m table head n r b
GivesIts Indirect m table head n r b = GivesAll (chain_in Indirect n r b) m table head n r b
GivesIts Mixed m table head n r b = GivesAll (chain_in Mixed n r b) m table head n r b

-- So many descriptors of the ring does the shape use, wherever they stand.
abbrev pub IsNeeded : Shape → ℕ → ℕ → ℕ → Type 0
IsNeeded shape n r count = (b q : ℕ) (places : List ℕ) → length (made shape n r b q places).ring ≡ count

abbrev pub AreSoMany : ℕ → ℕ → ℕ → ℕ → Type 0
AreSoMany k n r count = (b : ℕ) → length (parts_of k n r b) ≡ count

abbrev pub AreSoManyPieces : ℕ → ℕ → ℕ → ℕ → Type 0
AreSoManyPieces k size n count = (b : ℕ) → length (pieces k size b n) ≡ count

-- The descriptor at this place of the shape's list in the ring, where the head and the place of the next one are these.
abbrev pub IsInRing : Shape → ℕ → ℕ → ℕ → ℕ → ℕ → ℕ → ℕ → Option Descriptor → Type 0
IsInRing shape n r b q head at next d =
    (places : List ℕ) → slice_index places 0 ≡ head → slice_index places (at + 1) ≡ next → slice_get (made shape n r b q places).ring at ≡ d

abbrev pub IsLinked : List Part → ℕ → ℕ → Option Descriptor → Type 0
IsLinked parts at next d = (nexts : List ℕ) → slice_index nexts at ≡ next → slice_get (linked parts nexts) at ≡ d

-- The bytes of the shape's tables in this form, wherever the ring's descriptors stand.
abbrev pub AreTables : Form → Shape → ℕ → ℕ → ℕ → List ℕ → Type 0
AreTables form shape n r b tables = (q : ℕ) (places : List ℕ) → (made shape n r b q places).tables form ≡ tables

-- The parts in a table: all of them, or those after the header.
abbrev pub inner_of : Bool → ℕ → ℕ → ℕ → List Part
inner_of rest n r b = if rest then rest_of n r b else parts_of 1 n r b

abbrev pub bytes_in : Form → Option Descriptor → List ℕ
bytes_in form None = []
bytes_in form (Some d) = bytes_of form d

-- Measures of a request and its room, and a base, for which there is space.
pub record IsMeasured (n r b : ℕ) : Type 0 where
  pub request : n ≤ most_request
  pub room : r ≤ most_room
  pub base : IsPlaced b

-- The descriptor of a part, if there is one, by whether another comes after it.
abbrev pub link_of : Option Part → Bool → ℕ → Option Descriptor
link_of None more next = None
link_of (Some part) more next = Some (if more then joined part next else last_of part)
