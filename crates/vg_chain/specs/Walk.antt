use Rattle.std.specs.Prelude.{◌≡◌, ℕ, ◌==◌, nat_lt, Bool, true, false, not, ◌&&◌, ◌||◌, Option, Some, None, Result, Ok, Err, List, [], ◌∷◌, ◌++◌, length, slice_get, if◌then◌else◌}
use Rattle.vg_chain.specs.declared.chain.Chain.{Chain}
use Rattle.vg_chain.specs.declared.chain.ChainFault.{ChainFault}
use Rattle.vg_chain.specs.declared.descriptor.Descriptor.{Descriptor}
use Rattle.vg_chain.specs.declared.descriptor.Segment.{Segment}
use Rattle.vg_chain.specs.Descriptor.{has_next, is_indirect, is_read, is_write, segment_of}
use Rattle.vg_chain.specs.Memory.{Memory, table_of}
use Rattle.vg_chain.specs.Fault.{fault_of}

-- A visit of a walk: a place of a table, which is the ring's or one that a descriptor refers to.
pub record Visit : Type 0 where
  pub table : List Descriptor
  pub inside : Bool
  pub at : ℕ

abbrev pub start : List Descriptor → ℕ → Visit
start table head = record { table = table; inside = false; at = head }

-- The descriptor there, if the table has one.
abbrev pub there : Visit → Option Descriptor
there x = slice_get x.table x.at

-- Whether the chain goes on after a descriptor, and where: at the front of the table that it refers to, else at next.
abbrev pub goes_on : Descriptor → Bool
goes_on d = is_indirect d || has_next d

abbrev pub visit_after : Memory → Visit → Descriptor → Visit
visit_after m x d = record {
  table = if is_indirect d then table_of m d else x.table;
  inside = is_indirect d || x.inside;
  at = if is_indirect d then 0 else d.next;
}

-- These are the visits from the head on, the last one first (VIRTIO 1.2, 2.7.5, 2.7.5.3 and 2.8.7).
abbrev pub Visits : Memory → List Descriptor → ℕ → List Visit → Type 0
Visits m table head [] = ⊥
Visits m table head (x ∷ []) = x ≡ start table head
Visits m table head (y ∷ x ∷ before) =
    ((d : Descriptor) × (there x ≡ Some d) × (goes_on d ≡ true) × (y ≡ visit_after m x d)) × Visits m table head (x ∷ before)

-- Whether this place of the ring's table, or of the one indirect table that a walk enters, was met.
abbrev pub was_met : Bool → ℕ → List Visit → Bool
was_met inside at [] = false
was_met inside at (x ∷ before) = ((x.inside && inside || not x.inside && not inside) && (x.at == at)) || was_met inside at before

-- The segments that were met, in order.
abbrev pub read_of : Option Descriptor → List Segment
read_of None = []
read_of (Some d) = if is_read d then segment_of d ∷ [] else []

abbrev pub written_of : Option Descriptor → List Segment
written_of None = []
written_of (Some d) = if is_write d then segment_of d ∷ [] else []

abbrev pub all_read : List Visit → List Segment
all_read [] = []
all_read (x ∷ before) = all_read before ++ read_of (there x)

abbrev pub all_written : List Visit → List Segment
all_written [] = []
all_written (x ∷ before) = all_written before ++ written_of (there x)

-- The fault of a visit that comes after others, in a queue of this size.
abbrev pub fault_at : Memory → ℕ → List Visit → Visit → Option ChainFault
fault_at m size before x = fault_of m size x.inside (was_met x.inside x.at before) (nat_lt 0 (length (all_read before))) (nat_lt 0 (length (all_written before))) (there x)

-- No visit has a fault.
abbrev pub AreClean : Memory → ℕ → List Visit → Type 0
AreClean m size [] = Unit {0}
AreClean m size (x ∷ before) = (fault_at m size before x ≡ None) × AreClean m size before

-- The walk from the head comes to an end with no fault, and this is the chain: its segments in order.
pub record IsChain (m : Memory) (table : List Descriptor) (head : ℕ) (chain : Chain) : Type 0 where
  pub before : List Visit
  pub last : Visit
  pub descriptor : Descriptor
  pub visits : Visits m table head (last ∷ before)
  pub clean : AreClean m (length table) (last ∷ before)
  pub found : there last ≡ Some descriptor
  pub ends : goes_on descriptor ≡ false
  pub readable : chain.readable ≡ all_read (last ∷ before)
  pub writable : chain.writable ≡ all_written (last ∷ before)

-- The walk from the head comes to a visit with this fault, and none before it has one.
pub record IsFault (m : Memory) (table : List Descriptor) (head : ℕ) (fault : ChainFault) : Type 0 where
  pub before : List Visit
  pub last : Visit
  pub visits : Visits m table head (last ∷ before)
  pub clean : AreClean m (length table) before
  pub faulty : fault_at m (length table) before last ≡ Some fault

-- What a walk of a table from its head gives.
abbrev pub Walks : Memory → List Descriptor → ℕ → Result Chain ChainFault → Type 0
Walks m table head (Ok chain) = IsChain m table head chain
Walks m table head (Err fault) = IsFault m table head fault
