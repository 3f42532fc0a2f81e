-- What the walk of a parcel's chain answers, and what is read and written by it.
use Rattle.std.specs.Prelude.{◌≡◌, ℕ, ◌+◌, ◌-◌, ◌≤◌, Result, Ok, Err, List, length, take, min}
use Rattle.vg_chain.specs.declared.chain.Chain.{Chain}
use Rattle.vg_chain.specs.declared.chain.ChainFault.{ChainFault}
use Rattle.vg_chain.specs.declared.descriptor.Segment.{Segment}
use Rattle.vg_chain.specs.declared.shape.Shape.{Shape}
use Rattle.vg_chain.specs.declared.shape.Shape.TheVariants.{Plain, Pieces, Indirect, Mixed, Bad}
use Rattle.vg_chain.specs.Space.{room_at}
use Rattle.vg_chain.specs.Made.{Covers, chain_in}
use Rattle.vg_cargo.specs.Cargo.{ParcelData, base_of}

-- The walk comes to this chain, which is n bytes of a request and r bytes of room, in order.
abbrev pub GivesWhole : Chain → ℕ → ℕ → ℕ → Result Chain ChainFault → Type 0
GivesWhole chain n r b walked = (walked ≡ Ok chain) × Covers b n chain.readable × Covers (room_at b) r chain.writable

-- What a walk answers where the shape stands in the ring as it was published: the shape's fault, or the shape's own segments,
-- one by one, which are all bytes of the request and of the room.
abbrev pub IsAnswer : Shape → ℕ → ℕ → ℕ → Result Chain ChainFault → Type 0
IsAnswer (Bad fault) n r b walked = walked ≡ Err fault
IsAnswer Plain n r b walked = GivesWhole (chain_in Plain n r b) n r b walked
IsAnswer (Pieces k) n r b walked = GivesWhole (chain_in (Pieces k) n r b) n r b walked
IsAnswer Indirect n r b walked = GivesWhole (chain_in Indirect n r b) n r b walked
IsAnswer Mixed n r b walked = GivesWhole (chain_in Mixed n r b) n r b walked

-- What the walk of a parcel's chain answers.
abbrev pub IsWalkOf : ParcelData → Result Chain ChainFault → Type 0
IsWalkOf p walked = IsAnswer p.shape (length p.request) p.room (base_of p.queue p.head) walked

-- The bytes that were read are the front of a memory that begins at this address, and these segments are the rest of it.
pub record IsRead (memory : List ℕ) (addr : ℕ) (segments : List Segment) (bytes : List ℕ) : Type 0 where
  pub few : length bytes ≤ length memory
  pub front : bytes ≡ take (length bytes) memory
  pub rest : Covers (addr + length bytes) (length memory - length bytes) segments

-- The front of a room is that of these bytes, as far as this place and as they go.
abbrev pub IsFront : List ℕ → List ℕ → ℕ → Type 0
IsFront room bytes at = take (min at (length bytes)) room ≡ take (min at (length bytes)) bytes

-- So much of a room that begins at this address was passed, and these segments are the rest of it.
pub record IsWritten (room bytes : List ℕ) (addr : ℕ) (segments : List Segment) : Type 0 where
  pub at : ℕ
  pub few : at ≤ length room
  pub front : IsFront room bytes at
  pub rest : Covers (addr + at) (length room - at) segments

-- So many bytes have the segments so far, and these are the rest, wherever all of them begin and however many bytes they have.
abbrev pub IsSummed : List Segment → ℕ → List Segment → Type 0
IsSummed segments total more = (addr room : ℕ) → Covers addr room segments → (total ≤ room) × Covers (addr + total) (room - total) more
