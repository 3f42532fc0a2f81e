use Rattle.std.specs.Prelude.{◌≡◌, ℕ, ◌+◌, ◌*◌, ◌^◌, ◌≤◌, Option, None, Some, List, length, take}
use Rattle.vg_chain.specs.declared.form.Form.TheVariants.{Split}
use Rattle.vg_chain.specs.declared.shape.Shape.{Shape}
use Rattle.vg_chain.specs.Space.{space, most_request, most_room}
use Rattle.vg_chain.specs.Made.{AreTables, IsMeasured}
use Rattle.vg_chain.specs.declared.asked.Asked.{Asked}
use Rattle.vg_chain.specs.Asks.{asked}
use Rattle.vg_wire.specs.declared.request.Queue.{Queue}
use Rattle.vg_wire.specs.declared.request.Queue.TheVariants.{Control, Cursor}

-- A request on its way: the queue, the place of its head descriptor, its lane and ordinal, how it is laid out, its
-- bytes, the length of the room for its response, the bytes of its indirect tables, and what is in the room so far.
pub record ParcelData : Type 0 where
  pub queue : Queue
  pub head : ℕ
  pub lane : ℕ
  pub ordinal : ℕ
  pub shape : Shape
  pub request : List ℕ
  pub room : ℕ
  pub tables : List ℕ
  pub response : List ℕ

-- The address of a request's first byte: each head of each queue has a space of its own.
abbrev pub base_of : Queue → ℕ → ℕ
base_of Control head = 2 ^ 48 + space * head
base_of Cursor head = 2 ^ 48 + 2 ^ 32 + space * head

-- The cursor queue is lane 65, and the lanes of the control queue are those up to 64.
abbrev pub IsLane : Queue → ℕ → Type 0
IsLane Control lane = lane ≤ 64
IsLane Cursor lane = lane ≡ 65

pub record IsParcel (p : ParcelData) : Type 0 where
  pub request : length p.request ≤ most_request
  pub room : p.room ≤ most_room
  pub response : length p.response ≤ p.room
  pub lane : IsLane p.queue p.lane
  pub tables : AreTables Split p.shape (length p.request) p.room (base_of p.queue p.head) p.tables

-- Where a parcel's request and room lie.
pub record IsExtent (p : ParcelData) (b n r : ℕ) : Type 0 where
  pub base : b ≡ base_of p.queue p.head
  pub request : n ≡ length p.request
  pub room : r ≡ p.room
  pub measured : IsMeasured n r b

-- What a parcel asks for.
abbrev pub asked_of : ParcelData → Asked
asked_of p = asked p.queue p.request p.room p.shape

-- What is in a parcel's room, where it is told.
abbrev pub Tells : Option (List ℕ) → List ℕ → Type 0
Tells None response = Unit {0}
Tells (Some bytes) response = response ≡ bytes

-- A parcel with the pass that goes with it.
pub record CargoData (P : Type 0) : Type 0 where
  pub parcel : ParcelData
  pub pass : P

-- What a parcel's fields stand for: the response is the front of the room, as far as it was filled.
abbrev pub parcel_of : Queue → ℕ → ℕ → ℕ → Shape → List ℕ → List ℕ → List ℕ → ℕ → ParcelData
parcel_of queue head lane ordinal shape request tables room filled = record {
  queue = queue;
  head = head;
  lane = lane;
  ordinal = ordinal;
  shape = shape;
  request = request;
  room = length room;
  tables = tables;
  response = take filled room;
}
