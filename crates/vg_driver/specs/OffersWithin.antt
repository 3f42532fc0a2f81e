-- A request that is published next, and what came back of one.
use Rattle.std.specs.Prelude.{◌≡◌, ℕ, ◌+◌, ◌-◌, ◌^◌, ◌<◌, ◌≤◌, false, length, Option, Some, None}
use Rattle.vg_chain.specs.Space.{most_request, most_room}
use Rattle.vg_chain.specs.Made.{IsCount, IsNeeded}
use Rattle.vg_cargo.specs.Cargo.{IsLane, ParcelData}
use Rattle.vg_cargo.specs.Ends.{DriverLists, HasRoom}
use Rattle.vg_cargo.specs.Entries.{lane_count}
use Rattle.vg_device.specs.declared.request.Request.{Request}
use Rattle.vg_client_holds.specs.declared.holds.Holds.{Holds}
use Rattle.vg_client_holds.specs.Holds.{Allowed}
use Rattle.vg_machine.specs.Lane.{lane_of}
use Rattle.vg_driver.specs.declared.ticket.Ticket.{Ticket}
use Rattle.vg_driver.specs.Tickets.{Submitted, Token}

-- The request may be published next, by a client with these holds.
pub record IsNext (holds : Holds) (lists : DriverLists) (request : Request) : Type 0 where
  pub queue_is : request.queue ≡ lists.queue
  pub lane : IsLane request.queue request.lane
  pub lane_is : request.lane ≡ lane_of request.queue request.bytes
  pub ordinal : request.ordinal ≡ lane_count request.lane lists.published + 1
  pub short : length request.bytes ≤ most_request
  pub room : request.room ≤ most_room
  pub count : IsCount request.shape
  pub needed : (count : ℕ) × IsNeeded request.shape (length request.bytes) request.room count × HasRoom lists count
  pub last : length lists.published < 2 ^ 63 - 1
  pub allowed : Allowed holds request.queue request.bytes
  pub guest : holds.host ≡ false

-- The parcel of a request, for this head.
pub record IsParcelOf (request : Request) (head : ℕ) (parcel : ParcelData) : Type 0 where
  pub queue_is : parcel.queue ≡ request.queue
  pub head_is : parcel.head ≡ head
  pub tag : (parcel.lane ≡ request.lane) × (parcel.ordinal ≡ request.ordinal)
  pub shape_is : parcel.shape ≡ request.shape
  pub bytes : parcel.request ≡ request.bytes
  pub room_is : parcel.room ≡ request.room

-- It was submitted, or there was no room for it.
abbrev pub MayOffer : Token → (ℕ → Request) → Option Ticket → Token → Type 0
MayOffer old request (Some ticket) new = Submitted old request ticket new
MayOffer old request None new = new ≡ old
