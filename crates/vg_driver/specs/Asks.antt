-- What a client asks of the device: a command that goes a way, or bytes as they are.
use Rattle.std.specs.Prelude.{◌≡◌, ℕ, ◌+◌, ◌≤◌, length, Option}
use Rattle.vg_chain.specs.Space.{most_request, most_room}
use Rattle.vg_chain.specs.Made.{IsCount, IsNeeded}
use Rattle.vg_wire.specs.declared.request.Queue.{Queue}
use Rattle.vg_cargo.specs.Cargo.{IsLane}
use Rattle.vg_client_holds.specs.declared.act.What.{What}
use Rattle.vg_client_holds.specs.declared.holds.Holds.{Holds}
use Rattle.vg_client_holds.specs.Holds.{denied_of}
use Rattle.vg_device.specs.declared.request.Request.{Request}
use Rattle.vg_machine.specs.Lane.{lane_of}
use Rattle.vg_driver.specs.declared.ask.Ask.{Ask}
use Rattle.vg_driver.specs.declared.ask.Ask.TheVariants.{Command, Raw}
use Rattle.vg_driver.specs.Requests.{IsShort, MayGo, denied_by, lane_by, queue_by, raw_request, request_by, room_on, shape_of}

-- The queue and the lane by which it goes, its request as its ordinal is, and what a client with these holds is denied of it.
abbrev pub queue_for : Ask → Queue
queue_for (Command way command) = queue_by way
queue_for (Raw queue room shape bytes) = queue

abbrev pub lane_for : Ask → ℕ
lane_for (Command way command) = lane_by way
lane_for (Raw queue room shape bytes) = lane_of queue bytes

abbrev pub request_for : Ask → ℕ → Request
request_for (Command way command) ordinal = request_by way command ordinal
request_for (Raw queue room shape bytes) ordinal = raw_request queue room shape bytes ordinal

abbrev pub denied_for : Holds → Ask → Option What
denied_for holds (Command way command) = denied_by holds way command
denied_for holds (Raw queue room shape bytes) = denied_of holds queue bytes

-- A command that can go its way; bytes of any kind; neither is longer, nor wants more room, than may be sent.
abbrev pub IsAsk : Ask → Type 0
IsAsk (Command way command) = MayGo way command × IsShort command
IsAsk (Raw queue room shape bytes) = (length bytes ≤ most_request) × (room ≤ most_room) × IsCount shape

-- It needs so many descriptors: a command's body isn't longer than leaves them as they are.
abbrev pub IsNeededFor : Ask → ℕ → Type 0
IsNeededFor (Command way command) count = (k : ℕ) → IsNeeded (shape_of command) (24 + k) (room_on (queue_by way) command) count
IsNeededFor (Raw queue room shape bytes) count = IsNeeded shape (length bytes) room count

-- Its request with this ordinal, and what is true of that.
pub record IsMadeFor (ask : Ask) (ordinal : ℕ) (request : Request) : Type 0 where
  pub is : request ≡ request_for ask ordinal
  pub lane : IsLane request.queue request.lane
  pub lane_is : request.lane ≡ lane_of request.queue request.bytes
  pub short : length request.bytes ≤ most_request
  pub room : request.room ≤ most_room
  pub count : IsCount request.shape
  pub needed : (count : ℕ) → IsNeededFor ask count → IsNeeded request.shape (length request.bytes) request.room count
  pub denied : (holds : Holds) → denied_of holds request.queue request.bytes ≡ denied_for holds ask
