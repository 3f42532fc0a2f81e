-- What goes across a ring and back between two threads.
use Rattle.std.specs.Prelude.{◌≡◌, ℕ, ◌+◌, ◌%◌, ◌≤◌, Bool, true, false, Result, Ok, Err, All, List, [], ◌∷◌, ◌++◌, length, map, min, take}
use Rattle.std.specs.Int.{to_le_bytes, w64}
use Rattle.vg_chain.specs.declared.chain.Chain.{Chain}
use Rattle.vg_chain.specs.declared.chain.ChainFault.{ChainFault}
use Rattle.vg_chain.specs.declared.shape.Shape.{Shape}
use Rattle.vg_chain.specs.declared.shape.Shape.TheVariants.{Plain, Pieces, Indirect, Mixed, Bad}
use Rattle.vg_wire.specs.declared.request.Queue.{Queue}
use Rattle.vg_history.specs.Lists.{upto}
use Rattle.vg_cargo.specs.declared.entries.Entry.{Entry}
use Rattle.vg_cargo.specs.declared.entries.Answer.{Answer}
use Rattle.vg_cargo.specs.Cargo.{ParcelData}
use Rattle.vg_cargo.specs.Entries.{entries, lane_count}
use Rattle.vg_cargo.specs.Ends.{DriverLists}
use Rattle.vg_cargo.specs.DeviceEnds.{DeviceLists}
use Rattle.vg_ring_uses.specs.declared.answering.Look.{Look}
use Rattle.vg_ring_uses.specs.declared.answering.Look.TheVariants.{Answered, Unread, Nothing}

abbrev pub ordinal_of : Entry → ℕ
ordinal_of e = e.ordinal

-- The eight bytes of the entry's ordinal, the lowest first.
abbrev pub ordinal_bytes : Entry → List ℕ
ordinal_bytes e = to_le_bytes w64 e.ordinal

-- A shape that isn't a fault's.
abbrev pub IsGood : Shape → Type 0
IsGood Plain = Unit {0}
IsGood (Pieces k) = Unit {0}
IsGood Indirect = Unit {0}
IsGood Mixed = Unit {0}
IsGood (Bad fault) = ⊥

-- A cargo of the queue and the lane, whose request is its ordinal's bytes, with as much room, in a chain that isn't bad.
pub record IsAsked (queue : Queue) (lane : ℕ) (e : Entry) : Type 0 where
  pub good : IsGood e.shape
  pub queue_is : e.queue ≡ queue
  pub lane_is : e.lane ≡ lane
  pub request : e.request ≡ ordinal_bytes e
  pub room : e.room ≡ 8

-- The response is the request.
abbrev pub IsEchoed : Answer → Type 0
IsEchoed a = a.response ≡ a.entry.request

-- As many of these bytes as there is room for, and none where the chain is bad.
abbrev pub written : Result Chain ChainFault → ℕ → List ℕ → List ℕ
written (Ok chain) room bytes = take (min (length bytes) room) bytes
written (Err fault) room bytes = []

abbrev pub echo_in : Shape → List ℕ → ℕ → List ℕ
echo_in Plain request room = take (min (length request) room) request
echo_in (Pieces k) request room = take (min (length request) room) request
echo_in Indirect request room = take (min (length request) room) request
echo_in Mixed request room = take (min (length request) room) request
echo_in (Bad fault) request room = []

-- The response is as much of the request as there is room for, and nothing where the chain is bad.
abbrev pub IsAnswered : Answer → Type 0
IsAnswered a = a.response ≡ echo_in a.entry.shape a.entry.request a.entry.room

-- The same of a cargo that goes back, unless it wasn't read.
abbrev pub IsRespondedTo : ParcelData → List ℕ → Look → Type 0
IsRespondedTo p response Answered = response ≡ echo_in p.shape p.request p.room
IsRespondedTo p response Unread = Unit {0}
IsRespondedTo p response Nothing = ⊥

-- The driver's end has asked so many cargoes of a lane, under the ordinals from 1 on, and has no more of them back.
pub record HasAsked (queue : Queue) (lane count : ℕ) (lists : DriverLists) : Type 0 where
  pub queue_is : lists.queue ≡ queue
  pub ordinals : map ordinal_of lists.published ≡ upto count
  pub cargoes : All (IsAsked queue lane) lists.published
  pub back : length lists.reaped ≤ count

-- The lane's next cargo was published, or nothing was done.
pub record Asks (queue : Queue) (lane count : ℕ) (old new : DriverLists) : Type 0 where
  pub entry : Entry
  pub published : new.published ≡ old.published ++ entry ∷ []
  pub asked : IsAsked queue lane entry
  pub ordinal : entry.ordinal ≡ lane_count lane old.published + 1
  pub fewer : length old.published + 1 ≤ count
  pub reaped : new.reaped ≡ old.reaped
  pub queue_is : new.queue ≡ old.queue

abbrev pub MayAsk : Queue → ℕ → ℕ → DriverLists → DriverLists → Bool → Type 0
MayAsk queue lane count old new true = Asks queue lane count old new
MayAsk queue lane count old new false = new ≡ old

-- One cargo came back, or none did.
pub record TakesBack (old new : DriverLists) : Type 0 where
  pub published : new.published ≡ old.published
  pub queue_is : new.queue ≡ old.queue
  pub fewer : length old.reaped ≤ length old.published → length new.reaped ≤ length new.published

-- The device's end has completed all that it has fetched, in that order, each with its request as its response.
pub record HasAnswered (lists : DeviceLists) : Type 0 where
  pub in_order : entries lists.completed ≡ lists.fetched
  pub answered : All IsAnswered lists.completed

-- The same, unless a cargo went back unread.
abbrev pub HasAnsweredIf : Bool → DeviceLists → Type 0
HasAnsweredIf true lists = Unit {0}
HasAnsweredIf false lists = HasAnswered lists

abbrev pub is_unread : Bool → Look → Bool
is_unread unread Answered = unread
is_unread unread Unread = true
is_unread unread Nothing = unread

-- The available index that was loaded last is the count of what was fetched.
abbrev pub HasSeenAll : DeviceLists → Type 0
HasSeenAll lists = lists.seen ≡ length lists.fetched % 65536

-- One cargo was fetched and completed, or none was there.
pub record Answers (old new : DeviceLists) : Type 0 where
  pub answer : Answer
  pub fetched : new.fetched ≡ old.fetched ++ answer.entry ∷ []
  pub completed : new.completed ≡ old.completed ++ answer ∷ []
  pub answered : IsAnswered answer

abbrev pub MayAnswer : DeviceLists → DeviceLists → Look → Type 0
MayAnswer old new Answered = Answers old new
MayAnswer old new Unread = Unit {0}
MayAnswer old new Nothing = (new.fetched ≡ old.fetched) × (new.completed ≡ old.completed) × HasSeenAll new

-- So many cargoes of a lane went across a ring and back: all that was published was fetched, in order, and all that was
-- completed came back, in order; those that came back have the ordinals from 1 on, one by one, each with its request as its
-- response.
pub record HaveCarried (queue : Queue) (lane count : ℕ) (driver : DriverLists) (device : DeviceLists) : Type 0 where
  pub fetched : device.fetched ≡ driver.published
  pub reaped : driver.reaped ≡ device.completed
  pub ordinals : map ordinal_of (entries driver.reaped) ≡ upto count
  pub cargoes : All (IsAsked queue lane) (entries driver.reaped)
  pub echoed : All IsEchoed driver.reaped

-- Two cargoes were fetched, and completed in the other order.
pub record Turns (old new : DeviceLists) : Type 0 where
  pub first : Answer
  pub second : Answer
  pub fetched : new.fetched ≡ old.fetched ++ first.entry ∷ second.entry ∷ []
  pub completed : new.completed ≡ old.completed ++ second ∷ first ∷ []
