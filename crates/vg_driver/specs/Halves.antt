-- A queue's driver end with what came back over it: what is kept, and what the calls tell.
use Rattle.std.specs.Prelude.{◌≡◌, ℕ, ◌+◌, ◌==◌, ◌&&◌, ◌^◌, ◌-◌, ◌<◌, ◌≤◌, ◌%◌, true, false, Bool, List, [], ◌∷◌, length, max, get_or, Option, Some, None, if◌then◌else◌}
use mathlib.Core.List.{IsPrefix}
use Rattle.vg_history.specs.declared.machine.Machine.{Ghosts}
use Rattle.vg_history.specs.declared.entry.Entry.{Entry}
use Rattle.vg_history.specs.declared.entry.Entry.TheVariants.{Command}
use Rattle.vg_history.specs.History.{HasFence}
use Rattle.vg_history.specs.Lists.{Has}
use Rattle.vg_book.specs.declared.outcome.Carried.{Carried}
use Rattle.vg_book.specs.declared.outcome.Carried.TheVariants as carried
use Rattle.vg_book.specs.Outcomes.{asks_of, tag_of}
use Rattle.vg_book.specs.Tokens.{Client, Drawn, Noted, Passed, Rooted, Watched}
use Rattle.vg_history.specs.Fences.{FenceData}
use Rattle.vg_chain.specs.declared.shape.Shape.{Shape}
use Rattle.vg_chain.specs.Made.{IsCount, IsNeeded}
use Rattle.vg_wire.specs.declared.request.Queue.{Queue}
use Rattle.vg_cargo.specs.declared.entries.Answer.{Answer}
use Rattle.vg_cargo.specs.declared.entries.Entry as ring
use Rattle.vg_chain.specs.declared.asked.Asked.{Asked}
use Rattle.vg_chain.specs.Asks.{asked}
use Rattle.vg_cargo.specs.Cargo.{ParcelData}
use Rattle.vg_cargo.specs.Ends.{DriverLists, HasRoom}
use Rattle.vg_cargo.specs.Entries.{lane_count}

-- The greatest ordinal of a lane among answers, run or not; 0 where there is none.
abbrev pub top_of : ℕ → List Answer → ℕ
top_of lane [] = 0
top_of lane (answer ∷ more) = if answer.entry.lane == lane then max answer.entry.ordinal (top_of lane more) else top_of lane more

-- What is asked by a ring's entry.
abbrev pub asked_in : ring.Entry → Asked
asked_in e = asked e.queue e.request e.room e.shape

-- What is known of a lane: the greatest ordinal that came back, up to which ordinal its note knows its commands, and whether
-- something of it came back without having been run.
pub record HeardData (M S A R Q P H W : Type 0) : Type 0 where
  pub lane : ℕ
  pub top : ℕ
  pub known : ℕ
  pub note : Option (Noted M S A R Q P H W)
  pub unrun : Bool

-- Nothing but replies were taken from the ring.
pub record HasReaped (old new : DriverLists) : Type 0 where
  pub published : new.published ≡ old.published
  pub same : (new.queue ≡ old.queue) × (new.size ≡ old.size)

-- One more reply was taken, or there was none.
abbrev pub ReapsOne : DriverLists → DriverLists → Bool → Type 0
ReapsOne old new true = HasReaped old new × (length new.reaped ≡ length old.reaped + 1) × (length new.reaped ≤ length new.published)
ReapsOne old new false = HasReaped old new × (new.seen ≡ length new.reaped % 65536)

-- A parcel that may be published next.
pub record IsOffered (lists : DriverLists) (shape : Shape) (parcel : ParcelData) : Type 0 where
  pub count : IsCount shape
  pub shape_is : parcel.shape ≡ shape
  pub queue_is : parcel.queue ≡ lists.queue
  pub head_is : parcel.head ≡ lists.next
  pub room : (count : ℕ) × IsNeeded shape (length parcel.request) parcel.room count × HasRoom lists count
  pub ordinal : parcel.ordinal ≡ lane_count parcel.lane lists.published + 1
  pub last : length lists.published < 2 ^ 63 - 1

module _ {M S A R Q P H W : Type 0} where
  abbrev pub unheard : ℕ → HeardData M S A R Q P H W
  unheard lane = record { lane = lane; top = 0; known = 0; note = None; unrun = false }

  abbrev pub IsHeard : List Answer → ℕ → HeardData M S A R Q P H W → Type 0
  IsHeard reaped lane heard = (heard.lane ≡ lane) × (heard.top ≡ top_of lane reaped)

  -- Each lane in its place.
  abbrev pub AreHeard : List Answer → List (HeardData M S A R Q P H W) → Type 0
  AreHeard reaped heard = (lane : ℕ) → lane < 66 → IsHeard reaped lane (get_or heard lane (unheard 0))

  -- What a note has seen; nothing where there is none.
  abbrev pub seen_by : Option (Noted M S A R Q P H W) → List (Entry M S A R Q P H W)
  seen_by None = []
  seen_by (Some note) = note.seen

  -- The root has at most seen more.
  pub record HasHeard (old new : Rooted M S A R Q P H W) : Type 0 where
    pub given : new.given ≡ old.given
    pub lanes_made : new.lanes_made ≡ old.lanes_made
    pub accounts : new.accounts ≡ old.accounts
    pub lanes : new.lanes ≡ old.lanes
    pub start : new.start ≡ old.start
    pub more : IsPrefix old.seen new.seen

  -- All of the lane was run, and what its note has seen stands here.
  abbrev pub IsJoined : List (Entry M S A R Q P H W) → HeardData M S A R Q P H W → Type 0
  IsJoined es heard = (heard.unrun ≡ false) × IsPrefix (seen_by heard.note) es

  -- The root has seen what these lanes' notes have, and all of them was run.
  pub record HasJoined (old : Rooted M S A R Q P H W) (heard : List (HeardData M S A R Q P H W)) (new : Rooted M S A R Q P H W) : Type 0 where
    pub root : HasHeard old new
    pub lanes : (h : HeardData M S A R Q P H W) → Has heard h → IsJoined new.seen h

module _ {M B S A R Q P H W : Type 0} where
  -- What came back is of this call of this client.
  abbrev pub IsOf : ℕ → ℕ → Carried M B S A R Q P H W → Type 0
  IsOf client call (carried.Wanted p) = (p.order.client ≡ client) × (p.order.call ≡ call)
  IsOf client call (carried.Done f) = (f.order.client ≡ client) × (f.order.call ≡ call)
  IsOf client call (carried.Unrun p) = (p.order.client ≡ client) × (p.order.call ≡ call)

  abbrev pub is_of : ℕ → ℕ → Carried M B S A R Q P H W → Bool
  is_of client call (carried.Wanted p) = (p.order.client == client) && (p.order.call == call)
  is_of client call (carried.Done f) = (f.order.client == client) && (f.order.call == call)
  is_of client call (carried.Unrun p) = (p.order.client == client) && (p.order.call == call)

module _ {M S A R Q P H W : Type 0} (g : Ghosts M S A R Q P H W) where
  -- The note knows the lane up to this ordinal; where there is none, that is 0.
  abbrev pub NoteKnows : ℕ → ℕ → Option (Noted M S A R Q P H W) → Type 0
  NoteKnows lane known None = known ≡ 0
  NoteKnows lane known (Some note) = HasFence g lane known note.seen

  -- The fence is known: the client has at most seen more, and all commands of the fence's lane up to it are there; or nothing is
  -- changed.
  abbrev pub Signals : Client M S A R Q P H W → FenceData → Bool → Client M S A R Q P H W → Type 0
  Signals c fence true d = HasFence g fence.lane fence.ordinal d.seen × Watched g c d
  Signals c fence false d = d ≡ c

  -- The request was made a pass under the client's next number.
  abbrev pub IsSent : Client M S A R Q P H W → Q → Client M S A R Q P H W → ℕ → Type 0
  IsSent c request d call = ((pass : Passed M S A R Q P H W) × Drawn g c request d pass) × (call ≡ c.account.used + 1)

  -- A command of this lane and ordinal that asks for this stands there.
  abbrev pub HasFor : ℕ × ℕ → Asked → List (Entry M S A R Q P H W) → Type 0
  HasFor tag asks es = (c : ℕ) × (n : ℕ) × (q : Q) × (p : P) × Has es (Command c n q p) × (g.tagged q ≡ tag) × (g.asks q ≡ asks)

  -- What a ring's entry asks is a command there, of its lane and ordinal, with its very bytes, room and shape.
  abbrev pub HasAsked : ring.Entry → List (Entry M S A R Q P H W) → Type 0
  HasAsked e es = HasFor (e.lane, e.ordinal) (asked_in e) es

  -- The answer's lane knows its command, unless something of the lane wasn't run.
  abbrev pub IsKnown : Answer → HeardData M S A R Q P H W → Type 0
  IsKnown answer heard = (answer.entry.lane < 66) × (heard.unrun ≡ false → HasAsked answer.entry (seen_by heard.note))

  abbrev pub AreKnown : List Answer → List (HeardData M S A R Q P H W) → Type 0
  AreKnown reaped heard = (answer : Answer) → Has reaped answer → IsKnown answer (get_or heard answer.entry.lane (unheard 0))

  -- A command of the lane came back.
  pub record Hears {B : Type 0} (old : HeardData M S A R Q P H W) (back : Carried M B S A R Q P H W) (ordinal : ℕ) (new : HeardData M S A R Q P H W) : Type 0 where
    pub lane : new.lane ≡ old.lane
    pub top : new.top ≡ max ordinal old.top
    pub more : IsPrefix (seen_by old.note) (seen_by new.note)
    pub run : new.unrun ≡ false → (old.unrun ≡ false) × HasFor (tag_of g back) (asks_of g back) (seen_by new.note)

  -- What a half keeps: the lanes know what came back.
  pub record IsHalf (queue : Queue) (lists : DriverLists) (heard : List (HeardData M S A R Q P H W)) : Type 0 where
    pub queue_is : lists.queue ≡ queue
    pub most : length lists.reaped ≤ length lists.published
    pub lanes : length heard ≡ 66
    pub tops : AreHeard lists.reaped heard
    pub known : AreKnown lists.reaped heard

  -- All that was published came back, and was a command that stands there.
  pub record AreBack (lists : DriverLists) (es : List (Entry M S A R Q P H W)) : Type 0 where
    pub all : length lists.reaped ≡ length lists.published
    pub asked : (answer : Answer) → Has lists.reaped answer → HasAsked answer.entry es
