use Rattle.std.specs.Prelude.{◌≡◌, ℕ, suc, ◌+◌, ◌*◌, ◌%◌, ◌^◌, ◌<◌, ◌≤◌, ◌⊎◌, Bool, Option, None, List, [], ◌∷◌, ◌++◌, length, map, slice_index, replicate, ◌==◌, if◌then◌else◌}
use mathlib.Core.List.{IsPrefix}
use mathlib.Core.Option.{some}
use lib.ListN.{get_elem?}
use Rattle.atomic_table.specs.Table.{State}
use Rattle.vg_cargo.specs.declared.entries.Entry.{Entry}
use Rattle.vg_cargo.specs.declared.entries.Answer.{Answer}
use Rattle.vg_split.specs.declared.views.Stored.{Stored}
use Rattle.vg_split.specs.declared.views.DriverStage.{DriverStage}
use Rattle.vg_split.specs.declared.views.DriverStage.TheVariants as driver
use Rattle.vg_split.specs.declared.views.DeviceStage.{DeviceStage}
use Rattle.vg_split.specs.declared.views.DeviceStage.TheVariants as device
use Rattle.vg_split.specs.declared.views.DriverView.{DriverView}
use Rattle.vg_split.specs.declared.views.DeviceView.{DeviceView}
use Rattle.vg_split.specs.declared.views.View.{View}
use Rattle.vg_split.specs.declared.views.View.TheVariants.{Start, Driver, Device, Right, Note, Spent}
use Rattle.vg_cargo.specs.Cargo.{CargoData, base_of}
use Rattle.vg_wire.specs.declared.request.Queue.{Queue}
use Rattle.vg_split.specs.Words.{addr_place, rest_place, available_place, used_place, used_word}
use Rattle.vg_cargo.specs.Entries.{AreOf, HaveHeads, head_of, entries, without, Has, weigh, uses, spread, heads, times, InOrder}
use Rattle.vg_cargo.specs.Slots.{Homes, Wait, Lie}
use Rattle.vg_cargo.specs.Descriptors.{rest_word}
use Rattle.vg_chain.specs.declared.descriptor.Descriptor.{Descriptor}
use Rattle.vg_chain.specs.Made.{made}

-- What a publication stores for these descriptors at these places.
abbrev pub stored_at : List ℕ → List Descriptor → List Stored
stored_at places [] = []
stored_at [] (d ∷ more) = []
stored_at (place ∷ places) (d ∷ more) = record { place = place; addr = d.addr; rest = rest_word d } ∷ stored_at places more

-- The descriptors of an entry, in a queue of size n.
abbrev pub stored_of : ℕ → Entry → List Stored
stored_of n e = stored_at e.places (made e.shape (length e.request) e.room (base_of e.queue (head_of e)) n e.places).ring

-- A word of the ring.
abbrev pub word_at : List ℕ → ℕ → ℕ
word_at words i = slice_index words i

abbrev pub place_of : Stored → ℕ
place_of d = d.place

abbrev pub places_of : List Stored → List ℕ
places_of stored = map place_of stored

-- The two words of each of these descriptors stand.
abbrev pub StandStored : List ℕ → List Stored → Type 0
StandStored words [] = Unit {0}
StandStored words (d ∷ more) = (word_at words (addr_place d.place) ≡ d.addr) × (word_at words (rest_place d.place) ≡ d.rest) × StandStored words more

abbrev pub Stand : ℕ → List ℕ → List Entry → Type 0
Stand n words [] = Unit {0}
Stand n words (e ∷ more) = StandStored words (stored_of n e) × Stand n words more

-- The available elements of entries from the k-th published on, and the used elements of answers.
abbrev pub Offers : ℕ → List ℕ → ℕ → List Entry → Type 0
Offers n words k [] = Unit {0}
Offers n words k (e ∷ more) = (word_at words (available_place n (k % n)) ≡ head_of e) × Offers n words (suc k) more

abbrev pub Returns : ℕ → List ℕ → ℕ → List Answer → Type 0
Returns n words k [] = Unit {0}
Returns n words k (a ∷ more) = (word_at words (used_place n (k % n)) ≡ used_word (head_of a.entry) a.len) × Returns n words (suc k) more

module _ {P : Type 0} (wanted : P → Bool) (queue : Queue) (n : ℕ) where
  -- The slot that an end has taken.
  abbrev pub driver_hand : DriverStage → ℕ → Type 0
  driver_hand driver.Resting h = ⊥
  driver_hand (driver.Writing stored) h = ⊥
  driver_hand (driver.Half stored place addr) h = ⊥
  driver_hand (driver.Offered []) h = ⊥
  driver_hand (driver.Offered (d ∷ more)) h = d.place ≡ h
  driver_hand driver.Newer h = ⊥
  driver_hand (driver.Taken a) h = head_of a.entry ≡ h
  driver_hand (driver.Noted fetched) h = ⊥

  abbrev pub device_hand : DeviceStage → ℕ → Type 0
  device_hand device.Resting h = ⊥
  device_hand device.Newer h = ⊥
  device_hand (device.Taken e) h = head_of e ≡ h
  device_hand (device.Answering e len) h = head_of e ≡ h
  device_hand (device.Naming e) h = ⊥
  device_hand (device.Returned e old) h = ⊥
  device_hand (device.Noted reaped) h = ⊥

  -- Every slot that has no waiting or lying cargo, and that no end has taken, is at home and empty.
  abbrev pub Vacant : Homes wanted queue n → DriverStage → DeviceStage → List Entry → List Answer → Type 0
  Vacant homes a b coming going =
      (h : ℕ) → h < n → heads h coming + heads h (entries going) ≡ 0 → (driver_hand a h → ⊥) → (device_hand b h → ⊥) → get_elem? homes h ≡ some (some None)

  -- Places of a publication that isn't done: each below n, each once, none of an entry that is out.
  pub record AreFree (stored : List Stored) (outs : List Entry) : Type 0 where
    pub below : (h : ℕ) → 0 < times h (places_of stored) → h < n
    pub once : (h : ℕ) → times h (places_of stored) + uses h outs ≤ 1

  -- What the driver's stage says of the words and of what comes back.
  abbrev pub DriverKnows : List ℕ → List Entry → List Entry → List Answer → DriverStage → Type 0
  DriverKnows words published outs going driver.Resting = Unit {0}
  DriverKnows words published outs going (driver.Writing stored) = AreFree stored outs × StandStored words stored
  DriverKnows words published outs going (driver.Half stored place addr) = AreFree stored outs × StandStored words stored × (word_at words (addr_place place) ≡ addr) × (place < n)
  DriverKnows words published outs going (driver.Offered stored) =
      AreFree stored outs × StandStored words stored × (0 < length stored) × (word_at words (available_place n (length published % n)) ≡ slice_index (places_of stored) 0)
  DriverKnows words published outs going driver.Newer = 0 < length going
  DriverKnows words published outs going (driver.Taken a) = uses (head_of a.entry) outs ≡ 0
  DriverKnows words published outs going (driver.Noted fetched) = IsPrefix fetched published

  abbrev pub DeviceKnows : List ℕ → List Entry → List Answer → List Entry → List Entry → DeviceStage → Type 0
  DeviceKnows words coming completed held lent device.Resting = Unit {0}
  DeviceKnows words coming completed held lent device.Newer = 0 < length coming
  DeviceKnows words coming completed held lent (device.Taken e) = heads (head_of e) held ≡ 1
  DeviceKnows words coming completed held lent (device.Answering e len) = (heads (head_of e) held ≡ 1) × (word_at words (used_place n (length completed % n)) ≡ used_word (head_of e) len)
  DeviceKnows words coming completed held lent (device.Naming e) = (heads (head_of e) held ≡ 1) × (heads (head_of e) lent ≡ 0)
  DeviceKnows words coming completed held lent (device.Returned e old) = Has e old
  DeviceKnows words coming completed held lent (device.Noted reaped) = IsPrefix reaped completed

  -- What the seats from the third on know.
  abbrev pub IsGuest : List Entry → List Answer → List Entry → View → Type 0
  IsGuest published completed lent (Start q) = ⊥
  IsGuest published completed lent (Driver d) = ⊥
  IsGuest published completed lent (Device v) = ⊥
  IsGuest published completed lent (Right e) = Has e lent
  IsGuest published completed lent (Note fetched reaped) = IsPrefix fetched published × IsPrefix reaped completed
  IsGuest published completed lent Spent = Unit {0}

  pub record AreSeated (views : List View) (d : DriverView) (v : DeviceView) : Type 0 where
    pub driver_at : get_elem? views 0 ≡ some (Driver d)
    pub device_at : get_elem? views 1 ≡ some (Device v)
    pub guests : (i : ℕ) (w : View) → 1 < i → get_elem? views i ≡ some w → IsGuest d.published v.completed v.lent w
    pub apart : (i j : ℕ) (e f : Entry) → get_elem? views i ≡ some (Right e) → get_elem? views j ≡ some (Right f) → head_of e ≡ head_of f → i ≡ j

  -- The ring between two steps: what comes to the device, and what goes back to the driver.
  pub record IsRing (s : State (Option (CargoData P)) View) (d : DriverView) (v : DeviceView) (coming : List Entry) (going : List Answer) : Type 0 where
    pub words : length s.words ≡ 2 + 4 * n
    pub homes : length s.homes ≡ n
    pub sent : d.published ≡ v.fetched ++ coming
    pub back : v.completed ≡ d.reaped ++ going
    pub ordered : InOrder [] d.published
    pub queued : AreOf queue d.published
    pub bounded : length d.published < 2 ^ 63
    pub device_queue : v.queue ≡ queue
    pub shared : (f : Entry → ℕ) → weigh f d.outs ≡ weigh f coming + weigh f v.held + weigh f (entries going)
    pub once : (h : ℕ) → uses h d.outs ≤ 1
    pub below : (h : ℕ) → 0 < uses h d.outs → h < n
    pub room : spread d.outs ≤ n
    pub come_heads : HaveHeads coming
    pub held_heads : HaveHeads v.held
    pub go_heads : HaveHeads (entries going)
    pub available : word_at s.words 0 ≡ length d.published % 65536
    pub used : word_at s.words 1 ≡ length v.completed % 65536
    pub offers : Offers n s.words (length v.fetched) coming
    pub returns : Returns n s.words (length d.reaped) going
    pub come_stand : Stand n s.words coming
    pub held_stand : Stand n s.words v.held
    pub go_stand : Stand n s.words (entries going)
    pub wait : Wait wanted queue n s.homes coming
    pub lie : Lie wanted queue n s.homes going
    pub vacant : Vacant s.homes d.stage v.stage coming going
    pub driver_knows : DriverKnows s.words d.published d.outs going d.stage
    pub device_knows : DeviceKnows s.words coming v.completed v.held v.lent v.stage
    pub matched : (f : Entry → ℕ) → weigh f v.fetched ≡ weigh f (entries v.completed) + weigh f v.held
    pub lent_once : (h : ℕ) → heads h v.lent ≤ 1
    pub seated : AreSeated s.views d v

  -- The table as it was made: all words are 0, all slots are empty and at home, and there is one seat.
  pub record IsNew (s : State (Option (CargoData P)) View) : Type 0 where
    pub words : s.words ≡ replicate (2 + 4 * n) 0
    pub homes : s.homes ≡ replicate n (some None)
    pub views : s.views ≡ Start queue ∷ []

  abbrev pub Ring : State (Option (CargoData P)) View → Type 0
  Ring s = IsNew s ⊎ ((d : DriverView) × (v : DeviceView) × (coming : List Entry) × (going : List Answer) × IsRing s d v coming going)

abbrev pub staged : DriverView → DriverStage → DriverView
staged d stage = record d { stage = stage }

abbrev pub set_stage : DeviceView → DeviceStage → DeviceView
set_stage v stage = record v { stage = stage }

-- What the ends know after a publication, a fetch, a completion and a reap. What an end has is in any order.
abbrev pub published_after : DriverView → Entry → DriverView
published_after d e = record d { published = d.published ++ e ∷ []; outs = e ∷ d.outs; stage = driver.Resting }

abbrev pub fetched_after : DeviceView → Entry → DeviceView
fetched_after v e = record v { fetched = v.fetched ++ e ∷ []; held = e ∷ v.held; stage = device.Taken e }

abbrev pub completed_after : DeviceView → Answer → List Entry → DeviceView
completed_after v a held = record v { completed = v.completed ++ a ∷ []; held = held; stage = device.Resting }

abbrev pub looked_by_device : DeviceView → ℕ → DeviceView
looked_by_device v found = record v { looks = v.looks + 1; seen = found; stage = if found == length v.fetched % 65536 then device.Resting else device.Newer }

abbrev pub looked_by_driver : DriverView → ℕ → DriverView
looked_by_driver d found = record d { looks = d.looks + 1; seen = found; stage = if found == length d.reaped % 65536 then driver.Resting else driver.Newer }

abbrev pub reaped_after : DriverView → Answer → DriverView
reaped_after d a = record d { reaped = d.reaped ++ a ∷ []; outs = without (head_of a.entry) d.outs; stage = driver.Taken a }

abbrev pub lent_after : DeviceView → Entry → DeviceView
lent_after v e = record v { lent = e ∷ v.lent; stage = device.Resting }

abbrev pub returned_after : DeviceView → Entry → DeviceView
returned_after v e = record v { lent = without (head_of e) v.lent; stage = device.Returned e v.lent }

-- What the two ends know at first.
abbrev pub new_driver : DriverView
new_driver = record { published = []; reaped = []; outs = []; looks = 0; seen = 0; stage = driver.Resting }

abbrev pub new_device : Queue → DeviceView
new_device queue = record { queue = queue; fetched = []; completed = []; held = []; lent = []; looks = 0; seen = 0; stage = device.Resting }
