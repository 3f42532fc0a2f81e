use Rattle.std.specs.Prelude.{◌≡◌, ℕ, ◌+◌, ◌-◌, ◌^◌, ◌<◌, ◌≤◌, Bool, Option, Some, List, [], ◌∷◌, ◌++◌, length, slice_index, slice_get, ◌⊎◌, true}
use Rattle.atomic_table.specs.Table.{Me}
use Rattle.vg_chain.specs.Made.{IsCount, IsNeeded}
use Rattle.vg_chain.specs.declared.shape.Shape.{Shape}
use Rattle.vg_wire.specs.declared.request.Queue.{Queue}
use Rattle.vg_cargo.specs.declared.entries.Entry.{Entry}
use Rattle.vg_cargo.specs.declared.entries.Answer.{Answer}
use Rattle.vg_split.specs.declared.views.Stored.{Stored}
use Rattle.vg_split.specs.declared.views.DriverStage.TheVariants as driver
use Rattle.vg_split.specs.declared.views.DeviceStage.TheVariants as device
use Rattle.vg_split.specs.declared.views.DriverView.{DriverView}
use Rattle.vg_split.specs.declared.views.DeviceView.{DeviceView}
use Rattle.vg_split.specs.declared.views.View.{View}
use Rattle.vg_split.specs.declared.views.View.TheVariants.{Driver, Device}
use Rattle.vg_cargo.specs.Cargo.{CargoData}
use Rattle.vg_split.specs.Words.{addr_place, rest_place, used_word}
use Rattle.vg_cargo.specs.Descriptors.{descriptor_from}
use Rattle.vg_chain.specs.declared.descriptor.Descriptor.{Descriptor}
use Rattle.vg_cargo.specs.Entries.{head_of, times, uses, spread, weigh, heads, without, Has, ring_of, AreBack, published_as, lane_count, IsFresh, IsDone, InOrder}
use Rattle.vg_split.specs.Rule.{stored_of, places_of, staged, set_stage, fetched_after, reaped_after}

-- What the load of the available element tells, which takes the cargo.
pub record IsTaken {P : Type 0} (wanted : P → Bool) (n : ℕ) (v : DeviceView) (found : ℕ) (me : Me (Option (CargoData P)) View) : Type 0 where
  pub entry : Entry
  pub cargo : CargoData P
  pub after : me ≡ (Device (fetched_after v entry), (head_of entry, Some cargo) ∷ [])
  pub head : found ≡ head_of entry
  pub small : found < n
  pub fresh : IsFresh wanted n entry cargo
  pub ordered : InOrder [] (v.fetched ++ entry ∷ [])
  pub of_queue : entry.queue ≡ v.queue
  pub some_place : 0 < length entry.places
  pub apart : (p : ℕ) → times p entry.places ≤ 1
  pub below : (p : ℕ) → 0 < times p entry.places → p < n
  pub bounded : length v.fetched + 1 < 2 ^ 63
  pub most : length v.fetched + 1 ≤ length v.completed + n
  pub heads : heads (head_of entry) (entry ∷ v.held) ≡ 1

-- What the load of the used element tells, which takes the cargo.
pub record IsReaped {P : Type 0} (wanted : P → Bool) (n : ℕ) (d : DriverView) (found : ℕ) (me : Me (Option (CargoData P)) View) : Type 0 where
  pub answer : Answer
  pub cargo : CargoData P
  pub after : me ≡ (Driver (reaped_after d answer), (head_of answer.entry, Some cargo) ∷ [])
  pub found_is : found ≡ used_word (head_of answer.entry) answer.len
  pub small : head_of answer.entry < n
  pub done : IsDone wanted answer cargo
  pub fewer : length d.reaped < length d.published
  pub some_place : 0 < length answer.entry.places
  pub outs : (f : Entry → ℕ) → weigh f d.outs ≡ weigh f (without (head_of answer.entry) d.outs) + f answer.entry

-- The descriptor is one that a publication of these entries has stored.
abbrev pub IsIn : Stored → List Stored → Type 0
IsIn d [] = ⊥
IsIn d (other ∷ more) = (other ≡ d) ⊎ IsIn d more

-- The word that was found is that of each descriptor of these entries that has it.
abbrev pub TellsWord : ℕ → ℕ → ℕ → List Entry → Type 0
TellsWord n word found held =
    (e : Entry) (d : Stored) → Has e held → IsIn d (stored_of n e) → (word ≡ addr_place d.place → found ≡ d.addr) × (word ≡ rest_place d.place → found ≡ d.rest)

-- What a cargo that is published must be: it was made for the head, and the descriptors that were stored are its own.
pub record IsOffer {P : Type 0} (wanted : P → Bool) (queue : Queue) (n : ℕ) (d : DriverView) (stored : List Stored) (head : ℕ) (cargo : CargoData P) : Type 0 where
  pub stored_is : stored ≡ stored_of n (published_as (places_of stored) cargo)
  pub some : 0 < length stored
  pub first : slice_index (places_of stored) 0 ≡ head
  pub head_is : cargo.parcel.head ≡ head
  pub room : spread d.outs + length stored ≤ n
  pub ordinal : cargo.parcel.ordinal ≡ lane_count cargo.parcel.lane d.published + 1
  pub queue_is : cargo.parcel.queue ≡ queue
  pub few : length d.published + 1 < 2 ^ 63
  pub wanted_is : wanted cargo.pass ≡ true
  pub count : IsCount cargo.parcel.shape
  pub needed : IsNeeded cargo.parcel.shape (length cargo.parcel.request) cargo.parcel.room (length stored)
  pub back : AreBack (ring_of n (published_as (places_of stored) cargo))

-- What a fetch gives, and what the device's end knows after it.
pub record HasTaken {P : Type 0} (wanted : P → Bool) (n : ℕ) (v : DeviceView) (head : ℕ) (cargo : CargoData P) (me : Me (Option (CargoData P)) View) : Type 0 where
  pub entry : Entry
  pub after : me ≡ (Device (set_stage (fetched_after v entry) device.Resting), [])
  pub head_is : head ≡ head_of entry
  pub small : head < n
  pub fresh : IsFresh wanted n entry cargo
  pub ordered : InOrder [] (v.fetched ++ entry ∷ [])
  pub of_queue : entry.queue ≡ v.queue
  pub some_place : 0 < length entry.places
  pub apart : (p : ℕ) → times p entry.places ≤ 1
  pub below : (p : ℕ) → 0 < times p entry.places → p < n
  pub bounded : length v.fetched + 1 < 2 ^ 63
  pub most : length v.fetched + 1 ≤ length v.completed + n
  pub heads : heads (head_of entry) (entry ∷ v.held) ≡ 1

-- What a reap gives, and what the driver's end knows after it.
pub record HasReaped {P : Type 0} (wanted : P → Bool) (n : ℕ) (d : DriverView) (head len : ℕ) (cargo : CargoData P) (me : Me (Option (CargoData P)) View) : Type 0 where
  pub answer : Answer
  pub after : me ≡ (Driver (staged (reaped_after d answer) driver.Resting), [])
  pub head_is : head ≡ head_of answer.entry
  pub len_is : len ≡ answer.len
  pub small : head < n
  pub done : IsDone wanted answer cargo
  pub fewer : length d.reaped < length d.published
  pub some_place : 0 < length answer.entry.places
  pub outs : (f : Entry → ℕ) → weigh f d.outs ≡ weigh f (without (head_of answer.entry) d.outs) + f answer.entry

-- The descriptor of a place is that of each of these entries that has the place, and so are those of the places below
-- this one.
abbrev pub TellsDescriptor : ℕ → ℕ → Descriptor → List Entry → Type 0
TellsDescriptor n place found held = (e : Entry) (d : Stored) → Has e held → IsIn d (stored_of n e) → d.place ≡ place → found ≡ descriptor_from d.addr d.rest

abbrev pub TellsTable : ℕ → ℕ → List Descriptor → List Entry → Type 0
TellsTable n below table held = (e : Entry) (d : Stored) → Has e held → IsIn d (stored_of n e) → d.place < below → slice_get table d.place ≡ Some (descriptor_from d.addr d.rest)

-- What a cargo that is published at these places must be.
pub record IsSendable {P : Type 0} (wanted : P → Bool) (queue : Queue) (size : ℕ) (d : DriverView) (published : ℕ) (shape : Shape) (places : List ℕ) (cargo : CargoData P) : Type 0 where
  pub count : IsCount shape
  pub shape_is : cargo.parcel.shape ≡ shape
  pub needed : IsNeeded shape (length cargo.parcel.request) cargo.parcel.room (length places)
  pub some : 0 < length places
  pub head_is : slice_index places 0 ≡ cargo.parcel.head
  pub published_is : published ≡ length d.published
  pub last : published < 2 ^ 63 - 1
  pub free : (p : ℕ) → times p places + uses p d.outs ≤ 1
  pub below : (p : ℕ) → 0 < times p places → p < size
  pub room : spread d.outs + length places ≤ size
  pub ordinal : cargo.parcel.ordinal ≡ lane_count cargo.parcel.lane d.published + 1
  pub queue_is : cargo.parcel.queue ≡ queue
  pub wanted_is : wanted cargo.pass ≡ true
