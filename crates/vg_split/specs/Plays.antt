use Rattle.std.specs.Prelude.{ℕ, ◌-◌, ◌/◌, ◌%◌, ◌^◌, Option, Some, None, ◌++◌, List, [], ◌∷◌}
use Rattle.vg_wire.specs.declared.request.Queue.{Queue}
use Rattle.vg_wire.specs.declared.request.Queue.TheVariants.{Control}
use Rattle.vg_split.specs.declared.views.Stored.{Stored}
use Rattle.vg_split.specs.declared.views.DriverStage.{DriverStage}
use Rattle.vg_split.specs.declared.views.DriverStage.TheVariants as driver
use Rattle.vg_cargo.specs.declared.entries.Entry.{Entry}
use Rattle.vg_cargo.specs.declared.entries.Answer.{Answer}
use Rattle.vg_split.specs.declared.views.DeviceStage.{DeviceStage}
use Rattle.vg_split.specs.declared.views.DriverView.{DriverView}
use Rattle.vg_split.specs.declared.views.DeviceView.{DeviceView}
use Rattle.vg_split.specs.declared.views.View.{View}
use Rattle.vg_split.specs.declared.views.View.TheVariants.{Start, Driver, Device, Right, Note, Spent}
use Rattle.vg_split.specs.declared.views.DeviceStage.TheVariants as device
use Rattle.vg_cargo.specs.Cargo.{CargoData}
use Rattle.vg_cargo.specs.Entries.{head_of, published_as, held_at, no_entry, answer_with, without}
use Rattle.vg_split.specs.Rule.{staged, set_stage, places_of, published_after, completed_after, new_driver, new_device}

-- What a seat's view is, where it is an end's.
abbrev pub driver_of : View → DriverView
driver_of (Start q) = new_driver
driver_of (Driver d) = d
driver_of (Device v) = new_driver
driver_of (Right e) = new_driver
driver_of (Note fetched reaped) = new_driver
driver_of Spent = new_driver

abbrev pub device_of : View → DeviceView
device_of (Start q) = new_device q
device_of (Driver d) = new_device Control
device_of (Device v) = v
device_of (Right e) = new_device e.queue
device_of (Note fetched reaped) = new_device Control
device_of Spent = new_device Control

abbrev pub queue_of : View → Queue
queue_of view = (device_of view).queue

-- The place whose word this is.
abbrev pub place_at : ℕ → ℕ
place_at word = (word - 2) / 2

-- After an address, or the rest of a descriptor, was stored.
abbrev pub half_after : DriverStage → ℕ → ℕ → DriverStage
half_after driver.Resting word x = driver.Half [] (place_at word) x
half_after (driver.Writing stored) word x = driver.Half stored (place_at word) x
half_after (driver.Half stored p a) word x = driver.Half stored p a
half_after (driver.Offered stored) word x = driver.Offered stored
half_after driver.Newer word x = driver.Newer
half_after (driver.Taken a) word x = driver.Taken a
half_after (driver.Noted fetched) word x = driver.Noted fetched

abbrev pub rest_after : DriverStage → ℕ → DriverStage
rest_after driver.Resting x = driver.Resting
rest_after (driver.Writing stored) x = driver.Writing stored
rest_after (driver.Half stored p a) x = driver.Writing (stored ++ record { place = p; addr = a; rest = x } ∷ [])
rest_after (driver.Offered stored) x = driver.Offered stored
rest_after driver.Newer x = driver.Newer
rest_after (driver.Taken a) x = driver.Taken a
rest_after (driver.Noted fetched) x = driver.Noted fetched

abbrev pub with_half : View → ℕ → ℕ → View
with_half view word x = Driver (staged (driver_of view) (half_after (driver_of view).stage word x))

abbrev pub with_rest : View → ℕ → View
with_rest view x = Driver (staged (driver_of view) (rest_after (driver_of view).stage x))

-- The descriptors that were stored so far.
abbrev pub written_in : DriverStage → List Stored
written_in driver.Resting = []
written_in (driver.Writing stored) = stored
written_in (driver.Half stored p a) = stored
written_in (driver.Offered stored) = stored
written_in driver.Newer = []
written_in (driver.Taken a) = []
written_in (driver.Noted fetched) = []

abbrev pub writing : View → List Stored → View
writing view stored = Driver (staged (driver_of view) (driver.Writing stored))

abbrev pub written_by : View → List Stored
written_by view = written_in (driver_of view).stage

-- The stage once these descriptors are stored.
abbrev pub laid : List Stored → DriverStage
laid [] = driver.Resting
laid (d ∷ more) = driver.Writing (d ∷ more)

abbrev pub laying : View → View
laying view = Driver (staged (driver_of view) (laid (written_by view)))

-- After the available element was stored, and after the available index, where the cargo lay in the slot.
abbrev pub offered : View → View
offered view = Driver (staged (driver_of view) (driver.Offered (written_by view)))

abbrev pub sent_as : {P : Type 0} → View → Option (CargoData P) → View
sent_as view None = view
sent_as view (Some cargo) = Driver (published_after (driver_of view) (published_as (places_of (written_by view)) cargo))

abbrev pub sent_with : {P : Type 0} → View → List (ℕ × Option (CargoData P)) → View
sent_with view [] = view
sent_with view (held ∷ more) = sent_as view held.1

-- An end that is about to do nothing.
abbrev pub rested : View → View
rested (Start q) = Start q
rested (Driver d) = Driver (staged d driver.Resting)
rested (Device v) = Device (set_stage v device.Resting)
rested (Right e) = Right e
rested (Note fetched reaped) = Note fetched reaped
rested Spent = Spent

-- After a used element was stored: the entry is the one that is held there.
abbrev pub answering : View → ℕ → View
answering view x = Device (set_stage (device_of view) (device.Answering (held_at (x % 2 ^ 32) (device_of view).held) (x / 2 ^ 32)))

-- After the used index, where the cargo lay in the slot.
abbrev pub answered_in : {P : Type 0} → DeviceView → DeviceStage → CargoData P → View
answered_in v device.Resting cargo = Device v
answered_in v device.Newer cargo = Device v
answered_in v (device.Taken e) cargo = Device v
answered_in v (device.Answering e len) cargo = Device (completed_after v (answer_with e len cargo) (without (head_of e) v.held))
answered_in v (device.Returned e old) cargo = Device v
answered_in v (device.Naming e) cargo = Device v
answered_in v (device.Noted reaped) cargo = Device v

abbrev pub answered_as : {P : Type 0} → View → Option (CargoData P) → View
answered_as view None = view
answered_as view (Some cargo) = answered_in (device_of view) (device_of view).stage cargo

abbrev pub answered_with : {P : Type 0} → View → List (ℕ × Option (CargoData P)) → View
answered_with view [] = view
answered_with view (held ∷ more) = answered_as view held.1

-- A right is about to be split off, is split off, and is taken in.
abbrev pub naming : View → ℕ → View
naming view head = Device (set_stage (device_of view) (device.Naming (held_at head (device_of view).held)))

abbrev pub named_in : DeviceStage → Entry
named_in device.Resting = no_entry
named_in device.Newer = no_entry
named_in (device.Taken e) = no_entry
named_in (device.Answering e len) = no_entry
named_in (device.Returned e old) = e
named_in (device.Naming e) = e
named_in (device.Noted reaped) = no_entry

abbrev pub lent_in : DeviceStage → List Entry
lent_in device.Resting = []
lent_in device.Newer = []
lent_in (device.Taken e) = []
lent_in (device.Answering e len) = []
lent_in (device.Returned e old) = old
lent_in (device.Naming e) = []
lent_in (device.Noted reaped) = []

abbrev pub named_by : View → Entry
named_by view = named_in (device_of view).stage

abbrev pub lent_by : View → List Entry
lent_by view = lent_in (device_of view).stage

abbrev pub right_of : View → Entry
right_of (Start q) = no_entry
right_of (Driver d) = no_entry
right_of (Device v) = no_entry
right_of (Right e) = e
right_of (Note fetched reaped) = no_entry
right_of Spent = no_entry

-- An end that has seen that the index isn't its count.
abbrev pub newer_driver : View → View
newer_driver view = Driver (staged (driver_of view) driver.Newer)

abbrev pub newer_device : View → View
newer_device view = Device (set_stage (device_of view) device.Newer)

-- A device's end that is about to do nothing.
abbrev pub resting_device : View → View
resting_device view = Device (set_stage (device_of view) device.Resting)

abbrev pub resting_driver : View → View
resting_driver view = Driver (staged (driver_of view) driver.Resting)

-- What a note says that was fetched, and what came back.
abbrev pub fetched_of : View → List Entry
fetched_of (Start q) = []
fetched_of (Driver d) = []
fetched_of (Device v) = []
fetched_of (Right e) = []
fetched_of (Note fetched reaped) = fetched
fetched_of Spent = []

abbrev pub reaped_of : View → List Answer
reaped_of (Start q) = []
reaped_of (Driver d) = []
reaped_of (Device v) = []
reaped_of (Right e) = []
reaped_of (Note fetched reaped) = reaped
reaped_of Spent = []

-- An end that has taken a note in, and what that note said.
abbrev pub noted_by_driver : View → View → View
noted_by_driver view note = Driver (staged (driver_of view) (driver.Noted (fetched_of note)))

abbrev pub noted_by_device : View → View → View
noted_by_device view note = Device (set_stage (device_of view) (device.Noted (reaped_of note)))

abbrev pub fetched_noted : DriverStage → List Entry
fetched_noted driver.Resting = []
fetched_noted (driver.Writing stored) = []
fetched_noted (driver.Half stored p a) = []
fetched_noted (driver.Offered stored) = []
fetched_noted driver.Newer = []
fetched_noted (driver.Taken a) = []
fetched_noted (driver.Noted fetched) = fetched

abbrev pub reaped_noted : DeviceStage → List Answer
reaped_noted device.Resting = []
reaped_noted device.Newer = []
reaped_noted (device.Taken e) = []
reaped_noted (device.Answering e len) = []
reaped_noted (device.Returned e old) = []
reaped_noted (device.Naming e) = []
reaped_noted (device.Noted reaped) = reaped
