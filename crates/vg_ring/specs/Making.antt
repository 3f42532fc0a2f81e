use Rattle.std.specs.Prelude.{◌≡◌, ℕ, ◌^◌, ◌≤◌, List, [], Option}
use Rattle.atomic_table.specs.Seated.{TableId}
use Rattle.atomic_table.specs.Table.{Me}
use Rattle.vg_wire.specs.declared.request.Queue.{Queue}
use Rattle.vg_split.specs.declared.law.Size.{Size}
use Rattle.vg_cargo.specs.declared.parcel.Tag.{Tag}
use Rattle.vg_split.specs.declared.views.View.{View}
use Rattle.vg_split.specs.declared.views.View.TheVariants.{Driver, Device}
use Rattle.vg_cargo.specs.Cargo.{CargoData}
use Rattle.vg_split.specs.Rule.{new_driver, new_device}
use Rattle.vg_cargo.specs.Ends.{DriverLists}
use Rattle.vg_ring.specs.Kept.{IsOnLine, IsKept}
use Rattle.vg_cargo.specs.DeviceEnds.{DeviceLists}
use Rattle.vg_ring.specs.Tended.{IsTended}

-- A queue's size is a power of two, of at most 32,768 (VIRTIO 1.2, 2.7).
pub record IsSize (size : ℕ) : Type 0 where
  pub least : 2 ≤ size
  pub most : size ≤ 32768
  pub power : (k : ℕ) × (size ≡ 2 ^ k)

-- A ring that was made: its table, its queue, and how many descriptors that has.
pub record MadeData : Type 0 where
  pub table : TableId
  pub queue : Queue
  pub size : ℕ

-- What a ring that was made keeps.
pub record IsMade {P : Type 0} (ring table other driver device : TableId) (key : Size) (queue : Queue) (size : ℕ) (driver_me device_me : Me (Option (CargoData P)) View) (free links : List ℕ) (at : ℕ) (counts : List ℕ) (tags : List Tag) : Type 0 where
  pub driver_line : IsOnLine ring table driver key queue size
  pub device_line : IsOnLine ring other device key queue size
  pub driver_view : driver_me ≡ (Driver new_driver, [])
  pub device_view : device_me ≡ (Device (new_device queue), [])
  pub driver_kept : IsKept size new_driver 0 0 free links at counts
  pub device_kept : IsTended size (new_device queue) 0 0 tags

-- The two ends of a new ring: nothing was published, nothing was fetched.
pub record IsNewDriver (queue : Queue) (size : ℕ) (lists : DriverLists) : Type 0 where
  pub queue_is : lists.queue ≡ queue
  pub size_is : lists.size ≡ size
  pub published : lists.published ≡ []
  pub reaped : lists.reaped ≡ []

pub record IsNewDevice (queue : Queue) (size : ℕ) (lists : DeviceLists) : Type 0 where
  pub queue_is : lists.queue ≡ queue
  pub size_is : lists.size ≡ size
  pub fetched : lists.fetched ≡ []
  pub completed : lists.completed ≡ []
  pub held : lists.held ≡ []
  pub lent : lists.lent ≡ []
