use Rattle.std.specs.Prelude.{◌≡◌, ℕ, ◌+◌, ◌*◌, ◌^◌, ◌<◌, ◌≤◌, List, length, slice_index}
use Rattle.atomic_table.specs.Seated.{TableId}
use Rattle.vg_wire.specs.declared.request.Queue.{Queue}
use Rattle.vg_split.specs.declared.law.Size.{Size}
use Rattle.vg_cargo.specs.declared.entries.Entry.{Entry}
use Rattle.vg_split.specs.declared.views.DriverView.{DriverView}
use Rattle.vg_cargo.specs.Entries.{entries, weigh, lane_count}
use Rattle.vg_cargo.specs.Ends.{DriverLists}
use Rattle.vg_split.specs.Places.{ArePlaces}

abbrev pub driver_lists : Queue → ℕ → ℕ → DriverView → DriverLists
driver_lists queue size next d = record { queue = queue; size = size; published = d.published; reaped = d.reaped; next = next; looks = d.looks; seen = d.seen }

-- The end's seat is one at the ring's table.
pub record IsOnLine (ring table seat : TableId) (key : Size) (queue : Queue) (size : ℕ) : Type 0 where
  pub table_is : table ≡ ring
  pub seat_is : seat ≡ table
  pub words : table.words ≡ 2 + 4 * size
  pub slots : table.slots ≡ size
  pub queue_is : key.queue ≡ queue
  pub size_is : key.count ≡ size
  pub some : 0 < size
  pub least : 2 ≤ size
  pub small : size ≤ 32768

-- What the driver's end keeps is what its view tells.
pub record IsKept (size : ℕ) (d : DriverView) (published reaped : ℕ) (free links : List ℕ) (at : ℕ) (counts : List ℕ) : Type 0 where
  pub published_is : published ≡ length d.published
  pub reaped_is : reaped ≡ length d.reaped
  pub few : length d.published < 2 ^ 63
  pub balance : (f : Entry → ℕ) → weigh f d.published ≡ weigh f (entries d.reaped) + weigh f d.outs
  pub places : ArePlaces size free links at d.outs
  pub lanes : length counts ≡ 66
  pub counts_are : (lane : ℕ) → lane < 66 → slice_index counts lane ≡ lane_count lane d.published
