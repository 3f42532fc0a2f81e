use Rattle.std.specs.Prelude.{◌≡◌, ℕ, ◌+◌, ◌^◌, ◌<◌, ◌≤◌, Bool, Some, List, [], ◌∷◌, length, slice_get}
use Rattle.atomic_table.specs.Seated.{TableId}
use Rattle.vg_cargo.specs.declared.parcel.Tag.{Tag}
use Rattle.vg_cargo.specs.declared.entries.Entry.{Entry}
use Rattle.vg_split.specs.declared.views.DeviceView.{DeviceView}
use Rattle.vg_split.specs.declared.views.View.{View}
use Rattle.vg_split.specs.declared.views.View.TheVariants.{Right}
use Rattle.vg_cargo.specs.Entries.{head_of, entries, weigh, heads, no_entry, times, Has, IsWhole}
use Rattle.vg_cargo.specs.DeviceEnds.{DeviceLists, RightData}
use Rattle.vg_split.specs.Plays.{right_of}

abbrev pub device_lists : ℕ → DeviceView → DeviceLists
device_lists size v = record { queue = v.queue; size = size; fetched = v.fetched; completed = v.completed; held = v.held; lent = v.lent; looks = v.looks; seen = v.seen }

abbrev pub right_in : List View → Entry
right_in [] = no_entry
right_in (view ∷ more) = right_of view

abbrev pub right_data : List View → Bool → RightData
right_data views walked = record { entry = right_in views; walked = walked }

-- What a right keeps is what its seat's view tells.
pub record IsRight (ring table : TableId) (views : List View) (head : ℕ) (tag : Tag) : Type 0 where
  pub table_is : table ≡ ring
  pub seat : views ≡ Right (right_in views) ∷ []
  pub head_is : head ≡ head_of (right_in views)
  pub lane : tag.lane ≡ (right_in views).lane
  pub ordinal : tag.ordinal ≡ (right_in views).ordinal

abbrev pub tag_of : Entry → Tag
tag_of e = record { lane = e.lane; ordinal = e.ordinal }

-- What the device's end keeps is what its view tells.
pub record IsTended (size : ℕ) (v : DeviceView) (fetched completed : ℕ) (tags : List Tag) : Type 0 where
  pub fetched_is : fetched ≡ length v.fetched
  pub completed_is : completed ≡ length v.completed
  pub few : length v.fetched < 2 ^ 63
  pub matched : (f : Entry → ℕ) → weigh f v.fetched ≡ weigh f (entries v.completed) + weigh f v.held
  pub once : (h : ℕ) → heads h v.held ≤ 1
  pub below : (e : Entry) → Has e v.held → head_of e < size
  pub lent_once : (h : ℕ) → heads h v.lent ≤ 1
  pub lent_held : (e : Entry) → Has e v.lent → Has e v.held
  pub whole : (e : Entry) → Has e v.held → IsWhole size e
  pub apart : (e : Entry) → Has e v.held → (p : ℕ) → times p e.places ≤ 1
  pub some_place : (e : Entry) → Has e v.held → 0 < length e.places
  pub places_below : (e : Entry) → Has e v.held → (p : ℕ) → 0 < times p e.places → p < size
  pub tags_size : length tags ≡ size
  pub tags_are : (e : Entry) → Has e v.held → slice_get tags (head_of e) ≡ Some (tag_of e)
