-- Where the bytes of a display come from, at each moment of a history: moment i is after its first i entries.
use Rattle.std.specs.Prelude.{◌≡◌, ◌⊎◌, ◌≤◌, ◌<◌, ℕ, ◌+◌, ◌-◌, ◌*◌, ◌/◌, true, List, [], ◌∷◌, length, take, Some, None, slice_get}
use Rattle.vg_formats.specs.declared.entry.MemEntry.{MemEntry}
use Rattle.vg_pages.specs.Memory.{is_among}
use Rattle.vg_blob.specs.Blobs.{blob_at, entries_of}
use Rattle.vg_transfer.specs.Backings.{entries_at}
use Rattle.vg_share.specs.declared.share.Buffer.{Buffer}
use Rattle.vg_share.specs.Share.{buffer_at, is_holder, new_pages, pages_at, place_refusal, reserve_refusal}
use Rattle.vg_client_holds.specs.declared.act.Act.TheVariants.{Reserve, Store}
use Rattle.vg_client_holds.specs.declared.act.ActReply.{ActReply}
use Rattle.vg_client_holds.specs.declared.setup.Setup.{Setup}
use Rattle.vg_history.specs.declared.entry.Entry.TheVariants as entries
use Rattle.vg_device.specs.State.{State}
use Rattle.vg_machine.specs.Entries.{Entry}
use Rattle.vg_machine.specs.Replay.{replay}
use Rattle.vg_painted.specs.Ink.{Painting}
use Rattle.vg_painted.specs.Inks.{From, Opaque, Tag, Zero, tags}
use Rattle.vg_painted.specs.Paint.{painting}

-- The display and the tags of its bytes at a moment.
abbrev pub state_at : Setup → List Entry → ℕ → State
state_at setup H i = replay setup (take i H)

abbrev pub tags_at : Setup → List Entry → ℕ → Painting Tag (List Tag)
tags_at setup H i = painting tags setup (take i H)

-- The page is one of the key's buffer at a moment, and at each moment from one to another.
abbrev pub HasPage : Setup → List Entry → ℕ → ℕ → ℕ → Type 0
HasPage setup H key page i = is_among (pages_at key (state_at setup H i).share) page ≡ true

abbrev pub HadPage : Setup → List Entry → ℕ → ℕ → ℕ → ℕ → Type 0
HadPage setup H key page from to = (i : ℕ) → from ≤ i → i ≤ to → HasPage setup H key page i

-- An entry that stores in the key's buffer, of a client that holds it there, and isn't refused.
pub record Stores (state : State) (entry : Entry) (key : ℕ) : Type 0 where
  pub client : ℕ
  pub call : ℕ
  pub offset : ℕ
  pub bytes : List ℕ
  pub times : ℕ
  pub reply : ActReply
  pub is : entry ≡ entries.Act client call (Store key offset bytes times) reply
  pub buffer : Buffer
  pub there : buffer_at key state.share ≡ Some buffer
  pub holder : is_holder client buffer ≡ true
  pub accepted : place_refusal client key offset (length bytes * times) state.share ≡ None

-- The entry of this number, from 1, is such a one.
pub record IsStore (setup : Setup) (H : List Entry) (key n : ℕ) : Type 0 where
  pub before : ℕ
  pub number : n ≡ before + 1
  pub entry : Entry
  pub there : slice_get H before ≡ Some entry
  pub stores : Stores (state_at setup H before) entry key

-- The tag of a byte in a page of the key's buffer says that it is cleared, or was stored in this page by an entry that stored in this
-- buffer, which has had the page since; and that it is no copy.
abbrev pub IsOfBuffer : Setup → List Entry → ℕ → ℕ → ℕ → Tag → Type 0
IsOfBuffer setup H key page i Zero = Unit {0}
IsOfBuffer setup H key page i Opaque = ⊥
IsOfBuffer setup H key page i (From store in_page fetch show) =
    (in_page ≡ page) × (fetch ≡ 0) × (show ≡ 0) × (store ≤ i) × IsStore setup H key store × HadPage setup H key page store i

-- A place of memory lies in one of these ranges.
abbrev pub InEntries : List MemEntry → ℕ → Type 0
InEntries [] place = ⊥
InEntries (entry ∷ more) place = ((k : ℕ) × (k < entry.length) × (place ≡ entry.addr - 1048576 + k)) ⊎ InEntries more place

-- It lies in one that is attached to the resource of this number, or that this blob has.
abbrev pub IsAttached : State → ℕ → ℕ → Type 0
IsAttached state id place = InEntries (entries_at id state.backings) place ⊎ InEntries (entries_of (blob_at id state.blobs)) place

-- At a moment all that is attached to a resource lies in pages of the buffer with its number.
abbrev pub AreBacked : Setup → List Entry → ℕ → Type 0
AreBacked setup H i = (key place : ℕ) → IsAttached (state_at setup H i) key place → HasPage setup H key (place / 4096) i

-- Entry number `fetch` copied what entry number `store` had stored into the key's buffer, in a page that the buffer had from the one to the
-- other, and in which something was attached to the resource of this number as the copying entry came.
pub record IsFetch (setup : Setup) (H : List Entry) (key store page fetch : ℕ) : Type 0 where
  pub before : ℕ
  pub number : fetch ≡ before + 1
  pub earlier : store < fetch
  pub stored : IsStore setup H key store
  pub had : HadPage setup H key page store fetch
  pub place : ℕ
  pub in_page : place / 4096 ≡ page
  pub attached : IsAttached (state_at setup H before) key place

-- The tag of a byte of a resource's pixels says that it was cleared, or copied so from the buffer with the resource's number.
abbrev pub IsFetched : Setup → List Entry → ℕ → ℕ → Tag → Type 0
IsFetched setup H key i Zero = Unit {0}
IsFetched setup H key i Opaque = ⊥
IsFetched setup H key i (From store page fetch show) = (show ≡ 0) × (fetch ≤ i) × IsFetch setup H key store page fetch

-- An entry that reserves the key's buffer, and isn't refused, gives it the page.
pub record Reserves (state : State) (entry : Entry) (key page : ℕ) : Type 0 where
  pub client : ℕ
  pub call : ℕ
  pub width : ℕ
  pub height : ℕ
  pub format : ℕ
  pub bytes : ℕ
  pub reply : ActReply
  pub is : entry ≡ entries.Act client call (Reserve width height format bytes) reply
  pub accepted : reserve_refusal bytes state.memory ≡ None
  pub number : key ≡ state.share.reserved + 1
  pub gives : is_among (new_pages bytes state.memory) page ≡ true

-- The entry of this number, from 1, is such a one.
pub record IsReserve (setup : Setup) (H : List Entry) (key page n : ℕ) : Type 0 where
  pub before : ℕ
  pub number : n ≡ before + 1
  pub entry : Entry
  pub there : slice_get H before ≡ Some entry
  pub reserves : Reserves (state_at setup H before) entry key page
