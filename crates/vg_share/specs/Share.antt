-- What clients share beside the device: buffers of guest pages, and the leases of scanouts. All of it is our own.
use Rattle.std.specs.Prelude.{◌≡◌, ℕ, ◌+◌, ◌-◌, ◌≤◌, ◌==◌, ◌&&◌, Bool, true, false, not, nat_lt, if◌then◌else◌, List, [], ◌∷◌, ◌++◌, length, take, Option, Some, None, is_some, slice_get}
use Rattle.std.specs.List.{list_any, slice_set, All, AllPairs}
use Rattle.std.specs.Ordering.{nat_cmp}
use Rattle.std.specs.Map.{lookup, remove_entry, set_value}
use Rattle.std.specs.BTreeMap.{insert_entry, is_at}
use Rattle.vg_pages.specs.Memory.{Memory, AreGivable, free_pages, is_among, marked}
use Rattle.vg_share.specs.declared.share.Buffer.{Buffer}
use Rattle.vg_share.specs.declared.share.Geometry.{Geometry}
use Rattle.vg_share.specs.declared.share.ShareRefusal.{ShareRefusal}
use Rattle.vg_share.specs.declared.share.ShareRefusal.TheVariants.{GuestFull, UnknownKey, NotHeld, ScanoutHeld, OutOfRange, InUse, ResourceLive}
use Rattle.vg_share.specs.Cells.{pages_of}
use Rattle.vg_refusals.specs.Refusals.{refusal_of}

-- What the clients share: the live buffers by their keys, rising; how many buffers were reserved so far; of each token that was
-- given the key of its buffer, in the order of the tokens; of each scanout the client to which it is leased, if any; and the
-- clients that have come, by their numbers, with whether each has left.
pub record ShareState : Type 0 where
  pub buffers : List (ℕ × Buffer)
  pub reserved : ℕ
  pub exports : List ℕ
  pub leases : List (Option ℕ)
  pub clients : List (ℕ × Bool)

abbrev pub buffer_at : ℕ → ShareState → Option Buffer
buffer_at key share = lookup (is_at (nat_cmp key)) share.buffers

abbrev pub pages_in : Option Buffer → List ℕ
pages_in (Some buffer) = buffer.pages
pages_in None = []

-- The pages of a buffer, rising.
abbrev pub pages_at : ℕ → ShareState → List ℕ
pages_at key share = pages_in (buffer_at key share)

-- How many holds of a buffer the client has. Its holders are clients, each with how many holds it has.
abbrev pub holds_in : ℕ → List (ℕ × ℕ) → ℕ
holds_in client [] = 0
holds_in client (holder ∷ holders) = if holder.0 == client then holder.1 else holds_in client holders

abbrev pub is_holder : ℕ → Buffer → Bool
is_holder client buffer = nat_lt 0 (holds_in client buffer.holders)

-- The client holds the buffer, and only once.
abbrev pub holds_once : ℕ → Buffer → Bool
holds_once client buffer = holds_in client buffer.holders == 1

-- Some client has a hold.
abbrev pub some_hold : List (ℕ × ℕ) → Bool
some_hold holders = list_any (λ holder. nat_lt 0 holder.1) holders

-- The refusal of an act on a buffer: a key without a live buffer, else what the buffer says.
abbrev pub refused_by : Option Buffer → (Buffer → Option ShareRefusal) → Option ShareRefusal
refused_by None rule = Some UnknownKey
refused_by (Some buffer) rule = rule buffer

-- The lowest free pages, as many as so many bytes need.
abbrev pub new_pages : ℕ → Memory → List ℕ
new_pages bytes memory = take (pages_of bytes) (free_pages memory.taken)

abbrev pub new_buffer : ℕ → Geometry → List ℕ → Buffer
new_buffer client geometry pages = record { geometry = geometry; pages = pages; holders = (client, 1) ∷ []; taker = None }

abbrev pub with_buffer : ℕ → Geometry → List ℕ → ShareState → ShareState
with_buffer client geometry pages share = record share {
  buffers = insert_entry nat_cmp share.buffers (share.reserved + 1) (new_buffer client geometry pages);
  reserved = share.reserved + 1;
}

-- Fewer free pages than the buffer needs.
abbrev pub reserve_refusal : ℕ → Memory → Option ShareRefusal
reserve_refusal bytes memory =
    refusal_of ((nat_lt (length (free_pages memory.taken)) (pages_of bytes), GuestFull (length (free_pages memory.taken))) ∷ [])

-- A client stores or loads so many bytes from an offset of a buffer on.
abbrev pub place_refusal : ℕ → ℕ → ℕ → ℕ → ShareState → Option ShareRefusal
place_refusal client key offset n share =
    refused_by (buffer_at key share) (λ buffer. refusal_of (
    (not (is_holder client buffer), NotHeld)
    ∷ (nat_lt buffer.geometry.bytes (offset + n), OutOfRange buffer.geometry.bytes)
    ∷ []))

abbrev pub scanout_in : Option ℕ → ℕ
scanout_in (Some scanout) = scanout
scanout_in None = 0

-- `shown` is the least scanout leased to the client that shows the buffer.
abbrev pub release_refusal : ℕ → ℕ → Option ℕ → ShareState → Option ShareRefusal
release_refusal client key shown share =
    refused_by (buffer_at key share) (λ buffer. refusal_of (
    (not (is_holder client buffer), NotHeld)
    ∷ (holds_once client buffer && is_some shown, InUse (scanout_in shown))
    ∷ []))

-- The holders with one hold of the client less.
abbrev pub without_hold : ℕ → List (ℕ × ℕ) → List (ℕ × ℕ)
without_hold client [] = []
without_hold client (holder ∷ holders) = if holder.0 == client then (client, holder.1 - 1) ∷ holders else holder ∷ without_hold client holders

-- Where no hold is left the client takes the buffer down.
abbrev pub released_buffer : ℕ → Buffer → Buffer
released_buffer client buffer = record buffer {
  holders = without_hold client buffer.holders;
  taker = if some_hold (without_hold client buffer.holders) then buffer.taker else Some client;
}

-- The buffers after the client gave up a hold of the key's.
abbrev pub released_entries : ℕ → ℕ → Option Buffer → List (ℕ × Buffer) → List (ℕ × Buffer)
released_entries client key (Some buffer) buffers = set_value (is_at (nat_cmp key)) buffers (released_buffer client buffer)
released_entries client key None buffers = buffers

abbrev pub released : ℕ → ℕ → ShareState → ShareState
released client key share = record share { buffers = released_entries client key (buffer_at key share) share.buffers }

abbrev pub some_holder : Option Buffer → Bool
some_holder (Some buffer) = some_hold buffer.holders
some_holder None = false

-- Whether the buffer of the key has a holder.
abbrev pub has_holder : ℕ → ShareState → Bool
has_holder key share = some_holder (buffer_at key share)

-- The client to which something is given is this one.
abbrev pub is_given : ℕ → Option ℕ → Bool
is_given client (Some other) = other == client
is_given client None = false

-- The client doesn't hold a live buffer of the key.
abbrev pub export_refusal : ℕ → ℕ → ShareState → Option ShareRefusal
export_refusal client key share = refused_by (buffer_at key share) (λ buffer. refusal_of ((not (is_holder client buffer), NotHeld) ∷ []))

-- A token for the buffer of the key: the next one.
abbrev pub exported : ℕ → ShareState → ShareState
exported key share = record share { exports = share.exports ++ key ∷ [] }

-- The key of the buffer for which the token was given, if it was. A token's number is its place among all, from 1.
abbrev pub exported_key : ℕ → ShareState → Option ℕ
exported_key token share = if token == 0 then None else slice_get share.exports (token - 1)

abbrev pub key_in : Option ℕ → ℕ
key_in (Some key) = key
key_in None = 0

-- The key of a token's buffer.
abbrev pub token_key : ℕ → ShareState → ℕ
token_key token share = key_in (exported_key token share)

abbrev pub refused_token : Option ℕ → ShareState → Option ShareRefusal
refused_token None share = Some UnknownKey
refused_token (Some key) share = refusal_of ((not (has_holder key share), UnknownKey) ∷ [])

-- The token wasn't given, or its buffer has no holder.
abbrev pub import_refusal : ℕ → ShareState → Option ShareRefusal
import_refusal token share = refused_token (exported_key token share) share

abbrev pub no_geometry : Geometry
no_geometry = record { width = 0; height = 0; format = 0; bytes = 0 }

abbrev pub geometry_in : Option Buffer → Geometry
geometry_in (Some buffer) = buffer.geometry
geometry_in None = no_geometry

-- What the buffer of a key is for.
abbrev pub geometry_at : ℕ → ShareState → Geometry
geometry_at key share = geometry_in (buffer_at key share)

-- The holders with one hold of the client more, behind the others where it had none before.
abbrev pub with_hold : ℕ → List (ℕ × ℕ) → List (ℕ × ℕ)
with_hold client [] = (client, 1) ∷ []
with_hold client (holder ∷ holders) = if holder.0 == client then (client, holder.1 + 1) ∷ holders else holder ∷ with_hold client holders

-- The client holds the buffer once more.
abbrev pub imported_buffer : ℕ → Buffer → Buffer
imported_buffer client buffer = record buffer { holders = with_hold client buffer.holders }

-- The buffers after the client came to hold the key's once more.
abbrev pub imported_entries : ℕ → ℕ → Option Buffer → List (ℕ × Buffer) → List (ℕ × Buffer)
imported_entries client key (Some buffer) buffers = set_value (is_at (nat_cmp key)) buffers (imported_buffer client buffer)
imported_entries client key None buffers = buffers

abbrev pub imported : ℕ → ℕ → ShareState → ShareState
imported client key share = record share { buffers = imported_entries client key (buffer_at key share) share.buffers }

-- `live` says whether the device has a resource with the key's number.
abbrev pub free_refusal : ℕ → ℕ → Bool → ShareState → Option ShareRefusal
free_refusal client key live share =
    refused_by (buffer_at key share) (λ buffer. refusal_of (
    (not (is_given client buffer.taker), NotHeld)
    ∷ (live, ResourceLive)
    ∷ []))

abbrev pub freed : ℕ → ShareState → ShareState
freed key share = record share { buffers = remove_entry (is_at (nat_cmp key)) share.buffers }

-- Guest memory after the pages of a buffer were given back.
abbrev pub given_back : List ℕ → Memory → Memory
given_back pages memory = record memory { taken = marked pages false memory.taken }

abbrev pub refused_lease : Option (Option ℕ) → Option ShareRefusal
refused_lease None = Some UnknownKey
refused_lease (Some (Some client)) = Some (ScanoutHeld client)
refused_lease (Some None) = None

-- There is no such scanout, or it is leased.
abbrev pub take_refusal : ℕ → ShareState → Option ShareRefusal
take_refusal scanout share = refused_lease (slice_get share.leases scanout)

abbrev pub leased : ℕ → ℕ → ShareState → ShareState
leased client scanout share = record share { leases = slice_set share.leases scanout (Some client) }

abbrev pub is_lease_of : ℕ → Option (Option ℕ) → Bool
is_lease_of client (Some lease) = is_given client lease
is_lease_of client None = false

-- The scanout is leased to the client.
abbrev pub is_leased : ℕ → ℕ → ShareState → Bool
is_leased client scanout share = is_lease_of client (slice_get share.leases scanout)

-- `shown` says whether the scanout is bound or its cursor is shown.
abbrev pub drop_refusal : ℕ → ℕ → Bool → ShareState → Option ShareRefusal
drop_refusal client scanout shown share = refusal_of (
    (not (is_leased client scanout share), NotHeld)
    ∷ (shown, InUse scanout)
    ∷ [])

abbrev pub unleased : ℕ → ShareState → ShareState
unleased scanout share = record share { leases = slice_set share.leases scanout None }

abbrev pub has_entered : ℕ → ShareState → Bool
has_entered client share = is_some (lookup (is_at (nat_cmp client)) share.clients)

-- The client has come. A second time changes nothing.
abbrev pub entered : ℕ → ShareState → ShareState
entered client share = record share { clients = if has_entered client share then share.clients else insert_entry nat_cmp share.clients client false }

-- The client has left.
abbrev pub ended : ℕ → ShareState → ShareState
ended client share = record share { clients = insert_entry nat_cmp share.clients client true }

-- No page belongs to both.
abbrev pub HaveNoPageInCommon : ℕ × Buffer → ℕ × Buffer → Type 0
HaveNoPageInCommon one other = All (λ page. is_among other.1.pages page ≡ false) one.1.pages

-- The buffers and guest memory fit: each buffer's pages are taken ones, as many as it needs, no two of them one; no two
-- buffers have a page in common; each page that is taken is one of a buffer; and keys are numbers given so far.
pub record SharesPages (memory : Memory) (share : ShareState) : Type 0 where
  pub taken : All (λ entry. AreGivable memory.taken entry.1.pages) share.buffers
  pub enough : All (λ entry. length entry.1.pages ≡ pages_of entry.1.geometry.bytes) share.buffers
  pub apart : AllPairs HaveNoPageInCommon share.buffers
  pub owned : (page : ℕ) → slice_get memory.taken page ≡ Some true → list_any (λ entry. is_among entry.1.pages page) share.buffers ≡ true
  pub given : All (λ entry. entry.0 ≤ share.reserved) share.buffers
