-- What a client holds, and what it may ask of the device. All of it is our own.
use Rattle.std.specs.Prelude.{◌≡◌, ◌≢◌, ◌<◌, ◌^◌, ◌+◌, ◌-◌, ◌*◌, ◌/◌, ℕ, ◌==◌, ◌||◌, ◌&&◌, Bool, true, false, not, nat_le, bit_and, if◌then◌else◌, List, [], ◌∷◌, ◌++◌, length, map, Option, Some, None, Result, Ok, Err}
use Rattle.std.specs.List.{list_any, range_with_len}
use Rattle.vg_formats.specs.declared.entry.MemEntry.{MemEntry}
use Rattle.vg_pages.specs.Memory.{is_among}
use Rattle.vg_wire.specs.declared.header.Header.{Header}
use Rattle.vg_wire.specs.declared.request.Queue.{Queue}
use Rattle.vg_wire_ext.specs.declared.command.Command.{Command}
use Rattle.vg_wire_ext.specs.declared.command.Command.TheVariants.{TwoD, AssignUuid, CreateBlob, SetScanoutBlob, CtxCreate, CtxDestroy, CtxAttach, CtxDetach, Submit, UpdateCursor, MoveCursor}
use Rattle.vg_wire.specs.declared.request.Malformed.{Malformed}
use Rattle.vg_wire.specs.declared.two_d.Command2d.{Command2d}
use Rattle.vg_wire.specs.declared.two_d.Command2d.TheVariants.{DisplayInfo, Create2d, Unref, SetScanout, Flush, Transfer, Attach, Detach}
use Rattle.vg_wire_ext.specs.Request.{request_of}
use Rattle.vg_client_holds.specs.declared.act.Act.{Act}
use Rattle.vg_client_holds.specs.declared.act.Act.TheVariants as acts
use Rattle.vg_client_holds.specs.declared.act.ActReply.{ActReply}
use Rattle.vg_client_holds.specs.declared.act.ActReply.TheVariants as act_replies
use Rattle.vg_client_holds.specs.declared.act.What.{What}
use Rattle.vg_client_holds.specs.declared.act.What.TheVariants.{Name, Resource, Scanout, Context, Page}
use Rattle.vg_client_holds.specs.declared.holds.Holds.{Holds}
use Rattle.vg_client_holds.specs.declared.setup.Setup.{Setup}
use Rattle.vg_share.specs.Lists.{is_number, without_first}

-- What a client holds before its first act.
abbrev pub first_holds : Setup → ℕ → Holds
first_holds setup client = record {
  client = client;
  host = setup.host && client == setup.clients + 1;
  displays = length setup.displays;
  pages = setup.pages;
  buffers = [];
  taking_down = [];
  scanouts = [];
}

abbrev pub has_number : ℕ → List ℕ → Bool
has_number n numbers = list_any (is_number n) numbers

abbrev pub has_key : ℕ → ℕ × List ℕ → Bool
has_key key pair = pair.0 == key

-- What the client holds after one of its acts, by the act and its reply.
abbrev pub update : Holds → Act → ActReply → Holds
update holds (acts.Reserve width height format bytes) (act_replies.Reserved key pages) = record holds { buffers = holds.buffers ++ (key, pages) ∷ [] }
update holds (acts.Import token) (act_replies.Imported key geometry pages) = record holds { buffers = holds.buffers ++ (key, pages) ∷ [] }
update holds (acts.Release key) act_replies.Kept = record holds { buffers = without_first (has_key key) holds.buffers }
update holds (acts.Release key) act_replies.Last = record holds { taking_down = holds.taking_down ++ key ∷ [] }
update holds (acts.Free key) act_replies.Ok = record holds {
  buffers = without_first (has_key key) holds.buffers;
  taking_down = without_first (is_number key) holds.taking_down;
}
update holds (acts.Take scanout) act_replies.Ok = record holds { scanouts = holds.scanouts ++ scanout ∷ [] }
update holds (acts.Drop scanout) act_replies.Ok = record holds { scanouts = without_first (is_number scanout) holds.scanouts }
update holds act reply = holds

-- An act that gives up a hold: a release, a free, the end of a lease, and leave.
abbrev pub gives_up : Act → Bool
gives_up (acts.Release key) = true
gives_up (acts.Free key) = true
gives_up (acts.Drop scanout) = true
gives_up acts.Leave = true
gives_up _ = false

-- The resource and the scanout that a 2D command names, in the order in which they are looked at.
abbrev pub names_of_2d : Command2d → List What
names_of_2d DisplayInfo = []
names_of_2d (Create2d resource format width height) = Resource resource ∷ []
names_of_2d (Unref resource) = Resource resource ∷ []
names_of_2d (SetScanout rect scanout resource) = Resource resource ∷ Scanout scanout ∷ []
names_of_2d (Flush rect resource) = Resource resource ∷ []
names_of_2d (Transfer rect offset resource) = Resource resource ∷ []
names_of_2d (Attach resource entries) = Resource resource ∷ []
names_of_2d (Detach resource) = Resource resource ∷ []

-- The same of each command. GET_EDID only asks about a scanout.
abbrev pub names_in : Command → List What
names_in (TwoD command) = names_of_2d command
names_in (AssignUuid resource) = Resource resource ∷ []
names_in (CreateBlob resource mem flags blob_id size entries) = Resource resource ∷ []
names_in (SetScanoutBlob rect scanout resource width height format stride offset) = Resource resource ∷ Scanout scanout ∷ []
names_in (CtxAttach resource) = Resource resource ∷ []
names_in (CtxDetach resource) = Resource resource ∷ []
names_in (UpdateCursor scanout x y resource hot_x hot_y) = Resource resource ∷ Scanout scanout ∷ []
names_in (MoveCursor scanout x y) = Scanout scanout ∷ []
names_in _ = []

-- A command of contexts: CTX_CREATE, CTX_DESTROY, CTX_ATTACH_RESOURCE, CTX_DETACH_RESOURCE and SUBMIT_3D.
abbrev pub is_of_context : Command → Bool
is_of_context (CtxCreate nlen context_init name) = true
is_of_context CtxDestroy = true
is_of_context (CtxAttach resource) = true
is_of_context (CtxDetach resource) = true
is_of_context (Submit stream) = true
is_of_context _ = false

-- The header's context is named by the commands of contexts, and wherever flags has INFO_RING_IDX (bit 1).
abbrev pub context_in : Header → Command → List What
context_in header command = if is_of_context command || bit_and header.flags 2 == 2 then Context header.ctx_id ∷ [] else []

-- The ranges of guest memory of RESOURCE_ATTACH_BACKING and RESOURCE_CREATE_BLOB.
abbrev pub entries_in_2d : Command2d → List MemEntry
entries_in_2d (Attach resource entries) = entries
entries_in_2d _ = []

abbrev pub entries_in : Command → List MemEntry
entries_in (TwoD command) = entries_in_2d command
entries_in (CreateBlob resource mem flags blob_id size entries) = entries
entries_in _ = []

-- The page of an address.
abbrev pub page_of : ℕ → ℕ
page_of addr = (addr - 1048576) / 4096

-- The entry has a length, and lies wholly in memory of this many pages.
abbrev pub is_in_memory : ℕ → MemEntry → Bool
is_in_memory count entry =
    nat_le 1 entry.length && nat_le 1048576 entry.addr && nat_le (entry.addr + entry.length) (1048576 + 4096 * count)

-- The pages from that of the entry's first byte to that of its last.
abbrev pub pages_from_to : MemEntry → List ℕ
pages_from_to entry = range_with_len (page_of entry.addr) (page_of (entry.addr + entry.length - 1) + 1 - page_of entry.addr)

-- The pages that an entry names, rising: none where it hasn't a length or doesn't lie wholly in memory.
abbrev pub pages_in_entry : ℕ → MemEntry → List ℕ
pages_in_entry count entry = if is_in_memory count entry then pages_from_to entry else []

-- The pages that entries name, entry by entry.
abbrev pub pages_in : ℕ → List MemEntry → List ℕ
pages_in count [] = []
pages_in count (entry ∷ more) = pages_in_entry count entry ++ pages_in count more

-- What a request names, in the order in which it is looked at: its resource, its scanout, its context, and its pages, where memory
-- has this many.
abbrev pub names_of : ℕ → Header → Command → List What
names_of count header command = names_in command ++ context_in header command ++ map Page (pages_in count (entries_in command))

-- RESOURCE_CREATE_2D and RESOURCE_CREATE_BLOB make a resource.
abbrev pub is_creating_2d : Command2d → Bool
is_creating_2d (Create2d resource format width height) = true
is_creating_2d _ = false

abbrev pub is_creating : Command → Bool
is_creating (TwoD command) = is_creating_2d command
is_creating (CreateBlob resource mem flags blob_id size entries) = true
is_creating _ = false

-- The resource to which a command gives pages, and 0 where it gives none.
abbrev pub key_of_2d : Command2d → ℕ
key_of_2d (Attach resource entries) = resource
key_of_2d _ = 0

abbrev pub key_of : Command → ℕ
key_of (TwoD command) = key_of_2d command
key_of (CreateBlob resource mem flags blob_id size entries) = resource
key_of _ = 0

-- A resource is allowed where the client holds its buffer or takes it down, where the number is 0, and where it is 2^31 or
-- more, unless a resource is created: no buffer has such a key.
abbrev pub is_allowed_resource : Holds → Bool → ℕ → Bool
is_allowed_resource holds creating n =
    n == 0 || (nat_le (2 ^ 31) n && not creating) || list_any (has_key n) holds.buffers || has_number n holds.taking_down

-- A scanout is allowed where it is leased to the client, and where there is no such scanout.
abbrev pub is_allowed_scanout : Holds → ℕ → Bool
is_allowed_scanout holds n = nat_le holds.displays n || has_number n holds.scanouts

-- A client's contexts have 255 numbers.
abbrev pub is_own_context : Holds → ℕ → Bool
is_own_context holds n = nat_le (256 * holds.client + 1) n && nat_le n (256 * holds.client + 255)

-- A context is allowed where its number is one of the client's, where it is 0, and where it is 2^31 or more.
abbrev pub is_allowed_context : Holds → ℕ → Bool
is_allowed_context holds n = n == 0 || nat_le (2 ^ 31) n || is_own_context holds n

-- A pair of the buffer of this key with this page.
abbrev pub has_page : ℕ → ℕ → ℕ × List ℕ → Bool
has_page key page pair = pair.0 == key && is_among pair.1 page

-- A page is allowed where it is one of the buffer of the resource to which it is given.
abbrev pub is_allowed_page : Holds → ℕ → ℕ → Bool
is_allowed_page holds key n = list_any (has_page key n) holds.buffers

abbrev pub is_allowed : Holds → Command → What → Bool
is_allowed holds command Name = true
is_allowed holds command (Resource n) = is_allowed_resource holds (is_creating command) n
is_allowed holds command (Scanout n) = is_allowed_scanout holds n
is_allowed holds command (Context n) = is_allowed_context holds n
is_allowed holds command (Page n) = is_allowed_page holds (key_of command) n

-- The first of these that isn't allowed.
abbrev pub first_denied : Holds → Command → List What → Option What
first_denied holds command [] = None
first_denied holds command (what ∷ more) = if is_allowed holds command what then first_denied holds command more else Some what

-- The first thing that a request with this header and command names and that isn't allowed.
abbrev pub denied_command : Holds → Header → Command → Option What
denied_command holds header command = first_denied holds command (names_of holds.pages header command)

abbrev pub denied_request : Holds → Result (Header × Command) Malformed → Option What
denied_request holds (Ok (header, command)) = denied_command holds header command
denied_request holds (Err malformed) = None

-- The first thing that a request names and that the client may not name; None where the request is allowed. A malformed one is. The
-- features that are accepted are not looked at.
abbrev pub denied_of : Holds → Queue → List ℕ → Option What
denied_of holds queue bytes = denied_request holds (request_of queue bytes)

-- The client may ask this of the device.
abbrev pub Allowed : Holds → Queue → List ℕ → Type 0
Allowed holds queue bytes = denied_of holds queue bytes ≡ None

-- A client may be denied this: a name whenever; a resource that isn't 0 and whose buffer it doesn't hold; a scanout that there
-- is and that isn't leased to it; a context that isn't 0, is below 2^31 and isn't one of its own; a page that there is.
abbrev pub Deniable : Holds → What → Type 0
Deniable holds Name = Unit {0}
Deniable holds (Resource n) = (n ≢ 0) × (list_any (has_key n) holds.buffers ≡ false)
Deniable holds (Scanout n) = (n < holds.displays) × (has_number n holds.scanouts ≡ false)
Deniable holds (Context n) = (n ≢ 0) × (n < 2 ^ 31) × (is_own_context holds n ≡ false)
Deniable holds (Page n) = n < holds.pages
