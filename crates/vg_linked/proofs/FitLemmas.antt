-- Memory, shares and counts after every history.
use Rattle.std.proofs.Common.{◌≡◌, ◌≤◌, ◌<◌, ◌*◌, ℕ, ◌+◌, ◌==◌, ◌||◌, not, Bool, true, false, List, [], ◌∷◌, length, Option, Some, None, replicate, refl, ap, ◌∙◌, arith, length-take-le}
use Rattle.std.specs.Prelude.{nat_lt, is_some}
use Rattle.std.specs.List.{All, list_any, slice_set}
use Rattle.std.specs.Ordering.{nat_cmp}
use Rattle.std.specs.BTreeMap.{is_at}
use Rattle.std.proofs.lemmas.Bool.Decides.{nat_tests}
use Rattle.std.proofs.lemmas.List.{length-replicate, length-set}
use Rattle.std.proofs.lemmas.List.Elements.{All-nil, All-cons}
use Rattle.vg_laws.proofs.Bools.{or-first, or-second}
use Rattle.vg_formats.specs.declared.entry.MemEntry.{MemEntry}
use Rattle.vg_pages.specs.Memory.{HoldsRange, Memory, after_taking, fresh_memory, free_pages}
use Rattle.vg_pages.proofs.Marked.{givable-after_giving, givable-after_taking, givable-taken, length-marked, length-zeroed, takeable-lowest}
use Rattle.vg_backing.specs.Backing.{AreHeld, are_bad, is_bad, is_held, total}
use Rattle.vg_backing.proofs.HeldLemmas.{held-with, held-without}
use Rattle.vg_blob.specs.declared.blobs.Blob.{Blob}
use Rattle.vg_blob.specs.Blobs.{BLOB_FLAGS, BLOB_MEM_GUEST, IsHeld, blob_at}
use Rattle.vg_transfer.specs.Backings.{backing_at}
use Rattle.vg_refusals.specs.Refusals.{refusal_of}
use Rattle.vg_resource.specs.Resource.{resource_at}
use Rattle.vg_wire.specs.Kinds.{ERR_INVALID_PARAMETER, ERR_INVALID_RESOURCE_ID, ERR_UNSPEC}
use Rattle.vg_share.specs.declared.share.Geometry.{Geometry}
use Rattle.vg_share.specs.declared.share.ShareRefusal.TheVariants.{GuestFull}
use Rattle.vg_share.specs.Cells.{pages_of, repeated, stored}
use Rattle.vg_share.specs.Share.{ShareState, SharesPages, freed, given_back, new_buffer, new_pages, pages_at, pages_in, reserve_refusal, token_key, with_buffer}
use Rattle.vg_share.proofs.CellLemmas.{length-stored}
use Rattle.vg_share.proofs.ShareLemmas.{shares-exports, shares-freed, shares-fresh, shares-imported, shares-released, shares-reserved}
use Rattle.vg_client_holds.specs.declared.setup.Setup.{Setup}
use Rattle.vg_device.proofs.ActLemmas.{blobs-kept, held-kept, large-giving, large-itself, large-stored, large-taking, IsAsLarge, shares-bytes}
use Rattle.vg_device.specs.State.{State, has_resource, is_blob, start}
use Rattle.vg_device.specs.BlobStep.{create_blob_refusals}
use Rattle.vg_device.specs.Step.{attach_2d_refusals}
use Rattle.vg_machine.specs.Entries.{Entry}
use Rattle.vg_machine.specs.Replay.{replay}
use Rattle.vg_linked.proofs.HeldLemmas.{IsTaken, may-free}
use Rattle.vg_linked.proofs.MoveLemmas.{ActMoves, AllMoves, Anything, Anywhere, CommandMoves, commands_leave, replay-kept}

-- ---- memory and the shares

pub record MemoryStands (setup : Setup) (memory : Memory) (share : ShareState) : Type 0 where
  pub bytes : length memory.bytes ≡ 4096 * setup.pages
  pub taken : length memory.taken ≡ setup.pages
  pub fits : SharesPages memory share
  pub leases : length share.leases ≡ length setup.displays

-- a reserve that isn't refused has as many pages as it needs
enough-by : (most need : ℕ) (b : Bool) → nat_lt most need ≡ b → refusal_of ((b, GuestFull most) ∷ []) ≡ None → need ≤ most
enough-by most need true is none = cc
enough-by most need false is none = grind (arith, nat_tests)

enough : (bytes : ℕ) (memory : Memory) → reserve_refusal bytes memory ≡ None → length (new_pages bytes memory) ≡ pages_of bytes
enough bytes memory none =
    length-take-le (pages_of bytes) (free_pages memory.taken)
    (enough-by (length (free_pages memory.taken)) (pages_of bytes) (nat_lt (length (free_pages memory.taken)) (pages_of bytes)) refl none)

stands-new : (setup : Setup) (memory : Memory) (share : ShareState) (client : ℕ) (geometry : Geometry) → reserve_refusal geometry.bytes memory ≡ None → MemoryStands setup memory share
    → MemoryStands setup (after_taking memory (new_pages geometry.bytes memory)) (with_buffer client geometry (new_pages geometry.bytes memory) share)
stands-new setup memory share client geometry none was =
    let pages = new_pages geometry.bytes memory in
    let lowest = takeable-lowest memory.taken (pages_of geometry.bytes) in
    record {
      bytes = length-zeroed pages memory.bytes ∙ was.bytes;
      taken = length-marked pages true memory.taken ∙ was.taken;
      fits = shares-reserved memory (after_taking memory pages) share.buffers _ share.reserved (share.reserved + 1) share.exports share.leases share.clients (new_buffer client geometry pages)
          lowest (enough geometry.bytes memory none) refl (givable-taken memory.taken pages lowest) (λ mine. givable-after_taking memory.taken mine pages) refl refl was.fits;
      leases = was.leases;
    }

stands-gone : (setup : Setup) (memory : Memory) (share : ShareState) (client key : ℕ) (live : Bool) → IsTaken client key live share → MemoryStands setup memory share
    → MemoryStands setup (given_back (pages_at key share) memory) (freed key share)
stands-gone setup memory share client key live is was =
    let pages = pages_at key share in
    record {
      bytes = was.bytes;
      taken = length-marked pages false memory.taken ∙ was.taken;
      fits = shares-freed memory (given_back pages memory) share.buffers _ share.reserved share.exports share.leases share.clients (is_at (nat_cmp key)) is.buffer pages
          is.found (ap pages_in is.found) refl (λ mine. givable-after_giving memory.taken mine pages) refl was.fits;
      leases = was.leases;
    }

stands-share : (setup : Setup) (memory : Memory) (share now : ShareState) → SharesPages memory now → now.leases ≡ share.leases → MemoryStands setup memory share → MemoryStands setup memory now
stands-share setup memory share now fits same was = record { bytes = was.bytes; taken = was.taken; fits = fits; leases = ap length same ∙ was.leases }

shares-else : (memory : Memory) (share : ShareState) (leases : List (Option ℕ)) (clients : List (ℕ × Bool)) → SharesPages memory share → SharesPages memory (record share { leases = leases; clients = clients })
shares-else memory share leases clients were = record { taken = were.taken; enough = were.enough; apart = were.apart; owned = were.owned; given = were.given }

stands-lease : (setup : Setup) (memory : Memory) (share : ShareState) (scanout : ℕ) (lease : Option ℕ) → MemoryStands setup memory share
    → MemoryStands setup memory (record share { leases = slice_set share.leases scanout lease })
stands-lease setup memory share scanout lease was = record {
  bytes = was.bytes;
  taken = was.taken;
  fits = shares-else memory share (slice_set share.leases scanout lease) share.clients was.fits;
  leases = length-set share.leases scanout lease ∙ was.leases;
}

abbrev MemoryOf : Setup → State → Type 0
MemoryOf setup s = MemoryStands setup s.memory s.share

memory_moves : (setup : Setup) → AllMoves (MemoryOf setup) (MemoryOf setup)
memory_moves setup = record {
  count = λ s was. was;
  commands = commands_leave (λ memory share plugs. MemoryStands setup memory share);
  acts = record {
    stay = λ s was. was;
    reserve = λ s client geometry none was. stands-new setup s.memory s.share client geometry none was;
    store = λ s client key offset bytes times none was. record {
      bytes = length-stored (pages_at key s.share) offset (repeated bytes times) s.memory.bytes ∙ was.bytes;
      taken = was.taken;
      fits = shares-bytes s.memory (stored (pages_at key s.share) offset (repeated bytes times) s.memory.bytes) s.share was.fits;
      leases = was.leases;
    };
    export = λ s key was. stands-share setup s.memory s.share _ (shares-exports s.memory s.share _ was.fits) refl was;
    import = λ s client token none was. stands-share setup s.memory s.share _
        (shares-imported s.memory s.share.buffers _ s.share.reserved s.share.exports s.share.leases s.share.clients client (token_key token s.share) refl was.fits) refl was;
    release = λ s client key none was. stands-share setup s.memory s.share _
        (shares-released s.memory s.share.buffers _ s.share.reserved s.share.exports s.share.leases s.share.clients client key refl was.fits) refl was;
    free = λ s client key none was. stands-gone setup s.memory s.share client key (has_resource s key) (may-free client key (has_resource s key) s.share none) was;
    take = λ s client scanout none was. stands-lease setup s.memory s.share scanout (Some client) was;
    drop = λ s client scanout none was. stands-lease setup s.memory s.share scanout None was;
    plug = λ s plugs many was. was;
    leave = λ s client was. stands-share setup s.memory s.share _ (shares-else s.memory s.share s.share.leases _ was.fits) refl was;
  };
}

memory-start : (setup : Setup) → MemoryOf setup (start setup)
unfolding fresh_memory
memory-start setup = record {
  bytes = length-replicate (4096 * setup.pages) 0;
  taken = length-replicate setup.pages false;
  fits = shares-fresh setup.pages (replicate (length setup.displays) None) [];
  leases = length-replicate (length setup.displays) None;
}

pub memory-stands : (setup : Setup) (H : List Entry) → MemoryStands setup (replay setup H).memory (replay setup H).share
memory-stands setup H = replay-kept (MemoryOf setup) (MemoryOf setup) (memory_moves setup) (start setup) H (memory-start setup)

-- ---- entries of backings and blobs lie in memory

pub record EntriesHeld (s : State) : Type 0 where
  pub backings : All (λ entry. AreHeld s.memory entry.1) s.backings
  pub blobs : All (IsHeld s.memory) s.blobs

held-memory : (s : State) (memory : Memory) (share : ShareState) → IsAsLarge s.memory memory → EntriesHeld s → EntriesHeld (record s { memory = memory; share = share })
held-memory s memory share large was = record { backings = held-kept s.memory memory large s.backings was.backings; blobs = blobs-kept s.memory memory large s.blobs was.blobs }

-- an entry that isn't bad is held
good-one : (memory : Memory) (entry : MemEntry) → is_bad memory entry ≡ false → (0 < entry.length) × HoldsRange memory entry.addr entry.length
good-one memory entry good =
    let some : (entry.length == 0) ≡ false = or-first (entry.length == 0) (not (is_held memory entry)) good in
    let inside : not (is_held memory entry) ≡ false = or-second (entry.length == 0) (not (is_held memory entry)) good in
    (grind (arith, nat_tests, some), (grind (arith, nat_tests, inside), grind (arith, nat_tests, inside)))

good-all : (memory : Memory) (ranges : List MemEntry) → list_any (is_bad memory) ranges ≡ false → AreHeld memory ranges
good-all memory [] good = All-nil (λ (entry : MemEntry). (0 < entry.length) × HoldsRange memory entry.addr entry.length)
good-all memory (entry ∷ more) good =
    All-cons (λ (e : MemEntry). (0 < e.length) × HoldsRange memory e.addr e.length) entry more
    (good-one memory entry (or-first (is_bad memory entry) (list_any (is_bad memory) more) good))
    (good-all memory more (or-second (is_bad memory entry) (list_any (is_bad memory) more) good))

good : (memory : Memory) (ranges : List MemEntry) → are_bad memory ranges ≡ false → AreHeld memory ranges
good memory ranges is = good-all memory ranges (or-second (length ranges == 0) (list_any (is_bad memory) ranges) is)

-- what isn't refused has none of the reasons
pub none-first : {R : Type 0} (a : Bool) (why : R) (more : List (Bool × R)) → refusal_of ((a, why) ∷ more) ≡ None → a ≡ false
none-first true why more none = cc
none-first false why more none = refl

pub none-rest : {R : Type 0} (a : Bool) (why : R) (more : List (Bool × R)) → refusal_of ((a, why) ∷ more) ≡ None → refusal_of more ≡ None
none-rest true why more none = cc
none-rest false why more none = none

attach-good : (s : State) (id : ℕ) (ranges : List MemEntry) → refusal_of (attach_2d_refusals s id ranges) ≡ None → are_bad s.memory ranges ≡ false
attach-good s id ranges none =
    let known = is_some (resource_at id s.resources) in
    let third = (are_bad s.memory ranges, ERR_INVALID_PARAMETER) ∷ [] in
    let second = (is_some (backing_at id s.backings), ERR_UNSPEC) ∷ third in
    none-first (are_bad s.memory ranges) ERR_INVALID_PARAMETER []
    (none-rest (is_some (backing_at id s.backings)) ERR_UNSPEC third
    (none-rest (not known) ERR_INVALID_RESOURCE_ID second
    (none-rest (is_blob s id) ERR_UNSPEC ((not known, ERR_INVALID_RESOURCE_ID) ∷ second) none)))

blob-good : (s : State) (id mem flags size : ℕ) (ranges : List MemEntry) → refusal_of (create_blob_refusals s id mem flags size ranges) ≡ None → are_bad s.memory ranges ≡ false
blob-good s id mem flags size ranges none =
    let fourth = (nat_lt (total ranges) size, ERR_INVALID_PARAMETER) ∷ [] in
    let third = (are_bad s.memory ranges, ERR_INVALID_PARAMETER) ∷ fourth in
    let odd = not (mem == BLOB_MEM_GUEST) || (nat_lt BLOB_FLAGS flags || size == 0) in
    let used = id == 0 || is_some (blob_at id s.blobs) in
    none-first (are_bad s.memory ranges) ERR_INVALID_PARAMETER fourth
    (none-rest odd ERR_INVALID_PARAMETER third
    (none-rest used ERR_INVALID_RESOURCE_ID ((odd, ERR_INVALID_PARAMETER) ∷ third)
    (none-rest (is_some (resource_at id s.resources)) ERR_INVALID_RESOURCE_ID ((used, ERR_INVALID_RESOURCE_ID) ∷ (odd, ERR_INVALID_PARAMETER) ∷ third) none)))

held_commands : CommandMoves EntriesHeld EntriesHeld Anything Anywhere
held_commands = record {
  stay = λ s was. was;
  create = λ s id format width height known none made was. record { backings = was.backings; blobs = was.blobs };
  unref = λ s id was. record {
    backings = held-without (AreHeld s.memory) s.backings (is_at (nat_cmp id)) was.backings;
    blobs = held-without (λ (blob : Blob). AreHeld s.memory blob.entries) s.blobs (is_at (nat_cmp id)) was.blobs;
  };
  bind = λ s rect scanout id resource none some is was. record { backings = was.backings; blobs = was.blobs };
  bind_blob = λ s rect scanout id layout format none some is was. record { backings = was.backings; blobs = was.blobs };
  unbind = λ s scanout was. record { backings = was.backings; blobs = was.blobs };
  flush = λ s rect id was. record { backings = was.backings; blobs = was.blobs };
  receive = λ s rect offset id resource none is was. record { backings = was.backings; blobs = was.blobs };
  attach = λ s id ranges none made was. record { backings = held-with (AreHeld s.memory) s.backings id ranges was.backings (good s.memory ranges (attach-good s id ranges none)); blobs = was.blobs };
  detach = λ s id was. record { backings = held-without (AreHeld s.memory) s.backings (is_at (nat_cmp id)) was.backings; blobs = was.blobs };
  assign = λ s id was. record { backings = was.backings; blobs = was.blobs };
  create_blob = λ s id mem flags size ranges none made given was. record {
    backings = was.backings;
    blobs = held-with (λ (blob : Blob). AreHeld s.memory blob.entries) s.blobs id (record { size = size; entries = ranges }) was.blobs (good s.memory ranges (blob-good s id mem flags size ranges none));
  };
  context = λ s now was. record { backings = was.backings; blobs = was.blobs };
  point = λ s scanout change was. record { backings = was.backings; blobs = was.blobs };
}

held_acts : ActMoves EntriesHeld EntriesHeld
held_acts = record {
  stay = λ s was. was;
  reserve = λ s client geometry none was. held-memory s _ _ (large-taking s.memory (new_pages geometry.bytes s.memory)) was;
  store = λ s client key offset bytes times none was. held-memory s _ s.share (large-stored s.memory (pages_at key s.share) offset (repeated bytes times)) was;
  export = λ s key was. held-memory s s.memory _ (large-itself s.memory) was;
  import = λ s client token none was. held-memory s s.memory _ (large-itself s.memory) was;
  release = λ s client key none was. held-memory s s.memory _ (large-itself s.memory) was;
  free = λ s client key none was. held-memory s _ _ (large-giving s.memory (pages_at key s.share)) was;
  take = λ s client scanout none was. held-memory s s.memory _ (large-itself s.memory) was;
  drop = λ s client scanout none was. held-memory s s.memory _ (large-itself s.memory) was;
  plug = λ s plugs many was. record { backings = was.backings; blobs = was.blobs };
  leave = λ s client was. held-memory s s.memory _ (large-itself s.memory) was;
}

pub entries-held : (setup : Setup) (H : List Entry) → EntriesHeld (replay setup H)
entries-held setup H = replay-kept EntriesHeld EntriesHeld
    (record { count = λ s was. record { backings = was.backings; blobs = was.blobs }; commands = held_commands; acts = held_acts }) (start setup) H
    (record {
      backings = All-nil (λ (entry : ℕ × List MemEntry). AreHeld (start setup).memory entry.1);
      blobs = All-nil (IsHeld (start setup).memory);
    })
