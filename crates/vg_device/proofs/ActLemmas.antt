-- What a display keeps over the acts of its clients.
use Rattle.std.proofs.Common.{◌≡◌, ◌≤◌, ◌<◌, ℕ, ◌+◌, ◌-◌, ◌*◌, Bool, true, false, not, List, [], ◌∷◌, ◌++◌, Option, Some, None, Result, Ok, Err, ap, sym, subst, refl, ◌∙◌, length, take, set, get_or, arith}
use Rattle.std.specs.Prelude.{IfOk, IfSome, OnErr, OnOk, nat_lt, if◌then◌else◌}
use Rattle.std.specs.List.{All}
use Rattle.std.specs.Ordering.{nat_cmp}
use Rattle.std.specs.BTreeMap.{is_at}
use Rattle.std.proofs.lemmas.Bool.Decides.{nat_tests}
use Rattle.std.proofs.lemmas.List.{length-map, length-set, length_push, take_at}
use Rattle.std.proofs.lemmas.List.FromFn.{length-range_with_len}
use Rattle.std.proofs.lemmas.Map.Entries.{All-lookup}
use Rattle.vg_formats.specs.declared.entry.MemEntry.{MemEntry}
use Rattle.vg_pages.specs.Memory.{AreGivable, Memory, after_taking, marked, zeroed}
use Rattle.vg_share.specs.declared.share.Geometry.{Geometry}
use Rattle.vg_share.specs.declared.share.ShareRefusal.{ShareRefusal}
use Rattle.vg_share.specs.declared.share.Buffer.{Buffer}
use Rattle.vg_share.specs.declared.share.ShareRefusal.TheVariants.{NotHeld, OutOfRange}
use Rattle.vg_refusals.specs.Refusals.{refusal_of}
use Rattle.vg_share.specs.Cells.{pages_of, stored}
use Rattle.vg_share.specs.Share.{ShareState, SharesPages, buffer_at, ended, entered, freed, given_back, is_holder, leased, pages_at, pages_in, place_refusal, refused_by, released, unleased, with_buffer, drop_refusal, export_refusal, exported, free_refusal, has_holder, import_refusal, imported, release_refusal, reserve_refusal, take_refusal}
use Rattle.vg_backing.specs.Backing.{AreHeld}
use Rattle.vg_blob.specs.declared.blobs.Blob.{Blob}
use Rattle.vg_blob.specs.Blobs.{IsHeld}
use Rattle.vg_client_holds.specs.declared.act.Act.{Act}
use Rattle.vg_client_holds.specs.declared.act.Act.TheVariants.{Enter, Reserve, Store, Load, Export, Import, Release, Free, Take, Drop, Await, Denied, Mode, Unplug, Sync, Events, Ack, Leave}
use Rattle.vg_client_holds.specs.declared.act.ActReply.{ActReply}
use Rattle.vg_client_holds.specs.declared.act.ActReply.TheVariants as act_replies
use Rattle.vg_device.specs.State.{State, has_resource}
use Rattle.vg_device.specs.ActStep.{KeepsIfRefused, effect_of, is_in_use, replied_by, shown_at}

-- what clients share, beside guest memory, so many scanouts and so many entries
pub record ShareFits (memory : Memory) (count entries : ℕ) (share : ShareState) : Type 0 where
  pub leases : length share.leases ≡ count
  pub pages : SharesPages memory share
  pub reserved : share.reserved ≤ entries
  pub exports : length share.exports ≤ entries

-- the same size of memory
pub record IsAsLarge (old new : Memory) : Type 0 where
  pub bytes : length new.bytes ≡ length old.bytes
  pub taken : length new.taken ≡ length old.taken

shares-leases : (memory : Memory) (share : ShareState) (leases : List (Option ℕ)) → SharesPages memory share → SharesPages memory (record share { leases = leases })
shares-leases memory share leases were = record { taken = were.taken; enough = were.enough; apart = were.apart; owned = were.owned; given = were.given }

fits-leases : (memory : Memory) (count entries scanout : ℕ) (lease : Option ℕ) (share : ShareState) → ShareFits memory count entries share → ShareFits memory count entries (record share { leases = set share.leases scanout lease })
fits-leases memory count entries scanout lease share fits = record {
  leases = length-set share.leases scanout lease ∙ fits.leases;
  pages = shares-leases memory share (set share.leases scanout lease) fits.pages;
  reserved = fits.reserved;
  exports = fits.exports;
}

-- whether an act was refused or not
either : {E : Type 0} (result : Result (Unit {0}) E) (P : ShareState → Type 0) (old new next : ShareState) → OnErr result (new ≡ old) → OnOk result (new ≡ next) → P old → P next → P new
either (Ok done) P old new next kept after was would = subst P (sym after) would
either (Err refusal) P old new next kept after was would = subst P (sym kept) was

pub fits-taken : (memory : Memory) (count entries client scanout : ℕ) (result : Result (Unit {0}) ShareRefusal) (old new : ShareState)
    → OnErr result (new ≡ old) → OnOk result (new ≡ leased client scanout old) → ShareFits memory count entries old → ShareFits memory count entries new
fits-taken memory count entries client scanout result old new kept after were =
    either result (ShareFits memory count entries) old new (leased client scanout old) kept after were (fits-leases memory count entries scanout (Some client) old were)

pub fits-dropped : (memory : Memory) (count entries scanout : ℕ) (result : Result (Unit {0}) ShareRefusal) (old new : ShareState)
    → OnErr result (new ≡ old) → OnOk result (new ≡ unleased scanout old) → ShareFits memory count entries old → ShareFits memory count entries new
fits-dropped memory count entries scanout result old new kept after were =
    either result (ShareFits memory count entries) old new (unleased scanout old) kept after were (fits-leases memory count entries scanout None old were)

pub shares-left : (memory : Memory) (client : ℕ) (share : ShareState) → SharesPages memory share → SharesPages memory (ended client (entered client share))
shares-left memory client share were = record { taken = were.taken; enough = were.enough; apart = were.apart; owned = were.owned; given = were.given }

length-marked : (pages : List ℕ) (now : Bool) (taken : List Bool) → length (marked pages now taken) ≡ length taken
unfolding marked
length-marked pages now taken = simp length-map (length-range_with_len 0 (length taken))

length-zeroed : (pages bytes : List ℕ) → length (zeroed pages bytes) ≡ length bytes
unfolding zeroed
length-zeroed pages bytes = simp length-map (length-range_with_len 0 (length bytes))

length-stored : (pages : List ℕ) (offset : ℕ) (piece bytes : List ℕ) → length (stored pages offset piece bytes) ≡ length bytes
unfolding stored
length-stored pages offset piece bytes = simp length-map (length-range_with_len 0 (length bytes))

pub large-taking : (memory : Memory) (pages : List ℕ) → IsAsLarge memory (after_taking memory pages)
large-taking memory pages = record { bytes = length-zeroed pages memory.bytes; taken = length-marked pages true memory.taken }

pub large-giving : (memory : Memory) (pages : List ℕ) → IsAsLarge memory (given_back pages memory)
large-giving memory pages = record { bytes = refl; taken = length-marked pages false memory.taken }

pub large-stored : (memory : Memory) (pages : List ℕ) (offset : ℕ) (piece : List ℕ) → IsAsLarge memory (record memory { bytes = stored pages offset piece memory.bytes })
large-stored memory pages offset piece = record { bytes = length-stored pages offset piece memory.bytes; taken = refl }

pub large-itself : (memory : Memory) → IsAsLarge memory memory
large-itself memory = record { bytes = refl; taken = refl }

held-one : (old new : Memory) → IsAsLarge old new → (entries : List MemEntry) → AreHeld old entries → AreHeld new entries
held-one old new large entries held = λ k d within.
    let one = held k d within in
    (one.0, (one.1.0, subst (λ size. (get_or entries k d).addr + (get_or entries k d).length ≤ 1048576 + size) (sym large.bytes) one.1.1))

pub held-kept : (old new : Memory) → IsAsLarge old new → (backings : List (ℕ × List MemEntry)) → All (λ entry. AreHeld old entry.1) backings → All (λ entry. AreHeld new entry.1) backings
held-kept old new large backings held = λ k d within. held-one old new large (get_or backings k d).1 (held k d within)

pub blobs-kept : (old new : Memory) → IsAsLarge old new → (blobs : List (ℕ × Blob)) → All (IsHeld old) blobs → All (IsHeld new) blobs
blobs-kept old new large blobs held = λ k d within. held-one old new large (get_or blobs k d).1.entries (held k d within)

pub shares-bytes : (memory : Memory) (bytes : List ℕ) (share : ShareState) → SharesPages memory share → SharesPages (record memory { bytes = bytes }) share
shares-bytes memory bytes share were = record { taken = were.taken; enough = were.enough; apart = were.apart; owned = were.owned; given = were.given }

-- where a client may store or load
pub record IsPlaced (memory : Memory) (offset n : ℕ) (pages : List ℕ) : Type 0 where
  pub givable : AreGivable memory.taken pages
  pub inside : offset + n ≤ 4096 * length pages

abbrev place_rule : ℕ → ℕ → ℕ → Buffer → Option ShareRefusal
place_rule client offset n buffer = refusal_of (
    (not (is_holder client buffer), NotHeld)
    ∷ (nat_lt buffer.geometry.bytes (offset + n), OutOfRange buffer.geometry.bytes)
    ∷ [])

-- none of two reasons holds
second-not : {R : Type 0} (a : Bool) (first : R) (b : Bool) (second : R) → refusal_of ((a, first) ∷ (b, second) ∷ []) ≡ None → b ≡ false
second-not true first b second none = cc
second-not false first true second none = cc
second-not false first false second none = refl

within-pages : (end bytes count : ℕ) → count ≡ pages_of bytes → nat_lt bytes end ≡ false → end ≤ 4096 * count
within-pages end bytes count is within =
    let low : end ≤ bytes = grind (arith, nat_tests) in
    omega (arith, low, is)

place-in : (memory : Memory) (client key offset n : ℕ) (share : ShareState) (found : Option Buffer) → buffer_at key share ≡ found
    → refused_by found (place_rule client offset n) ≡ None → SharesPages memory share → IsPlaced memory offset n (pages_in found)
place-in memory client key offset n share None is none fits = cc
place-in memory client key offset n share (Some buffer) is none fits =
    let given = subst (λ found. IfSome found (λ buffer. AreGivable memory.taken buffer.pages)) is (All-lookup (λ buffer. AreGivable memory.taken buffer.pages) (is_at (nat_cmp key)) share.buffers fits.taken) in
    let enough = subst (λ found. IfSome found (λ buffer. length buffer.pages ≡ pages_of buffer.geometry.bytes)) is (All-lookup (λ buffer. length buffer.pages ≡ pages_of buffer.geometry.bytes) (is_at (nat_cmp key)) share.buffers fits.enough) in
    record { givable = given; inside = within-pages (offset + n) buffer.geometry.bytes (length buffer.pages) enough (second-not (not (is_holder client buffer)) NotHeld (nat_lt buffer.geometry.bytes (offset + n)) (OutOfRange buffer.geometry.bytes) none) }

pub placed : (memory : Memory) (client key offset n : ℕ) (share : ShareState) → place_refusal client key offset n share ≡ None → SharesPages memory share → IsPlaced memory offset n (pages_at key share)
placed memory client key offset n share none fits = place-in memory client key offset n share (buffer_at key share) refl none fits

pub large-freed : (result : Result (Unit {0}) ShareRefusal) (old new : Memory) (share shared : ShareState) (key : ℕ)
    → OnErr result ((shared ≡ share) × (new ≡ old)) → OnOk result ((shared ≡ freed key share) × (new ≡ given_back (pages_at key share) old)) → IsAsLarge old new
large-freed (Ok done) old new share shared key kept after = subst (IsAsLarge old) (sym after.1) (large-giving old (pages_at key share))
large-freed (Err refusal) old new share shared key kept after = subst (IsAsLarge old) (sym kept.1) (large-itself old)

pub fits-freed : (count entries key : ℕ) (result : Result (Unit {0}) ShareRefusal) (old new : Memory) (share shared : ShareState)
    → OnErr result ((shared ≡ share) × (new ≡ old)) → OnOk result ((shared ≡ freed key share) × (new ≡ given_back (pages_at key share) old))
    → length share.leases ≡ count → share.reserved ≤ entries → length share.exports ≤ entries → SharesPages new shared → ShareFits new count entries shared
fits-freed count entries key (Ok done) old new share shared kept after leases reserved exports pages = record {
  leases = ap (λ state. length state.leases) after.0 ∙ leases;
  pages = pages;
  reserved = subst (λ state. state.reserved ≤ entries) (sym after.0) reserved;
  exports = subst (λ state. length state.exports ≤ entries) (sym after.0) exports;
}
fits-freed count entries key (Err refusal) old new share shared kept after leases reserved exports pages = record {
  leases = ap (λ state. length state.leases) kept.0 ∙ leases;
  pages = pages;
  reserved = subst (λ state. state.reserved ≤ entries) (sym kept.0) reserved;
  exports = subst (λ state. length state.exports ≤ entries) (sym kept.0) exports;
}

pub fits-released : (memory : Memory) (count entries client key : ℕ) (result : Result Bool ShareRefusal) (old new : ShareState)
    → OnErr result (new ≡ old) → OnOk result (new ≡ released client key old)
    → length old.leases ≡ count → old.reserved ≤ entries → length old.exports ≤ entries → SharesPages memory new → ShareFits memory count entries new
fits-released memory count entries client key (Ok last) old new kept after leases reserved exports pages = record {
  leases = ap (λ state. length state.leases) after ∙ leases;
  pages = pages;
  reserved = subst (λ state. state.reserved ≤ entries) (sym after) reserved;
  exports = subst (λ state. length state.exports ≤ entries) (sym after) exports;
}
fits-released memory count entries client key (Err refusal) old new kept after leases reserved exports pages = record {
  leases = ap (λ state. length state.leases) kept ∙ leases;
  pages = pages;
  reserved = subst (λ state. state.reserved ≤ entries) (sym kept) reserved;
  exports = subst (λ state. length state.exports ≤ entries) (sym kept) exports;
}

-- a token more, where there are fewer than entries
pub fits-exported : (memory : Memory) (count entries key : ℕ) (result : Result ℕ ShareRefusal) (old new : ShareState)
    → OnErr result (new ≡ old) → OnOk result (new ≡ exported key old)
    → length old.leases ≡ count → old.reserved ≤ entries → length old.exports < entries → SharesPages memory new → ShareFits memory count entries new
fits-exported memory count entries key (Ok token) old new kept after leases reserved exports pages = record {
  leases = ap (λ state. length state.leases) after ∙ leases;
  pages = pages;
  reserved = subst (λ state. state.reserved ≤ entries) (sym after) reserved;
  exports = subst (λ state. length state.exports ≤ entries) (sym after) (omega (arith, exports, length_push old.exports key));
}
fits-exported memory count entries key (Err refusal) old new kept after leases reserved exports pages = record {
  leases = ap (λ state. length state.leases) kept ∙ leases;
  pages = pages;
  reserved = subst (λ state. state.reserved ≤ entries) (sym kept) reserved;
  exports = subst (λ state. length state.exports ≤ entries) (sym kept) (omega (arith, exports));
}

-- a hold more
pub fits-imported : {V : Type 0} (P : Type 0) (memory : Memory) (count entries client key : ℕ) (result : Result V ShareRefusal) (old new : ShareState)
    → OnErr result ((new ≡ old) × P) → OnOk result (new ≡ imported client key old)
    → length old.leases ≡ count → old.reserved ≤ entries → length old.exports ≤ entries → SharesPages memory new → ShareFits memory count entries new
fits-imported P memory count entries client key (Ok told) old new kept after leases reserved exports pages = record {
  leases = ap (λ state. length state.leases) after ∙ leases;
  pages = pages;
  reserved = subst (λ state. state.reserved ≤ entries) (sym after) reserved;
  exports = subst (λ state. length state.exports ≤ entries) (sym after) exports;
}
fits-imported P memory count entries client key (Err refusal) old new kept after leases reserved exports pages = record {
  leases = ap (λ state. length state.leases) kept.0 ∙ leases;
  pages = pages;
  reserved = subst (λ state. state.reserved ≤ entries) (sym kept.0) reserved;
  exports = subst (λ state. length state.exports ≤ entries) (sym kept.0) exports;
}

-- what was pushed is gone after a pop
pub popped : {X : Type 0} (xs pushed rest : List X) (x : X) → pushed ≡ xs ++ x ∷ [] → rest ≡ take (length pushed - 1) pushed → rest ≡ xs
popped xs pushed rest x is left =
    left ∙ ap (λ list. take (length list - 1) list) is ∙ take_at xs (x ∷ []) (length (xs ++ x ∷ []) - 1) (omega (arith, length_push xs x))

-- what is kept beside what the pages and the buffers keep
pub record Reserved (count entries : ℕ) (before now : Memory) (share : ShareState) : Type 0 where
  pub large : IsAsLarge before now
  pub leases : length share.leases ≡ count
  pub reserved : share.reserved ≤ entries
  pub exports : length share.exports ≤ entries

reserved-as : (count entries : ℕ) (old new next : Memory) (shared after : ShareState) → shared ≡ after → new ≡ next → Reserved count entries old next after → Reserved count entries old new shared
reserved-as count entries old new next shared after is at was =
    subst (λ memory. Reserved count entries old memory shared) (sym at) (subst (Reserved count entries old next) (sym is) was)

-- a reserve was accepted
pub fits-reserved : (count entries client : ℕ) (geometry : Geometry) (pages : List ℕ) (old new : Memory) (share shared : ShareState)
    → shared ≡ with_buffer client geometry pages share → new ≡ after_taking old pages → length share.leases ≡ count → share.reserved < entries → length share.exports ≤ entries
    → Reserved count entries old new shared
fits-reserved count entries client geometry pages old new share shared buffer taken leases reserved exports =
    reserved-as count entries old new (after_taking old pages) shared (with_buffer client geometry pages share) buffer taken
    (record { large = large-taking old pages; leases = leases; reserved = omega (arith, reserved); exports = exports })

-- a refused act has changed nothing
kept-replied : (refusal : Option ShareRefusal) (state next : State) (reply : ActReply) → KeepsIfRefused reply state next
    → KeepsIfRefused (replied_by refusal state next reply).1 state (replied_by refusal state next reply).0
kept-replied (Some refusal) state next reply kept = refl
kept-replied None state next reply kept = kept

kept-held : (held : Bool) (state next : State) → KeepsIfRefused (if held then act_replies.Kept else act_replies.Last) state next
kept-held true state next = tt
kept-held false state next = tt

kept-effect : (state : State) (client : ℕ) (act : Act) → KeepsIfRefused (effect_of state client act).1 state (effect_of state client act).0
kept-effect state client Enter = tt
kept-effect state client (Reserve width height format bytes) = kept-replied (reserve_refusal bytes state.memory) state _ _ tt
kept-effect state client (Store key offset bytes times) = kept-replied (place_refusal client key offset (length bytes * times) state.share) state _ _ tt
kept-effect state client (Load key offset n) = kept-replied (place_refusal client key offset n state.share) state _ _ tt
kept-effect state client (Export key) = kept-replied (export_refusal client key state.share) state _ _ tt
kept-effect state client (Import token) = kept-replied (import_refusal token state.share) state _ _ tt
kept-effect state client (Release key) =
    kept-replied (release_refusal client key (shown_at client key state) state.share) state _ _ (kept-held (has_holder key (released client key state.share)) state _)
kept-effect state client (Free key) = kept-replied (free_refusal client key (has_resource state key) state.share) state _ _ tt
kept-effect state client (Take scanout) = kept-replied (take_refusal scanout state.share) state _ _ tt
kept-effect state client (Drop scanout) = kept-replied (drop_refusal client scanout (is_in_use state scanout) state.share) state _ _ tt
kept-effect state client (Await lane ordinal) = tt
kept-effect state client (Denied what) = tt
kept-effect state client (Mode scanout width height) = tt
kept-effect state client (Unplug scanout) = tt
kept-effect state client (Sync call) = tt
kept-effect state client Events = tt
kept-effect state client Ack = tt
kept-effect state client Leave = tt

pub refused-kept : {V E : Type 0} (result : Result V E) (reply : V → ActReply) (state new : State) (client : ℕ) (act : Act)
    → IfOk result (λ v. effect_of state client act ≡ (new, reply v)) → IfOk result (λ v. KeepsIfRefused (reply v) state new)
refused-kept (Ok v) reply state new client act step = subst (λ (done : State × ActReply). KeepsIfRefused done.1 state done.0) step (kept-effect state client act)
refused-kept (Err error) reply state new client act step = tt
