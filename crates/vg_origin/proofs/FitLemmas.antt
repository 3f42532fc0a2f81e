-- Buffers go on to fit guest memory, whatever is done, and no two of them have a page in common.
use Rattle.std.proofs.Common.{◌≡◌, ◌⊎◌, inl, inr, ⊎_elim, ℕ, suc, ◌+◌, ◌*◌, ◌/◌, ◌<◌, ◌≤◌, ◌==◌, ◌||◌, ◌&&◌, Bool, true, false, cond, not, List, [], ◌∷◌, length, take, nat_le, nat_lt, Option, Some, None, refl, ap, sym, subst, ◌∙◌, arith}
use Rattle.std.specs.List.{All, AllPairs, position_or_len}
use Rattle.std.specs.Map.{lookup, remove_entry}
use Rattle.std.specs.Ordering.{nat_cmp}
use Rattle.std.specs.BTreeMap.{insert_entry, is_at}
use Rattle.std.proofs.lemmas.Bool.{eqb-true}
use Rattle.std.proofs.lemmas.Bool.Decides.{nat_tests}
use Rattle.std.proofs.lemmas.List.{length-take}
use Rattle.std.proofs.lemmas.List.Elements.{All-head, All-tail}
use Rattle.std.proofs.lemmas.List.Folds.{list_any_at}
use Rattle.std.proofs.lemmas.List.Sums.{passes_at_first}
use Rattle.vg_laws.proofs.Bools.{clash}
use Rattle.vg_pages.specs.Memory.{AreTakeable, Memory, after_taking, free_pages, is_among}
use Rattle.vg_pages.proofs.Marked.{givable-after_giving, givable-after_taking, givable-taken, takeable-lowest}
use Rattle.vg_refusals.specs.Refusals.{refusal_of}
use Rattle.vg_share.specs.declared.share.Buffer.{Buffer}
use Rattle.vg_share.specs.declared.share.Geometry.{Geometry}
use Rattle.vg_share.specs.declared.share.ShareRefusal.{ShareRefusal}
use Rattle.vg_share.specs.declared.share.ShareRefusal.TheVariants.{NotHeld, ResourceLive}
use Rattle.vg_share.specs.Cells.{loaded, pages_of, place_in_buffer, repeated, stored}
use Rattle.vg_share.specs.Share.{HaveNoPageInCommon, ShareState, SharesPages, buffer_at, drop_refusal, export_refusal, exported, free_refusal, freed, geometry_at, given_back, has_holder, import_refusal, is_given, refused_by, imported, imported_entries, imported_buffer, leased, new_buffer, new_pages, pages_at, pages_in, place_refusal, release_refusal, released, released_entries, released_buffer, reserve_refusal, take_refusal, token_key, unleased, with_buffer}
use Rattle.vg_share.proofs.ShareLemmas.{shares-exports, shares-freed, shares-fresh, shares-imported, shares-released, shares-reserved}
use Rattle.vg_client_holds.specs.declared.act.Act.{Act}
use Rattle.vg_client_holds.specs.declared.act.Act.TheVariants.{Enter, Reserve, Store, Load, Export, Import, Release, Free, Take, Drop, Await, Denied, Mode, Unplug, Sync, Events, Ack, Leave}
use Rattle.vg_client_holds.specs.declared.act.ActReply.{ActReply}
use Rattle.vg_client_holds.specs.declared.act.ActReply.TheVariants as act_replies
use Rattle.vg_client_holds.specs.declared.setup.Setup.{Setup}
use Rattle.vg_history.specs.declared.entry.Entry.TheVariants as entries
use Rattle.vg_device.specs.ActStep.{effect_of, is_in_use, replied_by, shown_at}
use Rattle.vg_device.specs.State.{State, counted, has_resource, start}
use Rattle.vg_device.proofs.ActLemmas.{placed, shares-bytes, shares-left}
use Rattle.vg_device.proofs.MapLemmas.{at_other, at_same}
use Rattle.vg_machine.specs.Entries.{Entry}
use Rattle.vg_machine.specs.Replay.{after}
use Rattle.vg_origin.proofs.KeptLemmas.{shaped-beside}
use Rattle.vg_painted.proofs.OnceLemmas.{Once, once-insert, once-remove, once-set}

-- Buffers fit memory, and have keys of their own.
pub record Fits (memory : Memory) (share : ShareState) : Type 0 where
  pub shares : SharesPages memory share
  pub once : Once share.buffers

-- ---- acts

replied-fits : (refusal : Option ShareRefusal) (state next : State) (reply : ActReply) → Fits state.memory state.share → (refusal ≡ None → Fits next.memory next.share)
    → Fits (replied_by refusal state next reply).0.memory (replied_by refusal state next reply).0.share
replied-fits (Some refusal) state next reply were would = were
replied-fits None state next reply were would = would refl

enough-pages : (n : ℕ) (free : List ℕ) (refusal : ShareRefusal) → refusal_of ((nat_lt (length free) n, refusal) ∷ []) ≡ None → length (take n free) ≡ n
enough-pages n free refusal none =
    let low = off (nat_lt (length free) n) none in
    let some : n ≤ length free = grind (arith, nat_tests) in
    omega (arith, length-take n free, some)
  where
    off : (b : Bool) → refusal_of ((b, refusal) ∷ []) ≡ None → b ≡ false
    off true is = cc
    off false is = refl

above : {X : Type 0} (n : ℕ) (es : List (ℕ × X)) → All (λ e. e.0 ≤ n) es → lookup (is_at (nat_cmp (n + 1))) es ≡ None
above n [] below = refl
above {X} n (e ∷ es) below =
    let low : e.0 ≤ n = All-head (λ (x : ℕ × X). x.0 ≤ n) e es below in
    ap (λ b. cond b (Some e.1) (lookup (is_at (nat_cmp (n + 1))) es)) (at_other (n + 1) e.0 (λ same. absurd (omega (arith, low, same))))
    ∙ above n es (All-tail (λ (x : ℕ × X). x.0 ≤ n) e es below)

reserved-fits : (memory : Memory) (share : ShareState) (client : ℕ) (geometry : Geometry) → reserve_refusal geometry.bytes memory ≡ None → Fits memory share
    → Fits (after_taking memory (new_pages geometry.bytes memory)) (with_buffer client geometry (new_pages geometry.bytes memory) share)
reserved-fits memory share client geometry none were =
    let n = pages_of geometry.bytes in
    let pages = new_pages geometry.bytes memory in
    let buffer : Buffer = new_buffer client geometry pages in
    let takeable : AreTakeable memory.taken pages = takeable-lowest memory.taken n in
    record {
      shares = shares-reserved memory (after_taking memory pages) share.buffers (insert_entry nat_cmp share.buffers (share.reserved + 1) buffer) share.reserved (share.reserved + 1) share.exports share.leases share.clients buffer
          takeable (enough-pages n (free_pages memory.taken) _ none) refl (givable-taken memory.taken pages takeable) (λ mine givable. givable-after_taking memory.taken mine pages givable) refl refl were.shares;
      once = once-insert (share.reserved + 1) buffer share.buffers (above share.reserved share.buffers were.shares.given) were.once;
    }

once-released : (client key : ℕ) (found : Option Buffer) (buffers : List (ℕ × Buffer)) → Once buffers → Once (released_entries client key found buffers)
once-released client key (Some buffer) buffers once = once-set key (released_buffer client buffer) buffers once
once-released client key None buffers once = once

once-imported : (client key : ℕ) (found : Option Buffer) (buffers : List (ℕ × Buffer)) → Once buffers → Once (imported_entries client key found buffers)
once-imported client key (Some buffer) buffers once = once-set key (imported_buffer client buffer) buffers once
once-imported client key None buffers once = once

found-live : (found : Option Buffer) (rule : Buffer → Option ShareRefusal) → refused_by found rule ≡ None → (buffer : Buffer) × (found ≡ Some buffer)
found-live None rule none = cc
found-live (Some buffer) rule none = (buffer, refl)

freed-fits : (memory : Memory) (share : ShareState) (client key : ℕ) (live : Bool) → free_refusal client key live share ≡ None → Fits memory share → Fits (given_back (pages_at key share) memory) (freed key share)
freed-fits memory share client key live none were =
    let list = pages_at key share in
    let (buffer, is) = found-live (buffer_at key share) (λ (b : Buffer). refusal_of ((not (is_given client b.taker), NotHeld) ∷ (live, ResourceLive) ∷ [])) none in
    record {
      shares = shares-freed memory (given_back list memory) share.buffers (remove_entry (is_at (nat_cmp key)) share.buffers) share.reserved share.exports share.leases share.clients (is_at (nat_cmp key)) buffer list
          is (ap pages_in is) refl (λ mine givable apart. givable-after_giving memory.taken mine list givable apart) refl were.shares;
      once = once-remove key share.buffers were.once;
    }

leases-fit : (memory : Memory) (share : ShareState) (leases : List (Option ℕ)) → Fits memory share → Fits memory (record share { leases = leases })
leases-fit memory share leases were = record {
  shares = record { taken = were.shares.taken; enough = were.shares.enough; apart = were.shares.apart; owned = were.shares.owned; given = were.shares.given };
  once = were.once;
}

effect-fits : (state : State) (client : ℕ) (act : Act) → Fits state.memory state.share → Fits (effect_of state client act).0.memory (effect_of state client act).0.share
effect-fits state client Enter were = were
effect-fits state client (Reserve width height format bytes) were =
    let geometry : Geometry = record { width = width; height = height; format = format; bytes = bytes } in
    let pages = new_pages bytes state.memory in
    replied-fits (reserve_refusal bytes state.memory) state (record state { memory = after_taking state.memory pages; share = with_buffer client geometry pages state.share })
    (act_replies.Reserved (state.share.reserved + 1) pages) were (λ none. reserved-fits state.memory state.share client geometry none were)
effect-fits state client (Store key offset bytes times) were =
    let now = stored (pages_at key state.share) offset (repeated bytes times) state.memory.bytes in
    replied-fits (place_refusal client key offset (length bytes * times) state.share) state (record state { memory = record state.memory { bytes = now } }) act_replies.Ok were
    (λ none. record { shares = shares-bytes state.memory now state.share were.shares; once = were.once })
effect-fits state client (Load key offset n) were =
    replied-fits (place_refusal client key offset n state.share) state state (act_replies.Bytes (loaded state.memory.bytes (pages_at key state.share) offset n)) were (λ none. were)
effect-fits state client (Export key) were =
    replied-fits (export_refusal client key state.share) state (record state { share = exported key state.share }) (act_replies.Exported (length state.share.exports + 1)) were
    (λ none. record { shares = shares-exports state.memory state.share (exported key state.share).exports were.shares; once = were.once })
effect-fits state client (Import token) were =
    let share = state.share in
    let key = token_key token share in
    replied-fits (import_refusal token share) state (record state { share = imported client key share }) (act_replies.Imported key (geometry_at key share) (pages_at key share)) were
    (λ none. record {
      shares = shares-imported state.memory share.buffers (imported client key share).buffers share.reserved share.exports share.leases share.clients client key refl were.shares;
      once = once-imported client key (buffer_at key share) share.buffers were.once;
    })
effect-fits state client (Release key) were =
    let share = state.share in
    let next = released client key share in
    replied-fits (release_refusal client key (shown_at client key state) share) state (record state { share = next }) (cond (has_holder key next) act_replies.Kept act_replies.Last) were
    (λ none. record {
      shares = shares-released state.memory share.buffers next.buffers share.reserved share.exports share.leases share.clients client key refl were.shares;
      once = once-released client key (buffer_at key share) share.buffers were.once;
    })
effect-fits state client (Free key) were =
    replied-fits (free_refusal client key (has_resource state key) state.share) state
    (record state { memory = given_back (pages_at key state.share) state.memory; share = freed key state.share }) act_replies.Ok were
    (λ none. freed-fits state.memory state.share client key (has_resource state key) none were)
effect-fits state client (Take scanout) were =
    replied-fits (take_refusal scanout state.share) state (record state { share = leased client scanout state.share }) act_replies.Ok were
    (λ none. leases-fit state.memory state.share (leased client scanout state.share).leases were)
effect-fits state client (Drop scanout) were =
    replied-fits (drop_refusal client scanout (is_in_use state scanout) state.share) state (record state { share = unleased scanout state.share }) act_replies.Ok were
    (λ none. leases-fit state.memory state.share (unleased scanout state.share).leases were)
effect-fits state client (Await lane ordinal) were = were
effect-fits state client (Denied what) were = were
effect-fits state client (Mode scanout width height) were = were
effect-fits state client (Unplug scanout) were = were
effect-fits state client (Sync number) were = were
effect-fits state client Events were = were
effect-fits state client Ack were = were
effect-fits state client Leave were = record { shares = shares-left state.memory client state.share were.shares; once = were.once }

pub entry-fits : (state : State) (entry : Entry) → Fits state.memory state.share → Fits (after state entry).memory (after state entry).share
entry-fits state (entries.Act client call act reply) were = effect-fits (counted state) client act were
entry-fits state (entries.Command client call request reply) were =
    let is = shaped-beside request.shape state request in
    subst (λ (x : Memory × ShareState). Fits x.0 x.1) (λ i. (sym is.memory i, sym is.share i)) were

pub start-fits : (setup : Setup) → Fits (start setup).memory (start setup).share
start-fits setup = record { shares = shares-fresh setup.pages (start setup).share.leases []; once = tt }

-- ---- a page has one owner

among-all : (P : ℕ → Type 0) (pages : List ℕ) (page : ℕ) → All P pages → is_among pages page ≡ true → P page
among-all P [] page all is = cc
among-all P (x ∷ xs) page all is =
    ⊎_elim (λ here. subst P (eqb-true x page here) (All-head P x xs all)) (λ later. among-all P xs page (All-tail P x xs all) later) (either-true (x == page) (is_among xs page) is)
  where
    either-true : (a b : Bool) → (a || b) ≡ true → (a ≡ true) ⊎ (b ≡ true)
    either-true true b is = inl refl
    either-true false b is = inr is

all-found : {X : Type 0} (P : ℕ × X → Type 0) (key : ℕ) (es : List (ℕ × X)) (x : X) → All P es → lookup (is_at (nat_cmp key)) es ≡ Some x → (k : ℕ) × P (k, x)
all-found P key [] x all is = cc
all-found {X} P key (e ∷ es) x all is =
    elim (is_at (nat_cmp key) e.0) as (λ t. cond t (Some e.1) (lookup (is_at (nat_cmp key)) es) ≡ Some x → (k : ℕ) × P (k, x)) [
      | true ↦ λ here. let value : e.1 ≡ x = cc in (e.0, subst (λ v. P (e.0, v)) value (All-head P e es all))
      | false ↦ λ later. all-found P key es x (All-tail P e es all) later
    ] is

pairs-head : (e : ℕ × Buffer) (es : List (ℕ × Buffer)) → AllPairs HaveNoPageInCommon (e ∷ es) → All (HaveNoPageInCommon e) es
pairs-head e es pairs = λ k d within. pairs 0 (suc k) d (omega arith) (omega (arith, within))

pairs-tail : (e : ℕ × Buffer) (es : List (ℕ × Buffer)) → AllPairs HaveNoPageInCommon (e ∷ es) → AllPairs HaveNoPageInCommon es
pairs-tail e es pairs = λ i j d order within. pairs (suc i) (suc j) d (omega (arith, order)) (omega (arith, within))

-- one of the first buffer, and one behind it, have no page in common
behind-apart : (key : ℕ) (e : ℕ × Buffer) (es : List (ℕ × Buffer)) (x : Buffer) (page : ℕ) → AllPairs HaveNoPageInCommon (e ∷ es) → lookup (is_at (nat_cmp key)) es ≡ Some x
    → is_among e.1.pages page ≡ true → is_among x.pages page ≡ true → ⊥
behind-apart key e es x page pairs is mine other =
    let (k, none) = all-found (HaveNoPageInCommon e) key es x (pairs-head e es pairs) is in
    clash (sym (among-all (λ p. is_among x.pages p ≡ false) e.1.pages page none mine) ∙ other)

owner-by : (one other : ℕ) (e : ℕ × Buffer) (es : List (ℕ × Buffer)) (x y : Buffer) (page : ℕ) (a b : Bool) → is_at (nat_cmp one) e.0 ≡ a → is_at (nat_cmp other) e.0 ≡ b → AllPairs HaveNoPageInCommon (e ∷ es)
    → cond a (Some e.1) (lookup (is_at (nat_cmp one)) es) ≡ Some x → cond b (Some e.1) (lookup (is_at (nat_cmp other)) es) ≡ Some y → is_among x.pages page ≡ true → is_among y.pages page ≡ true
    → (lookup (is_at (nat_cmp one)) es ≡ Some x → lookup (is_at (nat_cmp other)) es ≡ Some y → one ≡ other) → one ≡ other
owner-by one other e es x y page true true at at' pairs is is' mine others rest = at_same one e.0 at ∙ sym (at_same other e.0 at')
owner-by one other e es x y page true false at at' pairs is is' mine others rest =
    let value : e.1 ≡ x = cc in absurd (behind-apart other e es y page pairs is' (subst (λ (v : Buffer). is_among v.pages page ≡ true) (sym value) mine) others)
owner-by one other e es x y page false true at at' pairs is is' mine others rest =
    let value : e.1 ≡ y = cc in absurd (behind-apart one e es x page pairs is (subst (λ (v : Buffer). is_among v.pages page ≡ true) (sym value) others) mine)
owner-by one other e es x y page false false at at' pairs is is' mine others rest = rest is is'

one-owner : (one other : ℕ) (es : List (ℕ × Buffer)) (x y : Buffer) (page : ℕ) → AllPairs HaveNoPageInCommon es → lookup (is_at (nat_cmp one)) es ≡ Some x → lookup (is_at (nat_cmp other)) es ≡ Some y
    → is_among x.pages page ≡ true → is_among y.pages page ≡ true → one ≡ other
one-owner one other [] x y page pairs is is' mine others = cc
one-owner one other (e ∷ es) x y page pairs is is' mine others =
    owner-by one other e es x y page (is_at (nat_cmp one) e.0) (is_at (nat_cmp other) e.0) refl refl pairs is is' mine others
    (λ first second. one-owner one other es x y page (pairs-tail e es pairs) first second mine others)

pages-found : (found : Option Buffer) (page : ℕ) → is_among (pages_in found) page ≡ true → (buffer : Buffer) × (found ≡ Some buffer) × (is_among buffer.pages page ≡ true)
pages-found None page is = cc
pages-found (Some buffer) page is = (buffer, refl, is)

pub page-of-one : (memory : Memory) (share : ShareState) (one other page : ℕ) → Fits memory share → is_among (pages_at one share) page ≡ true → is_among (pages_at other share) page ≡ true → one ≡ other
page-of-one memory share one other page fits mine others =
    let (x, is, has) = pages-found (buffer_at one share) page mine in
    let (y, is', has') = pages-found (buffer_at other share) page others in
    one-owner one other share.buffers x y page fits.shares.apart is is' has has'

-- ---- a byte that is stored lies in a page of its buffer

in-range : (offset b n : ℕ) → (nat_le offset b && nat_lt b (offset + n)) ≡ true → b < offset + n
in-range offset b n test = grind (arith, nat_tests)

among-first : (pages : List ℕ) (place : ℕ) → position_or_len (λ page. page == place / 4096) pages < length pages → is_among pages (place / 4096) ≡ true
among-first pages place within =
    let test : ℕ → Bool = λ page. page == place / 4096 in
    list_any_at test pages (position_or_len test pages) 0 within (passes_at_first test pages 0 within)

pub stored-page : (memory : Memory) (share : ShareState) (client key offset n place : ℕ) → Fits memory share → place_refusal client key offset n share ≡ None
    → (nat_le offset (place_in_buffer (pages_at key share) place) && nat_lt (place_in_buffer (pages_at key share) place) (offset + n)) ≡ true → is_among (pages_at key share) (place / 4096) ≡ true
stored-page memory share client key offset n place fits none test =
    let pages = pages_at key share in
    let inside : offset + n ≤ 4096 * length pages = (placed memory client key offset n share none fits.shares).inside in
    let low : place_in_buffer pages place < offset + n = in-range offset (place_in_buffer pages place) n test in
    among-first pages place (omega (arith, inside, low))
