-- What the acts on buffers and leases leave of the shares: numbers rise, keys were given, and a buffer is held or taken down.
use Rattle.std.proofs.Common.{◌≡◌, ◌≢◌, ◌≤◌, ℕ, ◌+◌, ◌&&◌, not, Bool, true, false, cond, List, [], ◌∷◌, Option, Some, None, refl, ap, sym, subst, ◌∙◌, arith}
use mathlib.Core.Logic.{dite}
use native.Mathlib.Decide.{ℕ_discrete}
use Rattle.std.specs.Prelude.{is_some}
use Rattle.std.specs.Ordering.{nat_cmp}
use Rattle.std.specs.List.{AllByRecursion}
use Rattle.std.specs.Map.{lookup}
use Rattle.std.specs.BTreeMap.{is_at}
use Rattle.std.proofs.lemmas.Bool.Decides.{nat_tests}
use Rattle.vg_device.proofs.MapLemmas.{insert-found, insert_other, remove_other, set_itself, set_other}
use Rattle.vg_refusals.specs.Refusals.{refusal_of}
use Rattle.vg_share.specs.declared.share.Buffer.{Buffer}
use Rattle.vg_share.specs.declared.share.Geometry.{Geometry}
use Rattle.vg_share.specs.declared.share.ShareRefusal.TheVariants.{InUse, NotHeld, ResourceLive, UnknownKey}
use Rattle.vg_share.specs.Share.{ShareState, buffer_at, exported_key, free_refusal, freed, has_holder, holds_in, holds_once, import_refusal, imported, imported_buffer, imported_entries, is_given, is_holder, key_in, new_buffer, refused_by, refused_token, release_refusal, released, released_buffer, released_entries, scanout_in, some_hold, some_holder, token_key, with_buffer, with_hold, without_hold}
use Rattle.vg_linked.specs.Linked.{AreAlone, IsAlone}
use Rattle.vg_linked.specs.Rising.{AreRising}
use Rattle.vg_linked.proofs.EntryLemmas.{each-insert, each-remove, each-set, each-weaker, none-found, remove-gone, rising-insert, rising-remove, rising-set}
use Rattle.vg_linked.proofs.HolderLemmas.{holds-more, some-held}

-- ---- what is found of buffers after each act

pub new-found : (client : ℕ) (geometry : Geometry) (pages : List ℕ) (share : ShareState)
    → buffer_at (share.reserved + 1) (with_buffer client geometry pages share) ≡ Some (new_buffer client geometry pages)
new-found client geometry pages share = insert-found (share.reserved + 1) (new_buffer client geometry pages) share.buffers

pub new-other : (client : ℕ) (geometry : Geometry) (pages : List ℕ) (share : ShareState) (key : ℕ) → key ≢ share.reserved + 1
    → buffer_at key (with_buffer client geometry pages share) ≡ buffer_at key share
new-other client geometry pages share key other = insert_other key (share.reserved + 1) (new_buffer client geometry pages) other share.buffers

pub released-found : (client key : ℕ) (share : ShareState) (buffer : Buffer) → buffer_at key share ≡ Some buffer
    → buffer_at key (released client key share) ≡ Some (released_buffer client buffer)
released-found client key share buffer found =
    ap (λ o. lookup (is_at (nat_cmp key)) (released_entries client key o share.buffers)) found
    ∙ set_itself key buffer (released_buffer client buffer) share.buffers found

released-other-by : (client key : ℕ) (share : ShareState) (found : Option Buffer) (q : ℕ) → q ≢ key
    → lookup (is_at (nat_cmp q)) (released_entries client key found share.buffers) ≡ buffer_at q share
released-other-by client key share (Some buffer) q other = set_other q key (released_buffer client buffer) other share.buffers
released-other-by client key share None q other = refl

pub released-other : (client key : ℕ) (share : ShareState) (q : ℕ) → q ≢ key → buffer_at q (released client key share) ≡ buffer_at q share
released-other client key share q other = released-other-by client key share (buffer_at key share) q other

pub imported-found : (client key : ℕ) (share : ShareState) (buffer : Buffer) → buffer_at key share ≡ Some buffer
    → buffer_at key (imported client key share) ≡ Some (imported_buffer client buffer)
imported-found client key share buffer found =
    ap (λ o. lookup (is_at (nat_cmp key)) (imported_entries client key o share.buffers)) found
    ∙ set_itself key buffer (imported_buffer client buffer) share.buffers found

imported-other-by : (client key : ℕ) (share : ShareState) (found : Option Buffer) (q : ℕ) → q ≢ key
    → lookup (is_at (nat_cmp q)) (imported_entries client key found share.buffers) ≡ buffer_at q share
imported-other-by client key share (Some buffer) q other = set_other q key (imported_buffer client buffer) other share.buffers
imported-other-by client key share None q other = refl

pub imported-other : (client key : ℕ) (share : ShareState) (q : ℕ) → q ≢ key → buffer_at q (imported client key share) ≡ buffer_at q share
imported-other client key share q other = imported-other-by client key share (buffer_at key share) q other

pub freed-other : (key : ℕ) (share : ShareState) (q : ℕ) → q ≢ key → buffer_at q (freed key share) ≡ buffer_at q share
freed-other key share q other = remove_other q key other share.buffers

-- ---- what an act that isn't refused tells

-- of a release: the buffer, which the client holds
pub record IsHeld (client key : ℕ) (share : ShareState) : Type 0 where
  pub buffer : Buffer
  pub found : buffer_at key share ≡ Some buffer
  pub held : is_holder client buffer ≡ true

held-by : (client key : ℕ) (shown : Option ℕ) (share : ShareState) (found : Option Buffer) → buffer_at key share ≡ found
    → refused_by found (λ buffer. refusal_of (
    (not (is_holder client buffer), NotHeld)
    ∷ (holds_once client buffer && is_some shown, InUse (scanout_in shown))
    ∷ [])) ≡ None → IsHeld client key share
held-by client key shown share None is none = cc
held-by client key shown share (Some buffer) is none = by (is_holder client buffer) refl none
  where
    by : (b : Bool) → is_holder client buffer ≡ b
        → refusal_of ((not b, NotHeld) ∷ (holds_once client buffer && is_some shown, InUse (scanout_in shown)) ∷ []) ≡ None → IsHeld client key share
    by true held none = record { buffer = buffer; found = is; held = held }
    by false held none = cc

pub may-release : (client key : ℕ) (shown : Option ℕ) (share : ShareState) → release_refusal client key shown share ≡ None → IsHeld client key share
may-release client key shown share none = held-by client key shown share (buffer_at key share) refl none

-- of an import: the token's buffer, which someone holds
pub record IsImported (token : ℕ) (share : ShareState) : Type 0 where
  pub buffer : Buffer
  pub found : buffer_at (token_key token share) share ≡ Some buffer
  pub some : some_hold buffer.holders ≡ true

held-import : (token : ℕ) (share : ShareState) (found : Option Buffer) → buffer_at (token_key token share) share ≡ found → some_holder found ≡ true → IsImported token share
held-import token share None is held = cc
held-import token share (Some buffer) is held = record { buffer = buffer; found = is; some = held }

imported-by : (token : ℕ) (share : ShareState) (found : Option ℕ) → exported_key token share ≡ found → refused_token found share ≡ None → IsImported token share
imported-by token share None is none = cc
imported-by token share (Some key) is none = by (has_holder key share) refl none
  where
    by : (b : Bool) → has_holder key share ≡ b → refusal_of ((not b, UnknownKey) ∷ []) ≡ None → IsImported token share
    by true held none = held-import token share (buffer_at (token_key token share) share) refl (ap (λ o. has_holder (key_in o) share) is ∙ held)
    by false held none = cc

pub may-import : (token : ℕ) (share : ShareState) → import_refusal token share ≡ None → IsImported token share
may-import token share none = imported-by token share (exported_key token share) refl none

-- of a free: the buffer, which the client takes down
pub record IsTaken (client key : ℕ) (live : Bool) (share : ShareState) : Type 0 where
  pub buffer : Buffer
  pub found : buffer_at key share ≡ Some buffer
  pub taken : is_given client buffer.taker ≡ true
  pub dead : live ≡ false

taken-by : (client key : ℕ) (live : Bool) (share : ShareState) (found : Option Buffer) → buffer_at key share ≡ found
    → refused_by found (λ buffer. refusal_of ((not (is_given client buffer.taker), NotHeld) ∷ (live, ResourceLive) ∷ [])) ≡ None → IsTaken client key live share
taken-by client key live share None is none = cc
taken-by client key live share (Some buffer) is none = by (is_given client buffer.taker) live refl refl none
  where
    by : (b c : Bool) → is_given client buffer.taker ≡ b → live ≡ c → refusal_of ((not b, NotHeld) ∷ (c, ResourceLive) ∷ []) ≡ None → IsTaken client key live share
    by true false taken dead none = record { buffer = buffer; found = is; taken = taken; dead = dead }
    by true true taken dead none = cc
    by false c taken dead none = cc

pub may-free : (client key : ℕ) (live : Bool) (share : ShareState) → free_refusal client key live share ≡ None → IsTaken client key live share
may-free client key live share none = taken-by client key live share (buffer_at key share) refl none

-- ---- what the shares keep

pub record ShareStands (share : ShareState) : Type 0 where
  pub rising : AreRising share.buffers
  pub given : AllByRecursion (λ (entry : ℕ × Buffer). entry.0 ≤ share.reserved) share.buffers
  pub alone : AreAlone share

-- the key that comes next is no buffer's
pub next-none : (share : ShareState) → ShareStands share → buffer_at (share.reserved + 1) share ≡ None
next-none share stands = none-found (share.reserved + 1) share.buffers
    (each-weaker (λ (entry : ℕ × Buffer). entry.0 ≤ share.reserved) (λ (entry : ℕ × Buffer). entry.0 ≢ share.reserved + 1) (λ entry low same. omega (arith, low, same)) share.buffers stands.given)

alone-at : (share now : ShareState) (key : ℕ) (found : Option Buffer) → buffer_at key now ≡ found → IsAlone found
    → ((q : ℕ) → q ≢ key → buffer_at q now ≡ buffer_at q share) → AreAlone share → AreAlone now
alone-at share now key found is one others alone q = dite (ℕ_discrete q key)
    (λ same. subst IsAlone (sym (ap (λ k. buffer_at k now) same ∙ is)) one)
    (λ other. subst IsAlone (sym (others q other)) (alone q))

-- a buffer that has a holder has no taker
pub no-taker : (buffer : Buffer) → IsAlone (Some buffer) → some_hold buffer.holders ≡ true → buffer.taker ≡ None
no-taker buffer alone some = by buffer.taker refl
  where
    by : (taker : Option ℕ) → buffer.taker ≡ taker → taker ≡ None
    by None is = refl
    by (Some client) is = let clash : true ≡ false = sym (ap is_some is) ∙ alone ∙ ap not some in absurd (cc)

pub holder-counts : (client : ℕ) (buffer : Buffer) → is_holder client buffer ≡ true → 1 ≤ holds_in client buffer.holders
holder-counts client buffer held = grind (arith, nat_tests, held)

pub stands-reserved : (client : ℕ) (geometry : Geometry) (pages : List ℕ) (share : ShareState) → ShareStands share → ShareStands (with_buffer client geometry pages share)
stands-reserved client geometry pages share stands = record {
  rising = rising-insert (share.reserved + 1) (new_buffer client geometry pages) share.buffers stands.rising;
  given = each-insert (λ n. n ≤ share.reserved + 1) (share.reserved + 1) (new_buffer client geometry pages) share.buffers (omega arith)
      (each-weaker (λ (entry : ℕ × Buffer). entry.0 ≤ share.reserved) (λ (entry : ℕ × Buffer). entry.0 ≤ share.reserved + 1) (λ entry low. omega (arith, low)) share.buffers stands.given);
  alone = alone-at share (with_buffer client geometry pages share) (share.reserved + 1) (Some (new_buffer client geometry pages))
      (new-found client geometry pages share) refl (new-other client geometry pages share) stands.alone;
}

rising-released : (client key : ℕ) (found : Option Buffer) (buffers : List (ℕ × Buffer)) → AreRising buffers → AreRising (released_entries client key found buffers)
rising-released client key (Some buffer) buffers rising = rising-set (is_at (nat_cmp key)) (released_buffer client buffer) buffers rising
rising-released client key None buffers rising = rising

given-released : (client key most : ℕ) (found : Option Buffer) (buffers : List (ℕ × Buffer)) → AllByRecursion (λ (entry : ℕ × Buffer). entry.0 ≤ most) buffers
    → AllByRecursion (λ (entry : ℕ × Buffer). entry.0 ≤ most) (released_entries client key found buffers)
given-released client key most (Some buffer) buffers given = each-set (λ n. n ≤ most) (is_at (nat_cmp key)) (released_buffer client buffer) buffers given
given-released client key most None buffers given = given

rising-imported : (client key : ℕ) (found : Option Buffer) (buffers : List (ℕ × Buffer)) → AreRising buffers → AreRising (imported_entries client key found buffers)
rising-imported client key (Some buffer) buffers rising = rising-set (is_at (nat_cmp key)) (imported_buffer client buffer) buffers rising
rising-imported client key None buffers rising = rising

given-imported : (client key most : ℕ) (found : Option Buffer) (buffers : List (ℕ × Buffer)) → AllByRecursion (λ (entry : ℕ × Buffer). entry.0 ≤ most) buffers
    → AllByRecursion (λ (entry : ℕ × Buffer). entry.0 ≤ most) (imported_entries client key found buffers)
given-imported client key most (Some buffer) buffers given = each-set (λ n. n ≤ most) (is_at (nat_cmp key)) (imported_buffer client buffer) buffers given
given-imported client key most None buffers given = given

alone-of : (share : ShareState) (key : ℕ) (buffer : Buffer) → buffer_at key share ≡ Some buffer → ShareStands share → IsAlone (Some buffer)
alone-of share key buffer found stands = subst IsAlone found (stands.alone key)

-- a buffer that the client holds has no taker
pub held-untaken : (client key : ℕ) (share : ShareState) → ShareStands share → (held : IsHeld client key share) → held.buffer.taker ≡ None
held-untaken client key share stands held = no-taker held.buffer (alone-of share key held.buffer held.found stands)
    (some-held client held.buffer.holders (holder-counts client held.buffer held.held))

pub imported-untaken : (token : ℕ) (share : ShareState) → ShareStands share → (is : IsImported token share) → is.buffer.taker ≡ None
imported-untaken token share stands is = no-taker is.buffer (alone-of share (token_key token share) is.buffer is.found stands) is.some

-- a buffer that is taken down has no holder
pub taken-unheld : (client key : ℕ) (live : Bool) (share : ShareState) → ShareStands share → (taken : IsTaken client key live share) → some_hold taken.buffer.holders ≡ false
taken-unheld client key live share stands taken = by taken.buffer.taker refl taken.taken
  where
    not-of : (b : Bool) → true ≡ not b → b ≡ false
    not-of true is = cc
    not-of false is = refl

    by : (taker : Option ℕ) → taken.buffer.taker ≡ taker → is_given client taker ≡ true → some_hold taken.buffer.holders ≡ false
    by None is given = cc
    by (Some other) is given = not-of (some_hold taken.buffer.holders) (sym (ap is_some is) ∙ alone-of share key taken.buffer taken.found stands)

alone-released : (client : ℕ) (buffer : Buffer) → buffer.taker ≡ None → IsAlone (Some (released_buffer client buffer))
alone-released client buffer none = by (some_hold (without_hold client buffer.holders))
  where
    by : (b : Bool) → is_some (cond b buffer.taker (Some client)) ≡ not b
    by true = ap is_some none
    by false = refl

pub stands-released : (client key : ℕ) (share : ShareState) → IsHeld client key share → ShareStands share → ShareStands (released client key share)
stands-released client key share held stands = record {
  rising = rising-released client key (buffer_at key share) share.buffers stands.rising;
  given = given-released client key share.reserved (buffer_at key share) share.buffers stands.given;
  alone = alone-at share (released client key share) key (Some (released_buffer client held.buffer)) (released-found client key share held.buffer held.found)
      (alone-released client held.buffer (held-untaken client key share stands held)) (released-other client key share) stands.alone;
}

alone-imported : (client : ℕ) (buffer : Buffer) → buffer.taker ≡ None → IsAlone (Some (imported_buffer client buffer))
alone-imported client buffer none =
    ap is_some none ∙ sym (ap not (some-held client (with_hold client buffer.holders) (omega (arith, holds-more client buffer.holders))))

pub stands-imported : (client token : ℕ) (share : ShareState) → IsImported token share → ShareStands share → ShareStands (imported client (token_key token share) share)
stands-imported client token share is stands =
    let key = token_key token share in
    record {
      rising = rising-imported client key (buffer_at key share) share.buffers stands.rising;
      given = given-imported client key share.reserved (buffer_at key share) share.buffers stands.given;
      alone = alone-at share (imported client key share) key (Some (imported_buffer client is.buffer)) (imported-found client key share is.buffer is.found)
          (alone-imported client is.buffer (imported-untaken token share stands is)) (imported-other client key share) stands.alone;
    }

pub freed-gone : (key : ℕ) (share : ShareState) → ShareStands share → buffer_at key (freed key share) ≡ None
freed-gone key share stands = remove-gone key share.buffers stands.rising

pub stands-freed : (key : ℕ) (share : ShareState) → ShareStands share → ShareStands (freed key share)
stands-freed key share stands = record {
  rising = rising-remove (is_at (nat_cmp key)) share.buffers stands.rising;
  given = each-remove (λ (entry : ℕ × Buffer). entry.0 ≤ share.reserved) (is_at (nat_cmp key)) share.buffers stands.given;
  alone = alone-at share (freed key share) key None (freed-gone key share stands) tt (freed-other key share) stands.alone;
}

-- what isn't about buffers
pub stands-else : (share : ShareState) (exports : List ℕ) (leases : List (Option ℕ)) (clients : List (ℕ × Bool)) → ShareStands share
    → ShareStands (record share { exports = exports; leases = leases; clients = clients })
stands-else share exports leases clients stands = record { rising = stands.rising; given = stands.given; alone = stands.alone }
