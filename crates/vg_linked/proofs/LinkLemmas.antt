-- What a client holds and what the shares say of it go on to agree over each act, its own or another's.
use Rattle.std.proofs.Common.{◌≡◌, ◌≢◌, ℕ, zero, suc, ◌+◌, not, Bool, true, false, cond, List, [], ◌∷◌, ◌++◌, get_or, Option, Some, None, refl, ap, sym, subst, ◌∙◌, arith, eq-eqb, ne_eqb}
use mathlib.Core.Logic.{dite}
use native.Mathlib.Decide.{ℕ_discrete}
use Rattle.std.specs.Prelude.{slice_get, count_by}
use Rattle.std.specs.List.{All, slice_set}
use Rattle.std.proofs.lemmas.List.Elements.{All-push}
use Rattle.vg_laws.proofs.Numbers.{differs as apart-of}
use Rattle.vg_refusals.specs.Refusals.{refusal_of}
use Rattle.vg_share.specs.declared.share.Buffer.{Buffer}
use Rattle.vg_share.specs.declared.share.Geometry.{Geometry}
use Rattle.vg_share.specs.declared.share.ShareRefusal.TheVariants.{InUse, NotHeld}
use Rattle.vg_share.specs.Lists.{is_number, without_first}
use Rattle.vg_share.specs.Share.{ShareState, buffer_at, drop_refusal, freed, holds_in, imported, imported_buffer, is_given, is_lease_of, is_leased, leased, new_buffer, pages_at, pages_in, refused_lease, released, released_buffer, some_hold, take_refusal, token_key, unleased, with_buffer, without_hold}
use Rattle.vg_client_holds.specs.declared.holds.Holds.{Holds}
use Rattle.vg_client_holds.specs.Holds.{has_key}
use Rattle.vg_linked.specs.Linked.{Linked, is_taken_by, one_if, parts_of}
use Rattle.vg_linked.proofs.CountLemmas.{all-without, count-no, count-without-other, count-without-same, count-yes, none-counted}
use Rattle.vg_linked.proofs.HeldLemmas.{IsHeld, IsImported, IsTaken, ShareStands, freed-gone, freed-other, held-untaken, holder-counts, imported-found, imported-other, new-found, new-other, next-none, released-found, released-other, taken-unheld}
use Rattle.vg_linked.proofs.HolderLemmas.{holds-less, holds-more, none-held, one-only, other-less, other-more}

-- ---- one buffer of the shares changes

abbrev HasPages : ShareState → ℕ × List ℕ → Type 0
HasPages share pair = pair.1 ≡ pages_at pair.0 share

-- the counts of one key, and those of the others stay
record IsCounted (client key : ℕ) (old new : Holds) (found : Option Buffer) : Type 0 where
  buffers : count_by (has_key key) new.buffers ≡ parts_of client found
  other_buffers : (q : ℕ) → q ≢ key → count_by (has_key q) new.buffers ≡ count_by (has_key q) old.buffers
  taking_down : count_by (is_number key) new.taking_down ≡ one_if (is_taken_by client found)
  other_taking : (q : ℕ) → q ≢ key → count_by (is_number q) new.taking_down ≡ count_by (is_number q) old.taking_down
  scanouts : new.scanouts ≡ old.scanouts

link-at : (client key : ℕ) (old new : Holds) (share now : ShareState) (found : Option Buffer) → buffer_at key now ≡ found
    → ((q : ℕ) → q ≢ key → buffer_at q now ≡ buffer_at q share) → now.leases ≡ share.leases
    → IsCounted client key old new found → All (HasPages now) new.buffers → Linked client old share → Linked client new now
link-at client key old new share now found is others leases counted pages linked = record {
  buffers = λ q. dite (ℕ_discrete q key)
      (λ same. subst (λ k. count_by (has_key k) new.buffers ≡ parts_of client (buffer_at k now)) (sym same) (counted.buffers ∙ sym (ap (parts_of client) is)))
      (λ other. counted.other_buffers q other ∙ linked.buffers q ∙ sym (ap (parts_of client) (others q other)));
  pages = pages;
  taking_down = λ q. dite (ℕ_discrete q key)
      (λ same. subst (λ k. count_by (is_number k) new.taking_down ≡ one_if (is_taken_by client (buffer_at k now))) (sym same)
      (counted.taking_down ∙ sym (ap (λ o. one_if (is_taken_by client o)) is)))
      (λ other. counted.other_taking q other ∙ linked.taking_down q ∙ sym (ap (λ o. one_if (is_taken_by client o)) (others q other)));
  scanouts = λ n. ap (λ held. count_by (is_number n) held) counted.scanouts ∙ linked.scanouts n ∙ sym (ap (λ all. one_if (is_lease_of client (slice_get all n))) leases);
}

-- the pages of no buffer change
pages-same : (key : ℕ) (share now : ShareState) (old new : Buffer) → buffer_at key share ≡ Some old → buffer_at key now ≡ Some new → new.pages ≡ old.pages
    → ((q : ℕ) → q ≢ key → buffer_at q now ≡ buffer_at q share) → (q : ℕ) → pages_at q now ≡ pages_at q share
pages-same key share now old new was is same others q = dite (ℕ_discrete q key)
    (λ equal. subst (λ k. pages_at k now ≡ pages_at k share) (sym equal) (ap pages_in is ∙ same ∙ sym (ap pages_in was)))
    (λ other. ap pages_in (others q other))

pages-kept : (share now : ShareState) (pairs : List (ℕ × List ℕ)) → ((q : ℕ) → pages_at q now ≡ pages_at q share) → All (HasPages share) pairs → All (HasPages now) pairs
pages-kept share now pairs same all = λ k d within. all k d within ∙ sym (same (get_or pairs k d).0)

-- no pair is of the buffer that changes
pages-apart : (key : ℕ) (share now : ShareState) (pairs : List (ℕ × List ℕ)) → count_by (has_key key) pairs ≡ 0
    → ((q : ℕ) → q ≢ key → buffer_at q now ≡ buffer_at q share) → All (HasPages share) pairs → All (HasPages now) pairs
pages-apart key share now pairs none others all = λ k d within.
    all k d within ∙ sym (ap pages_in (others (get_or pairs k d).0 (apart-of (get_or pairs k d).0 key (none-counted (has_key key) pairs none k d within))))

-- ---- a new buffer

pub linked-reserved : (client : ℕ) (geometry : Geometry) (pages : List ℕ) (holds : Holds) (share : ShareState) → ShareStands share → Linked client holds share
    → Linked client (record holds { buffers = holds.buffers ++ (share.reserved + 1, pages) ∷ [] }) (with_buffer client geometry pages share)
linked-reserved client geometry pages holds share stands linked =
    let key = share.reserved + 1 in
    let now = with_buffer client geometry pages share in
    let pair : ℕ × List ℕ = (key, pages) in
    let none = next-none share stands in
    let before : count_by (has_key key) holds.buffers ≡ 0 = linked.buffers key ∙ ap (parts_of client) none in
    let one : holds_in client ((client, 1) ∷ []) ≡ 1 = ap {B = ℕ} (λ b. cond b 1 0) (eq-eqb client client refl) in
    link-at client key holds _ share now (Some (new_buffer client geometry pages)) (new-found client geometry pages share) (new-other client geometry pages share) refl
    (record {
      buffers = count-yes (has_key key) holds.buffers pair (eq-eqb key key refl) ∙ omega (arith, before, one);
      other_buffers = λ q other. count-no (has_key q) holds.buffers pair (ne_eqb key q (λ same. other (sym same)));
      taking_down = linked.taking_down key ∙ ap (λ o. one_if (is_taken_by client o)) none;
      other_taking = λ q other. refl;
      scanouts = refl;
    })
    (All-push (HasPages now) holds.buffers pair (pages-apart key share now holds.buffers before (new-other client geometry pages share) linked.pages)
    (sym (ap pages_in (new-found client geometry pages share)))) linked

pub other-reserved : (client other : ℕ) (geometry : Geometry) (pages : List ℕ) (holds : Holds) (share : ShareState) → other ≢ client → ShareStands share → Linked client holds share
    → Linked client holds (with_buffer other geometry pages share)
other-reserved client other geometry pages holds share apart stands linked =
    let key = share.reserved + 1 in
    let now = with_buffer other geometry pages share in
    let none = next-none share stands in
    let before : count_by (has_key key) holds.buffers ≡ 0 = linked.buffers key ∙ ap (parts_of client) none in
    let zero_of : holds_in client ((other, 1) ∷ []) ≡ 0 = ap {B = ℕ} (λ b. cond b 1 0) (ne_eqb other client apart) in
    link-at client key holds holds share now (Some (new_buffer other geometry pages)) (new-found other geometry pages share) (new-other other geometry pages share) refl
    (record {
      buffers = omega (arith, before, zero_of);
      other_buffers = λ q differs. refl;
      taking_down = linked.taking_down key ∙ ap (λ o. one_if (is_taken_by client o)) none;
      other_taking = λ q differs. refl;
      scanouts = refl;
    })
    (pages-apart key share now holds.buffers before (new-other other geometry pages share) linked.pages) linked

-- ---- a hold less

-- one buffer's count, before
count-of : (client key : ℕ) (holds : Holds) (share : ShareState) (buffer : Buffer) → buffer_at key share ≡ Some buffer → Linked client holds share
    → count_by (has_key key) holds.buffers ≡ parts_of client (Some buffer)
count-of client key holds share buffer found linked = linked.buffers key ∙ ap (parts_of client) found

taking-of : (client key : ℕ) (holds : Holds) (share : ShareState) (buffer : Buffer) → buffer_at key share ≡ Some buffer → Linked client holds share
    → count_by (is_number key) holds.taking_down ≡ one_if (is_given client buffer.taker)
taking-of client key holds share buffer found linked = linked.taking_down key ∙ ap (λ o. one_if (is_taken_by client o)) found

without-key : (key : ℕ) (holds : Holds) (q : ℕ) → q ≢ key → count_by (has_key q) (without_first (has_key key) holds.buffers) ≡ count_by (has_key q) holds.buffers
without-key key holds q other = count-without-other (has_key key) (has_key q) holds.buffers (0, []) (λ pair is. one-only key q pair.0 (λ same. other (sym same)) is)

-- what the client has of the buffer where others hold it still, and where no one does
pub linked-kept : (client key : ℕ) (holds : Holds) (share : ShareState) → ShareStands share → (held : IsHeld client key share)
    → some_hold (without_hold client held.buffer.holders) ≡ true → Linked client holds share
    → Linked client (record holds { buffers = without_first (has_key key) holds.buffers }) (released client key share)
linked-kept client key holds share stands held more linked =
    let buffer = held.buffer in
    let now = released client key share in
    let free : buffer.taker ≡ None = held-untaken client key share stands held in
    let taker : (released_buffer client buffer).taker ≡ None = ap (λ b. cond b buffer.taker (Some client)) more ∙ free in
    let old_part : one_if (is_given client buffer.taker) ≡ 0 = ap {B = ℕ} (λ t. one_if (is_given client t)) free in
    let new_part : one_if (is_given client (released_buffer client buffer).taker) ≡ 0 = ap {B = ℕ} (λ t. one_if (is_given client t)) taker in
    let had = count-of client key holds share buffer held.found linked in
    let some = holder-counts client buffer held.held in
    link-at client key holds _ share now (Some (released_buffer client buffer)) (released-found client key share buffer held.found) (released-other client key share) refl
    (record {
      buffers = omega (arith, count-without-same (has_key key) holds.buffers (0, []) (omega (arith, had, some)), holds-less client buffer.holders, some, had, old_part, new_part);
      other_buffers = without-key key holds;
      taking_down = taking-of client key holds share buffer held.found linked ∙ old_part ∙ sym new_part;
      other_taking = λ q other. refl;
      scanouts = refl;
    })
    (all-without (HasPages now) (has_key key) holds.buffers
    (pages-kept share now holds.buffers
    (pages-same key share now buffer (released_buffer client buffer) held.found (released-found client key share buffer held.found) refl (released-other client key share)) linked.pages))
    linked

pub linked-last : (client key : ℕ) (holds : Holds) (share : ShareState) → ShareStands share → (held : IsHeld client key share)
    → some_hold (without_hold client held.buffer.holders) ≡ false → Linked client holds share
    → Linked client (record holds { taking_down = holds.taking_down ++ key ∷ [] }) (released client key share)
linked-last client key holds share stands held more linked =
    let buffer = held.buffer in
    let now = released client key share in
    let free : buffer.taker ≡ None = held-untaken client key share stands held in
    let taker : (released_buffer client buffer).taker ≡ Some client = ap (λ b. cond b buffer.taker (Some client)) more in
    let old_part : one_if (is_given client buffer.taker) ≡ 0 = ap {B = ℕ} (λ t. one_if (is_given client t)) free in
    let new_part : one_if (is_given client (released_buffer client buffer).taker) ≡ 1 =
    ap {B = ℕ} (λ t. one_if (is_given client t)) taker ∙ ap {B = ℕ} one_if (eq-eqb client client refl)
    in
    let had = count-of client key holds share buffer held.found linked in
    let some = holder-counts client buffer held.held in
    let nobody = none-held client (without_hold client buffer.holders) more in
    link-at client key holds _ share now (Some (released_buffer client buffer)) (released-found client key share buffer held.found) (released-other client key share) refl
    (record {
      buffers = omega (arith, holds-less client buffer.holders, some, nobody, had, old_part, new_part);
      other_buffers = λ q other. refl;
      taking_down = omega (arith, count-yes (is_number key) holds.taking_down key (eq-eqb key key refl), taking-of client key holds share buffer held.found linked, old_part, new_part);
      other_taking = λ q other. count-no (is_number q) holds.taking_down key (ne_eqb key q (λ same. other (sym same)));
      scanouts = refl;
    })
    (pages-kept share now holds.buffers
    (pages-same key share now buffer (released_buffer client buffer) held.found (released-found client key share buffer held.found) refl (released-other client key share)) linked.pages)
    linked

pub other-released : (client other key : ℕ) (holds : Holds) (share : ShareState) → other ≢ client → ShareStands share → IsHeld other key share → Linked client holds share
    → Linked client holds (released other key share)
other-released client other key holds share apart stands held linked =
    let buffer = held.buffer in
    let left = without_hold other buffer.holders in
    let now = released other key share in
    let free : buffer.taker ≡ None = held-untaken other key share stands held in
    let old_part : one_if (is_given client buffer.taker) ≡ 0 = ap {B = ℕ} (λ t. one_if (is_given client t)) free in
    let new_part : one_if (is_given client (released_buffer other buffer).taker) ≡ 0 = by buffer free (some_hold left) in
    let same : holds_in client left ≡ holds_in client buffer.holders = other-less client other buffer.holders apart in
    link-at client key holds holds share now (Some (released_buffer other buffer)) (released-found other key share buffer held.found) (released-other other key share) refl
    (record {
      buffers = omega (arith, count-of client key holds share buffer held.found linked, same, old_part, new_part);
      other_buffers = λ q differs. refl;
      taking_down = taking-of client key holds share buffer held.found linked ∙ old_part ∙ sym new_part;
      other_taking = λ q differs. refl;
      scanouts = refl;
    })
    (pages-kept share now holds.buffers
    (pages-same key share now buffer (released_buffer other buffer) held.found (released-found other key share buffer held.found) refl (released-other other key share)) linked.pages)
    linked
  where
    by : (buffer : Buffer) → buffer.taker ≡ None → (b : Bool) → one_if (is_given client (cond b buffer.taker (Some other))) ≡ 0
    by buffer free true = ap {B = ℕ} (λ t. one_if (is_given client t)) free
    by buffer free false = ap {B = ℕ} one_if (ne_eqb other client apart)

-- ---- a hold more

pub linked-imported : (client token : ℕ) (holds : Holds) (share : ShareState) → IsImported token share → Linked client holds share
    → Linked client (record holds { buffers = holds.buffers ++ (token_key token share, pages_at (token_key token share) share) ∷ [] }) (imported client (token_key token share) share)
linked-imported client token holds share is linked =
    let key = token_key token share in
    let buffer = is.buffer in
    let now = imported client key share in
    let pair : ℕ × List ℕ = (key, pages_at key share) in
    let same = pages-same key share now buffer (imported_buffer client buffer) is.found (imported-found client key share buffer is.found) refl (imported-other client key share) in
    link-at client key holds _ share now (Some (imported_buffer client buffer)) (imported-found client key share buffer is.found) (imported-other client key share) refl
    (record {
      buffers = omega (arith, count-yes (has_key key) holds.buffers pair (eq-eqb key key refl), holds-more client buffer.holders, count-of client key holds share buffer is.found linked);
      other_buffers = λ q other. count-no (has_key q) holds.buffers pair (ne_eqb key q (λ equal. other (sym equal)));
      taking_down = taking-of client key holds share buffer is.found linked;
      other_taking = λ q other. refl;
      scanouts = refl;
    })
    (All-push (HasPages now) holds.buffers pair (pages-kept share now holds.buffers same linked.pages) (sym (same key))) linked

pub other-imported : (client other token : ℕ) (holds : Holds) (share : ShareState) → other ≢ client → IsImported token share → Linked client holds share
    → Linked client holds (imported other (token_key token share) share)
other-imported client other token holds share apart is linked =
    let key = token_key token share in
    let buffer = is.buffer in
    let now = imported other key share in
    let same = pages-same key share now buffer (imported_buffer other buffer) is.found (imported-found other key share buffer is.found) refl (imported-other other key share) in
    link-at client key holds holds share now (Some (imported_buffer other buffer)) (imported-found other key share buffer is.found) (imported-other other key share) refl
    (record {
      buffers = omega (arith, other-more client other buffer.holders apart, count-of client key holds share buffer is.found linked);
      other_buffers = λ q differs. refl;
      taking_down = taking-of client key holds share buffer is.found linked;
      other_taking = λ q differs. refl;
      scanouts = refl;
    })
    (pages-kept share now holds.buffers same linked.pages) linked

-- ---- a buffer ends

pub linked-freed : (client key : ℕ) (live : Bool) (holds : Holds) (share : ShareState) → ShareStands share → IsTaken client key live share → Linked client holds share
    → Linked client (record holds { buffers = without_first (has_key key) holds.buffers; taking_down = without_first (is_number key) holds.taking_down }) (freed key share)
linked-freed client key live holds share stands taken linked =
    let buffer = taken.buffer in
    let now = freed key share in
    let nobody = none-held client buffer.holders (taken-unheld client key live share stands taken) in
    let part : one_if (is_given client buffer.taker) ≡ 1 = ap {B = ℕ} one_if taken.taken in
    let had = count-of client key holds share buffer taken.found linked in
    let took = taking-of client key holds share buffer taken.found linked in
    let gone : count_by (has_key key) (without_first (has_key key) holds.buffers) ≡ 0 =
    omega (arith, count-without-same (has_key key) holds.buffers (0, []) (omega (arith, had, nobody, part)), had, nobody, part)
    in
    link-at client key holds _ share now None (freed-gone key share stands) (freed-other key share) refl
    (record {
      buffers = gone;
      other_buffers = without-key key holds;
      taking_down = omega (arith, count-without-same (is_number key) holds.taking_down 0 (omega (arith, took, part)), took, part);
      other_taking = λ q other. count-without-other (is_number key) (is_number q) holds.taking_down 0 (λ n is. one-only key q n (λ same. other (sym same)) is);
      scanouts = refl;
    })
    (pages-apart key share now (without_first (has_key key) holds.buffers) gone (freed-other key share) (all-without (HasPages share) (has_key key) holds.buffers linked.pages))
    linked

-- what is given to one is given to no other
given-one : (client other : ℕ) (taker : Option ℕ) → other ≢ client → is_given other taker ≡ true → is_given client taker ≡ false
given-one client other None apart is = refl
given-one client other (Some n) apart is = one-only other client n apart is

pub other-freed : (client other key : ℕ) (live : Bool) (holds : Holds) (share : ShareState) → other ≢ client → ShareStands share → IsTaken other key live share → Linked client holds share
    → Linked client holds (freed key share)
other-freed client other key live holds share apart stands taken linked =
    let buffer = taken.buffer in
    let now = freed key share in
    let nobody = none-held client buffer.holders (taken-unheld other key live share stands taken) in
    let part : one_if (is_given client buffer.taker) ≡ 0 = ap {B = ℕ} one_if (given-one client other buffer.taker apart taken.taken) in
    let none : count_by (has_key key) holds.buffers ≡ 0 = omega (arith, count-of client key holds share buffer taken.found linked, nobody, part) in
    link-at client key holds holds share now None (freed-gone key share stands) (freed-other key share) refl
    (record {
      buffers = none;
      other_buffers = λ q differs. refl;
      taking_down = taking-of client key holds share buffer taken.found linked ∙ part;
      other_taking = λ q differs. refl;
      scanouts = refl;
    })
    (pages-apart key share now holds.buffers none (freed-other key share) linked.pages) linked

-- ---- leases

get-set : {X : Type 0} (xs : List X) (i : ℕ) (w v : X) → slice_get xs i ≡ Some w → slice_get (slice_set xs i v) i ≡ Some v
get-set [] i w v found = cc
get-set (x ∷ xs) zero w v found = refl
get-set (x ∷ xs) (suc i) w v found = get-set xs i w v found

get-other : {X : Type 0} (xs : List X) (i j : ℕ) (v : X) → j ≢ i → slice_get (slice_set xs i v) j ≡ slice_get xs j
get-other [] i j v other = refl
get-other (x ∷ xs) zero zero v other = absurd (other refl)
get-other (x ∷ xs) zero (suc j) v other = refl
get-other (x ∷ xs) (suc i) zero v other = refl
get-other (x ∷ xs) (suc i) (suc j) v other = get-other xs i j v (λ same. other (ap suc same))

link-lease : (client scanout : ℕ) (holds : Holds) (scanouts : List ℕ) (share : ShareState) (was lease : Option ℕ) → slice_get share.leases scanout ≡ Some was
    → count_by (is_number scanout) scanouts ≡ one_if (is_given client lease)
    → ((q : ℕ) → q ≢ scanout → count_by (is_number q) scanouts ≡ count_by (is_number q) holds.scanouts)
    → Linked client holds share → Linked client (record holds { scanouts = scanouts }) (record share { leases = slice_set share.leases scanout lease })
link-lease client scanout holds scanouts share was lease found one others linked = record {
  buffers = linked.buffers;
  pages = linked.pages;
  taking_down = linked.taking_down;
  scanouts = λ q. dite (ℕ_discrete q scanout)
      (λ same. subst (λ n. count_by (is_number n) scanouts ≡ one_if (is_lease_of client (slice_get (slice_set share.leases scanout lease) n))) (sym same)
      (one ∙ sym (ap (λ o. one_if (is_lease_of client o)) (get-set share.leases scanout was lease found))))
      (λ other. others q other ∙ linked.scanouts q ∙ sym (ap (λ o. one_if (is_lease_of client o)) (get-other share.leases scanout q lease other)));
}

-- of a scanout that may be taken: no one has it
pub may-take : (scanout : ℕ) (share : ShareState) → take_refusal scanout share ≡ None → slice_get share.leases scanout ≡ Some None
may-take scanout share none = by (slice_get share.leases scanout) refl none
  where
    by : (found : Option (Option ℕ)) → slice_get share.leases scanout ≡ found → refused_lease found ≡ None → found ≡ Some None
    by None is none = cc
    by (Some None) is none = refl
    by (Some (Some client)) is none = cc

-- what a client counts of a scanout
lease-of : (client scanout : ℕ) (holds : Holds) (share : ShareState) (lease : Option ℕ) → slice_get share.leases scanout ≡ Some lease → Linked client holds share
    → count_by (is_number scanout) holds.scanouts ≡ one_if (is_given client lease)
lease-of client scanout holds share lease found linked = linked.scanouts scanout ∙ ap (λ o. one_if (is_lease_of client o)) found

pub linked-leased : (client scanout : ℕ) (holds : Holds) (share : ShareState) → slice_get share.leases scanout ≡ Some None → Linked client holds share
    → Linked client (record holds { scanouts = holds.scanouts ++ scanout ∷ [] }) (leased client scanout share)
linked-leased client scanout holds share free linked =
    let own : one_if (is_given client (Some client)) ≡ 1 = ap {B = ℕ} one_if (eq-eqb client client refl) in
    link-lease client scanout holds _ share None (Some client) free
    (omega (arith, count-yes (is_number scanout) holds.scanouts scanout (eq-eqb scanout scanout refl), lease-of client scanout holds share None free linked, own))
    (λ q other. count-no (is_number q) holds.scanouts scanout (ne_eqb scanout q (λ same. other (sym same)))) linked

pub other-leased : (client other scanout : ℕ) (holds : Holds) (share : ShareState) → other ≢ client → slice_get share.leases scanout ≡ Some None → Linked client holds share
    → Linked client holds (leased other scanout share)
other-leased client other scanout holds share apart free linked =
    let theirs : one_if (is_given client (Some other)) ≡ 0 = ap {B = ℕ} one_if (ne_eqb other client apart) in
    link-lease client scanout holds holds.scanouts share None (Some other) free (omega (arith, lease-of client scanout holds share None free linked, theirs)) (λ q differs. refl) linked

-- of a scanout that a client may drop: it has it, and it shows nothing
pub record IsLeased (client scanout : ℕ) (shown : Bool) (share : ShareState) : Type 0 where
  pub lease : Option ℕ
  pub found : slice_get share.leases scanout ≡ Some lease
  pub given : is_given client lease ≡ true
  pub unused : shown ≡ false

leased-by : (client scanout : ℕ) (shown : Bool) (share : ShareState) (found : Option (Option ℕ)) → slice_get share.leases scanout ≡ found → is_lease_of client found ≡ true → shown ≡ false
    → IsLeased client scanout shown share
leased-by client scanout shown share None is given unused = cc
leased-by client scanout shown share (Some lease) is given unused = record { lease = lease; found = is; given = given; unused = unused }

pub may-drop : (client scanout : ℕ) (shown : Bool) (share : ShareState) → drop_refusal client scanout shown share ≡ None → IsLeased client scanout shown share
may-drop client scanout shown share none = by (is_leased client scanout share) shown refl refl none
  where
    by : (b c : Bool) → is_leased client scanout share ≡ b → shown ≡ c → refusal_of ((not b, NotHeld) ∷ (c, InUse scanout) ∷ []) ≡ None → IsLeased client scanout shown share
    by true false given unused none = leased-by client scanout shown share (slice_get share.leases scanout) refl given unused
    by true true given unused none = cc
    by false c given unused none = cc

pub linked-unleased : (client scanout : ℕ) (shown : Bool) (holds : Holds) (share : ShareState) → IsLeased client scanout shown share → Linked client holds share
    → Linked client (record holds { scanouts = without_first (is_number scanout) holds.scanouts }) (unleased scanout share)
linked-unleased client scanout shown holds share is linked =
    let had = lease-of client scanout holds share is.lease is.found linked in
    let part : one_if (is_given client is.lease) ≡ 1 = ap {B = ℕ} one_if is.given in
    link-lease client scanout holds _ share is.lease None is.found
    (omega (arith, count-without-same (is_number scanout) holds.scanouts 0 (omega (arith, had, part)), had, part))
    (λ q other. count-without-other (is_number scanout) (is_number q) holds.scanouts 0 (λ n same. one-only scanout q n (λ equal. other (sym equal)) same)) linked

pub other-unleased : (client other scanout : ℕ) (shown : Bool) (holds : Holds) (share : ShareState) → other ≢ client → IsLeased other scanout shown share → Linked client holds share
    → Linked client holds (unleased scanout share)
other-unleased client other scanout shown holds share apart is linked =
    let part : one_if (is_given client is.lease) ≡ 0 = ap {B = ℕ} one_if (given-one client other is.lease apart is.given) in
    link-lease client scanout holds holds.scanouts share is.lease None is.found (omega (arith, lease-of client scanout holds share is.lease is.found linked, part)) (λ q differs. refl) linked

-- what isn't about buffers and leases
pub linked-else : (client : ℕ) (holds : Holds) (share : ShareState) (exports : List ℕ) (clients : List (ℕ × Bool)) → Linked client holds share
    → Linked client holds (record share { exports = exports; clients = clients })
linked-else client holds share exports clients linked = record { buffers = linked.buffers; pages = linked.pages; taking_down = linked.taking_down; scanouts = linked.scanouts }
