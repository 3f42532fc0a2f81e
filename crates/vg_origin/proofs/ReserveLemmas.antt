-- A page that a buffer has was given to it by the entry that reserved it, and what is stored in the buffer is stored after that.
use Rattle.std.proofs.Common.{◌≡◌, ◌⊎◌, inl, inr, ⊎_elim, ℕ, zero, suc, ◌+◌, ◌*◌, ◌<◌, ◌≤◌, Bool, true, false, cond, List, [], length, slice_get, Option, Some, None, refl, ap, sym, subst, ◌∙◌, arith}
use Rattle.std.specs.Ordering.{nat_cmp}
use Rattle.std.specs.Map.{lookup}
use Rattle.std.specs.BTreeMap.{insert_entry, is_at}
use Rattle.std.proofs.lemmas.Bool.{cases_eq}
use Rattle.vg_pages.specs.Memory.{after_taking, is_among}
use Rattle.vg_share.specs.declared.share.Buffer.{Buffer}
use Rattle.vg_share.specs.declared.share.Geometry.{Geometry}
use Rattle.vg_share.specs.declared.share.ShareRefusal.{ShareRefusal}
use Rattle.vg_share.specs.Cells.{repeated, stored}
use Rattle.vg_share.specs.Share.{ShareState, buffer_at, drop_refusal, export_refusal, exported, free_refusal, freed, geometry_at, given_back, has_holder, import_refusal, imported, leased, new_buffer, new_pages, pages_at, pages_in, place_refusal, release_refusal, released, reserve_refusal, take_refusal, token_key, unleased, with_buffer}
use Rattle.vg_client_holds.specs.declared.act.Act.{Act}
use Rattle.vg_client_holds.specs.declared.act.Act.TheVariants.{Enter, Reserve, Store, Load, Export, Import, Release, Free, Take, Drop, Await, Denied, Mode, Unplug, Sync, Events, Ack, Leave}
use Rattle.vg_client_holds.specs.declared.act.ActReply.{ActReply}
use Rattle.vg_client_holds.specs.declared.act.ActReply.TheVariants as act_replies
use Rattle.vg_client_holds.specs.declared.setup.Setup.{Setup}
use Rattle.vg_history.specs.declared.entry.Entry.TheVariants as entries
use Rattle.vg_device.specs.ActStep.{effect_of, is_in_use, replied_by, shown_at}
use Rattle.vg_device.specs.State.{State, counted, has_resource}
use Rattle.vg_device.proofs.MapLemmas.{insert-found, insert_other}
use Rattle.vg_machine.specs.Entries.{Entry}
use Rattle.vg_machine.specs.Replay.{after, replay}
use Rattle.vg_painted.proofs.OnceLemmas.{Once}
use Rattle.vg_origin.specs.Origin.{HasPage, IsReserve, IsStore, Reserves, state_at}
use Rattle.vg_origin.proofs.KeptLemmas.{shaped-beside}
use Rattle.vg_origin.proofs.MemoryLemmas.{fits-at, freed-pages, imported-pages, next-moment, released-pages, replied-pages}

-- A page that the key has after an entry it had before, or the entry gave it.
abbrev Had : State → Entry → ℕ → ℕ → Type 0
Had state entry key page = (is_among (pages_at key state.share) page ≡ true) ⊎ Reserves state entry key page

reserved-by : (refusal : Option ShareRefusal) (state : State) (client call width height format bytes : ℕ) (reply : ActReply) (key page : ℕ) → reserve_refusal bytes state.memory ≡ refusal
    → is_among (pages_at key (replied_by refusal (counted state)
    (record (counted state) { memory = after_taking state.memory (new_pages bytes state.memory); share = with_buffer client (record { width = width; height = height; format = format; bytes = bytes }) (new_pages bytes state.memory) state.share })
    (act_replies.Reserved (state.share.reserved + 1) (new_pages bytes state.memory))).0.share) page ≡ true
    → Had state (entries.Act client call (Reserve width height format bytes) reply) key page
reserved-by (Some refusal) state client call width height format bytes reply key page is has = inl has
reserved-by None state client call width height format bytes reply key page is has =
    let geometry : Geometry = record { width = width; height = height; format = format; bytes = bytes } in
    let pages = new_pages bytes state.memory in
    let buffer : Buffer = new_buffer client geometry pages in
    let n = state.share.reserved + 1 in
    elim (cases_eq key n) [
      | inl one ↦
          let are : pages_at key (with_buffer client geometry pages state.share) ≡ pages =
          ap (λ (k : ℕ). pages_in (lookup (is_at (nat_cmp k)) (insert_entry nat_cmp state.share.buffers n buffer))) one ∙ ap pages_in (insert-found n buffer state.share.buffers)
          in
          inr (record {
            client = client;
            call = call;
            width = width;
            height = height;
            format = format;
            bytes = bytes;
            reply = reply;
            is = refl;
            accepted = is;
            number = one;
            gives = subst (λ (ps : List ℕ). is_among ps page ≡ true) are has;
          })
      | inr apart ↦ inl (subst (λ (ps : List ℕ). is_among ps page ≡ true) (ap pages_in (insert_other key n buffer apart state.share.buffers)) has)
    ]

act-had : (state : State) (client call : ℕ) (act : Act) (reply : ActReply) (key page : ℕ) → Once state.share.buffers → is_among (pages_at key (effect_of (counted state) client act).0.share) page ≡ true
    → Had state (entries.Act client call act reply) key page
act-had state client call Enter reply key page once has = inl has
act-had state client call (Reserve width height format bytes) reply key page once has =
    reserved-by (reserve_refusal bytes state.memory) state client call width height format bytes reply key page refl has
act-had state client call (Store into offset bytes times) reply key page once has =
    inl (replied-pages (place_refusal client into offset (length bytes * times) state.share) (counted state)
    (record (counted state) { memory = record state.memory { bytes = stored (pages_at into state.share) offset (repeated bytes times) state.memory.bytes } }) act_replies.Ok key page (λ now. now) has)
act-had state client call (Load from offset n) reply key page once has = inl (replied-pages (place_refusal client from offset n state.share) (counted state) (counted state) _ key page (λ now. now) has)
act-had state client call (Export of) reply key page once has =
    inl (replied-pages (export_refusal client of state.share) (counted state) (record (counted state) { share = exported of state.share }) (act_replies.Exported (length state.share.exports + 1)) key page (λ now. now) has)
act-had state client call (Import token) reply key page once has =
    let share = state.share in
    let of = token_key token share in
    inl (replied-pages (import_refusal token share) (counted state) (record (counted state) { share = imported client of share }) (act_replies.Imported of (geometry_at of share) (pages_at of share)) key page
    (λ now. subst (λ (ps : List ℕ). is_among ps page ≡ true) (imported-pages client of key (buffer_at of share) share.buffers refl) now) has)
act-had state client call (Release of) reply key page once has =
    let share = state.share in
    let next = released client of share in
    inl (replied-pages (release_refusal client of (shown_at client of (counted state)) share) (counted state) (record (counted state) { share = next }) (cond (has_holder of next) act_replies.Kept act_replies.Last) key page
    (λ now. subst (λ (ps : List ℕ). is_among ps page ≡ true) (released-pages client of key (buffer_at of share) share.buffers refl) now) has)
act-had state client call (Free of) reply key page once has =
    let share = state.share in
    inl (replied-pages (free_refusal client of (has_resource (counted state) of) share) (counted state)
    (record (counted state) { memory = given_back (pages_at of share) state.memory; share = freed of share }) act_replies.Ok key page (λ now. freed-pages of key page share once now) has)
act-had state client call (Take scanout) reply key page once has =
    inl (replied-pages (take_refusal scanout state.share) (counted state) (record (counted state) { share = leased client scanout state.share }) act_replies.Ok key page (λ now. now) has)
act-had state client call (Drop scanout) reply key page once has =
    inl (replied-pages (drop_refusal client scanout (is_in_use (counted state) scanout) state.share) (counted state) (record (counted state) { share = unleased scanout state.share }) act_replies.Ok key page (λ now. now) has)
act-had state client call (Await lane ordinal) reply key page once has = inl has
act-had state client call (Denied what) reply key page once has = inl has
act-had state client call (Mode scanout width height) reply key page once has = inl has
act-had state client call (Unplug scanout) reply key page once has = inl has
act-had state client call (Sync number) reply key page once has = inl has
act-had state client call Events reply key page once has = inl has
act-had state client call Ack reply key page once has = inl has
act-had state client call Leave reply key page once has = inl has

entry-had : (state : State) (entry : Entry) (key page : ℕ) → Once state.share.buffers → is_among (pages_at key (after state entry).share) page ≡ true → Had state entry key page
entry-had state (entries.Act client call act reply) key page once has = act-had state client call act reply key page once has
entry-had state (entries.Command client call request reply) key page once has =
    inl (subst (λ (share : ShareState). is_among (pages_at key share) page ≡ true) (shaped-beside request.shape state request).share has)

no-page : (key page : ℕ) → is_among [] page ≡ true → ⊥
no-page key page is = cc

-- a page that the key has at a moment was given to it by then
given-by : (setup : Setup) (H : List Entry) (key page i : ℕ) → HasPage setup H key page i → (r : ℕ) × (r ≤ i) × IsReserve setup H key page r
given-by setup H key page zero has = absurd (no-page key page has)
given-by setup H key page (suc i) has =
    elim (next-moment setup H i) [
      | inl same ↦
          let had : HasPage setup H key page i = subst (λ (es : List Entry). is_among (pages_at key (replay setup es).share) page ≡ true) same has in
          let (r, low, is) = given-by setup H key page i had in
          (r, omega (arith, low), is)
      | inr (entry, next) ↦
          let now : is_among (pages_at key (after (state_at setup H i) entry).share) page ≡ true = subst (λ (s : State). is_among (pages_at key s.share) page ≡ true) next.state has in
          ⊎_elim (λ had. let (r, low, is) = given-by setup H key page i had in (r, omega (arith, low), is))
          (λ reserves. (i + 1, omega arith, record { before = i; number = refl; entry = entry; there = next.there; reserves = reserves }))
          (entry-had (state_at setup H i) entry key page (fits-at setup H i).once now)
    ]

abbrev is_store : Entry → Bool
is_store (entries.Act client call (Store key offset bytes times) reply) = true
is_store _ = false

-- no entry both reserves and stores
apart : {P : Type 0} (setup : Setup) (H : List Entry) (key page n r : ℕ) → IsStore setup H key n → IsReserve setup H key page r → n ≡ r → P
apart setup H key page n r store reserve same =
    let places : store.before ≡ reserve.before = omega (arith, store.number, reserve.number, same) in
    let one : ◌≡◌ {A = Option Entry} (Some store.entry) (Some reserve.entry) = sym store.there ∙ ap (slice_get H) places ∙ reserve.there in
    let stores = store.stores in
    let reserves = reserve.reserves in
    let both : entries.Act stores.client stores.call (Store key stores.offset stores.bytes stores.times) stores.reply ≡ entries.Act reserves.client reserves.call (Reserve reserves.width reserves.height reserves.format reserves.bytes) reserves.reply =
    sym stores.is ∙ some-same one ∙ reserves.is
    in
    let no : true ≡ false = ap is_store both in
    cc
  where
    some-same : {x y : Entry} → ◌≡◌ {A = Option Entry} (Some x) (Some y) → x ≡ y
    some-same eq = cc

pub follows : (setup : Setup) (H : List Entry) (key page n : ℕ) → IsStore setup H key n → HasPage setup H key page n → (r : ℕ) × (r < n) × IsReserve setup H key page r
follows setup H key page n store has =
    let (r, low, is) = given-by setup H key page n has in
    elim (cases_eq n r) [
      | inl same ↦ apart setup H key page n r store is same
      | inr other ↦ (r, omega (arith, low, other), is)
    ]
