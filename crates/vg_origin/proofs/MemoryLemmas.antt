-- A byte of memory in a buffer's page was cleared, or stored into this buffer while it had the page.
use Rattle.std.proofs.Common.{◌≡◌, ◌⊎◌, inl, inr, ℕ, zero, suc, ◌+◌, ◌*◌, ◌/◌, ◌≤◌, ◌&&◌, Bool, true, false, cond, not, nat_le, nat_lt, List, [], ◌∷◌, ◌++◌, length, take, slice_get, Option, Some, None, refl, ap, sym, subst, ◌∙◌, arith}
use Rattle.std.specs.Map.{lookup, remove_entry, set_value}
use Rattle.std.specs.Ordering.{nat_cmp}
use Rattle.std.specs.BTreeMap.{insert_entry, is_at}
use Rattle.std.proofs.lemmas.Bool.{cases_eq, cases_lt}
use Rattle.vg_laws.proofs.Bools.{and-right}
use Rattle.vg_pages.specs.Memory.{after_taking, is_among}
use Rattle.vg_refusals.specs.Refusals.{refusal_of}
use Rattle.vg_share.specs.declared.share.Buffer.{Buffer}
use Rattle.vg_share.specs.declared.share.Geometry.{Geometry}
use Rattle.vg_share.specs.declared.share.ShareRefusal.{ShareRefusal}
use Rattle.vg_share.specs.declared.share.ShareRefusal.TheVariants.{NotHeld, OutOfRange}
use Rattle.vg_share.specs.Cells.{place_in_buffer, repeated, stored}
use Rattle.vg_share.specs.Share.{ShareState, buffer_at, drop_refusal, export_refusal, exported, free_refusal, freed, geometry_at, given_back, has_holder, import_refusal, imported, imported_buffer, imported_entries, is_holder, leased, new_buffer, new_pages, pages_at, pages_in, place_refusal, refused_by, release_refusal, released, released_buffer, released_entries, reserve_refusal, take_refusal, token_key, unleased, with_buffer}
use Rattle.vg_client_holds.specs.declared.act.Act.{Act}
use Rattle.vg_client_holds.specs.declared.act.Act.TheVariants.{Enter, Reserve, Store, Load, Export, Import, Release, Free, Take, Drop, Await, Denied, Mode, Unplug, Sync, Events, Ack, Leave}
use Rattle.vg_client_holds.specs.declared.act.ActReply.{ActReply}
use Rattle.vg_client_holds.specs.declared.act.ActReply.TheVariants as act_replies
use Rattle.vg_client_holds.specs.declared.setup.Setup.{Setup}
use Rattle.vg_history.specs.declared.entry.Entry.TheVariants as entries
use Rattle.vg_history.proofs.HistoryLemmas.{replay_append}
use Rattle.vg_device.specs.ActStep.{effect_of, is_in_use, replied_by, shown_at}
use Rattle.vg_device.specs.State.{State, counted, has_resource, start}
use Rattle.vg_device.proofs.MapLemmas.{insert-found, insert_other, remove_other, set_itself, set_other}
use Rattle.vg_machine.specs.CountedWithin.{act-counts, request-counts}
use Rattle.vg_machine.specs.Entries.{Entry}
use Rattle.vg_machine.specs.Replay.{after, display, replay, replay_from}
use Rattle.vg_painted.specs.Ink.{Painting}
use Rattle.vg_painted.specs.Inks.{From, Opaque, Tag, Zero, tags}
use Rattle.vg_origin.specs.Origin.{HadPage, HasPage, IsOfBuffer, IsStore, Stores, state_at, tags_at}
use Rattle.vg_painted.specs.Paint.{acted, cleared_at, fresh, painted, painting, stored_at, unless}
use Rattle.vg_origin.proofs.FitLemmas.{Fits, entry-fits, page-of-one, start-fits, stored-page}
use Rattle.vg_origin.proofs.KeptLemmas.{requested-memory, shaped-beside}
use Rattle.vg_painted.proofs.OnceLemmas.{Once, removed}
use Rattle.vg_painted.proofs.RelatedLemmas.{painting-more}

-- ---- pages of buffers

no-page : (page : ℕ) → is_among [] page ≡ true → ⊥
no-page page is = cc

set-pages : (key other : ℕ) (old new : Buffer) (es : List (ℕ × Buffer)) → lookup (is_at (nat_cmp key)) es ≡ Some old → new.pages ≡ old.pages
    → pages_in (lookup (is_at (nat_cmp other)) (set_value (is_at (nat_cmp key)) es new)) ≡ pages_in (lookup (is_at (nat_cmp other)) es)
set-pages key other old new es is same =
    elim (cases_eq other key) [
      | inl one ↦
          ap (λ (n : ℕ). pages_in (lookup (is_at (nat_cmp n)) (set_value (is_at (nat_cmp key)) es new))) one
          ∙ ap pages_in (set_itself key old new es is) ∙ same ∙ sym (ap pages_in is) ∙ ap (λ (n : ℕ). pages_in (lookup (is_at (nat_cmp n)) es)) (sym one)
      | inr apart ↦ ap pages_in (set_other other key new apart es)
    ]

pub released-pages : (client key other : ℕ) (found : Option Buffer) (es : List (ℕ × Buffer)) → lookup (is_at (nat_cmp key)) es ≡ found
    → pages_in (lookup (is_at (nat_cmp other)) (released_entries client key found es)) ≡ pages_in (lookup (is_at (nat_cmp other)) es)
released-pages client key other (Some buffer) es is = set-pages key other buffer (released_buffer client buffer) es is refl
released-pages client key other None es is = refl

pub imported-pages : (client key other : ℕ) (found : Option Buffer) (es : List (ℕ × Buffer)) → lookup (is_at (nat_cmp key)) es ≡ found
    → pages_in (lookup (is_at (nat_cmp other)) (imported_entries client key found es)) ≡ pages_in (lookup (is_at (nat_cmp other)) es)
imported-pages client key other (Some buffer) es is = set-pages key other buffer (imported_buffer client buffer) es is refl
imported-pages client key other None es is = refl

pub freed-pages : (key other page : ℕ) (share : ShareState) → Once share.buffers → is_among (pages_at other (freed key share)) page ≡ true → is_among (pages_at other share) page ≡ true
freed-pages key other page share once has =
    elim (cases_eq other key) [
      | inl one ↦
          let none : pages_at other (freed key share) ≡ [] =
          ap (λ (n : ℕ). pages_in (lookup (is_at (nat_cmp n)) (remove_entry (is_at (nat_cmp key)) share.buffers))) one ∙ ap pages_in (removed key share.buffers once)
          in
          absurd (no-page page (subst (λ (pages : List ℕ). is_among pages page ≡ true) none has))
      | inr apart ↦ subst (λ (pages : List ℕ). is_among pages page ≡ true) (ap pages_in (remove_other other key apart share.buffers)) has
    ]

pub replied-pages : (refusal : Option ShareRefusal) (state next : State) (reply : ActReply) (key page : ℕ) → (is_among (pages_at key next.share) page ≡ true → is_among (pages_at key state.share) page ≡ true)
    → is_among (pages_at key (replied_by refusal state next reply).0.share) page ≡ true → is_among (pages_at key state.share) page ≡ true
replied-pages (Some refusal) state next reply key page back has = has
replied-pages None state next reply key page back has = back has

by-refusal : (refusal : Option ShareRefusal) (state next : State) (reply : ActReply) (p q : Painting Tag (List Tag)) (P : State → Painting Tag (List Tag) → Type 0)
    → P state p → (refusal ≡ None → P next q) → P (replied_by refusal state next reply).0 (unless refusal p q)
by-refusal (Some refusal) state next reply p q P was would = was
by-refusal None state next reply p q P was would = would refl

-- ---- what an entry does to a byte

-- A byte in a page that the key has after the entry was cleared, or is as before, where the key had the page then too, or was stored by it.
abbrev Came : State → Entry → ℕ → ℕ → Tag → Tag → Type 0
Came state entry key page old new =
    (new ≡ Zero) ⊎ (((new ≡ old) × (is_among (pages_at key state.share) page ≡ true)) ⊎ ((new ≡ From (state.entries + 1) page 0 0) × Stores state entry key))

as-before : (state : State) (entry : Entry) (key page : ℕ) (old new : Tag) → new ≡ old → is_among (pages_at key state.share) page ≡ true → Came state entry key page old new
as-before state entry key page old new is had = inr (inl (is, had))

cleared-came : (b : Bool) (state : State) (entry : Entry) (key page : ℕ) (old : Tag) → (b ≡ false → is_among (pages_at key state.share) page ≡ true) → Came state entry key page old (cond b Zero old)
cleared-came true state entry key page old had = inl refl
cleared-came false state entry key page old had = as-before state entry key page old old refl (had refl)

reserved-had : (client key page : ℕ) (geometry : Geometry) (pages : List ℕ) (share : ShareState) → is_among (pages_at key (with_buffer client geometry pages share)) page ≡ true → is_among pages page ≡ false
    → is_among (pages_at key share) page ≡ true
reserved-had client key page geometry pages share has other =
    let buffer : Buffer = new_buffer client geometry pages in
    let n = share.reserved + 1 in
    elim (cases_eq key n) [
      | inl one ↦
          let are : pages_at key (with_buffer client geometry pages share) ≡ pages =
          ap (λ (k : ℕ). pages_in (lookup (is_at (nat_cmp k)) (insert_entry nat_cmp share.buffers n buffer))) one ∙ ap pages_in (insert-found n buffer share.buffers)
          in
          clash (sym other ∙ subst (λ (ps : List ℕ). is_among ps page ≡ true) are has)
      | inr apart ↦ subst (λ (ps : List ℕ). is_among ps page ≡ true) (ap pages_in (insert_other key n buffer apart share.buffers)) has
    ]
  where
    clash : {P : Type 0} → false ≡ true → P
    clash eq = cc

holder-of : (client offset n : ℕ) (found : Option Buffer)
    → refused_by found (λ buffer. refusal_of ((not (is_holder client buffer), NotHeld) ∷ (nat_lt buffer.geometry.bytes (offset + n), OutOfRange buffer.geometry.bytes) ∷ [])) ≡ None
    → (buffer : Buffer) × (found ≡ Some buffer) × (is_holder client buffer ≡ true)
holder-of client offset n None none = cc
holder-of client offset n (Some buffer) none = (buffer, refl, held (is_holder client buffer) ((nat_lt buffer.geometry.bytes (offset + n), OutOfRange buffer.geometry.bytes) ∷ []) none)
  where
    held : (b : Bool) (more : List (Bool × ShareRefusal)) → refusal_of ((not b, NotHeld) ∷ more) ≡ None → b ≡ true
    held true more is = refl
    held false more is = cc

written-came : (t : Bool) (state : State) (entry : Entry) (key page : ℕ) (old : Tag) → (t ≡ true → Stores state entry key) → is_among (pages_at key state.share) page ≡ true
    → Came state entry key page old (cond t (From (state.entries + 1) page 0 0) old)
written-came true state entry key page old stores has = inr (inr (refl, stores refl))
written-came false state entry key page old stores has = as-before state entry key page old old refl has

store-came : (state : State) (client call into offset : ℕ) (bytes : List ℕ) (times : ℕ) (reply : ActReply) (p : Painting Tag (List Tag)) (key place : ℕ) → Fits state.memory state.share
    → place_refusal client into offset (length bytes * times) state.share ≡ None → is_among (pages_at key state.share) (place / 4096) ≡ true
    → Came state (entries.Act client call (Store into offset bytes times) reply) key (place / 4096) (p.memory place)
    (stored_at tags (length state.memory.bytes) (state.entries + 1) client (pages_at into state.share) offset bytes times p.memory place)
store-came state client call into offset bytes times reply p key place fits none has =
    let entry : Entry = entries.Act client call (Store into offset bytes times) reply in
    let n = length bytes * times in
    let b = place_in_buffer (pages_at into state.share) place in
    let range = nat_le offset b && nat_lt b (offset + n) in
    let (buffer, there, holder) = holder-of client offset n (buffer_at into state.share) none in
    let stores : Stores state entry into =
    record { client = client; call = call; offset = offset; bytes = bytes; times = times; reply = reply; is = refl; buffer = buffer; there = there; holder = holder; accepted = none }
    in
    written-came (nat_lt place (length state.memory.bytes) && range) state entry key (place / 4096) (p.memory place)
    (λ test.
    let mine = stored-page state.memory state.share client into offset n place fits none (and-right (nat_lt place (length state.memory.bytes)) range test) in
    subst (Stores state entry) (page-of-one state.memory state.share into key (place / 4096) fits mine has) stores)
    has

act-came : (state : State) (client call : ℕ) (act : Act) (reply : ActReply) (p : Painting Tag (List Tag)) (key place : ℕ) → Fits state.memory state.share
    → is_among (pages_at key (effect_of (counted state) client act).0.share) (place / 4096) ≡ true
    → Came state (entries.Act client call act reply) key (place / 4096) (p.memory place) ((acted tags (counted state) client act p).memory place)
act-came state client call Enter reply p key place fits has = as-before state _ key (place / 4096) (p.memory place) (p.memory place) refl has
act-came state client call (Reserve width height format bytes) reply p key place fits has =
    let page = place / 4096 in
    let entry : Entry = entries.Act client call (Reserve width height format bytes) reply in
    let geometry : Geometry = record { width = width; height = height; format = format; bytes = bytes } in
    let pages = new_pages bytes state.memory in
    by-refusal (reserve_refusal bytes state.memory) (counted state) (record (counted state) { memory = after_taking state.memory pages; share = with_buffer client geometry pages state.share })
    (act_replies.Reserved (state.share.reserved + 1) pages) p (record p { memory = cleared_at tags pages p.memory })
    (λ s q. is_among (pages_at key s.share) page ≡ true → Came state entry key page (p.memory place) (q.memory place))
    (λ had. as-before state entry key page (p.memory place) (p.memory place) refl had)
    (λ none now. cleared-came (is_among pages page) state entry key page (p.memory place) (λ other. reserved-had client key page geometry pages state.share now other))
    has
act-came state client call (Store into offset bytes times) reply p key place fits has =
    let page = place / 4096 in
    let entry : Entry = entries.Act client call (Store into offset bytes times) reply in
    let pages = pages_at into state.share in
    by-refusal (place_refusal client into offset (length bytes * times) state.share) (counted state)
    (record (counted state) { memory = record state.memory { bytes = stored pages offset (repeated bytes times) state.memory.bytes } }) act_replies.Ok
    p (record p { memory = stored_at tags (length state.memory.bytes) (state.entries + 1) client pages offset bytes times p.memory })
    (λ s q. is_among (pages_at key s.share) page ≡ true → Came state entry key page (p.memory place) (q.memory place))
    (λ had. as-before state entry key page (p.memory place) (p.memory place) refl had)
    (λ none now. store-came state client call into offset bytes times reply p key place fits none now)
    has
act-came state client call (Load from offset n) reply p key place fits has =
    as-before state _ key (place / 4096) (p.memory place) (p.memory place) refl
    (replied-pages (place_refusal client from offset n state.share) (counted state) (counted state) _ key (place / 4096) (λ now. now) has)
act-came state client call (Export of) reply p key place fits has =
    as-before state _ key (place / 4096) (p.memory place) (p.memory place) refl
    (replied-pages (export_refusal client of state.share) (counted state) (record (counted state) { share = exported of state.share }) (act_replies.Exported (length state.share.exports + 1)) key (place / 4096) (λ now. now) has)
act-came state client call (Import token) reply p key place fits has =
    let share = state.share in
    let of = token_key token share in
    as-before state _ key (place / 4096) (p.memory place) (p.memory place) refl
    (replied-pages (import_refusal token share) (counted state) (record (counted state) { share = imported client of share }) (act_replies.Imported of (geometry_at of share) (pages_at of share)) key (place / 4096)
    (λ now. subst (λ (ps : List ℕ). is_among ps (place / 4096) ≡ true) (imported-pages client of key (buffer_at of share) share.buffers refl) now) has)
act-came state client call (Release of) reply p key place fits has =
    let share = state.share in
    let next = released client of share in
    as-before state _ key (place / 4096) (p.memory place) (p.memory place) refl
    (replied-pages (release_refusal client of (shown_at client of (counted state)) share) (counted state) (record (counted state) { share = next }) (cond (has_holder of next) act_replies.Kept act_replies.Last) key (place / 4096)
    (λ now. subst (λ (ps : List ℕ). is_among ps (place / 4096) ≡ true) (released-pages client of key (buffer_at of share) share.buffers refl) now) has)
act-came state client call (Free of) reply p key place fits has =
    let share = state.share in
    as-before state _ key (place / 4096) (p.memory place) (p.memory place) refl
    (replied-pages (free_refusal client of (has_resource (counted state) of) share) (counted state)
    (record (counted state) { memory = given_back (pages_at of share) state.memory; share = freed of share }) act_replies.Ok key (place / 4096)
    (λ now. freed-pages of key (place / 4096) share fits.once now) has)
act-came state client call (Take scanout) reply p key place fits has =
    as-before state _ key (place / 4096) (p.memory place) (p.memory place) refl
    (replied-pages (take_refusal scanout state.share) (counted state) (record (counted state) { share = leased client scanout state.share }) act_replies.Ok key (place / 4096) (λ now. now) has)
act-came state client call (Drop scanout) reply p key place fits has =
    as-before state _ key (place / 4096) (p.memory place) (p.memory place) refl
    (replied-pages (drop_refusal client scanout (is_in_use (counted state) scanout) state.share) (counted state) (record (counted state) { share = unleased scanout state.share }) act_replies.Ok key (place / 4096) (λ now. now) has)
act-came state client call (Await lane ordinal) reply p key place fits has = as-before state _ key (place / 4096) (p.memory place) (p.memory place) refl has
act-came state client call (Denied what) reply p key place fits has = as-before state _ key (place / 4096) (p.memory place) (p.memory place) refl has
act-came state client call (Mode scanout width height) reply p key place fits has = as-before state _ key (place / 4096) (p.memory place) (p.memory place) refl has
act-came state client call (Unplug scanout) reply p key place fits has = as-before state _ key (place / 4096) (p.memory place) (p.memory place) refl has
act-came state client call (Sync number) reply p key place fits has = as-before state _ key (place / 4096) (p.memory place) (p.memory place) refl has
act-came state client call Events reply p key place fits has = as-before state _ key (place / 4096) (p.memory place) (p.memory place) refl has
act-came state client call Ack reply p key place fits has = as-before state _ key (place / 4096) (p.memory place) (p.memory place) refl has
act-came state client call Leave reply p key place fits has = as-before state _ key (place / 4096) (p.memory place) (p.memory place) refl has

entry-came : (state : State) (entry : Entry) (p : Painting Tag (List Tag)) (key place : ℕ) → Fits state.memory state.share → is_among (pages_at key (after state entry).share) (place / 4096) ≡ true
    → Came state entry key (place / 4096) (p.memory place) ((painted tags state entry p).memory place)
entry-came state (entries.Act client call act reply) p key place fits has = act-came state client call act reply p key place fits has
entry-came state (entries.Command client call request reply) p key place fits has =
    let entry : Entry = entries.Command client call request reply in
    as-before state entry key (place / 4096) (p.memory place) ((painted tags state entry p).memory place)
    (ap (λ (memory : ℕ → Tag). memory place) (requested-memory tags request.shape (counted state) request p))
    (subst (λ (share : ShareState). is_among (pages_at key share) (place / 4096) ≡ true) (shaped-beside request.shape state request).share has)

-- ---- moments

take-next : (H : List Entry) (i : ℕ) → (take (suc i) H ≡ take i H) ⊎ ((entry : Entry) × (slice_get H i ≡ Some entry) × (take (suc i) H ≡ take i H ++ entry ∷ []) × (length (take i H) ≡ i))
take-next [] zero = inl refl
take-next [] (suc i) = inl refl
take-next (x ∷ xs) zero = inr (x, refl, refl, refl)
take-next (x ∷ xs) (suc i) =
    elim (take-next xs i) [
      | inl same ↦ inl (ap (λ (es : List Entry). x ∷ es) same)
      | inr more ↦ inr (more.0, more.1, ap (λ (es : List Entry). x ∷ es) more.2, ap suc more.3)
    ]

one-more : (state : State) (entry : Entry) → (after state entry).entries ≡ state.entries + 1
one-more state (entries.Act client call act reply) = act-counts state client act
one-more state (entries.Command client call request reply) = request-counts state request

pub entries-from : (H : List Entry) (state : State) → (replay_from state H).entries ≡ state.entries + length H
entries-from [] state = omega arith
entries-from (entry ∷ more) state = let rest = entries-from more (after state entry) in let next = one-more state entry in omega (arith, rest, next)

-- what the next moment is
pub record Next (setup : Setup) (H : List Entry) (i : ℕ) (entry : Entry) : Type 0 where
  pub there : slice_get H i ≡ Some entry
  pub state : state_at setup H (suc i) ≡ after (state_at setup H i) entry
  pub tags : tags_at setup H (suc i) ≡ painted tags (state_at setup H i) entry (tags_at setup H i)
  pub count : (state_at setup H i).entries ≡ i

pub next-moment : (setup : Setup) (H : List Entry) (i : ℕ) → (take (suc i) H ≡ take i H) ⊎ ((entry : Entry) × Next setup H i entry)
next-moment setup H i =
    elim (take-next H i) [
      | inl same ↦ inl same
      | inr (entry, there, is, long) ↦
          let all = entries-from (take i H) (start setup) in
          inr (
            entry,
            record {
              there = there;
              state = ap (replay setup) is ∙ replay_append display (start setup) (take i H) (entry ∷ []);
              tags = ap (painting tags setup) is ∙ painting-more tags (take i H) entry (start setup) (fresh tags);
              count = omega (arith, all, long);
            },
          )
    ]

pub fits-at : (setup : Setup) (H : List Entry) (i : ℕ) → Fits (state_at setup H i).memory (state_at setup H i).share
fits-at setup H zero = start-fits setup
fits-at setup H (suc i) =
    elim (next-moment setup H i) [
      | inl same ↦ subst (λ (es : List Entry). Fits (replay setup es).memory (replay setup es).share) (sym same) (fits-at setup H i)
      | inr (entry, next) ↦ subst (λ (s : State). Fits s.memory s.share) (sym next.state) (entry-fits (state_at setup H i) entry (fits-at setup H i))
    ]

-- ---- the induction

had-on : (setup : Setup) (H : List Entry) (key page from i : ℕ) → HasPage setup H key page (suc i) → HadPage setup H key page from i → HadPage setup H key page from (suc i)
had-on setup H key page from i now had = λ m low high.
    elim (cases_lt i m) [
      | inl last ↦ let same : suc i ≡ m = omega (arith, last, high) in subst (HasPage setup H key page) same now
      | inr before ↦ had m low before
    ]

pub lifted : (setup : Setup) (H : List Entry) (key page i : ℕ) (tag : Tag) → HasPage setup H key page (suc i) → IsOfBuffer setup H key page i tag → IsOfBuffer setup H key page (suc i) tag
lifted setup H key page i Zero now is = tt
lifted setup H key page i Opaque now is = is
lifted setup H key page i (From store in_page fetch show) now (place, none, not_shown, low, stores, had) =
    (place, none, not_shown, omega (arith, low), stores, had-on setup H key page store i now had)

of-came : (setup : Setup) (H : List Entry) (i key place : ℕ) (entry : Entry) → Next setup H i entry → HasPage setup H key (place / 4096) (suc i)
    → (HasPage setup H key (place / 4096) i → IsOfBuffer setup H key (place / 4096) i ((tags_at setup H i).memory place))
    → (new : Tag) → Came (state_at setup H i) entry key (place / 4096) ((tags_at setup H i).memory place) new → IsOfBuffer setup H key (place / 4096) (suc i) new
of-came setup H i key place entry next now before new (inl cleared) = subst (IsOfBuffer setup H key (place / 4096) (suc i)) (sym cleared) tt
of-came setup H i key place entry next now before new (inr (inl (same, had))) =
    subst (IsOfBuffer setup H key (place / 4096) (suc i)) (sym same) (lifted setup H key (place / 4096) i ((tags_at setup H i).memory place) now (before had))
of-came setup H i key place entry next now before new (inr (inr (stored, stores))) =
    let page = place / 4096 in
    let n = (state_at setup H i).entries + 1 in
    let number : n ≡ i + 1 = let count = next.count in omega (arith, count) in
    let had : HadPage setup H key page n (suc i) = λ m low high. let same : suc i ≡ m = omega (arith, low, high, number) in subst (HasPage setup H key page) same now in
    let store : IsStore setup H key n = record { before = i; number = number; entry = entry; there = next.there; stores = stores } in
    let low : n ≤ suc i = omega (arith, number) in
    subst (IsOfBuffer setup H key page (suc i)) (sym stored) (refl, refl, refl, low, store, had)

pub of-buffer : (setup : Setup) (H : List Entry) (i key place : ℕ) → HasPage setup H key (place / 4096) i → IsOfBuffer setup H key (place / 4096) i ((tags_at setup H i).memory place)
of-buffer setup H zero key place has = tt
of-buffer setup H (suc i) key place has =
    elim (next-moment setup H i) [
      | inl same ↦
          let had : HasPage setup H key (place / 4096) i = subst (λ (es : List Entry). is_among (pages_at key (replay setup es).share) (place / 4096) ≡ true) same has in
          subst (λ (es : List Entry). IsOfBuffer setup H key (place / 4096) (suc i) ((painting tags setup es).memory place)) (sym same)
          (lifted setup H key (place / 4096) i ((tags_at setup H i).memory place) has (of-buffer setup H i key place had))
      | inr (entry, next) ↦
          let state = state_at setup H i in
          let now : is_among (pages_at key (after state entry).share) (place / 4096) ≡ true = subst (λ (s : State). is_among (pages_at key s.share) (place / 4096) ≡ true) next.state has in
          subst (λ (q : Painting Tag (List Tag)). IsOfBuffer setup H key (place / 4096) (suc i) (q.memory place)) (sym next.tags)
          (of-came setup H i key place entry next has (of-buffer setup H i key place) ((painted tags state entry (tags_at setup H i)).memory place)
          (entry-came state entry (tags_at setup H i) key place (fits-at setup H i) now))
    ]
