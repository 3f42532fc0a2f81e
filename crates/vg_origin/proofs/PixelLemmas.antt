-- A byte of a resource's pixels was cleared, or copied from the buffer with the resource's number.
use Rattle.std.proofs.Common.{◌≡◌, ◌⊎◌, inl, inr, ⊎_elim, ℕ, zero, suc, ◌+◌, ◌-◌, ◌*◌, ◌/◌, ◌%◌, ◌<◌, ◌≤◌, ◌==◌, ◌&&◌, Bool, true, false, cond, List, [], ◌∷◌, length, drop, nat_lt, Option, Some, None, refl, ap, sym, subst, ◌∙◌, arith}
use Rattle.std.proofs.lemmas.Bool.{cases_eq, eqb-true, ltb-true}
use Rattle.vg_formats.specs.declared.entry.MemEntry.{MemEntry}
use Rattle.vg_formats.specs.declared.rect.Rect.{Rect}
use Rattle.vg_places.specs.Rectangles.{is_inside}
use Rattle.vg_refusals.specs.Refusals.{refusal_of}
use Rattle.vg_resource.specs.declared.resource.Resource.{Resource}
use Rattle.vg_resource.specs.Resource.{resource_at}
use Rattle.vg_transfer.specs.Backings.{bytes_of_rect, entries_at}
use Rattle.vg_chain.specs.declared.shape.Shape.{Shape}
use Rattle.vg_chain.specs.declared.shape.Shape.TheVariants.{Bad}
use Rattle.vg_wire.specs.Header.{header_of}
use Rattle.vg_wire.specs.declared.two_d.Command2d.{Command2d}
use Rattle.vg_wire.specs.declared.two_d.Command2d.TheVariants.{Create2d, SetScanout, Flush, Transfer}
use Rattle.vg_wire_ext.specs.Commands.{command_of}
use Rattle.vg_wire_ext.specs.declared.command.Command.{Command}
use Rattle.vg_wire_ext.specs.declared.command.Command.TheVariants.{TwoD, SetScanoutBlob, UpdateCursor}
use Rattle.vg_client_holds.specs.declared.act.Act.{Act}
use Rattle.vg_client_holds.specs.declared.act.Act.TheVariants.{Reserve, Store}
use Rattle.vg_client_holds.specs.declared.setup.Setup.{Setup}
use Rattle.vg_history.specs.declared.entry.Entry.TheVariants as entries
use Rattle.vg_share.specs.Share.{ShareState, pages_at, place_refusal, reserve_refusal}
use Rattle.vg_pages.specs.Memory.{is_among}
use Rattle.vg_device.specs.declared.blobs.Layout.{Layout}
use Rattle.vg_device.specs.declared.request.Request.{Request}
use Rattle.vg_device.specs.BlobStep.{set_scanout_blob_refusals}
use Rattle.vg_device.specs.Receive.{receive_refusal}
use Rattle.vg_device.specs.State.{State, counted, is_blob}
use Rattle.vg_device.specs.Step.{create_2d_refusals, cursor_refusals, flush_refusals, request_refusals, set_scanout_refusals}
use Rattle.vg_machine.specs.Entries.{Entry}
use Rattle.vg_machine.specs.Replay.{after}
use Rattle.vg_painted.specs.Ink.{Painting}
use Rattle.vg_painted.specs.Inks.{From, Opaque, Tag, Zero, fetched_by, tags}
use Rattle.vg_origin.specs.Origin.{AreBacked, HadPage, HasPage, InEntries, IsAttached, IsFetched, IsOfBuffer, state_at, tags_at}
use Rattle.vg_painted.specs.Paint.{acted, bound, byte_of_entries, commanded, commanded_2d, painted, painting, ran, received, requested, unless, with_one}
use Rattle.vg_origin.proofs.KeptLemmas.{shaped-beside}
use Rattle.vg_origin.proofs.MemoryLemmas.{next-moment, of-buffer}

-- ---- what a command does to a byte of pixels

-- It is as before, cleared, or one of the resource's backing, copied by the entry of this number.
abbrev Came : ℕ → List MemEntry → (ℕ → Tag) → Tag → Tag → Type 0
Came entry parts memory old new = (new ≡ old) ⊎ ((new ≡ Zero) ⊎ ((at : ℕ) × (new ≡ fetched_by entry (byte_of_entries tags memory parts at))))

-- so of each byte of all resources
abbrev AllCame : State → Painting Tag (List Tag) → Painting Tag (List Tag) → Type 0
AllCame state p q = (id place : ℕ) → Came state.entries (entries_at id state.backings) p.memory (p.pixels id place) (q.pixels id place)

same-came : (state : State) (p q : Painting Tag (List Tag)) → q.pixels ≡ p.pixels → AllCame state p q
same-came state p q are = λ id place. inl (ap (λ (f : ℕ → ℕ → Tag). f id place) are)

unless-came : {E : Type 0} (refusal : Option E) (state : State) (p q : Painting Tag (List Tag)) → AllCame state p q → AllCame state p (unless refusal p q)
unless-came (Some refusal) state p q came = same-came state p p refl
unless-came None state p q came = came

chosen-came : (b : Bool) (state : State) (p q : Painting Tag (List Tag)) → AllCame state p q → AllCame state p (cond b p q)
chosen-came true state p q came = same-came state p p refl
chosen-came false state p q came = came

unless-same : {E : Type 0} (refusal : Option E) (state : State) (p q : Painting Tag (List Tag)) → q.pixels ≡ p.pixels → AllCame state p (unless refusal p q)
unless-same refusal state p q are = unless-came refusal state p q (same-came state p q are)

chosen-same : (b : Bool) (p q : Painting Tag (List Tag)) → q.pixels ≡ p.pixels → (cond b p q).pixels ≡ p.pixels
chosen-same true p q are = refl
chosen-same false p q are = are

one-came : (b : Bool) (entry : ℕ) (parts : List MemEntry) (memory : ℕ → Tag) (old new : Tag) → (b ≡ true → Came entry parts memory old new) → Came entry parts memory old (cond b new old)
one-came true entry parts memory old new came = came refl
one-came false entry parts memory old new came = inl refl

created-came : (state : State) (id : ℕ) (p : Painting Tag (List Tag)) → AllCame state p (record p { pixels = with_one id (λ place. Zero) p.pixels })
created-came state id p = λ other place. one-came (other == id) state.entries (entries_at other state.backings) p.memory (p.pixels other place) Zero (λ is. inr (inl refl))

received-came : (state : State) (rect : Rect) (offset id : ℕ) (found : Option Resource) (p : Painting Tag (List Tag)) → AllCame state p (received tags state rect offset id found p)
received-came state rect offset id None p = same-came state p p refl
received-came state rect offset id (Some resource) p = λ other place.
    let row = 4 * resource.width in
    let area = bytes_of_rect rect in
    let t = nat_lt place (length resource.pixels) && is_inside area (place / row) (place % row) in
    let at = offset + row * (place / row - area.row) + (place % row - area.column) in
    let new : Tag = fetched_by state.entries (byte_of_entries tags p.memory (entries_at id state.backings) at) in
    one-came (other == id) state.entries (entries_at other state.backings) p.memory (p.pixels other place) (cond t new (p.pixels id place))
    (λ is.
    let same : other ≡ id = eqb-true other id is in
    subst (λ (n : ℕ). Came state.entries (entries_at n state.backings) p.memory (p.pixels n place) (cond t new (p.pixels id place))) (sym same)
    (one-came t state.entries (entries_at id state.backings) p.memory (p.pixels id place) new (λ inside. inr (inr (at, refl)))))

bound-came : (state : State) (scanout id : ℕ) (p : Painting Tag (List Tag)) → AllCame state p (bound tags scanout id p)
bound-came state scanout id p = same-came state p (bound tags scanout id p) (chosen-same (id == 0) p _ refl)

two_d-came : (state : State) (command : Command2d) (p : Painting Tag (List Tag)) → AllCame state p (commanded_2d tags state command p)
two_d-came state (Create2d id format width height) p =
    unless-came (refusal_of (create_2d_refusals state id format width height)) state p (record p { pixels = with_one id (λ place. Zero) p.pixels }) (created-came state id p)
two_d-came state (SetScanout rect scanout id) p = unless-came (refusal_of (set_scanout_refusals state rect scanout id)) state p (bound tags scanout id p) (bound-came state scanout id p)
two_d-came state (Flush rect id) p = unless-same (refusal_of (flush_refusals state rect id)) state p _ refl
two_d-came state (Transfer rect offset id) p =
    let found = resource_at id state.resources in
    let refusal = receive_refusal id rect offset state.backings found in
    let next = received tags state rect offset id found p in
    chosen-came (is_blob state id) state p (unless refusal p next) (unless-came refusal state p next (received-came state rect offset id found p))
two_d-came state _ p = same-came state p p refl

commanded-came : (state : State) (command : Command) (p : Painting Tag (List Tag)) → AllCame state p (commanded tags state command p)
commanded-came state (TwoD command) p = two_d-came state command p
commanded-came state (SetScanoutBlob rect scanout id width height format stride offset) p =
    let layout : Layout = record { width = width; height = height; format = format; stride = stride; offset = offset } in
    unless-came (refusal_of (set_scanout_blob_refusals state rect scanout id layout)) state p (bound tags scanout id p) (bound-came state scanout id p)
commanded-came state (UpdateCursor scanout x y id hot_x hot_y) p =
    unless-same (refusal_of (cursor_refusals state scanout id hot_x hot_y)) state p _ (chosen-same (id == 0) p _ refl)
commanded-came state _ p = same-came state p p refl

ran-came : (state : State) (command : Option Command) (p : Painting Tag (List Tag)) → AllCame state p (ran tags state command p)
ran-came state (Some command) p = commanded-came state command p
ran-came state None p = same-came state p p refl

requested-came : (shape : Shape) (state : State) (request : Request) (p : Painting Tag (List Tag)) → AllCame state p (requested tags shape state request p)
requested-came (Bad fault) state request p = same-came state p p refl
requested-came _ state request p =
    let command = command_of (header_of request.bytes).kind (drop 24 request.bytes) in
    unless-came (refusal_of (request_refusals state request.queue request.bytes)) state p (ran tags state command p) (ran-came state command p)

-- ---- what an act does

unless-pixels : {E : Type 0} (refusal : Option E) (p q : Painting Tag (List Tag)) → q.pixels ≡ p.pixels → (unless refusal p q).pixels ≡ p.pixels
unless-pixels (Some refusal) p q are = refl
unless-pixels None p q are = are

acted-pixels : (state : State) (client : ℕ) (act : Act) (p : Painting Tag (List Tag)) → (acted tags state client act p).pixels ≡ p.pixels
acted-pixels state client (Reserve width height format bytes) p = unless-pixels (reserve_refusal bytes state.memory) p _ refl
acted-pixels state client (Store key offset bytes times) p = unless-pixels (place_refusal client key offset (length bytes * times) state.share) p _ refl
acted-pixels state client _ p = refl

-- An entry leaves pixels as they are, or it is a command, which leaves what is shared, and each byte came so.
abbrev Moved : State → Entry → Painting Tag (List Tag) → Type 0
Moved state entry p = ((painted tags state entry p).pixels ≡ p.pixels) ⊎ (((after state entry).share ≡ state.share) × AllCame (counted state) p (painted tags state entry p))

entry-moved : (state : State) (entry : Entry) (p : Painting Tag (List Tag)) → Moved state entry p
entry-moved state (entries.Act client call act reply) p = inl (acted-pixels (counted state) client act p)
entry-moved state (entries.Command client call request reply) p =
    inr ((shaped-beside request.shape state request).share, requested-came request.shape (counted state) request p)

-- ---- a byte of a backing

-- is one of memory, in one of its ranges, or lies behind them all
pub byte-from : (memory : ℕ → Tag) (parts : List MemEntry) (at : ℕ) → (byte_of_entries tags memory parts at ≡ Zero) ⊎ ((place : ℕ) × (byte_of_entries tags memory parts at ≡ memory place) × InEntries parts place)
byte-from memory [] at = inl refl
byte-from memory (entry ∷ more) at =
    let place = entry.addr - 1048576 + at in
    elim (nat_lt at entry.length) as (λ b. nat_lt at entry.length ≡ b
    → (cond b (memory place) (byte_of_entries tags memory more (at - entry.length)) ≡ Zero)
    ⊎ ((k : ℕ) × (cond b (memory place) (byte_of_entries tags memory more (at - entry.length)) ≡ memory k) × InEntries (entry ∷ more) k)) [
      | true ↦ λ within. inr (place, refl, inl (at, ltb-true at entry.length within, refl))
      | false ↦ λ past.
          ⊎_elim (λ none. inl none) (λ some. inr (some.0, some.1, inr some.2)) (byte-from memory more (at - entry.length))
    ] refl

-- ---- the induction

-- what is copied of a buffer's byte
pub fetched-of : (setup : Setup) (H : List Entry) (key i place : ℕ) (tag : Tag) → IsAttached (state_at setup H i) key place → HasPage setup H key (place / 4096) (suc i)
    → IsOfBuffer setup H key (place / 4096) i tag → IsFetched setup H key (suc i) (fetched_by (i + 1) tag)
fetched-of setup H key i place Zero attached now is = tt
fetched-of setup H key i place Opaque attached now is = absurd is
fetched-of setup H key i place (From store page fetch show) attached now (same, none, not_shown, low, stores, had) =
    let next : i + 1 ≤ suc i = omega arith in
    let earlier : store < i + 1 = omega (arith, low) in
    let has : HadPage setup H key page store (i + 1) = λ m from to.
    subst (λ (n : ℕ). HasPage setup H key n m) (sym same)
    (elim (cases_eq m (suc i)) [
      | inl last ↦ subst (HasPage setup H key (place / 4096)) (sym last) now
      | inr before ↦ had m from (omega (arith, to, before))
    ])
    in
    (not_shown, next, record { before = i; number = refl; earlier = earlier; stored = stores; had = has; place = place; in_page = sym same; attached = attached })

pub kept-fetched : (setup : Setup) (H : List Entry) (key i : ℕ) (tag : Tag) → IsFetched setup H key i tag → IsFetched setup H key (suc i) tag
kept-fetched setup H key i Zero is = tt
kept-fetched setup H key i Opaque is = is
kept-fetched setup H key i (From store page fetch show) (none, low, fetch_is) = (none, omega (arith, low), fetch_is)

came-fetched : (setup : Setup) (H : List Entry) (i id : ℕ) → AreBacked setup H i → (state_at setup H (suc i)).share ≡ (state_at setup H i).share → (old new : Tag) → IsFetched setup H id i old
    → Came (i + 1) (entries_at id (state_at setup H i).backings) (tags_at setup H i).memory old new → IsFetched setup H id (suc i) new
came-fetched setup H i id backed same old new was (inl is) = subst (IsFetched setup H id (suc i)) (sym is) (kept-fetched setup H id i old was)
came-fetched setup H i id backed same old new was (inr (inl is)) = subst (IsFetched setup H id (suc i)) (sym is) tt
came-fetched setup H i id backed same old new was (inr (inr (at, is))) =
    let parts = entries_at id (state_at setup H i).backings in
    let memory = (tags_at setup H i).memory in
    subst (IsFetched setup H id (suc i)) (sym is)
    (⊎_elim (λ none. subst (λ (tag : Tag). IsFetched setup H id (suc i) (fetched_by (i + 1) tag)) (sym none) tt)
    (λ some.
    let place = some.0 in
    let attached : IsAttached (state_at setup H i) id place = inl some.2 in
    let has = backed id place attached in
    let now : HasPage setup H id (place / 4096) (suc i) = subst (λ (share : ShareState). is_among (pages_at id share) (place / 4096) ≡ true) (sym same) has in
    subst (λ (tag : Tag). IsFetched setup H id (suc i) (fetched_by (i + 1) tag)) (sym some.1) (fetched-of setup H id i place (memory place) attached now (of-buffer setup H i id place has)))
    (byte-from memory parts at))

pub all-fetched : (setup : Setup) (H : List Entry) → ((i : ℕ) → AreBacked setup H i) → (i id place : ℕ) → IsFetched setup H id i ((tags_at setup H i).pixels id place)
all-fetched setup H backed zero id place = tt
all-fetched setup H backed (suc i) id place =
    let was = all-fetched setup H backed i id place in
    let old = (tags_at setup H i).pixels id place in
    elim (next-moment setup H i) [
      | inl same ↦ subst (λ (es : List Entry). IsFetched setup H id (suc i) ((painting tags setup es).pixels id place)) (sym same) (kept-fetched setup H id i old was)
      | inr (entry, next) ↦
          let state = state_at setup H i in
          let p = tags_at setup H i in
          let q = painted tags state entry p in
          subst (λ (r : Painting Tag (List Tag)). IsFetched setup H id (suc i) (r.pixels id place)) (sym next.tags)
          (⊎_elim (λ stays. subst (IsFetched setup H id (suc i)) (sym (ap (λ (f : ℕ → ℕ → Tag). f id place) stays)) (kept-fetched setup H id i old was))
          (λ moves.
          let share : (state_at setup H (suc i)).share ≡ state.share = ap (λ (s : State). s.share) next.state ∙ moves.0 in
          let number : state.entries + 1 ≡ i + 1 = ap (λ (n : ℕ). n + 1) next.count in
          came-fetched setup H i id (backed i) share old (q.pixels id place) was
          (subst (λ (n : ℕ). Came n (entries_at id state.backings) p.memory old (q.pixels id place)) number (moves.1 id place)))
          (entry-moved state entry p))
    ]
