-- What an act that isn't blocked leaves of the parts that a lent job stands on.
use Rattle.std.proofs.Common.{◌≡◌, ◌≤◌, ◌<◌, inl, inr, ⊎_elim, ℕ, ◌+◌, ◌-◌, ◌*◌, ◌/◌, ◌==◌, ◌||◌, ◌&&◌, not, Bool, true, false, cond, List, [], ◌∷◌, length, Option, Some, None, ap, sym, ◌∙◌, refl, subst, arith}
use Rattle.std.specs.Prelude.{nat_le, nat_lt, slice_index}
use Rattle.std.specs.List.{list_any, position_or_len}
use Rattle.std.proofs.lemmas.Bool.{cases_lt}
use Rattle.std.proofs.lemmas.Bool.Decides.{nat_tests}
use Rattle.std.proofs.lemmas.List.{get_or_past}
use Rattle.std.proofs.lemmas.List.Folds.{list_any-append}
use Rattle.vg_laws.proofs.Bools.{or-first, or-second}
use Rattle.vg_history.specs.Lists.{Has}
use Rattle.vg_places.proofs.Places.{get_or-tabulate, length-tabulate}
use Rattle.vg_pages.specs.Memory.{Memory, free_pages, is_among, zeroed, after_taking}
use Rattle.vg_plugs.specs.Plugs.{PlugState}
use Rattle.vg_share.specs.Cells.{pages_of, place_in_buffer, repeated, stored, stored_byte}
use Rattle.vg_share.specs.declared.share.ShareRefusal.{ShareRefusal}
use Rattle.vg_share.specs.declared.share.ShareRefusal.TheVariants.{GuestFull}
use Rattle.vg_share.specs.Share.{ShareState, SharesPages, drop_refusal, export_refusal, free_refusal, given_back, import_refusal, new_pages, pages_at, place_refusal, release_refusal, reserve_refusal, take_refusal}
use Rattle.vg_share.proofs.CellLemmas.{length-repeated, length-stored}
use Rattle.vg_refusals.specs.Refusals.{refusal_of}
use Rattle.vg_client_holds.specs.declared.act.Act.{Act}
use Rattle.vg_client_holds.specs.declared.act.Act.TheVariants.{Enter, Reserve, Store, Load, Export, Import, Release, Free, Take, Drop, Await, Denied, Mode, Unplug, Sync, Events, Ack, Leave}
use Rattle.vg_client_holds.specs.declared.act.ActReply.{ActReply}
use Rattle.vg_device.specs.ActStep.{effect_of, is_in_use, replied_by, shown_at}
use Rattle.vg_device.specs.State.{State, has_resource}
use Rattle.vg_device.proofs.ActLemmas.{placed}
use Rattle.vg_pages.specs.Lending.{AreSameIn}
use Rattle.vg_machine.specs.Blocks.{blocks_act, has_lent, lent_pages}
use Rattle.vg_machine.specs.Jobs.{Job}
use Rattle.vg_machine.proofs.LeaveLemmas.{Leaves, leaves-itself, same-itself}

-- no page of a job passes a test that none of all lent pages passes
pub job-pages : (test : ℕ → Bool) (jobs : List Job) (job : Job) → list_any test (lent_pages jobs) ≡ false → Has jobs job → list_any test job.pages ≡ false
job-pages test [] job none has = absurd has
job-pages test (one ∷ more) job none (inl is) =
    subst (λ (j : Job). list_any test j.pages ≡ false) is (or-first (list_any test one.pages) (list_any test (lent_pages more)) (sym (list_any-append test one.pages (lent_pages more)) ∙ none))
job-pages test (one ∷ more) job none (inr has) =
    job-pages test more job (or-second (list_any test one.pages) (list_any test (lent_pages more)) (sym (list_any-append test one.pages (lent_pages more)) ∙ none)) has

-- nor does one of them
one-not-by : (test : ℕ → Bool) (p x : ℕ) (more : List ℕ) (b : Bool) → (x == p) ≡ b → (b || is_among more p) ≡ true → (test x || list_any test more) ≡ false
    → (list_any test more ≡ false → is_among more p ≡ true → test p ≡ false) → test p ≡ false
one-not-by test p x more true same among none rest = let is : x ≡ p = grind (arith, nat_tests) in subst (λ n. test n ≡ false) is (or-first (test x) (list_any test more) none)
one-not-by test p x more false same among none rest = rest (or-second (test x) (list_any test more) none) among

pub one-not : (test : ℕ → Bool) (pages : List ℕ) (p : ℕ) → list_any test pages ≡ false → is_among pages p ≡ true → test p ≡ false
one-not test [] p none among = cc
one-not test (x ∷ more) p none among = one-not-by test p x more (x == p) refl among none (one-not test more p)

true-not : {P : Type 0} → ◌≡◌ {A = Bool} true false → P
true-not same = cc

pages-apart-by : (jobs : List Job) (job : Job) (pages : List ℕ) (p : ℕ) (b : Bool) → is_among pages p ≡ b → has_lent jobs pages ≡ false → Has jobs job → is_among job.pages p ≡ true → is_among pages p ≡ false
pages-apart-by jobs job pages p false is none has among = is
pages-apart-by jobs job pages p true is none has among =
    true-not (sym among ∙ job-pages (λ one. one == p) jobs job (one-not (is_among (lent_pages jobs)) pages p none is) has)

pub pages-apart : (jobs : List Job) (job : Job) (pages : List ℕ) → has_lent jobs pages ≡ false → Has jobs job → (p : ℕ) → is_among job.pages p ≡ true → is_among pages p ≡ false
pages-apart jobs job pages none has p among = pages-apart-by jobs job pages p (is_among pages p) refl none has among

-- the bytes of a page that isn't among those that are zeroed
zeroed-apart : (pages bytes : List ℕ) (place : ℕ) → is_among pages (place / 4096) ≡ false → slice_index (zeroed pages bytes) place ≡ slice_index bytes place
unfolding zeroed
zeroed-apart pages bytes place apart = ⊎_elim
    (λ (inside : place < length bytes). get_or-tabulate (λ at. cond (is_among pages (at / 4096)) 0 (slice_index bytes at)) (length bytes) place 0 inside ∙ ap (λ b. cond b 0 (slice_index bytes place)) apart)
    (λ (past : length bytes ≤ place). get_or_past _ place 0 (subst (λ n. n ≤ place) (sym (length-tabulate (λ at. cond (is_among pages (at / 4096)) 0 (slice_index bytes at)) (length bytes))) past) ∙ sym (get_or_past bytes place 0 past))
    (cases_lt place (length bytes))

length-zeroed : (pages bytes : List ℕ) → length (zeroed pages bytes) ≡ length bytes
unfolding zeroed
length-zeroed pages bytes = length-tabulate _ (length bytes)

position-none : (test : ℕ → Bool) (xs : List ℕ) → list_any test xs ≡ false → position_or_len test xs ≡ length xs
position-none test [] none = refl
position-none test (x ∷ xs) none =
    ap (λ b. cond (not b) (1 + position_or_len test xs) 0) (or-first (test x) (list_any test xs) none)
    ∙ omega (arith, position-none test xs (or-second (test x) (list_any test xs) none))

and-false : (a b : Bool) (x y : ℕ) → b ≡ false → cond (a && b) x y ≡ y
and-false true b x y is = ap (λ c. cond c x y) is
and-false false b x y is = refl

-- and of one that isn't among those of a buffer that is stored to
stored-apart : (pages : List ℕ) (offset : ℕ) (piece bytes : List ℕ) (place : ℕ) → is_among pages (place / 4096) ≡ false → offset + length piece ≤ 4096 * length pages
    → slice_index (stored pages offset piece bytes) place ≡ slice_index bytes place
unfolding stored
stored-apart pages offset piece bytes place apart inside =
    let none = position-none (λ page. page == place / 4096) pages apart in
    let far : nat_lt (place_in_buffer pages place) (offset + length piece) ≡ false = grind (arith, nat_tests, none, inside) in
    let same : stored_byte pages offset piece bytes place ≡ slice_index bytes place =
    and-false (nat_le offset (place_in_buffer pages place)) (nat_lt (place_in_buffer pages place) (offset + length piece)) (slice_index piece (place_in_buffer pages place - offset)) (slice_index bytes place) far in
    ⊎_elim
    (λ (within : place < length bytes). get_or-tabulate (stored_byte pages offset piece bytes) (length bytes) place 0 within ∙ same)
    (λ (past : length bytes ≤ place). get_or_past _ place 0 (subst (λ n. n ≤ place) (sym (length-tabulate (stored_byte pages offset piece bytes) (length bytes))) past) ∙ sym (get_or_past bytes place 0 past))
    (cases_lt place (length bytes))

same-taken : (jobs : List Job) (job : Job) (memory : Memory) (pages : List ℕ) → has_lent jobs pages ≡ false → Has jobs job → AreSameIn job.pages memory (after_taking memory pages)
same-taken jobs job memory pages none has = record {
  size = length-zeroed pages memory.bytes;
  each = λ place among. zeroed-apart pages memory.bytes place (pages-apart jobs job pages none has (place / 4096) among);
}

same-stored : (jobs : List Job) (job : Job) (memory : Memory) (pages : List ℕ) (offset : ℕ) (piece : List ℕ) → has_lent jobs pages ≡ false → Has jobs job
    → offset + length piece ≤ 4096 * length pages → AreSameIn job.pages memory (record memory { bytes = stored pages offset piece memory.bytes })
same-stored jobs job memory pages offset piece none has inside = record {
  size = length-stored pages offset piece memory.bytes;
  each = λ place among. stored-apart pages offset piece memory.bytes place (pages-apart jobs job pages none has (place / 4096) among) inside;
}

leaves-replied : (refusal : Option ShareRefusal) (state next : State) (reply : ActReply) (job : Job) → (refusal ≡ None → Leaves state next job) → Leaves state (replied_by refusal state next reply).0 job
leaves-replied (Some refusal) state next reply job leaves = leaves-itself state job
leaves-replied None state next reply job leaves = leaves refl

leaves-share : (state : State) (job : Job) (now : ShareState) → Leaves state (record state { share = now }) job
leaves-share state job now = record { setup = refl; resource = refl; blob = refl; backing = refl; memory = same-itself job.pages state.memory; context = λ names live. live }

leaves-plugs : (state : State) (job : Job) (now : PlugState) → Leaves state (record state { plugs = now }) job
leaves-plugs state job now = record { setup = refl; resource = refl; blob = refl; backing = refl; memory = same-itself job.pages state.memory; context = λ names live. live }

leaves-memory : (state : State) (job : Job) (memory : Memory) (share : ShareState) → AreSameIn job.pages state.memory memory → Leaves state (record state { memory = memory; share = share }) job
leaves-memory state job memory share same = record { setup = refl; resource = refl; blob = refl; backing = refl; memory = same; context = λ names live. live }

-- a reserve that isn't refused has its pages
enough-free : (jobs : List Job) (bytes : ℕ) (memory : Memory) → reserve_refusal bytes memory ≡ None
    → cond (nat_lt (length (free_pages memory.taken)) (pages_of bytes)) false (has_lent jobs (new_pages bytes memory)) ≡ false → has_lent jobs (new_pages bytes memory) ≡ false
enough-free jobs bytes memory none free = by (nat_lt (length (free_pages memory.taken)) (pages_of bytes)) none free
  where
    by : (b : Bool) → refusal_of ((b, GuestFull (length (free_pages memory.taken))) ∷ []) ≡ None → cond b false (has_lent jobs (new_pages bytes memory)) ≡ false → has_lent jobs (new_pages bytes memory) ≡ false
    by true none free = cc
    by false none free = free

pub leaves-effect : (jobs : List Job) (state : State) (job : Job) → Has jobs job → SharesPages state.memory state.share → (client : ℕ) (act : Act) → blocks_act jobs state act ≡ false
    → Leaves state (effect_of state client act).0 job
leaves-effect jobs state job has shares client Enter free = leaves-itself state job
leaves-effect jobs state job has shares client (Reserve width height format bytes) free =
    leaves-replied (reserve_refusal bytes state.memory) state _ _ job
    (λ none. leaves-memory state job _ _ (same-taken jobs job state.memory (new_pages bytes state.memory) (enough-free jobs bytes state.memory none free) has))
leaves-effect jobs state job has shares client (Store key offset bytes times) free =
    leaves-replied (place_refusal client key offset (length bytes * times) state.share) state _ _ job
    (λ none. leaves-memory state job _ state.share (same-stored jobs job state.memory (pages_at key state.share) offset (repeated bytes times) free has
    (subst (λ n. offset + n ≤ 4096 * length (pages_at key state.share)) (sym (length-repeated bytes times))
    (placed state.memory client key offset (length bytes * times) state.share none shares).inside)))
leaves-effect jobs state job has shares client (Load key offset n) free = leaves-replied (place_refusal client key offset n state.share) state _ _ job (λ none. leaves-itself state job)
leaves-effect jobs state job has shares client (Export key) free = leaves-replied (export_refusal client key state.share) state _ _ job (λ none. leaves-share state job _)
leaves-effect jobs state job has shares client (Import token) free = leaves-replied (import_refusal token state.share) state _ _ job (λ none. leaves-share state job _)
leaves-effect jobs state job has shares client (Release key) free = leaves-replied (release_refusal client key (shown_at client key state) state.share) state _ _ job (λ none. leaves-share state job _)
leaves-effect jobs state job has shares client (Free key) free =
    leaves-replied (free_refusal client key (has_resource state key) state.share) state _ _ job
    (λ none. leaves-memory state job (given_back (pages_at key state.share) state.memory) _ (record { size = refl; each = λ place among. refl }))
leaves-effect jobs state job has shares client (Take scanout) free = leaves-replied (take_refusal scanout state.share) state _ _ job (λ none. leaves-share state job _)
leaves-effect jobs state job has shares client (Drop scanout) free = leaves-replied (drop_refusal client scanout (is_in_use state scanout) state.share) state _ _ job (λ none. leaves-share state job _)
leaves-effect jobs state job has shares client (Await lane ordinal) free = leaves-itself state job
leaves-effect jobs state job has shares client (Denied what) free = leaves-itself state job
leaves-effect jobs state job has shares client (Mode scanout width height) free = leaves-plugs state job _
leaves-effect jobs state job has shares client (Unplug scanout) free = leaves-plugs state job _
leaves-effect jobs state job has shares client (Sync number) free = leaves-itself state job
leaves-effect jobs state job has shares client Events free = leaves-itself state job
leaves-effect jobs state job has shares client Ack free = leaves-plugs state job _
leaves-effect jobs state job has shares client Leave free = leaves-share state job _
