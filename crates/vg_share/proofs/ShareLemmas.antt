-- Buffers and guest memory go on to fit.
use Rattle.std.proofs.Common.{◌≡◌, ℕ, ◌+◌, ◌<◌, ◌≤◌, ◌==◌, ◌||◌, Bool, true, false, cond, not, List, [], ◌∷◌, ◌++◌, Option, Some, None, Greater, length, get_or, slice_get, slice_index_or, replicate, sym, ap, subst, ◌∙◌, refl, inl, inr, suc, arith}
use Rattle.std.specs.List.{All, AllPairs, list_any}
use Rattle.std.specs.Ordering.{nat_cmp, match_ordering}
use Rattle.std.specs.Cmp.{nat_cmp_is}
use Rattle.std.specs.Map.{lookup, remove_entry, set_value}
use Rattle.std.specs.BTreeMap.{insert_entry, is_at}
use Rattle.std.proofs.lemmas.Bool.{cases_Bool, eqb-true, eq-eqb, not-true}
use Rattle.std.proofs.lemmas.List.{length_push, get_or_push, length-replicate, get_or-replicate}
use Rattle.std.proofs.lemmas.List.Elements.{All-nil, All-cons, All-head, All-tail, All-push, All-weaker}
use Rattle.std.proofs.lemmas.List.Folds.{Any-from_list_any, list_any_at, list_any-append}
use Rattle.std.proofs.lemmas.List.Kept.{AllPairs-cons}
use Rattle.std.proofs.lemmas.List.Quantifiers.{all_pairs_push}
use Rattle.std.proofs.lemmas.Option.{slice_get-get_or, slice_get_within, get_or_from_slice_get}
use Rattle.vg_places.proofs.Places.{length-tabulate, slice_get-tabulate}
use Rattle.vg_pages.specs.Memory.{AreGivable, AreTakeable, Memory, fresh_memory, is_among, is_free, marked}
use Rattle.vg_share.specs.declared.share.Buffer.{Buffer}
use Rattle.vg_share.specs.declared.share.Geometry.{Geometry}
use Rattle.vg_share.specs.Cells.{pages_of}
use Rattle.vg_share.specs.Share.{HaveNoPageInCommon, SharesPages, ShareState, imported_buffer, imported_entries, released_buffer, released_entries}

-- ---- lists

pairs_head : {X : Type 0} (R : X → X → Type 0) (x : X) (xs : List X) → AllPairs R (x ∷ xs) → All (R x) xs
pairs_head R x xs pairs = λ k d within. pairs 0 (suc k) d (omega arith) (omega (arith, within))

pairs_tail : {X : Type 0} (R : X → X → Type 0) (x : X) (xs : List X) → AllPairs R (x ∷ xs) → AllPairs R xs
pairs_tail R x xs pairs = λ i j d order within. pairs (suc i) (suc j) d (omega (arith, order)) (omega (arith, within))

-- ---- an entry's value is written

All-set_value : {K X : Type 0} (P : K × X → Type 0) (test : K → Bool) (es : List (K × X)) (old new : X) → ((key : K) → P (key, old) → P (key, new))
    → lookup test es ≡ Some old → All P es → All P (set_value test es new)
All-set_value P test [] old new same found all = All-nil P
All-set_value {K} {X} P test (e ∷ es) old new same found all =
    elim (test e.0) as (λ t. cond t (Some e.1) (lookup test es) ≡ Some old → All P (cond t ((e.0, new) ∷ es) (e ∷ set_value test es new))) [
      | true ↦ λ here.
          let value : e.1 ≡ old = cc in
          All-cons P (e.0, new) es (same e.0 (subst (λ v. P (e.0, v)) value (All-head P e es all))) (All-tail P e es all)
      | false ↦ λ later. All-cons P e (set_value test es new) (All-head P e es all) (All-set_value P test es old new same later (All-tail P e es all))
    ] found

AllPairs-set_value : {K X : Type 0} (R : K × X → K × X → Type 0) (test : K → Bool) (es : List (K × X)) (old new : X)
    → ((key : K) (x : K × X) → R (key, old) x → R (key, new) x) → ((x : K × X) (key : K) → R x (key, old) → R x (key, new))
    → lookup test es ≡ Some old → AllPairs R es → AllPairs R (set_value test es new)
AllPairs-set_value R test [] old new left right found pairs = pairs
AllPairs-set_value {K} {X} R test (e ∷ es) old new left right found pairs =
    elim (test e.0) as (λ t. cond t (Some e.1) (lookup test es) ≡ Some old → AllPairs R (cond t ((e.0, new) ∷ es) (e ∷ set_value test es new))) [
      | true ↦ λ here.
          let value : e.1 ≡ old = cc in
          AllPairs-cons R (e.0, new) es
          (All-weaker (R e) (R (e.0, new)) (λ x r. left e.0 x (subst (λ v. R (e.0, v) x) value r)) es (pairs_head R e es pairs))
          (pairs_tail R e es pairs)
      | false ↦ λ later.
          AllPairs-cons R e (set_value test es new)
          (All-set_value (R e) test es old new (right e) later (pairs_head R e es pairs))
          (AllPairs-set_value R test es old new left right later (pairs_tail R e es pairs))
    ] found

any-set_value : {K X : Type 0} (p : K × X → Bool) (test : K → Bool) (es : List (K × X)) (old new : X) → ((key : K) → p (key, new) ≡ p (key, old))
    → lookup test es ≡ Some old → list_any p (set_value test es new) ≡ list_any p es
any-set_value p test [] old new same found = refl
any-set_value {K} {X} p test (e ∷ es) old new same found =
    elim (test e.0) as (λ t. cond t (Some e.1) (lookup test es) ≡ Some old → list_any p (cond t ((e.0, new) ∷ es) (e ∷ set_value test es new)) ≡ (p e || list_any p es)) [
      | true ↦ λ here.
          let value : e.1 ≡ old = cc in
          ap (λ b. b || list_any p es) (same e.0 ∙ ap (λ v. p (e.0, v)) (sym value))
      | false ↦ λ later. ap (λ b. p e || b) (any-set_value p test es old new same later)
    ] found

-- ---- an entry is removed

All-remove_entry : {K X : Type 0} (P : K × X → Type 0) (test : K → Bool) (es : List (K × X)) → All P es → All P (remove_entry test es)
All-remove_entry P test [] all = all
All-remove_entry P test (e ∷ es) all =
    elim (test e.0) as (λ t. All P (cond t es (e ∷ remove_entry test es))) [
      | true ↦ All-tail P e es all
      | false ↦ All-cons P e (remove_entry test es) (All-head P e es all) (All-remove_entry P test es (All-tail P e es all))
    ]

AllPairs-remove_entry : {K X : Type 0} (R : K × X → K × X → Type 0) (test : K → Bool) (es : List (K × X)) → AllPairs R es → AllPairs R (remove_entry test es)
AllPairs-remove_entry R test [] pairs = pairs
AllPairs-remove_entry R test (e ∷ es) pairs =
    elim (test e.0) as (λ t. AllPairs R (cond t es (e ∷ remove_entry test es))) [
      | true ↦ pairs_tail R e es pairs
      | false ↦
          AllPairs-cons R e (remove_entry test es)
          (All-remove_entry (R e) test es (pairs_head R e es pairs))
          (AllPairs-remove_entry R test es (pairs_tail R e es pairs))
    ]

any-remove_entry : {K X : Type 0} (p : K × X → Bool) (test : K → Bool) (es : List (K × X)) (old : X) → ((key : K) → p (key, old) ≡ false)
    → lookup test es ≡ Some old → list_any p es ≡ list_any p (remove_entry test es)
any-remove_entry p test [] old other found = refl
any-remove_entry {K} {X} p test (e ∷ es) old other found =
    elim (test e.0) as (λ t. cond t (Some e.1) (lookup test es) ≡ Some old → (p e || list_any p es) ≡ list_any p (cond t es (e ∷ remove_entry test es))) [
      | true ↦ λ here.
          let value : e.1 ≡ old = cc in
          ap (λ b. b || list_any p es) (ap (λ v. p (e.0, v)) value ∙ other e.0)
      | false ↦ λ later. ap (λ b. p e || b) (any-remove_entry p test es old other later)
    ] found

-- what holds of each entry holds of the one that a look-up finds
All-found : {K X : Type 0} (P : K × X → Type 0) (test : K → Bool) (es : List (K × X)) (old : X) → lookup test es ≡ Some old → All P es → (Q : Type 0) → ((key : K) → P (key, old) → Q) → Q
All-found P test [] old found all Q gives = absurd (cc)
All-found {K} {X} P test (e ∷ es) old found all Q gives =
    elim (test e.0) as (λ t. cond t (Some e.1) (lookup test es) ≡ Some old → Q) [
      | true ↦ λ here.
          let value : e.1 ≡ old = cc in
          gives e.0 (subst (λ v. P (e.0, v)) value (All-head P e es all))
      | false ↦ λ later. All-found P test es old later (All-tail P e es all) Q gives
    ] found

-- what holds of the entry removed and of each other one
All-beside : {K X : Type 0} (R : K × X → K × X → Type 0) (Q : X → K × X → Type 0) (test : K → Bool) (es : List (K × X)) (old : X)
    → ((key : K) (x : K × X) → R (key, old) x → Q old x) → ((x : K × X) (key : K) → R x (key, old) → Q old x)
    → lookup test es ≡ Some old → AllPairs R es → All (Q old) (remove_entry test es)
All-beside R Q test [] old after before found pairs = All-nil (Q old)
All-beside {K} {X} R Q test (e ∷ es) old after before found pairs =
    elim (test e.0) as (λ t. cond t (Some e.1) (lookup test es) ≡ Some old → All (Q old) (cond t es (e ∷ remove_entry test es))) [
      | true ↦ λ here.
          let value : e.1 ≡ old = cc in
          All-weaker (R e) (Q old) (λ x r. after e.0 x (subst (λ v. R (e.0, v) x) value r)) es (pairs_head R e es pairs)
      | false ↦ λ later.
          All-cons (Q old) e (remove_entry test es)
          (All-found (R e) test es old later (pairs_head R e es pairs) (Q old e) (before e))
          (All-beside R Q test es old after before later (pairs_tail R e es pairs))
    ] found

-- ---- an entry is added whose key is above the others

insert-last : {X : Type 0} (es : List (ℕ × X)) (n : ℕ) (v : X) → All (λ e. e.0 ≤ n) es → insert_entry nat_cmp es (n + 1) v ≡ es ++ (n + 1, v) ∷ []
insert-last [] n v below = refl
insert-last {X} (e ∷ es) n v below =
    let low : e.0 ≤ n = All-head (λ (x : ℕ × X). x.0 ≤ n) e es below in
    let above : nat_cmp (n + 1) e.0 ≡ Greater = sym (nat_cmp_is (n + 1) e.0 Greater (omega (arith, low))) in
    ap (λ o. match_ordering o ((n + 1, v) ∷ e ∷ es) ((e.0, v) ∷ es) (e ∷ insert_entry nat_cmp es (n + 1) v)) above
    ∙ ap (λ (rest : List (ℕ × X)). e ∷ rest) (insert-last es n v (All-tail (λ (x : ℕ × X). x.0 ≤ n) e es below))

-- ---- pages

among-at : (pages : List ℕ) (k d : ℕ) → k < length pages → is_among pages (get_or pages k d) ≡ true
among-at pages k d within = list_any_at (λ one. one == get_or pages k d) pages k d within (eq-eqb (get_or pages k d) (get_or pages k d) refl)

-- a page that is among them has what all of them have
among-all : (P : ℕ → Type 0) (pages : List ℕ) (page : ℕ) → All P pages → is_among pages page ≡ true → P page
among-all P pages page all among =
    let any = Any-from_list_any (λ one. one == page) pages among in
    let same : get_or pages any.0 any.1 ≡ page = any.3 ∙ eqb-true any.1 page any.4 in
    subst P same (all any.0 any.1 any.2)

apart-sym : (xs ys : List ℕ) → All (λ page. is_among ys page ≡ false) xs → All (λ page. is_among xs page ≡ false) ys
apart-sym xs ys apart = λ k d within.
    elim (cases_Bool (is_among xs (get_or ys k d))) [
      | inl among ↦
          let not_there : is_among ys (get_or ys k d) ≡ false = among-all (λ page. is_among ys page ≡ false) xs (get_or ys k d) apart among in
          let there = among-at ys k d within in
          absurd (cc)
      | inr other ↦ other
    ]

-- ---- flags

marked-inside : (pages : List ℕ) (now : Bool) (taken : List Bool) (page : ℕ) (b : Bool) → slice_get (marked pages now taken) page ≡ Some b → page < length taken
unfolding marked
marked-inside pages now taken page b found =
    let flag : ℕ → Bool = λ place. cond (is_among pages place) now (slice_index_or taken place now) in
    omega (arith, slice_get_within (marked pages now taken) page b found, length-tabulate flag (length taken))

marked-at : (pages : List ℕ) (now : Bool) (taken : List Bool) (page : ℕ) → page < length taken → slice_get (marked pages now taken) page ≡ Some (cond (is_among pages page) now (slice_index_or taken page now))
unfolding marked
marked-at pages now taken page inside = slice_get-tabulate (λ place. cond (is_among pages place) now (slice_index_or taken place now)) (length taken) page inside

-- a page that is taken after these were taken, and that is none of them, was taken
taken-before : (pages : List ℕ) (taken : List Bool) (page : ℕ) → slice_get (marked pages true taken) page ≡ Some true → is_among pages page ≡ false → slice_get taken page ≡ Some true
taken-before pages taken page found other =
    let inside = marked-inside pages true taken page true found in
    let both : Some (cond (is_among pages page) true (slice_index_or taken page true)) ≡ Some true = sym (marked-at pages true taken page inside) ∙ found in
    let flag : cond (is_among pages page) true (slice_index_or taken page true) ≡ true = cc in
    slice_get-get_or taken page true inside ∙ ap Some (ap (λ b. cond b true (slice_index_or taken page true)) (sym other) ∙ flag)

-- a page that is taken after these were given back is none of them, and was taken
still-taken : (pages : List ℕ) (taken : List Bool) (page : ℕ) → slice_get (marked pages false taken) page ≡ Some true → (is_among pages page ≡ false) × (slice_get taken page ≡ Some true)
still-taken pages taken page found =
    let inside = marked-inside pages false taken page true found in
    let both : Some (cond (is_among pages page) false (slice_index_or taken page false)) ≡ Some true = sym (marked-at pages false taken page inside) ∙ found in
    let flag : cond (is_among pages page) false (slice_index_or taken page false) ≡ true = cc in
    elim (cases_Bool (is_among pages page)) [
      | inl among ↦
          let off = ap (λ b. cond b false (slice_index_or taken page false)) (sym among) ∙ flag in
          absurd (cc)
      | inr other ↦
          (other, slice_get-get_or taken page false inside ∙ ap Some (ap (λ b. cond b false (slice_index_or taken page false)) (sym other) ∙ flag))
    ]

-- free pages are none of those that are taken
free-apart : (taken : List Bool) (free mine : List ℕ) → AreTakeable taken free → AreGivable taken mine → All (λ page. is_among free page ≡ false) mine
free-apart taken free mine takeable givable = λ k d within.
    let page = get_or mine k d in
    elim (cases_Bool (is_among free page)) [
      | inl among ↦
          let is : not (slice_index_or taken page true) ≡ true = among-all (λ one. is_free taken one ≡ true) free page takeable.all_free among in
          let off = not-true (slice_index_or taken page true) is in
          let on = get_or_from_slice_get taken page true true (givable.all_taken k d within) in
          absurd (cc)
      | inr other ↦ other
    ]

-- ---- the changes

-- a buffer's holders change
shares-held : (memory : Memory) (buffers : List (ℕ × Buffer)) (reserved : ℕ) (exports : List ℕ) (leases : List (Option ℕ)) (clients : List (ℕ × Bool)) (test : ℕ → Bool) (buffer new : Buffer)
    → lookup test buffers ≡ Some buffer → new.pages ≡ buffer.pages → new.geometry ≡ buffer.geometry
    → SharesPages memory (record { buffers = buffers; reserved = reserved; exports = exports; leases = leases; clients = clients })
    → SharesPages memory (record { buffers = set_value test buffers new; reserved = reserved; exports = exports; leases = leases; clients = clients })
shares-held memory buffers reserved exports leases clients test buffer new found pages geometry shares = record {
  taken = All-set_value (λ entry. AreGivable memory.taken entry.1.pages) test buffers buffer new (λ key fact. subst (AreGivable memory.taken) (sym pages) fact) found shares.taken;
  enough = All-set_value (λ entry. length entry.1.pages ≡ pages_of entry.1.geometry.bytes) test buffers buffer new
      (λ key fact. ap length pages ∙ fact ∙ ap (λ (g : Geometry). pages_of g.bytes) (sym geometry)) found shares.enough;
  apart = AllPairs-set_value HaveNoPageInCommon test buffers buffer new
      (λ key x fact. subst (λ mine. All (λ page. is_among x.1.pages page ≡ false) mine) (sym pages) fact)
      (λ x key fact. subst (λ mine. All (λ page. is_among mine page ≡ false) x.1.pages) (sym pages) fact) found shares.apart;
  owned = λ page taken. any-set_value (λ entry. is_among entry.1.pages page) test buffers buffer new (λ key. ap (λ mine. is_among mine page) pages) found ∙ shares.owned page taken;
  given = All-set_value (λ entry. entry.0 ≤ reserved) test buffers buffer new (λ key fact. fact) found shares.given;
}

-- a hold is given up
pub shares-released : (memory : Memory) (buffers after : List (ℕ × Buffer)) (reserved : ℕ) (exports : List ℕ) (leases : List (Option ℕ)) (clients : List (ℕ × Bool)) (client key : ℕ)
    → after ≡ released_entries client key (lookup (is_at (nat_cmp key)) buffers) buffers
    → SharesPages memory (record { buffers = buffers; reserved = reserved; exports = exports; leases = leases; clients = clients })
    → SharesPages memory (record { buffers = after; reserved = reserved; exports = exports; leases = leases; clients = clients })
shares-released memory buffers after reserved exports leases clients client key is shares =
    let test = is_at (nat_cmp key) in
    let whole : List (ℕ × Buffer) → Type 0 = λ es. SharesPages memory (record { buffers = es; reserved = reserved; exports = exports; leases = leases; clients = clients }) in
    elim (lookup test buffers) as (λ found. lookup test buffers ≡ found → after ≡ released_entries client key found buffers → whole after) [
      | Some buffer ↦ λ found same. subst whole (sym same) (shares-held memory buffers reserved exports leases clients test buffer (released_buffer client buffer) found refl refl shares)
      | None ↦ λ found same. subst whole (sym same) shares
    ] refl is

-- a hold more
pub shares-imported : (memory : Memory) (buffers after : List (ℕ × Buffer)) (reserved : ℕ) (exports : List ℕ) (leases : List (Option ℕ)) (clients : List (ℕ × Bool)) (client key : ℕ)
    → after ≡ imported_entries client key (lookup (is_at (nat_cmp key)) buffers) buffers
    → SharesPages memory (record { buffers = buffers; reserved = reserved; exports = exports; leases = leases; clients = clients })
    → SharesPages memory (record { buffers = after; reserved = reserved; exports = exports; leases = leases; clients = clients })
shares-imported memory buffers after reserved exports leases clients client key is shares =
    let test = is_at (nat_cmp key) in
    let whole : List (ℕ × Buffer) → Type 0 = λ es. SharesPages memory (record { buffers = es; reserved = reserved; exports = exports; leases = leases; clients = clients }) in
    elim (lookup test buffers) as (λ found. lookup test buffers ≡ found → after ≡ imported_entries client key found buffers → whole after) [
      | Some buffer ↦ λ found same. subst whole (sym same) (shares-held memory buffers reserved exports leases clients test buffer (imported_buffer client buffer) found refl refl shares)
      | None ↦ λ found same. subst whole (sym same) shares
    ] refl is

-- a token more
pub shares-exports : (memory : Memory) (share : ShareState) (exports : List ℕ) → SharesPages memory share → SharesPages memory (record share { exports = exports })
shares-exports memory share exports were = record { taken = were.taken; enough = were.enough; apart = were.apart; owned = were.owned; given = were.given }

-- the pages of a live buffer may be given back
pub live-givable : (memory : Memory) (share : ShareState) (test : ℕ → Bool) (buffer : Buffer) (list : List ℕ)
    → lookup test share.buffers ≡ Some buffer → list ≡ buffer.pages → SharesPages memory share → AreGivable memory.taken list
live-givable memory share test buffer list found same shares =
    subst (AreGivable memory.taken) (sym same)
    (All-found (λ entry. AreGivable memory.taken entry.1.pages) test share.buffers buffer found shares.taken (AreGivable memory.taken buffer.pages) (λ key fact. fact))

-- a buffer's pages are given back
pub shares-freed : (memory now : Memory) (buffers after : List (ℕ × Buffer)) (reserved : ℕ) (exports : List ℕ) (leases : List (Option ℕ)) (clients : List (ℕ × Bool)) (test : ℕ → Bool) (buffer : Buffer) (list : List ℕ)
    → lookup test buffers ≡ Some buffer
    → list ≡ buffer.pages
    → now.taken ≡ marked list false memory.taken
    → ((mine : List ℕ) → AreGivable memory.taken mine → All (λ page. is_among list page ≡ false) mine → AreGivable now.taken mine)
    → after ≡ remove_entry test buffers
    → SharesPages memory (record { buffers = buffers; reserved = reserved; exports = exports; leases = leases; clients = clients })
    → SharesPages now (record { buffers = after; reserved = reserved; exports = exports; leases = leases; clients = clients })
shares-freed memory now buffers after reserved exports leases clients test buffer list found same flags others rest_is shares =
    let rest = remove_entry test buffers in
    let whole : List (ℕ × Buffer) → Type 0 = λ es. SharesPages now (record { buffers = es; reserved = reserved; exports = exports; leases = leases; clients = clients }) in
    let beside : All (λ (entry : ℕ × Buffer). All (λ page. is_among buffer.pages page ≡ false) entry.1.pages) rest =
    All-beside HaveNoPageInCommon (λ old entry. All (λ page. is_among old.pages page ≡ false) entry.1.pages) test buffers buffer
    (λ key x apart. apart-sym buffer.pages x.1.pages apart) (λ x key apart. apart) found shares.apart
    in
    let kept : All (λ (entry : ℕ × Buffer). AreGivable memory.taken entry.1.pages) rest = All-remove_entry (λ entry. AreGivable memory.taken entry.1.pages) test buffers shares.taken in
    subst whole (sym rest_is) (record {
      taken = λ k d within.
          let pages = (get_or rest k d).1.pages in
          others pages (kept k d within) (subst (λ given. All (λ page. is_among given page ≡ false) pages) (sym same) (beside k d within));
      enough = All-remove_entry (λ entry. length entry.1.pages ≡ pages_of entry.1.geometry.bytes) test buffers shares.enough;
      apart = AllPairs-remove_entry HaveNoPageInCommon test buffers shares.apart;
      owned = λ page is.
          let still = still-taken list memory.taken page (subst (λ all. slice_get all page ≡ Some true) flags is) in
          let other : is_among buffer.pages page ≡ false = subst (λ given. is_among given page ≡ false) same still.0 in
          sym (any-remove_entry (λ entry. is_among entry.1.pages page) test buffers buffer (λ key. other) found) ∙ shares.owned page still.1;
      given = All-remove_entry (λ entry. entry.0 ≤ reserved) test buffers shares.given;
    })

-- a new buffer has pages that were free
pub shares-reserved : (memory now : Memory) (buffers after : List (ℕ × Buffer)) (reserved key : ℕ) (exports : List ℕ) (leases : List (Option ℕ)) (clients : List (ℕ × Bool)) (buffer : Buffer)
    → AreTakeable memory.taken buffer.pages
    → length buffer.pages ≡ pages_of buffer.geometry.bytes
    → now.taken ≡ marked buffer.pages true memory.taken
    → AreGivable now.taken buffer.pages
    → ((mine : List ℕ) → AreGivable memory.taken mine → AreGivable now.taken mine)
    → key ≡ reserved + 1
    → after ≡ insert_entry nat_cmp buffers key buffer
    → SharesPages memory (record { buffers = buffers; reserved = reserved; exports = exports; leases = leases; clients = clients })
    → SharesPages now (record { buffers = after; reserved = key; exports = exports; leases = leases; clients = clients })
shares-reserved memory now buffers after reserved key exports leases clients buffer takeable enough flags givable others next inserted shares =
    let pages = buffer.pages in
    let new : ℕ × Buffer = (reserved + 1, buffer) in
    let has : ℕ → ℕ × Buffer → Bool = λ page entry. is_among entry.1.pages page in
    let whole : List (ℕ × Buffer) → ℕ → Type 0 = λ es n. SharesPages now (record { buffers = es; reserved = n; exports = exports; leases = leases; clients = clients }) in
    let last : after ≡ buffers ++ new ∷ [] = inserted ∙ ap (λ n. insert_entry nat_cmp buffers n buffer) next ∙ insert-last buffers reserved buffer shares.given in
    subst (λ n. whole after n) (sym next) (subst (λ es. whole es (reserved + 1)) (sym last) (record {
      taken = All-push (λ entry. AreGivable now.taken entry.1.pages) buffers new
          (λ k d within. others (get_or buffers k d).1.pages (shares.taken k d within)) givable;
      enough = All-push (λ entry. length entry.1.pages ≡ pages_of entry.1.geometry.bytes) buffers new shares.enough enough;
      apart = all_pairs_push HaveNoPageInCommon buffers new shares.apart (λ k d within.
          free-apart memory.taken pages (get_or buffers k d).1.pages takeable (shares.taken k d within));
      owned = λ page is.
          elim (cases_Bool (is_among pages page)) [
            | inl among ↦
                list_any_at (has page) (buffers ++ new ∷ []) (length buffers) new (omega (arith, length_push buffers new))
                (ap (has page) (get_or_push buffers new new (length buffers) refl) ∙ among)
            | inr other ↦
                list_any-append (has page) buffers (new ∷ [])
                ∙ ap (λ b. b || list_any (has page) (new ∷ [])) (shares.owned page (taken-before pages memory.taken page (subst (λ all. slice_get all page ≡ Some true) flags is) other))
          ];
      given = All-push (λ entry. entry.0 ≤ reserved + 1) buffers new (λ k d within. omega (arith, shares.given k d within)) (omega arith);
    }))

-- no buffers, and memory of which no page is taken
pub shares-fresh : (count : ℕ) (leases : List (Option ℕ)) (clients : List (ℕ × Bool)) → SharesPages (fresh_memory count) (record { buffers = []; reserved = 0; exports = []; leases = leases; clients = clients })
unfolding fresh_memory
shares-fresh count leases clients = record {
  taken = All-nil (λ (entry : ℕ × Buffer). AreGivable (replicate count false) entry.1.pages);
  enough = All-nil (λ (entry : ℕ × Buffer). length entry.1.pages ≡ pages_of entry.1.geometry.bytes);
  apart = λ i j d order within. absurd (omega (arith, within));
  owned = λ page is.
      let inside : page < count = omega (arith, slice_get_within (replicate count false) page true is, length-replicate count false) in
      let on : get_or (replicate count false) page true ≡ true = get_or_from_slice_get (replicate count false) page true true is in
      let off : get_or (replicate count false) page true ≡ false = get_or-replicate count page false true inside in
      absurd (cc);
  given = All-nil (λ (entry : ℕ × Buffer). entry.0 ≤ 0);
}
