-- The tables of a client's own pages.
use Rattle.std.proofs.Common.{◌≡◌, ◌<◌, ◌≤◌, ◌+◌, ◌-◌, ℕ, zero, suc, Bool, true, false, cond, not, List, [], ◌∷◌, length, drop, get_or, Option, Some, None, inl, inr, refl, sym, ap, ◌∙◌, arith}
use Rattle.std.specs.Prelude.{is_some, option_map}
use Rattle.std.specs.List.{find, range_with_len, AllByRecursion}
use Rattle.std.specs.Option.{option_or}
use Rattle.std.proofs.lemmas.List.{drop_more, drop_all}
use Rattle.std.proofs.lemmas.Bool.{cases_Bool}
use Rattle.std.proofs.lemmas.List.Folds.{find-append}
use Rattle.vg_laws.proofs.Bools.{not-false}
use Rattle.vg_pages.specs.Memory.{is_among}
use Rattle.vg_formats.specs.declared.entry.MemEntry.{MemEntry}
use Rattle.vg_client_holds.specs.declared.act.What.TheVariants.{Page}
use Rattle.vg_client_holds.specs.declared.holds.Holds.{Holds}
use Rattle.vg_client_holds.specs.ForeignWithin.{AreOwn, AreOwnPages, AreStarts, between, foreign_page, is_foreign, is_missing, is_outside}
use Rattle.vg_client_holds.specs.Holds.{pages_in, pages_in_entry}
use Rattle.vg_client_holds.proofs.DeniedLemmas.{below-pages}

-- the starts of runs, as far as the loop has come
pub record IsStarting (own : List Bool) (starts : List ℕ) (i start : ℕ) : Type 0 where
  pub long : length starts ≡ i
  pub within : i ≤ length own
  pub since : (page : ℕ) → start ≤ page → page < i → get_or own page false ≡ true
  pub each : (last page : ℕ) → last < i → get_or starts last 0 ≤ page → page ≤ last → get_or own page false ≡ true

-- where the table says yes from the first page to the last, none is missing
none-in : (own : List Bool) (n a : ℕ) → ((page : ℕ) → a ≤ page → page < a + n → get_or own page false ≡ true) → find (is_missing own) (range_with_len a n) ≡ None
none-in own zero a there = refl
none-in own (suc n) a there =
    ap (λ b. cond (not b) (Some a) (find (is_missing own) (range_with_len (a + 1) n))) (there a (omega arith) (omega arith))
    ∙ none-in own n (a + 1) (λ page from below. there page (omega (arith, from)) (omega (arith, below)))

-- entry by entry, for any test
pub found-next : (test : ℕ → Bool) (count : ℕ) (entries : List MemEntry) (i : ℕ) (d : MemEntry) → i < length entries
    → find test (pages_in count (drop i entries)) ≡ option_or (find test (pages_in_entry count (get_or entries i d))) (find test (pages_in count (drop (i + 1) entries)))
found-next test count entries i d within =
    ap (λ es. find test (pages_in count es)) (drop_more entries i d within)
    ∙ find-append test (pages_in_entry count (get_or entries i d)) (pages_in count (drop (i + 1) entries))

-- an entry with no page that passes
pub found-later : (test : ℕ → Bool) (count : ℕ) (entries : List MemEntry) (i : ℕ) (d : MemEntry) → i < length entries → find test (pages_in_entry count (get_or entries i d)) ≡ None
    → find test (pages_in count (drop i entries)) ≡ find test (pages_in count entries) → find test (pages_in count (drop (i + 1) entries)) ≡ find test (pages_in count entries)
found-later test count entries i d within none so_far =
    sym (ap (λ m. option_or m (find test (pages_in count (drop (i + 1) entries)))) none)
    ∙ sym (found-next test count entries i d within)
    ∙ so_far

pub found-end : (test : ℕ → Bool) (count : ℕ) (entries : List MemEntry) (i : ℕ) → length entries ≤ i → find test (pages_in count (drop i entries)) ≡ find test (pages_in count entries) → find test (pages_in count entries) ≡ None
found-end test count entries i past so_far = sym so_far ∙ ap (λ es. find test (pages_in count es)) (drop_all i entries past)

-- where no page passes a test, none passes one that passes less
found-weaker : (f g : ℕ → Bool) → ((page : ℕ) → f page ≡ false → g page ≡ false) → (pages : List ℕ) → find f pages ≡ None → find g pages ≡ None
found-weaker f g weaker [] none = refl
found-weaker f g weaker (page ∷ more) none =
    elim (cases_Bool (f page)) [
      | inl is ↦ absurd (cc (none, ap (λ b. cond b (Some page) (find f more)) is))
      | inr isnt ↦
          ap (λ b. cond b (Some page) (find g more)) (weaker page isnt)
          ∙ found-weaker f g weaker more (sym (ap (λ b. cond b (Some page) (find f more)) isnt) ∙ none)
    ]

pub none-foreign : (holds : Holds) (key : ℕ) (own pages : List ℕ) → AreOwnPages key own holds.buffers → find (is_outside own) pages ≡ None → find (is_foreign holds key) pages ≡ None
none-foreign holds key own pages are none =
    found-weaker (is_outside own) (is_foreign holds key) (λ page isnt. ap not (are.each page (not-false (is_among own page) isnt))) pages none

-- entry by entry
pub missing-next : (own : List Bool) (count : ℕ) (entries : List MemEntry) (i : ℕ) (d : MemEntry) → i < length entries
    → find (is_missing own) (pages_in count (drop i entries)) ≡ option_or (find (is_missing own) (pages_in_entry count (get_or entries i d))) (find (is_missing own) (pages_in count (drop (i + 1) entries)))
missing-next own count entries i d within =
    ap (λ es. find (is_missing own) (pages_in count es)) (drop_more entries i d within)
    ∙ find-append (is_missing own) (pages_in_entry count (get_or entries i d)) (pages_in count (drop (i + 1) entries))

pub missing-end : (own : List Bool) (count : ℕ) (entries : List MemEntry) (i : ℕ) → length entries ≤ i → find (is_missing own) (pages_in count (drop i entries)) ≡ None
missing-end own count entries i past = ap (λ es. find (is_missing own) (pages_in count es)) (drop_all i entries past)

-- what the table says is what the client's holds do
same-found : (holds : Holds) (key : ℕ) (own : List Bool) → AreOwn holds key own → (pages : List ℕ) → AllByRecursion (λ page. page < holds.pages) pages
    → find (is_missing own) pages ≡ find (is_foreign holds key) pages
same-found holds key own are [] below = refl
same-found holds key own are (page ∷ more) below =
    ap (λ b. cond (not b) (Some page) (find (is_missing own) more)) (are.each page (omega (arith, are.long, below.0)))
    ∙ ap (cond (is_foreign holds key page) (Some page)) (same-found holds key own are more below.1)

pub foreign-found : (holds : Holds) (key : ℕ) (own : List Bool) (entries : List MemEntry) (found : Option ℕ) → AreOwn holds key own → found ≡ find (is_missing own) (pages_in holds.pages entries)
    → option_map Page found ≡ foreign_page holds key (pages_in holds.pages entries)
foreign-found holds key own entries found are is =
    ap (option_map Page) (is ∙ same-found holds key own are (pages_in holds.pages entries) (below-pages holds.pages entries))

-- an entry whose pages are between these two
pub none-between : (own : List Bool) (starts : List ℕ) (first end : ℕ) (pages : List ℕ) → AreStarts own starts → first < end → (end - 1 < length starts) × (get_or starts (end - 1) 0 ≤ first) → between (Some (first, end)) ≡ pages
    → None ≡ find (is_missing own) pages
none-between own starts first end pages are some reached is =
    sym (none-in own (end - first) first (λ page after below. are.each (end - 1) page reached.0 (omega (arith, reached.1, after)) (omega (arith, some, below))))
    ∙ ap (find (is_missing own)) is

-- what an entry lacks is what they all do, if it lacks something
option_or-some : {X : Type 0} (one rest : Option X) → is_some one ≡ true → option_or one rest ≡ one
option_or-some (Some x) rest some = refl
option_or-some None rest some = absurd (cc some)

option_or-none : {X : Type 0} (one rest : Option X) → is_some one ≡ false → option_or one rest ≡ rest
option_or-none (Some x) rest none = absurd (cc none)
option_or-none None rest none = refl

pub missing-here : (own : List Bool) (count : ℕ) (entries : List MemEntry) (i : ℕ) (d : MemEntry) (missing all : Option ℕ) → i < length entries
    → missing ≡ find (is_missing own) (pages_in_entry count (get_or entries i d)) → is_some missing ≡ true → find (is_missing own) (pages_in count (drop i entries)) ≡ all → missing ≡ all
missing-here own count entries i d missing all within made some so_far =
    sym (option_or-some missing (find (is_missing own) (pages_in count (drop (i + 1) entries))) some)
    ∙ ap (λ m. option_or m (find (is_missing own) (pages_in count (drop (i + 1) entries)))) made
    ∙ sym (missing-next own count entries i d within)
    ∙ so_far

pub missing-later : (own : List Bool) (count : ℕ) (entries : List MemEntry) (i : ℕ) (d : MemEntry) (missing all : Option ℕ) → i < length entries
    → missing ≡ find (is_missing own) (pages_in_entry count (get_or entries i d)) → is_some missing ≡ false → find (is_missing own) (pages_in count (drop i entries)) ≡ all
    → find (is_missing own) (pages_in count (drop (i + 1) entries)) ≡ all
missing-later own count entries i d missing all within made none so_far =
    sym (option_or-none missing (find (is_missing own) (pages_in count (drop (i + 1) entries))) none)
    ∙ ap (λ m. option_or m (find (is_missing own) (pages_in count (drop (i + 1) entries)))) made
    ∙ sym (missing-next own count entries i d within)
    ∙ so_far
