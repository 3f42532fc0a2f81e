-- Pages marked, and pages zeroed, one after another.
use Rattle.std.proofs.Common.{◌≡◌, ◌≢◌, ℕ, ◌+◌, ◌*◌, ◌/◌, ◌<◌, ◌≤◌, ◌==◌, Bool, true, false, not, cond, min, subst, ◌||◌, List, [], ◌++◌, Some, length, get_or, slice_get, slice_index_or, set, take, drop, replicate, sym, ap, ◌∙◌, refl, inl, inr, arith}
use Rattle.std.specs.List.{All, range_with_len}
use Rattle.std.proofs.lemmas.Bool.{cases_lt, eq-eqb, ne_eqb, or_right}
use Rattle.std.proofs.lemmas.List.Elements.{All-take, filter_passes}
use Rattle.std.proofs.lemmas.List.{append_assoc, drop-drop, get_or_past, get_or_default, take_at, length-replicate, get_or-replicate}
use Rattle.std.proofs.lemmas.Option.{slice_get_cases, get_or_from_slice_get}
use Rattle.std.proofs.lemmas.List.Folds.{list_any_more, list_any_none, list_any-from_Any}
use borrow.Rule.Slice.PartMut.{put_mid}
use Rattle.vg_places.proofs.Places.{length-tabulate, get_or-tabulate, slice_get-tabulate, tabulate_from_places}
use Rattle.vg_pages.specs.Memory.{AreTakenBelow, AreGivable, AreTakeable, is_free, is_among, free_pages, marked, zeroed}
use Rattle.vg_pages.proofs.FreePages.{lowest-apart}
use Rattle.vg_places.proofs.Tabulated.{set-tabulate, put_mid-tabulate}

-- a place that has an element is inside the list
pub inside_from_slice_get : {X : Type 0} (xs : List X) (i : ℕ) (x : X) → slice_get xs i ≡ Some x → i < length xs
inside_from_slice_get xs i x found =
    elim (slice_get_cases xs i).1 [ inl (y, inside, there, here) ↦ inside | inr (past, none) ↦ cc ]

or-false : (b : Bool) → (b || false) ≡ b
or-false true = refl
or-false false = refl

-- one page more is among them
among-here : (pages : List ℕ) (i k : ℕ) → i < length pages → k ≡ get_or pages i 0 → is_among (take (i + 1) pages) k ≡ true
among-here pages i k within same =
    list_any_more (λ one. one == k) pages i 0 within
    ∙ or_right (is_among (take i pages) k) (get_or pages i 0 == k) (eq-eqb (get_or pages i 0) k (sym same))

among-other : (pages : List ℕ) (i k : ℕ) → i < length pages → k ≢ get_or pages i 0 → is_among (take (i + 1) pages) k ≡ is_among (take i pages) k
among-other pages i k within different =
    list_any_more (λ one. one == k) pages i 0 within
    ∙ ap (λ b. is_among (take i pages) k || b) (ne_eqb (get_or pages i 0) k (λ same. different (sym same)))
    ∙ or-false (is_among (take i pages) k)

among-itself : (pages : List ℕ) (k d : ℕ) → k < length pages → is_among pages (get_or pages k d) ≡ true
among-itself pages k d within =
    let page = get_or pages k d in
    list_any-from_Any (λ one. one == page) pages
    (k, page, within, get_or_default pages k page d within, eq-eqb page page refl)

pub marked_none : (now : Bool) (taken : List Bool) → taken ≡ marked [] now taken
unfolding marked
marked_none now taken =
    tabulate_from_places (λ page. slice_index_or taken page now) taken (length taken) now refl (λ k within. refl)

pub marked_more : (pages : List ℕ) (now : Bool) (taken : List Bool) (i : ℕ) → i < length pages → get_or pages i 0 < length taken → set (marked (take i pages) now taken) (get_or pages i 0) now ≡ marked (take (i + 1) pages) now taken
unfolding marked
marked_more pages now taken i within inside =
    let flag : List ℕ → ℕ → Bool = λ some page. cond (is_among some page) now (slice_index_or taken page now) in
    let at : Bool → ℕ → Bool = λ b page. cond b now (slice_index_or taken page now) in
    set-tabulate (flag (take i pages)) (flag (take (i + 1) pages)) (length taken) (get_or pages i 0) now inside
    (ap (λ b. at b (get_or pages i 0)) (among-here pages i (get_or pages i 0) within refl))
    (λ k different. ap (λ b. at b k) (sym (among-other pages i k within different)))

-- each of the pages is marked
pub marked-among : (pages : List ℕ) (now : Bool) (taken : List Bool) → All (λ page. page < length taken) pages → All (λ page. slice_get (marked pages now taken) page ≡ Some now) pages
unfolding marked
marked-among pages now taken inside =
    λ k d within.
    let page = get_or pages k d in
    slice_get-tabulate (λ place. cond (is_among pages place) now (slice_index_or taken place now)) (length taken) page (inside k d within)
    ∙ ap (λ b. Some (cond b now (slice_index_or taken page now))) (among-itself pages k d within)

-- pages that are not among others are as before
marked-other : (pages : List ℕ) (now : Bool) (taken : List Bool) (page : ℕ) → page < length taken → is_among pages page ≡ false → slice_get (marked pages now taken) page ≡ Some (slice_index_or taken page now)
unfolding marked
marked-other pages now taken page inside other =
    slice_get-tabulate (λ place. cond (is_among pages place) now (slice_index_or taken place now)) (length taken) page inside
    ∙ ap (λ b. Some (cond b now (slice_index_or taken page now))) other

marked-same : (pages : List ℕ) (now : Bool) (taken : List Bool) (page : ℕ) → slice_get taken page ≡ Some now → slice_get (marked pages now taken) page ≡ Some now
unfolding marked
marked-same pages now taken page was =
    slice_get-tabulate (λ place. cond (is_among pages place) now (slice_index_or taken place now)) (length taken) page (inside_from_slice_get taken page now was)
    ∙ ap Some (elim (is_among pages page) as (λ b. cond b now (slice_index_or taken page now) ≡ now) [ true ↦ refl | false ↦ get_or_from_slice_get taken page now now was ])

pub length-marked : (pages : List ℕ) (now : Bool) (taken : List Bool) → length (marked pages now taken) ≡ length taken
unfolding marked
length-marked pages now taken = length-tabulate (λ page. cond (is_among pages page) now (slice_index_or taken page now)) (length taken)

-- the flags of a `Vec` after they were marked through a slice of it
pub marked-in_place : (pages : List ℕ) (now : Bool) (old lent after : List Bool) (n : ℕ) → lent ≡ old → after ≡ marked pages now lent → n ≡ length lent → take n (after ++ drop (length after) old) ≡ marked pages now old
marked-in_place pages now old lent after n whole marks long =
    let same = marks ∙ ap (marked pages now) whole in
    let size : length after ≡ n = ap length marks ∙ length-marked pages now lent ∙ sym long in
    take_at after (drop (length after) old) n size ∙ same

-- a free page is a page
free-inside : (taken : List Bool) (page : ℕ) → is_free taken page ≡ true → page < length taken
free-inside taken page free =
    elim (cases_lt page (length taken)) [ inl within ↦ within | inr past ↦ let known = get_or_past taken page true past in cc ]

-- the lowest free pages may be taken
pub takeable-lowest : (taken : List Bool) (n : ℕ) → AreTakeable taken (take n (free_pages taken))
takeable-lowest taken n = record {
  all_free = All-take (λ page. is_free taken page ≡ true) n (free_pages taken) (filter_passes (is_free taken) (range_with_len 0 (length taken)));
  differ = lowest-apart taken n;
}

pub takeable-inside : (taken : List Bool) (pages : List ℕ) → AreTakeable taken pages → All (λ page. page < length taken) pages
takeable-inside taken pages are = λ k d within. free-inside taken (get_or pages k d) (are.all_free k d within)

-- pages that were taken may be given back
pub givable-taken : (taken : List Bool) (pages : List ℕ) → AreTakeable taken pages → AreGivable (marked pages true taken) pages
givable-taken taken pages are = record {
  all_taken = marked-among pages true taken (takeable-inside taken pages are);
  differ = are.differ;
}

pub givable-after_taking : (taken : List Bool) (mine others : List ℕ) → AreGivable taken mine → AreGivable (marked others true taken) mine
givable-after_taking taken mine others were = record {
  all_taken = λ k d within. marked-same others true taken (get_or mine k d) (were.all_taken k d within);
  differ = were.differ;
}

pub givable-after_giving : (taken : List Bool) (mine others : List ℕ) → AreGivable taken mine → All (λ page. is_among others page ≡ false) mine → AreGivable (marked others false taken) mine
givable-after_giving taken mine others were apart = record {
  all_taken = λ k d within.
      let page = get_or mine k d in
      let was = were.all_taken k d within in
      marked-other others false taken page (inside_from_slice_get taken page true was) (apart k d within)
      ∙ ap Some (get_or_from_slice_get taken page true false was);
  differ = were.differ;
}

pub zeroed_none : (bytes : List ℕ) → bytes ≡ zeroed [] bytes
unfolding zeroed
zeroed_none bytes = tabulate_from_places (λ place. get_or bytes place 0) bytes (length bytes) 0 refl (λ k within. refl)

pub zeroed_more : (pages bytes part : List ℕ) (i start : ℕ) → i < length pages → start ≡ get_or pages i 0 * 4096 → start + 4096 ≤ length bytes → length part ≡ 4096 → ((k : ℕ) → k < 4096 → get_or part k 0 ≡ 0) → put_mid start 4096 (zeroed (take i pages) bytes) part ≡ zeroed (take (i + 1) pages) bytes
unfolding zeroed
zeroed_more pages bytes part i start within from inside long zeros =
    let at : Bool → ℕ → ℕ = λ b place. cond b 0 (get_or bytes place 0) in
    let byte : List ℕ → ℕ → ℕ = λ some place. at (is_among some (place / 4096)) place in
    put_mid-tabulate (byte (take i pages)) (byte (take (i + 1) pages)) (length bytes) start 4096 part inside long
    (λ k low.
    let page : (start + k) / 4096 ≡ get_or pages i 0 = omega arith in
    zeros k low ∙ sym (ap (λ b. at b (start + k)) (among-here pages i ((start + k) / 4096) within page)))
    (λ k low.
    let other : k / 4096 ≢ get_or pages i 0 = λ same. omega arith in
    ap (λ b. at b k) (sym (among-other pages i (k / 4096) within other)))
    (λ k past.
    let other : k / 4096 ≢ get_or pages i 0 = λ same. omega arith in
    ap (λ b. at b k) (sym (among-other pages i (k / 4096) within other)))

pub length-zeroed : (pages bytes : List ℕ) → length (zeroed pages bytes) ≡ length bytes
unfolding zeroed
length-zeroed pages bytes = length-tabulate (λ place. cond (is_among pages (place / 4096)) 0 (get_or bytes place 0)) (length bytes)

-- the page at place i is filled with zeros
pub zeroed-next : (pages bytes : List ℕ) (i start : ℕ) → i < length pages → start ≡ get_or pages i 0 * 4096 → start + 4096 ≤ length bytes
    → (take start (zeroed (take i pages) bytes) ++ replicate 4096 0) ++ drop (start + 4096) (zeroed (take i pages) bytes) ≡ zeroed (take (i + 1) pages) bytes
zeroed-next pages bytes i start within from inside =
    let now = zeroed (take i pages) bytes in
    append_assoc (take start now) (replicate 4096 0) (drop (start + 4096) now)
    ∙ ap (λ rest. take start now ++ (replicate 4096 0 ++ rest)) (sym (drop-drop 4096 start now))
    ∙ zeroed_more pages bytes (replicate 4096 0) i start within from inside (length-replicate {A = ℕ} 4096 0) (λ k low. get_or-replicate 4096 k 0 0 low)

still-taken : (among read : Bool) → not read ≡ false → not (cond among true read) ≡ false
still-taken true read is = refl
still-taken false read is = is

-- what was taken is taken still, where others are taken too
pub below-taken : (pages : List ℕ) (taken : List Bool) (low : ℕ) → low ≤ length taken → AreTakenBelow taken low → AreTakenBelow (marked pages true taken) low
unfolding marked
below-taken pages taken low inside are = record {
  each = λ page below.
      let among = is_among pages page in
      let read = slice_index_or taken page true in
      let kept : not read ≡ false = are.each page below in
      ap not (get_or-tabulate (λ place. cond (is_among pages place) true (slice_index_or taken place true)) (length taken) page true (omega (arith, below, inside)))
      ∙ still-taken among read kept;
}

none-among : (pages : List ℕ) (low page : ℕ) → All (λ one. low ≤ one) pages → page < low → is_among pages page ≡ false
none-among pages low page above below =
    list_any_none (λ one. one == page) pages
    (λ k d within. ne_eqb (get_or pages k d) page (λ same. omega (arith, same, above k d within, below)))

-- and where only pages from there on are given back
pub below-given : (pages : List ℕ) (taken : List Bool) (low : ℕ) → low ≤ length taken → All (λ page. low ≤ page) pages → AreTakenBelow taken low → AreTakenBelow (marked pages false taken) low
unfolding marked
below-given pages taken low inside above are = record {
  each = λ page below.
      let short : page < length taken = omega (arith, below, inside) in
      ap not (get_or-tabulate (λ place. cond (is_among pages place) false (slice_index_or taken place false)) (length taken) page true short)
      ∙ ap (λ b. not (cond b false (slice_index_or taken page false))) (none-among pages low page above below)
      ∙ ap not (get_or_default taken page false true short)
      ∙ are.each page below;
}

pub below-less : (taken : List Bool) (low less : ℕ) → less ≤ low → AreTakenBelow taken low → AreTakenBelow taken less
below-less taken low less fewer are = record { each = λ page below. are.each page (omega (arith, below, fewer)) }

-- the least of one page more
pub least-more : (pages : List ℕ) (i old new : ℕ) → new ≡ min old (get_or pages i 0) → ((k : ℕ) → k < i → old ≤ get_or pages k 0) → (k : ℕ) → k < i + 1 → new ≤ get_or pages k 0
least-more pages i old new is so k below =
    elim (cases_lt k i) [
      | inl less ↦ omega (arith, is, so k less)
      | inr more ↦
          let same : k ≡ i = omega (arith, below, more) in
          subst (λ n. new ≤ get_or pages n 0) (sym same) (omega (arith, is))
    ]
