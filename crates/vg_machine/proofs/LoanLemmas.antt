-- Jobs that are lent, and what is remembered of them.
use Rattle.std.proofs.Common.{◌≡◌, ◌≢◌, ◌≤◌, ◌<◌, inl, inr, ⊎_elim, ℕ, zero, suc, ◌+◌, ◌==◌, ◌||◌, not, Bool, true, false, cond, List, [], ◌∷◌, ◌++◌, length, Option, Some, None, ap, sym, ◌∙◌, refl, subst, get_or, eq-eqb, ne_eqb, arith}
use Rattle.std.specs.Prelude.{IfNone, nat_lt, slice_index_or}
use Rattle.std.specs.List.{All, AllByRecursion, position, position_or_len, remove}
use Rattle.std.proofs.lemmas.Bool.{cases_lt}
use Rattle.std.proofs.lemmas.Bool.Decides.{nat_tests}
use Rattle.std.proofs.lemmas.List.{get_or_default, get_or_past}
use Rattle.std.proofs.lemmas.List.Folds.{list_any-append, list_any_at, list_any_none}
use Rattle.std.proofs.lemmas.List.Quantifiers.{position-Some}
use Rattle.vg_laws.proofs.Numbers.{same-number, differs}
use Rattle.vg_laws.proofs.Bools.{right-true}
use Rattle.vg_history.specs.Jobs.{but_lane, of_lane}
use Rattle.vg_history.specs.Lists.{Has}
use Rattle.vg_pages.specs.Memory.{is_among, marked}
use Rattle.vg_places.proofs.Places.{get_or-tabulate, length-tabulate}
use Rattle.vg_machine.specs.Blocks.{lent_pages}
use Rattle.vg_pages.specs.Lending.{AreFlagged}
use Rattle.vg_machine.specs.Jobs.{Job}
use Rattle.vg_machine.specs.LoansWithin.{AllApart, AreLoans, is_of_lane}
use Rattle.vg_machine.specs.OutWithin.{AreApart, job_lane}

each-has : {X : Type 0} (P : X → Type 0) (xs : List X) (x : X) → AllByRecursion P xs → Has xs x → P x
each-has P [] x all has = absurd has
each-has P (y ∷ ys) x all (inl is) = subst P is all.0
each-has P (y ∷ ys) x all (inr has) = each-has P ys x all.1 has

has-at : {X : Type 0} (xs : List X) (i : ℕ) (d : X) → i < length xs → Has xs (get_or xs i d)
has-at [] i d within = absurd (omega (arith, within))
has-at (x ∷ xs) zero d within = inl refl
has-at (x ∷ xs) (suc i) d within = inr (has-at xs i d (omega (arith, within)))

-- jobs that have nothing in common are one where their lanes are
pub one-of-lane : (jobs : List Job) (a b : Job) → AllApart jobs → Has jobs a → Has jobs b → a.asked.lane ≡ b.asked.lane → a ≡ b
one-of-lane [] a b apart one other same = absurd one
one-of-lane (x ∷ xs) a b apart (inl p) (inl q) same = sym p ∙ q
one-of-lane (x ∷ xs) a b apart (inl p) (inr q) same = absurd ((each-has (AreApart x) xs b apart.0 q).lane (ap (λ (j : Job). j.asked.lane) p ∙ same))
one-of-lane (x ∷ xs) a b apart (inr p) (inl q) same = absurd ((each-has (AreApart x) xs a apart.0 p).lane (ap (λ (j : Job). j.asked.lane) q ∙ sym same))
one-of-lane (x ∷ xs) a b apart (inr p) (inr q) same = one-of-lane xs a b apart.1 p q same

-- and of other lanes they have other resources
pub resources-apart : (jobs : List Job) (a b : Job) → AllApart jobs → Has jobs a → Has jobs b → a.asked.lane ≢ b.asked.lane → a.resource ≢ b.resource
resources-apart [] a b apart one other lanes = absurd one
resources-apart (x ∷ xs) a b apart (inl p) (inl q) lanes = absurd (lanes (ap (λ (j : Job). j.asked.lane) (sym p ∙ q)))
resources-apart (x ∷ xs) a b apart (inl p) (inr q) lanes = λ same. (each-has (AreApart x) xs b apart.0 q).resource (ap (λ (j : Job). j.resource) p ∙ same)
resources-apart (x ∷ xs) a b apart (inr p) (inl q) lanes = λ same. (each-has (AreApart x) xs a apart.0 p).resource (ap (λ (j : Job). j.resource) q ∙ sym same)
resources-apart (x ∷ xs) a b apart (inr p) (inr q) lanes = resources-apart xs a b apart.1 p q lanes

left-by : (l : ℕ) (x : Job) (xs : List Job) (k : Job) (b : Bool) → (x.asked.lane == l) ≡ b
    → Has (cond b (but_lane job_lane l xs) (x ∷ but_lane job_lane l xs)) k → (Has (but_lane job_lane l xs) k → Has xs k × (k.asked.lane ≢ l))
    → Has (x ∷ xs) k × (k.asked.lane ≢ l)
left-by l x xs k true is has rest = (inr (rest has).0, (rest has).1)
left-by l x xs k false is (inl same) rest = (inl same, subst (λ (j : Job). j.asked.lane ≢ l) same (differs x.asked.lane l is))
left-by l x xs k false is (inr has) rest = (inr (rest has).0, (rest has).1)

-- a job that is left where those of a lane go
pub left-of : (l : ℕ) (jobs : List Job) (k : Job) → Has (but_lane job_lane l jobs) k → Has jobs k × (k.asked.lane ≢ l)
left-of l [] k has = absurd has
left-of l (x ∷ xs) k has = left-by l x xs k (x.asked.lane == l) refl has (left-of l xs k)

-- where no job is of the lane, none goes and none is found
but-same : (l : ℕ) (x : Job) (xs : List Job) → x.asked.lane ≡ l → but_lane job_lane l (x ∷ xs) ≡ but_lane job_lane l xs
but-same l x xs is = ap (λ (b : Bool). cond b (but_lane job_lane l xs) (x ∷ but_lane job_lane l xs)) (eq-eqb x.asked.lane l is)

but-else : (l : ℕ) (x : Job) (xs : List Job) → x.asked.lane ≢ l → but_lane job_lane l (x ∷ xs) ≡ x ∷ but_lane job_lane l xs
but-else l x xs other = ap (λ (b : Bool). cond b (but_lane job_lane l xs) (x ∷ but_lane job_lane l xs)) (ne_eqb x.asked.lane l other)

none-but : (l : ℕ) (x : Job) (xs : List Job) → x.asked.lane ≡ l → AllByRecursion (AreApart x) xs → but_lane job_lane l xs ≡ xs
none-but l x [] is apart = refl
none-but l x (y ∷ ys) is apart = but-else l y ys (λ same. apart.0.lane (is ∙ sym same)) ∙ ap (λ (js : List Job). y ∷ js) (none-but l x ys is apart.1)

-- all but those of a lane are all but the one that was found
pub removed-lane : (l : ℕ) (jobs : List Job) (i : ℕ) (d : Job) → AllApart jobs → i < length jobs → (get_or jobs i d).asked.lane ≡ l → remove jobs i ≡ but_lane job_lane l jobs
removed-lane l [] i d apart within is = absurd (omega (arith, within))
removed-lane l (x ∷ xs) zero d apart within is = sym (but-same l x xs is ∙ none-but l x xs is apart.0)
removed-lane l (x ∷ xs) (suc i) d apart within is =
    let inside : i < length xs = omega (arith, within) in
    let other = (each-has (AreApart x) xs (get_or xs i d) apart.0 (has-at xs i d inside)).lane in
    ap (λ (js : List Job). x ∷ js) (removed-lane l xs i d apart.1 inside is) ∙ sym (but-else l x xs (λ same. other (same ∙ sym is)))

of-none-by : (l : ℕ) (x : Job) (xs : List Job) (b : Bool) → 1 + length xs ≤ cond (not b) (1 + position_or_len (is_of_lane l) xs) 0
    → (length xs ≤ position_or_len (is_of_lane l) xs → of_lane job_lane l xs ≡ []) → cond b (x ∷ of_lane job_lane l xs) (of_lane job_lane l xs) ≡ []
of-none-by l x xs true past rest = absurd (omega (arith, past))
of-none-by l x xs false past rest = rest (omega (arith, past))

of-none : (l : ℕ) (jobs : List Job) → length jobs ≤ position_or_len (is_of_lane l) jobs → of_lane job_lane l jobs ≡ []
of-none l [] past = refl
of-none l (x ∷ xs) past = of-none-by l x xs (x.asked.lane == l) (omega (arith, past)) (of-none l xs)

unfound-by : (l : ℕ) (jobs : List Job) (b : Bool) → nat_lt (position_or_len (is_of_lane l) jobs) (length jobs) ≡ b
    → cond b (Some (position_or_len (is_of_lane l) jobs)) None ≡ None → of_lane job_lane l jobs ≡ []
unfound-by l jobs true is none = cc
unfound-by l jobs false is none = let past : length jobs ≤ position_or_len (is_of_lane l) jobs = grind (arith, nat_tests) in of-none l jobs past

pub none-of : (l : ℕ) (jobs : List Job) → position (is_of_lane l) jobs ≡ None → of_lane job_lane l jobs ≡ []
none-of l jobs none = unfound-by l jobs (nat_lt (position_or_len (is_of_lane l) jobs) (length jobs)) refl none

pub on_none : {T : Type 0} {P : Type 0} (r : Option T) → P → IfNone r P
on_none (Some x) p = tt
on_none None p = p

-- no page of these is one of others, none of which is one of them
pages-not-by : (other : List ℕ) (p x : ℕ) (more : List ℕ) (b : Bool) → (x == p) ≡ b → (b || is_among more p) ≡ true → is_among other x ≡ false
    → (is_among more p ≡ true → is_among other p ≡ false) → is_among other p ≡ false
pages-not-by other p x more true same among here rest = let is : x ≡ p = grind (arith, nat_tests) in subst (λ n. is_among other n ≡ false) is here
pages-not-by other p x more false same among here rest = rest among

pages-not : (one other : List ℕ) (p : ℕ) → All (λ page. is_among other page ≡ false) one → is_among one p ≡ true → is_among other p ≡ false
pages-not [] other p apart among = cc
pages-not (x ∷ more) other p apart among =
    pages-not-by other p x more (x == p) refl among (apart 0 0 (omega arith)) (pages-not more other p (λ k d within. apart (suc k) d (omega (arith, within))))

both-false : (a b : Bool) → a ≡ false → b ≡ false → (a || b) ≡ false
both-false a b one other = rw (one, other) refl

lent-not : (x : Job) (xs : List Job) (p : ℕ) → AllByRecursion (AreApart x) xs → is_among x.pages p ≡ true → is_among (lent_pages xs) p ≡ false
lent-not x [] p apart among = refl
lent-not x (y ∷ ys) p apart among =
    list_any-append (λ one. one == p) y.pages (lent_pages ys)
    ∙ both-false (is_among y.pages p) (is_among (lent_pages ys) p) (pages-not x.pages y.pages p apart.0.pages among) (lent-not x ys p apart.1 among)

lent-has : (jobs : List Job) (a : Job) (p : ℕ) → Has jobs a → is_among a.pages p ≡ true → is_among (lent_pages jobs) p ≡ true
lent-has [] a p has among = absurd has
lent-has (x ∷ xs) a p (inl same) among =
    list_any-append (λ one. one == p) x.pages (lent_pages xs)
    ∙ ap (λ (b : Bool). b || is_among (lent_pages xs) p) (subst (λ (j : Job). is_among j.pages p ≡ true) (sym same) among)
lent-has (x ∷ xs) a p (inr has) among =
    list_any-append (λ one. one == p) x.pages (lent_pages xs) ∙ right-true (is_among x.pages p) (is_among (lent_pages xs) p) (lent-has xs a p has among)

-- what is among the pages once one job has gone
gone-here : (a b : Bool) → (a ≡ true → b ≡ false) → b ≡ cond a false (a || b)
gone-here true b apart = apart refl
gone-here false b apart = refl

gone-there : (a x rest : Bool) → (x ≡ true → a ≡ false) → (x || cond a false rest) ≡ cond a false (x || rest)
gone-there true true rest apart = let no = apart refl in cc
gone-there true false rest apart = refl
gone-there false x rest apart = refl

lent-gone : (jobs : List Job) (i : ℕ) (d : Job) (p : ℕ) → AllApart jobs → i < length jobs
    → is_among (lent_pages (remove jobs i)) p ≡ cond (is_among (get_or jobs i d).pages p) false (is_among (lent_pages jobs) p)
lent-gone [] i d p apart within = absurd (omega (arith, within))
lent-gone (x ∷ xs) zero d p apart within =
    gone-here (is_among x.pages p) (is_among (lent_pages xs) p) (lent-not x xs p apart.0)
    ∙ ap (λ (b : Bool). cond (is_among x.pages p) false b) (sym (list_any-append (λ one. one == p) x.pages (lent_pages xs)))
lent-gone (x ∷ xs) (suc i) d p apart within =
    let inside : i < length xs = omega (arith, within) in
    let there = each-has (AreApart x) xs (get_or xs i d) apart.0 (has-at xs i d inside) in
    list_any-append (λ one. one == p) x.pages (lent_pages (remove xs i))
    ∙ ap (λ (b : Bool). is_among x.pages p || b) (lent-gone xs i d p apart.1 inside)
    ∙ gone-there (is_among (get_or xs i d).pages p) (is_among x.pages p) (is_among (lent_pages xs) p) (pages-not x.pages (get_or xs i d).pages p there.pages)
    ∙ ap (λ (b : Bool). cond (is_among (get_or xs i d).pages p) false b) (sym (list_any-append (λ one. one == p) x.pages (lent_pages xs)))

-- the flags of pages that were marked
flag-inside : (pages : List ℕ) (now : Bool) (flags : List Bool) (p : ℕ) → p < length flags → slice_index_or (marked pages now flags) p false ≡ cond (is_among pages p) now (slice_index_or flags p false)
unfolding marked
flag-inside pages now flags p within =
    get_or-tabulate (λ page. cond (is_among pages page) now (slice_index_or flags page now)) (length flags) p false within
    ∙ ap (λ (b : Bool). cond (is_among pages p) now b) (get_or_default flags p now false within)

flag-past : (pages : List ℕ) (now : Bool) (flags : List Bool) (p : ℕ) → length flags ≤ p → slice_index_or (marked pages now flags) p false ≡ false
unfolding marked
flag-past pages now flags p past =
    get_or_past _ p false (subst (λ n. n ≤ p) (sym (length-tabulate (λ page. cond (is_among pages page) now (slice_index_or flags page now)) (length flags))) past)

none-past : (pages : List ℕ) (n p : ℕ) → All (λ page. page < n) pages → n ≤ p → is_among pages p ≡ false
none-past pages n p inside past = list_any_none (λ one. one == p) pages (λ k d within. ne_eqb (get_or pages k d) p (λ same. omega (arith, same, inside k d within, past)))

cond-or : (a b : Bool) → cond a true b ≡ (a || b)
cond-or true b = refl
cond-or false b = refl

cond-none : (a b : Bool) → b ≡ false → false ≡ cond a false b
cond-none true b none = refl
cond-none false b none = sym none

flags-added : (flags : List Bool) (pages lent : List ℕ) → AreFlagged flags lent → All (λ page. page < length flags) pages → AreFlagged (marked pages true flags) (pages ++ lent)
flags-added flags pages lent are inside = record {
  each = λ p. ⊎_elim
      (λ (within : p < length flags).
      flag-inside pages true flags p within ∙ ap (λ (b : Bool). cond (is_among pages p) true b) (are.each p)
      ∙ cond-or (is_among pages p) (is_among lent p) ∙ sym (list_any-append (λ one. one == p) pages lent))
      (λ (past : length flags ≤ p).
      flag-past pages true flags p past
      ∙ sym (list_any-append (λ one. one == p) pages lent
      ∙ both-false (is_among pages p) (is_among lent p) (none-past pages (length flags) p inside past) (sym (are.each p) ∙ get_or_past flags p false past)))
      (cases_lt p (length flags));
}

flags-ended : (flags : List Bool) (pages lent rest : List ℕ) → AreFlagged flags lent → ((p : ℕ) → is_among rest p ≡ cond (is_among pages p) false (is_among lent p)) → AreFlagged (marked pages false flags) rest
flags-ended flags pages lent rest are gone = record {
  each = λ p. ⊎_elim
      (λ (within : p < length flags).
      flag-inside pages false flags p within ∙ ap (λ (b : Bool). cond (is_among pages p) false b) (are.each p) ∙ sym (gone p))
      (λ (past : length flags ≤ p).
      flag-past pages false flags p past
      ∙ cond-none (is_among pages p) (is_among lent p) (sym (are.each p) ∙ get_or_past flags p false past) ∙ sym (gone p))
      (cases_lt p (length flags));
}

flag-within : (flags : List Bool) (p : ℕ) → slice_index_or flags p false ≡ true → p < length flags
flag-within flags p is = ⊎_elim (λ (within : p < length flags). within) (λ (past : length flags ≤ p). let none = get_or_past flags p false past in absurd (not-both (slice_index_or flags p false) is none)) (cases_lt p (length flags))
  where
    not-both : (b : Bool) → b ≡ true → b ≡ false → ⊥
    not-both true is none = cc
    not-both false is none = cc

-- the pages of a job that is lent have flags
pub pages-within : (flags : List Bool) (jobs : List Job) (a : Job) → AreFlagged flags (lent_pages jobs) → Has jobs a → All (λ page. page < length flags) a.pages
pages-within flags jobs a are has = λ k d within.
    flag-within flags (get_or a.pages k d)
    (are.each (get_or a.pages k d)
    ∙ lent-has jobs a (get_or a.pages k d) has (list_any_at (λ one. one == get_or a.pages k d) a.pages k d within (eq-eqb (get_or a.pages k d) (get_or a.pages k d) refl)))

all-removed : (P : Job → Type 0) (jobs : List Job) (i : ℕ) → AllByRecursion P jobs → i < length jobs → AllByRecursion P (remove jobs i)
all-removed P [] i all within = absurd (omega (arith, within))
all-removed P (x ∷ xs) zero all within = all.1
all-removed P (x ∷ xs) (suc i) all within = (all.0, all-removed P xs i all.1 (omega (arith, within)))

apart-removed : (jobs : List Job) (i : ℕ) → AllApart jobs → i < length jobs → AllApart (remove jobs i)
apart-removed [] i apart within = absurd (omega (arith, within))
apart-removed (x ∷ xs) zero apart within = apart.1
apart-removed (x ∷ xs) (suc i) apart within =
    let inside : i < length xs = omega (arith, within) in (all-removed (AreApart x) xs i apart.0 inside, apart-removed xs i apart.1 inside)

-- one job more
pub loans-added : (flags : List Bool) (jobs : List Job) (job : Job) → AreLoans flags jobs → AllByRecursion (AreApart job) jobs → All (λ page. page < length flags) job.pages
    → AreLoans (marked job.pages true flags) (job ∷ jobs)
loans-added flags jobs job are apart inside = record { flagged = flags-added flags job.pages (lent_pages jobs) are.flagged inside; apart = (apart, are.apart) }

-- and one less
pub loans-ended : (flags : List Bool) (jobs : List Job) (i : ℕ) (d : Job) → AreLoans flags jobs → i < length jobs → AreLoans (marked (get_or jobs i d).pages false flags) (remove jobs i)
loans-ended flags jobs i d are within = record {
  flagged = flags-ended flags (get_or jobs i d).pages (lent_pages jobs) (lent_pages (remove jobs i)) are.flagged (λ p. lent-gone jobs i d p are.apart within);
  apart = apart-removed jobs i are.apart within;
}

-- the job that was found at a place
pub record IsFound (lane : ℕ) (jobs : List Job) (place : ℕ) (job : Job) : Type 0 where
  pub within : place < length jobs
  pub is : get_or jobs place job ≡ job
  pub has : Has jobs job
  pub of_lane : job.asked.lane ≡ lane

pub found-at : (lane : ℕ) (jobs : List Job) (place : ℕ) (job : Job) → Some place ≡ position (is_of_lane lane) jobs → job ≡ get_or jobs place job → IsFound lane jobs place job
found-at lane jobs place job at is =
    let found = position-Some (is_of_lane lane) jobs place job (sym at) in record {
      within = found.0;
      is = sym is;
      has = subst (λ (j : Job). Has jobs j) (sym is) (has-at jobs place job found.0);
      of_lane = ap (λ (j : Job). j.asked.lane) is ∙ same-number (get_or jobs place job).asked.lane lane found.1;
    }
