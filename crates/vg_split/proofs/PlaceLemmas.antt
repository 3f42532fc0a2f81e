use Rattle.std.proofs.Common.{◌≡◌, ◌≢◌, ℕ, zero, suc, ◌+◌, ◌-◌, ◌<◌, ◌≤◌, cond, eqb, List, [], ◌∷◌, length, take, drop, get_or, set, refl, sym, ap, subst, inl, inr, ◌∙◌, arith}
use Rattle.std.specs.List.{range_with_len}
use Rattle.std.proofs.lemmas.List.{get_or-set_same, get_or-set_other, length-set}
use Rattle.std.proofs.lemmas.Bool.{eq-eqb, ne_eqb}
use Rattle.std.proofs.lemmas.Bool.Decides.{eqb_tells}
use Rattle.vg_cargo.specs.Entries.{times}
use Rattle.vg_split.specs.Places.{next_in, is_wrong, wrong, IsPath, IsGiven, IsGivenBack}

-- the list from place i on begins with what is there
pub drop_get : (xs : List ℕ) (i : ℕ) → i < length xs → drop i xs ≡ get_or xs i 0 ∷ drop (suc i) xs
drop_get [] i less = absurd (omega arith)
drop_get (x ∷ xs) zero less = refl
drop_get (x ∷ xs) (suc i) less = drop_get xs i (omega arith)

pub times_get : (xs : List ℕ) (i : ℕ) → i < length xs → 1 ≤ times (get_or xs i 0) xs
times_get [] i less = absurd (omega arith)
times_get (x ∷ xs) zero less = (let here : cond {A = ℕ} (eqb x x) 1 0 ≡ 1 = rw (eq-eqb x x refl) refl in omega (arith, here))
times_get (x ∷ xs) (suc i) less = (let rest = times_get xs i (omega arith) in omega (arith, rest))

pub times_take_drop : (p : ℕ) (xs : List ℕ) (i : ℕ) → times p xs ≡ times p (take i xs) + times p (drop i xs)
times_take_drop p [] zero = refl
times_take_drop p [] (suc i) = refl
times_take_drop p (x ∷ xs) zero = omega arith
times_take_drop p (x ∷ xs) (suc i) = (let rest = times_take_drop p xs i in omega (arith, rest))

drop_past : (xs : List ℕ) (i : ℕ) → length xs ≤ i → drop i xs ≡ []
drop_past [] zero less = refl
drop_past [] (suc i) less = refl
drop_past (x ∷ xs) zero less = absurd (omega arith)
drop_past (x ∷ xs) (suc i) less = drop_past xs i (omega arith)

pub next_here : (place : ℕ) (xs : List ℕ) (i : ℕ) → i < length xs → next_in place (drop i xs) ≡ get_or xs i 0
next_here place xs i less = ap (next_in place) (drop_get xs i less)

pub next_last : (place : ℕ) (xs : List ℕ) (i : ℕ) → length xs ≤ i → next_in place (drop i xs) ≡ place
next_last place xs i less = ap (next_in place) (drop_past xs i less)

-- a link is set at a place that isn't in the list
pub wrong_kept : (links new : List ℕ) (places : List ℕ) → ((p : ℕ) → 0 < times p places → get_or new p 0 ≡ get_or links p 0) → wrong new places ≡ wrong links places
wrong_kept links new [] same = refl
wrong_kept links new (place ∷ more) same =
    let here : times place (place ∷ more) ≡ 1 + times place more = rw (eq-eqb place place refl) refl in
    let one : is_wrong new place (next_in place more) ≡ is_wrong links place (next_in place more) = ap (λ (k : ℕ). cond (eqb k (next_in place more)) 0 1) (same place (omega (arith, here))) in
    let rest = wrong_kept links new more (λ p some. same p (omega arith)) in
    omega (arith, one, rest)

pub wrong_set : (links : List ℕ) (place next : ℕ) (places : List ℕ) → times place places ≡ 0 → wrong (set links place next) places ≡ wrong links places
wrong_set links place next places away = wrong_kept links (set links place next) places
    (λ p some. get_or-set_other links place p next 0 (λ same. (let gone : times p places ≡ 0 = subst (λ (k : ℕ). times k places ≡ 0) (sym same) away in omega (arith, gone, some))))

pub wrong_here : (links : List ℕ) (place next : ℕ) → place < length links → is_wrong (set links place next) place next ≡ 0
wrong_here links place next less = (let is = get_or-set_same links place next 0 less in rw (eq-eqb (get_or (set links place next) place 0) next is) refl)

-- one more link, from the end of the list
pub linked_more : (links places : List ℕ) (at next : ℕ) → at < length places → ((p : ℕ) → times p places ≤ 1) → get_or places at 0 < length links → next ≡ next_in (get_or places at 0) (drop (suc at) places)
    → wrong links (drop (suc at) places) ≡ 0 → wrong (set links (get_or places at 0) next) (drop at places) ≡ 0
linked_more links places at next less apart below is linked =
    let p = get_or places at 0 in
    let cut = drop_get places at less in
    let all = times_take_drop p places at in
    let here : times p (drop at places) ≡ 1 + times p (drop (suc at) places) = ap (times p) cut ∙ (let self : times p (p ∷ drop (suc at) places) ≡ 1 + times p (drop (suc at) places) = rw (eq-eqb p p refl) refl in self) in
    let once = apart p in
    let rest = wrong_set links p next (drop (suc at) places) (omega (arith, all, here, once)) in
    let one : is_wrong (set links p next) p (next_in p (drop (suc at) places)) ≡ 0 = subst (λ (k : ℕ). is_wrong (set links p next) p k ≡ 0) is (wrong_here links p next below) in
    ap (wrong (set links p next)) cut ∙ omega (arith, rest, one, linked)

pub others_more : (links initial places : List ℕ) (at next : ℕ) → at < length places → ((p : ℕ) → times p places ≡ 0 → get_or links p 0 ≡ get_or initial p 0)
    → (p : ℕ) → times p places ≡ 0 → get_or (set links (get_or places at 0) next) p 0 ≡ get_or initial p 0
others_more links initial places at next less same p away =
    let some = times_get places at less in
    get_or-set_other links (get_or places at 0) p next 0 (λ is. (let gone : times (get_or places at 0) places ≡ 0 = subst (λ (k : ℕ). times k places ≡ 0) is away in omega (arith, gone, some))) ∙ same p away

-- the places of a new ring
pub range_once : (p a m : ℕ) → times p (range_with_len a m) ≤ 1
range_once p a zero = omega arith
range_once p a (suc m) = elim (eqb_tells a p) [
  | inl w ↦ (let here : cond {A = ℕ} (eqb a p) 1 0 ≡ 1 = rw w.0 refl in let rest = range_away p (a + 1) m (omega (arith, w.1)) in omega (arith, here, rest))
  | inr w ↦ (let here : cond {A = ℕ} (eqb a p) 1 0 ≡ 0 = rw w.0 refl in let rest = range_once p (a + 1) m in omega (arith, here, rest))
]
  where
    range_away : (p a m : ℕ) → p < a → times p (range_with_len a m) ≡ 0
    range_away p a zero less = refl
    range_away p a (suc m) less = (let here : cond {A = ℕ} (eqb a p) 1 0 ≡ 0 = rw (ne_eqb a p (λ e. omega arith)) refl in let rest = range_away p (a + 1) m (omega arith) in omega (arith, here, rest))

pub range_below : (p a m : ℕ) → 0 < times p (range_with_len a m) → p < a + m
range_below p a zero some = absurd (omega arith)
range_below p a (suc m) some = elim (eqb_tells a p) [
  | inl w ↦ omega (arith, w.1)
  | inr w ↦ (let here : cond {A = ℕ} (eqb a p) 1 0 ≡ 0 = rw w.0 refl in let rest = range_below p (a + 1) m (omega (arith, here)) in omega (arith, rest))
]

set_drop : (free : List ℕ) (at place : ℕ) → at < length free → drop at (set free at place) ≡ place ∷ drop (suc at) free
set_drop [] at place less = absurd (omega arith)
set_drop (x ∷ xs) zero place less = refl
set_drop (x ∷ xs) (suc at) place less = set_drop xs at place (omega arith)

pub given_back : (free : List ℕ) (at place p : ℕ) → 0 < at → at ≤ length free → times p (drop (at - 1) (set free (at - 1) place)) ≡ times p (place ∷ drop at free)
given_back free zero place p some most = absurd (omega arith)
given_back free (suc at) place p some most =
    let one : suc at - 1 ≡ at = omega arith in
    subst (λ (k : ℕ). times p (drop k (set free k place)) ≡ times p (place ∷ drop (suc at) free)) (sym one) (ap (times p) (set_drop free at place (omega arith)))

-- one more place of a path
pub record IsStep (links : List ℕ) (place : ℕ) (rest : List ℕ) : Type 0 where
  pub less : place < length links
  pub some : 1 ≤ length rest
  pub counts : (p : ℕ) → times p rest ≡ times p (place ∷ []) + times p (drop 1 rest)
  pub shorter : length rest ≡ 1 + length (drop 1 rest)
  pub last : get_or links place 0 ≡ place → drop 1 rest ≡ []
  pub more : get_or links place 0 ≢ place → IsPath links (get_or links place 0) (drop 1 rest)

linked_here : (links : List ℕ) (place : ℕ) (more : List ℕ) → wrong links (place ∷ more) ≡ 0 → (get_or links place 0 ≡ next_in place more) × (wrong links more ≡ 0)
linked_here links place more linked = elim (eqb_tells (get_or links place 0) (next_in place more)) [
  | inl w ↦ (w.1, omega arith)
  | inr w ↦ (let one : is_wrong links place (next_in place more) ≡ 1 = rw w.0 refl in absurd (omega (arith, one, linked)))
]

pub path_step : (links : List ℕ) (place : ℕ) (rest : List ℕ) → IsPath links place rest → IsStep links place rest
path_step links place [] path = absurd (let some = path.some in omega (arith, some))
path_step links place (q ∷ []) path =
    let here = linked_here links q [] path.linked in
    let self : times q (q ∷ []) ≡ 1 = rw (eq-eqb q q refl) refl in
    subst (λ (k : ℕ). IsStep links k (q ∷ [])) path.head_is (record {
      less = path.below q (omega (arith, self));
      some = omega arith;
      counts = λ p. omega arith;
      shorter = refl;
      last = λ _. refl;
      more = λ away. absurd (away here.0);
    })
path_step links place (q ∷ r ∷ more) path =
    let here = linked_here links q (r ∷ more) path.linked in
    let self : times q (q ∷ []) ≡ 1 = rw (eq-eqb q q refl) refl in
    subst (λ (k : ℕ). IsStep links k (q ∷ r ∷ more)) path.head_is (record {
      less = path.below q (omega (arith, self));
      some = omega arith;
      counts = λ p. omega arith;
      shorter = omega arith;
      last = λ same.
          (let twice : times q (q ∷ r ∷ more) ≡ 2 + times q more = (let is : r ≡ q = sym here.0 ∙ same in let two : times q (r ∷ []) ≡ 1 = rw (eq-eqb r q is) refl in omega (arith, self, two)) in
          let once = path.apart q in
          absurd (omega (arith, twice, once)));
      more = λ _. subst (λ (k : ℕ). IsPath links k (r ∷ more)) (sym here.0) (record {
        some = omega arith;
        head_is = refl;
        linked = here.1;
        apart = λ p. (let once = path.apart p in omega (arith, once));
        below = λ p some. path.below p (omega (arith, some));
      });
    })

-- the places that are still to be given back
pub record IsGiving (links free : List ℕ) (at head : ℕ) (free' : List ℕ) (at' place : ℕ) : Type 0 where
  pub same_size : length free' ≡ length free
  pub left : (places : List ℕ) → IsGiven links free at head places → (rest : List ℕ) × IsPath links place rest × (at' + length places ≡ at + length rest) × (length rest ≤ length places) × ((p : ℕ) → times p (drop at' free') + times p rest ≡ times p (drop at free) + times p places)

pub giving_starts : (links free : List ℕ) (at head : ℕ) → IsGiving links free at head free at head
giving_starts links free at head = record { same_size = refl; left = λ places given. (places, given.path, refl, omega arith, λ p. refl) }

pub giving_more : (links free : List ℕ) (at head : ℕ) (free' : List ℕ) (at' place : ℕ) → IsGiving links free at head free' at' place → get_or links place 0 ≢ place
    → IsGiving links free at head (set free' (at' - 1) place) (at' - 1) (get_or links place 0)
giving_more links free at head free' at' place g away = record {
  same_size = length-set free' (at' - 1) place ∙ g.same_size;
  left = λ places given.
      (let w = g.left places given in
      let s = path_step links place w.0 w.1 in
      let size = g.same_size in
      let some = s.some in
      let shorter = s.shorter in
      let left = w.2 in
      let few = w.3 in
      let many = given.many in
      let most = given.most in
      let shrunk : at' - 1 + length places ≡ at + length (drop 1 w.0) = omega (arith, some, shorter, left, many, few) in (
        drop 1 w.0,
        s.more away,
        shrunk,
        omega (arith, shorter, few),
        λ p.
            (let back = given_back free' at' place p (omega (arith, some, left, many)) (omega (arith, size, left, few, most)) in
            let counts = s.counts p in
            let all = w.4 p in
            omega (arith, back, counts, all)),
      ));
}

pub giving_ends : (links free : List ℕ) (at head : ℕ) (free' : List ℕ) (at' place : ℕ) → IsGiving links free at head free' at' place → get_or links place 0 ≡ place
    → (places : List ℕ) → IsGiven links free at head places → IsGivenBack free at (set free' (at' - 1) place) (at' - 1) places
giving_ends links free at head free' at' place g same places given =
    let w = g.left places given in
    let s = path_step links place w.0 w.1 in
    let size = g.same_size in
    let shorter = s.shorter in
    let none_left : length (drop 1 w.0) ≡ 0 = ap length (s.last same) in
    let left = w.2 in
    let few = w.3 in
    let many = given.many in
    let most = given.most in
    record {
      fewer = omega (arith, shorter, none_left, left, many);
      counts = λ p.
          (let back = given_back free' at' place p (omega (arith, shorter, left, many)) (omega (arith, size, left, few, most)) in
          let counts = s.counts p in
          let gone : times p (drop 1 w.0) ≡ 0 = ap (times p) (s.last same) in
          let all = w.4 p in
          omega (arith, back, counts, gone, all));
    }

-- what the loop needs of the place
pub giving_bounds : (links free : List ℕ) (at head : ℕ) (free' : List ℕ) (at' place : ℕ) → IsGiving links free at head free' at' place → (places : List ℕ) → IsGiven links free at head places
    → (0 < at') × (at' ≤ length free') × (place < length links)
giving_bounds links free at head free' at' place g places given =
    let w = g.left places given in
    let s = path_step links place w.0 w.1 in
    let size = g.same_size in
    let some = s.some in
    let left = w.2 in
    let few = w.3 in
    let many = given.many in
    let most = given.most in
    (omega (arith, some, left, many), omega (arith, size, left, few, most), s.less)
