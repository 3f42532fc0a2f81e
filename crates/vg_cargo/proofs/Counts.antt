use Rattle.std.proofs.Common.{◌≡◌, ℕ, suc, ◌+◌, ◌*◌, ◌<◌, ◌≤◌, Bool, true, false, cond, eqb, List, [], ◌∷◌, ◌++◌, length, get_or, refl, sym, ap, inl, inr, ◌∙◌, arith, append_assoc}
use Rattle.std.proofs.lemmas.List.{append-nil}
use Rattle.std.proofs.lemmas.Bool.{eq-eqb, ne_eqb}
use Rattle.std.proofs.lemmas.Bool.Decides.{eqb_tells}
use Rattle.vg_wire.specs.declared.request.Queue.{Queue}
use Rattle.vg_cargo.specs.declared.entries.Entry.{Entry}
use Rattle.vg_cargo.specs.declared.entries.Answer.{Answer}
use Rattle.vg_cargo.specs.Entries.{head_of, entries, times, weigh, without, head_in, uses, spread, heads, lane_count, InOrder, AreOf, HaveHeads}

pub times-append : (h : ℕ) (xs ys : List ℕ) → times h (xs ++ ys) ≡ times h xs + times h ys
times-append h [] ys = omega arith
times-append h (x ∷ xs) ys = omega (arith, times-append h xs ys)

pub weigh-append : (f : Entry → ℕ) (es fs : List Entry) → weigh f (es ++ fs) ≡ weigh f es + weigh f fs
weigh-append f [] fs = omega arith
weigh-append f (e ∷ es) fs = omega (arith, weigh-append f es fs)

pub entries-append : (xs ys : List Answer) → entries (xs ++ ys) ≡ entries xs ++ entries ys
entries-append [] ys = refl
entries-append (x ∷ xs) ys = ap (λ (zs : List Entry). x.entry ∷ zs) (entries-append xs ys)

pub have-append : (es fs : List Entry) → HaveHeads es → HaveHeads fs → HaveHeads (es ++ fs)
have-append [] fs some more = more
have-append (e ∷ es) fs some more = (some.0, have-append es fs some.1 more)

-- an entry's head is one of its places
head_times : (h : ℕ) (places : List ℕ) → 0 < length places → cond (eqb (get_or places 0 0) h) 1 0 ≤ times h places
head_times h [] some = absurd (omega arith)
head_times h (p ∷ places) some = omega arith

pub heads_uses : (h : ℕ) (es : List Entry) → HaveHeads es → heads h es ≤ uses h es
heads_uses h [] some = omega arith
heads_uses h (e ∷ es) some = (let here = head_times h e.places some.0 in let rest = heads_uses h es some.1 in omega (arith, here, rest))

pub length_spread : (es : List Entry) → HaveHeads es → length es ≤ spread es
length_spread [] some = omega arith
length_spread (e ∷ es) some = (let rest = length_spread es some.1 in let here = some.0 in omega (arith, here, rest))

pub in_order-snoc : (before es : List Entry) (e : Entry) → InOrder before es → e.ordinal ≡ lane_count e.lane (before ++ es) + 1 → InOrder before (es ++ e ∷ [])
in_order-snoc before [] e order next = (next ∙ ap (λ (xs : List Entry). lane_count e.lane xs + 1) (append-nil before), tt)
in_order-snoc before (f ∷ es) e order next =
    (order.0, in_order-snoc (before ++ f ∷ []) es e order.1 (next ∙ ap (λ (xs : List Entry). lane_count e.lane xs + 1) (sym (append_assoc before (f ∷ []) es))))

pub in_order-front : (before es fs : List Entry) → InOrder before (es ++ fs) → InOrder before es
in_order-front before [] fs order = tt
in_order-front before (e ∷ es) fs order = (order.0, in_order-front (before ++ e ∷ []) es fs order.1)

pub of-append : (queue : Queue) (es fs : List Entry) → AreOf queue es → AreOf queue fs → AreOf queue (es ++ fs)
of-append queue [] fs are more = more
of-append queue (e ∷ es) fs are more = (are.0, of-append queue es fs are.1 more)

pub of-back : (queue : Queue) (es fs : List Entry) → AreOf queue (es ++ fs) → AreOf queue fs
of-back queue [] fs are = are
of-back queue (e ∷ es) fs are = of-back queue es fs are.1

pub head_in_places : (h : ℕ) (e : Entry) → 0 < length e.places → head_of e ≡ h → 1 ≤ times h e.places
head_in_places h e some is = (let here = head_times h e.places some in let one : head_in h e ≡ 1 = rw (eq-eqb (head_of e) h is) refl in omega (arith, here, one))

-- an entry whose head is elsewhere doesn't count
pub heads_less : (h : ℕ) (e : Entry) (es fs : List Entry) → (head_of e ≡ h → ⊥) → heads h es + heads h fs ≡ 0 → heads h (e ∷ es) + heads h fs ≡ 0
heads_less h e es fs other zero_there = let none_here : head_in h e ≡ 0 = rw (ne_eqb (head_of e) h other) refl in omega (arith, none_here)

pub have-front : (es fs : List Entry) → HaveHeads (es ++ fs) → HaveHeads es × HaveHeads fs
have-front [] fs some = (tt, some)
have-front (e ∷ es) fs some = (let rest = have-front es fs some.1 in ((some.0, rest.0), rest.1))

pub length-entries : (answers : List Answer) → length (entries answers) ≡ length answers
length-entries [] = refl
length-entries (a ∷ more) = ap suc (length-entries more)

pub heads_length : (h : ℕ) (es : List Entry) → 1 ≤ heads h es → 1 ≤ length es
heads_length h [] is_there = absurd (omega arith)
heads_length h (e ∷ es) is_there = omega arith

pub weigh-ones : (es : List Entry) → weigh (λ _. 1) es ≡ length es
weigh-ones [] = refl
weigh-ones (e ∷ es) = omega (arith, weigh-ones es)

-- only entries with their head there count
pub weigh_away : (f : Entry → ℕ) (h : ℕ) (es : List Entry) → heads h es ≡ 0 → weigh (λ e. f e * head_in h e) es ≡ 0
weigh_away f h [] zero_there = refl
weigh_away f h (e ∷ es) zero_there =
    let rest = weigh_away f h es (omega arith) in
    let here : head_in h e ≡ 0 = omega arith in
    let product : f e * head_in h e ≡ 0 = rw here (omega arith) in
    omega (arith, product, rest)

pub weigh_without : (f : Entry → ℕ) (h : ℕ) (es : List Entry) → heads h es ≡ 1 → weigh f es ≡ weigh f (without h es) + weigh (λ e. f e * head_in h e) es
weigh_without f h [] one = absurd (omega arith)
weigh_without f h (e ∷ es) one = elim (eqb_tells (head_of e) h) [
  | inl w ↦ (
      let here : head_in h e ≡ 1 = rw w.0 refl in
      let rest = weigh_away f h es (omega (arith, here)) in
      let product : f e * head_in h e ≡ f e = rw here (omega arith) in
      let gone : weigh f (without h (e ∷ es)) ≡ weigh f es = rw w.0 refl in
      omega (arith, rest, product, gone)
      )
  | inr w ↦ (
      let here : head_in h e ≡ 0 = rw (ne_eqb (head_of e) h w.1) refl in
      let rest = weigh_without f h es (omega (arith, here)) in
      let product : f e * head_in h e ≡ 0 = rw here (omega arith) in
      let kept : weigh f (without h (e ∷ es)) ≡ f e + weigh f (without h es) = rw w.0 refl in
      omega (arith, rest, product, kept)
      )
]

pub lane_count-snoc : (lane : ℕ) (es : List Entry) (e : Entry) → lane_count lane (es ++ e ∷ []) ≡ lane_count lane es + lane_count lane (e ∷ [])
lane_count-snoc lane [] e = omega arith
lane_count-snoc lane (f ∷ es) e = (let rest = lane_count-snoc lane es e in omega (arith, rest))

lane_if : (c : Bool) → cond {A = ℕ} c 1 0 ≤ 1
lane_if true = omega arith
lane_if false = omega arith

pub lane_few : (lane : ℕ) (es : List Entry) → lane_count lane es ≤ length es
lane_few lane [] = omega arith
lane_few lane (e ∷ es) = (let one = lane_if (eqb e.lane lane) in let rest = lane_few lane es in omega (arith, one, rest))
