-- What the rule tells a seat, and how it is kept by a step that leaves the history as it is.
use Rattle.std.proofs.Common.{◌≡◌, ◌≢◌, ◌⊎◌, inl, inr, ⊎_elim, ℕ, ◌<◌, ◌≤◌, true, List, [], ◌∷◌, ◌++◌, length, set, get_or, ap, sym, subst, ◌∙◌, arith, length-set}
use mathlib.Core.Logic.{dite}
use mathlib.Core.Option.{some, some-injective}
use native.Mathlib.Decide.{ℕ_discrete}
use lib.ListN.{get_elem?}
use Rattle.atomic_table.specs.Table.{State}
use Rattle.atomic_table.proofs.Lists.{at_set, set_here, set_else, at_longer}
use Rattle.vg_history.specs.declared.machine.Machine.{Ghosts}
use Rattle.vg_history.specs.declared.entry.Entry.{Entry}
use Rattle.vg_history.specs.Lists.{Has}
use Rattle.vg_history.specs.Entries.{client_of, EachOnce}
use Rattle.vg_history.specs.History.{AgreesFrom, Ordered}
use Rattle.vg_book.specs.declared.board.Slot.{Slot}
use Rattle.vg_book.specs.declared.board.Order.{Order}
use Rattle.vg_book.specs.declared.board.Account.{Account}
use Rattle.vg_book.specs.declared.board.View.{View}
use Rattle.vg_book.specs.Views.{Carries}
use Rattle.vg_book.specs.Kept.{Plan, Knows, Kept, Shown, IsCarried, IsKeptBy}
use Rattle.vg_book.proofs.Updates.{at_below, at_end}

module _ {X : Type 0} where
  pub set_cases : (K : ℕ → X → Type 0) (vs : List X) (id : ℕ) (w : X) → K id w → ((j : ℕ) (u : X) → j ≢ id → get_elem? vs j ≡ some u → K j u) → (j : ℕ) (u : X) → get_elem? (set vs id w) j ≡ some u → K j u
  set_cases K vs id w mine others j u at = ⊎_elim (λ (t : (j ≡ id) × (w ≡ u)). subst (λ (x : ℕ × X). K x.0 x.1) (λ i. (sym t.0 i, t.1 i)) mine) (λ (t : (j ≢ id) × (get_elem? vs j ≡ some u)). others j u t.0 t.1) (at_set vs id j w u at)

  -- a seat that is cut in two, and the others
  pub cut_cases : (K : ℕ → X → Type 0) (vs : List X) (id : ℕ) (l r : X) → K id l → K (length vs) r → ((j : ℕ) (u : X) → j ≢ id → get_elem? vs j ≡ some u → K j u) → (j : ℕ) (u : X) → get_elem? (set vs id l ++ r ∷ []) j ≡ some u → K j u
  cut_cases K vs id l r mine new others j u at = ⊎_elim (λ old. set_cases K vs id l mine others j u old)
      (λ (t : (j ≡ length (set vs id l)) × (r ≡ u)). subst (λ (x : ℕ × X). K x.0 x.1) (λ i. (sym (t.0 ∙ length-set vs id l) i, t.1 i)) new) (at_end (set vs id l) r u j at)

module _ {M S A R Q P H W : Type 0} (g : Ghosts M S A R Q P H W) (first : S) where
  abbrev E : Type 0
  E = Entry M S A R Q P H W

  abbrev V : Type 0
  V = View M S A R Q P H W

  abbrev Ord : Type 0
  Ord = Order M S A R Q P H W

  abbrev Acc : Type 0
  Acc = Account M S A R Q P H W

  abbrev St : Type 0
  St = State (Slot M S A R Q P H W) V

  abbrev Rule : St → Type 0
  Rule = Kept g first

  pub words_to : (s : St) (r : Rule s) (f : ℕ → ℕ) → set s.words 0 (f (get_or s.words 0 0)) ≡ f r.plan.word ∷ []
  words_to s r f = ap (λ (l : List ℕ). set l 0 (f (get_or l 0 0))) r.words

  pub found_word : (s : St) (r : Rule s) → get_or s.words 0 0 ≡ r.plan.word
  found_word s r = ap (λ (l : List ℕ). get_or l 0 0) r.words

  abbrev pub Linked : List V → Type 0
  Linked vs = (o : Ord) → IsCarried g vs o → (a : Acc) → IsKeptBy g vs a → a.number ≡ o.client → Has a.out o

  -- what the rule's parts tell a seat
  pub shown_by : (p : Plan g) (vs : List V) (id : ℕ) (v : V) → AgreesFrom g first p.log → Ordered g p.log → EachOnce p.log → ((e : E) → Has p.log e → (0 < client_of e) × (client_of e ≤ p.given))
      → get_elem? vs id ≡ some v → Knows g first p id v → Linked vs → Shown g v p.log
  shown_by p vs id v agrees ordered once clients at k linked = record {
    seen = k.seen;
    heard = k.heard;
    told = record { agrees = λ x e. subst (λ (y : S). AgreesFrom g y p.log) (sym (k.start x e)) agrees; once = once; ordered = ordered };
    clients = λ is e h. ((clients e h).0, subst (λ (n : ℕ). client_of e ≤ n) (sym (k.root is).1) (clients e h).1);
    accounts = λ a h. (k.accounts a h).is;
    lanes = λ l h. (k.lanes l h).counts;
    passes = λ o h. (k.passes o h).fresh;
    dones = λ f h. (k.dones f h).stands;
    outs = λ o c a h same. linked o (id, v, at, c) a (id, v, at, h) same;
  }

  pub shown : (s : St) (r : Rule s) (id : ℕ) (v : V) → get_elem? s.views id ≡ some v → Shown g v r.plan.log
  shown s r id v at = shown_by r.plan s.views id v r.agrees r.ordered r.once r.clients at (r.each id v at) r.linked

  abbrev pub Holder : List V → ℕ → Type 0
  Holder vs j = (v : V) × (get_elem? vs j ≡ some v) × (v.holding ≡ true)

  abbrev pub replanned : Plan g → ℕ → ℕ → (ℕ → ℕ) → (ℕ → ℕ → ℕ) → (ℕ → ℕ) → Plan g
  replanned p given lanes_made owner home lane_owner = record { log = p.log; given = given; lanes_made = lanes_made; owner = owner; home = home; lane_owner = lane_owner; word = p.word; taker = p.taker; lent = p.lent }

  -- a step that leaves the history, the word and the slot as they are
  pub rebuilt : (s : St) (r : Rule s) (vs : List V) (ws : List ℕ) (given lanes_made : ℕ) (owner : ℕ → ℕ) (home : ℕ → ℕ → ℕ) (lane_owner : ℕ → ℕ) → ws ≡ r.plan.word ∷ []
      → r.plan.given ≤ given → r.plan.lanes_made ≤ lanes_made → (Holder s.views r.plan.taker → Holder vs r.plan.taker)
      → ((j : ℕ) (v : V) → get_elem? vs j ≡ some v → Knows g first (replanned r.plan given lanes_made owner home lane_owner) j v) → Linked vs
      → Rule record { words = ws; homes = s.homes; views = vs }
  rebuilt s r vs ws given lanes_made owner home lane_owner words more more_lanes holder each linked = record {
    plan = replanned r.plan given lanes_made owner home lane_owner;
    at_home = r.at_home;
    words = words;
    homes = r.homes;
    free = r.free;
    taken = λ ne. holder (r.taken ne);
    agrees = r.agrees;
    clients = λ e h. let t = r.clients e h in let u : client_of e ≤ r.plan.given = t.1 in (t.0, omega arith);
    no_lanes = λ l h. r.no_lanes l (omega arith);
    no_lent = λ l h. r.no_lent l (omega arith);
    ordered = r.ordered;
    once = r.once;
    each = each;
    linked = linked;
  }

  pub holder_set : (vs : List V) (id : ℕ) (v w : V) (taker : ℕ) → get_elem? vs id ≡ some v → (v.holding ≡ true → w.holding ≡ true) → Holder vs taker → Holder (set vs id w) taker
  holder_set vs id v w taker at keeps t = dite (ℕ_discrete taker id)
      (λ e. let same : t.0 ≡ v = some-injective t.0 v (sym t.1 ∙ (ap (λ (j : ℕ). get_elem? vs j) e ∙ at)) in
      (w, ap (λ (j : ℕ). get_elem? (set vs id w) j) e ∙ set_here vs id w (at_below vs id v at), keeps (ap (λ (u : V). u.holding) (sym same) ∙ t.2)))
      (λ ne. (t.0, set_else vs id taker w ne ∙ t.1, t.2))

  pub holder_more : (vs : List V) (w : V) (taker : ℕ) → Holder vs taker → Holder (vs ++ w ∷ []) taker
  holder_more vs w taker t = (t.0, at_longer vs (w ∷ []) taker t.0 t.1, t.2)

  -- who carries an order, or keeps an account, after a step of one seat
  pub carried_set : (vs : List V) (id : ℕ) (w : V) (o : Ord) → IsCarried g (set vs id w) o → Carries w o ⊎ ((j : ℕ) × (u : V) × (j ≢ id) × (get_elem? vs j ≡ some u) × Carries u o)
  carried_set vs id w o c = ⊎_elim (λ (t : (c.0 ≡ id) × (w ≡ c.1)). inl (subst (λ (u : V). Carries u o) (sym t.1) c.3)) (λ (t : (c.0 ≢ id) × (get_elem? vs c.0 ≡ some c.1)). inr (c.0, c.1, t.0, t.1, c.3)) (at_set vs id c.0 w c.1 c.2)

  pub kept_set : (vs : List V) (id : ℕ) (w : V) (a : Acc) → IsKeptBy g (set vs id w) a → Has w.accounts a ⊎ ((j : ℕ) × (u : V) × (j ≢ id) × (get_elem? vs j ≡ some u) × Has u.accounts a)
  kept_set vs id w a c = ⊎_elim (λ (t : (c.0 ≡ id) × (w ≡ c.1)). inl (subst (λ (u : V). Has u.accounts a) (sym t.1) c.3)) (λ (t : (c.0 ≢ id) × (get_elem? vs c.0 ≡ some c.1)). inr (c.0, c.1, t.0, t.1, c.3)) (at_set vs id c.0 w c.1 c.2)

  pub linked_set : (s : St) (r : Rule s) (id : ℕ) (v w : V) → get_elem? s.views id ≡ some v → ((o : Ord) → Carries w o → Carries v o) → ((a : Acc) → Has w.accounts a → Has v.accounts a) → Linked (set s.views id w)
  linked_set s r id v w at less fewer o c a k same =
      let c' : IsCarried g s.views o = ⊎_elim (λ x. (id, v, at, less o x)) (λ (t : (j : ℕ) × (u : V) × (j ≢ id) × (get_elem? s.views j ≡ some u) × Carries u o). (t.0, t.1, t.3, t.4)) (carried_set s.views id w o c) in
      let k' : IsKeptBy g s.views a = ⊎_elim (λ x. (id, v, at, fewer a x)) (λ (t : (j : ℕ) × (u : V) × (j ≢ id) × (get_elem? s.views j ≡ some u) × Has u.accounts a). (t.0, t.1, t.3, t.4)) (kept_set s.views id w a k) in
      r.linked o c' a k' same
