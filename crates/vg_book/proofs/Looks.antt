-- A look, and the two steps that tell: what the next client holds, and what a client asks.
use Rattle.std.proofs.Common.{◌≡◌, ◌≢◌, inl, inr, ⊎_elim, ℕ, ◌+◌, ◌==◌, true, false, List, [], ◌∷◌, map, set, get_or, refl, ap, sym, subst, ◌∙◌, arith}
use mathlib.Core.Logic.{dite}
use mathlib.Core.Option.{some, none}
use native.Mathlib.Decide.{ℕ_discrete}
use lib.ListN.{get_elem?}
use prog.Atomic.{either}
use Rattle.atomic_table.specs.Table.{State, Me, step, keeps, Allows}
use Rattle.vg_history.specs.declared.machine.Machine.{Ghosts}
use Rattle.vg_history.specs.declared.entry.Entry.{Entry}
use Rattle.vg_history.specs.Lists.{Has}
use Rattle.vg_history.proofs.ListLemmas.{has_left, has_last, prefix_self, prefix_none}
use Rattle.std.specs.declared.snapshot.Snapshot.{Snapshot}
use Rattle.vg_book.specs.declared.board.Slot.{Slot}
use Rattle.vg_book.specs.declared.board.Slot.TheVariants.{Told, Asked}
use Rattle.vg_book.specs.declared.board.Order.{Order}
use Rattle.vg_book.specs.declared.board.Finished.{Finished}
use Rattle.vg_book.specs.declared.board.Account.{Account}
use Rattle.vg_book.specs.declared.board.View.{View}
use Rattle.vg_book.specs.Views.{Carries, looked, telling, drawing, drawn, ordered_of}
use Rattle.vg_book.specs.Kept.{Plan, AccountOk, PassOk, Knows, Kept, IsCarried, IsKeptBy}
use Rattle.vg_book.specs.Tells as tells
use Rattle.vg_book.proofs.Updates.{true_not_false, put, put_here, put_else, either_same}
use Rattle.vg_book.proofs.Accounts.{draws, out_below, call_below}
use Rattle.vg_book.proofs.SeatLemmas.{set_cases, shown, words_to, rebuilt, replanned, holder_set, linked_set, carried_set, kept_set, Linked}

module _ {M S A R Q P H W : Type 0} (g : Ghosts M S A R Q P H W) (first : S) where
  abbrev E : Type 0
  E = Entry M S A R Q P H W

  abbrev V : Type 0
  V = View M S A R Q P H W

  abbrev Ord : Type 0
  Ord = Order M S A R Q P H W

  abbrev Acc : Type 0
  Acc = Account M S A R Q P H W

  abbrev Sl : Type 0
  Sl = Slot M S A R Q P H W

  abbrev St : Type 0
  St = State Sl V

  abbrev Rule : St → Type 0
  Rule = Kept g first

  knows_looked : (p : Plan g) (id : ℕ) (v : V) → Knows g first p id v → Knows g first p id (looked v p.log)
  knows_looked p id v k = record {
    start = k.start;
    seen = prefix_self p.log;
    heard = prefix_none p.log;
    turn = λ h. ((k.turn h).0, (k.turn h).1, refl, (k.turn h).3);
    busy = k.busy;
    root = k.root;
    accounts = k.accounts;
    lanes = k.lanes;
    outs = k.outs;
    passes = k.passes;
    dones = k.dones;
  }

  knows_telling : (p : Plan g) (id : ℕ) (v : V) (h : H) → Knows g first p id v → Knows g first p id (telling v p.log h)
  knows_telling p id v h k = record {
    start = k.start;
    seen = prefix_self p.log;
    heard = prefix_none p.log;
    turn = λ h. ((k.turn h).0, (k.turn h).1, refl, (k.turn h).3);
    busy = k.busy;
    root = k.root;
    accounts = k.accounts;
    lanes = k.lanes;
    outs = k.outs;
    passes = k.passes;
    dones = k.dones;
  }

  -- a step that changes only what its seat has seen
  same_plan : (s : St) (r : Rule s) (id : ℕ) (v w : V) (ws : List ℕ) → get_elem? s.views id ≡ some v → ws ≡ r.plan.word ∷ [] → Knows g first r.plan id w → (v.holding ≡ true → w.holding ≡ true)
      → ((o : Ord) → Carries w o → Carries v o) → ((a : Acc) → Has w.accounts a → Has v.accounts a) → Rule record { words = ws; homes = s.homes; views = set s.views id w }
  same_plan s r id v w ws at words mine stays less fewer = let p = r.plan in
      rebuilt g first s r (set s.views id w) ws p.given p.lanes_made p.owner p.home p.lane_owner words (omega arith) (omega arith) (holder_set g first s.views id v w p.taker at stays)
      (set_cases (Knows g first p) s.views id w mine (λ j u ne there. r.each j u there)) (linked_set g first s r id v w at less fewer)

  pub looks : (slots id : ℕ) (me : Me Sl V) → Allows Rule slots id me 0 (λ n. n) (tells.Looks g (step slots 0 0 0 none) me)
  looks slots id me s r deep at small = let v = me.0 in (
    looked v r.plan.log,
    keeps,
    tt,
    same_plan s r id v (looked v r.plan.log) (set s.words 0 (get_or s.words 0 0)) at (words_to g first s r (λ n. n)) (knows_looked r.plan id v (r.each id v at)) (λ h. h) (λ o c. c) (λ a h. h),
    (r.plan.log, refl, shown g first s r id v at),
  )

  pub tells_holds : (slots id : ℕ) (me : Me Sl V) (x : Snapshot H) → Allows Rule slots id me 0 (λ n. either (n == 0) 0 n) (tells.Tells g (step slots 0 0 0 (some (Told x))) me)
  tells_holds slots id me x s r deep at small = let v = me.0 in (
    telling v r.plan.log x.value,
    keeps,
    tt,
    same_plan s r id v (telling v r.plan.log x.value) (set s.words 0 (either (get_or s.words 0 0 == 0) 0 (get_or s.words 0 0))) at
        (words_to g first s r (λ n. either (n == 0) 0 n) ∙ ap (λ (n : ℕ). n ∷ []) (either_same r.plan.word)) (knows_telling r.plan id v x.value (r.each id v at)) (λ h. h) (λ o c. c) (λ a h. h),
    (r.plan.log, refl, shown g first s r id v at),
  )

  -- a client's seat, with nothing else
  pub record IsClients (v : V) (a : Acc) : Type 0 where
    pub account : v.accounts ≡ a ∷ []
    pub lanes : v.lanes ≡ []
    pub passes : v.passes ≡ []
    pub dones : v.dones ≡ []
    pub root : v.is_root ≡ false

  abbrev drawn_home : Plan g → ℕ → Acc → ℕ → ℕ → ℕ
  drawn_home p id a = put p.home a.number (put (p.home a.number) (a.used + 1) id)

  home_else : (p : Plan g) (id : ℕ) (a : Acc) (c n : ℕ) → ((c ≡ a.number) × (n ≡ a.used + 1) → ⊥) → drawn_home p id a c n ≡ p.home c n
  home_else p id a c n ne = dite (ℕ_discrete c a.number)
      (λ e. ap (λ (f : ℕ → ℕ). f n) (put_here p.home a.number (put (p.home a.number) (a.used + 1) id) c e) ∙ (put_else (p.home a.number) (a.used + 1) id n (λ same. ne (e, same)) ∙ ap (λ (k : ℕ). p.home k n) (sym e)))
      (λ no. ap (λ (f : ℕ → ℕ). f n) (put_else p.home a.number (put (p.home a.number) (a.used + 1) id) c no))

  home_here : (p : Plan g) (id : ℕ) (a : Acc) → drawn_home p id a a.number (a.used + 1) ≡ id
  home_here p id a = ap (λ (f : ℕ → ℕ). f (a.used + 1)) (put_here p.home a.number (put (p.home a.number) (a.used + 1) id) a.number refl) ∙ put_here (p.home a.number) (a.used + 1) id (a.used + 1) refl

  only : (v : V) (a b : Acc) → v.accounts ≡ a ∷ [] → Has v.accounts b → a ≡ b
  only v a b e h = ⊎_elim (λ x. x) (λ x. absurd x) (subst (λ (l : List Acc). Has l b) e h)

  has_own : (v : V) (a : Acc) → v.accounts ≡ a ∷ [] → Has v.accounts a
  has_own v a e = subst (λ (l : List Acc). Has l a) (sym e) (inl refl)

  -- the step that draws a client's next number for a request
  module _ (s : St) (r : Rule s) (id : ℕ) (v : V) (a : Acc) (q : Q) (at : get_elem? s.views id ≡ some v) (is : IsClients v a) (may : g.allows a.holds q ≡ true) where
    abbrev new : V
    new = record v { accounts = drawn a q ∷ []; passes = ordered_of a q ∷ [] }

    abbrev plan' : Plan g
    plan' = replanned g first r.plan r.plan.given r.plan.lanes_made r.plan.owner (drawn_home r.plan id a) r.plan.lane_owner

    own_ok : AccountOk g r.plan id a
    own_ok = (r.each id v at).accounts a (has_own v a is.account)

    -- what is carried for the client has another number
    not_carried : (o : Ord) → IsCarried g s.views o → (o.client ≡ a.number) × (o.call ≡ a.used + 1) → ⊥
    not_carried o c same = let out = r.linked o c a (id, v, at, has_own v a is.account) (sym same.0) in
        let b = out_below g a own_ok.is.numbers o out in omega (arith, same.1, b)

    draw_others : (j : ℕ) (u : V) → j ≢ id → get_elem? s.views j ≡ some u → Knows g first plan' j u
    draw_others j u ne there = let k = r.each j u there in record {
      start = k.start;
      seen = k.seen;
      heard = k.heard;
      turn = k.turn;
      busy = k.busy;
      root = k.root;
      accounts = λ b h. let t = k.accounts b h in record { owned = t.owned; within = t.within; is = t.is };
      lanes = λ l h. let t = k.lanes l h in record { owned = t.owned; within = t.within; counts = t.counts };
      outs = k.outs;
      passes = λ o h. let t = k.passes o h in record { owned = home_else r.plan id a o.client o.call (not_carried o (j, u, there, inl h)) ∙ t.owned; made = t.made; fresh = t.fresh };
      dones = λ f h. let t = k.dones f h in record { owned = home_else r.plan id a f.order.client f.order.call (not_carried f.order (j, u, there, inr (f, h, refl))) ∙ t.owned; stands = t.stands };
    }

    draw_own : Knows g first plan' id new
    draw_own = let k = r.each id v at in let ok = own_ok in record {
      start = k.start;
      seen = k.seen;
      heard = k.heard;
      turn = k.turn;
      busy = λ _. inl (drawn a q, inl refl);
      root = λ e. absurd (true_not_false (sym e ∙ is.root));
      accounts = λ b h. ⊎_elim (λ (e : drawn a q ≡ b). subst (λ (x : Acc). AccountOk g plan' id x) e (record { owned = ok.owned; within = ok.within; is = draws g r.plan.log a q ok.is may })) (λ x. absurd x) h;
      lanes = λ l h. absurd (subst (λ ls. Has ls l) is.lanes h);
      outs = λ l h. absurd (subst (λ ls. Has ls l) is.lanes h);
      passes = λ o h. ⊎_elim (λ (e : ordered_of a q ≡ o). subst (λ (x : Ord). PassOk g plan' id x) e (record {
        owned = home_here r.plan id a;
        made = (ok.is.number, ok.within);
        fresh = λ f there client call. let b = call_below g r.plan.log a ok.is.known ok.is.numbers f there client in omega (arith, b, call);
      })) (λ x. absurd x) h;
      dones = λ f h. absurd (subst (λ l. Has l f) is.dones h);
    }

    draw_linked : Linked g first (set s.views id new)
    draw_linked o c b k same = let own : IsKeptBy g s.views a = (id, v, at, has_own v a is.account) in
        ⊎_elim
        (λ (cw : Carries new o). ⊎_elim
        (λ (ho : Has (ordered_of a q ∷ []) o). ⊎_elim
        (λ (e : ordered_of a q ≡ o). ⊎_elim
        (λ (kw : Has new.accounts b). ⊎_elim (λ (f : drawn a q ≡ b). subst (λ (x : Acc × Ord). Has x.0.out x.1) (λ i. (f i, e i)) (has_last a.out (ordered_of a q))) (λ x. absurd x) kw)
        (λ (t : (j : ℕ) × (u : V) × (j ≢ id) × (get_elem? s.views j ≡ some u) × Has u.accounts b).
        let mine : r.plan.owner b.number ≡ id = ap r.plan.owner (same ∙ ap (λ (x : Ord). x.client) (sym e)) ∙ own_ok.owned in
        absurd (t.2 (sym ((r.each t.0 t.1 t.3).accounts b t.4).owned ∙ mine)))
        (kept_set g first s.views id new b k))
        (λ x. absurd x) ho)
        (λ (hd : (f : Finished M S A R Q P H W) × Has new.dones f × (f.order ≡ o)). absurd (subst (λ l. Has l hd.0) is.dones hd.1)) cw)
        (λ (t : (j : ℕ) × (u : V) × (j ≢ id) × (get_elem? s.views j ≡ some u) × Carries u o).
        let co : IsCarried g s.views o = (t.0, t.1, t.3, t.4) in
        ⊎_elim
        (λ (kw : Has new.accounts b). ⊎_elim (λ (f : drawn a q ≡ b). subst (λ (x : Acc). Has x.out o) f (has_left a.out (ordered_of a q ∷ []) o (r.linked o co a own (ap (λ (x : Acc). x.number) f ∙ same)))) (λ x. absurd x) kw)
        (λ (t' : (j : ℕ) × (u : V) × (j ≢ id) × (get_elem? s.views j ≡ some u) × Has u.accounts b). r.linked o co b (t'.0, t'.1, t'.3, t'.4) same)
        (kept_set g first s.views id new b k))
        (carried_set g first s.views id new o c)

    draw_kept : (ws : List ℕ) → ws ≡ r.plan.word ∷ [] → Rule record { words = ws; homes = s.homes; views = set s.views id new }
    draw_kept ws words = rebuilt g first s r (set s.views id new) ws r.plan.given r.plan.lanes_made r.plan.owner (drawn_home r.plan id a) r.plan.lane_owner words (omega arith) (omega arith)
        (holder_set g first s.views id v new r.plan.taker at (λ h. h)) (set_cases (Knows g first plan') s.views id new draw_own draw_others) draw_linked

  pub draws_order : (slots id : ℕ) (me : Me Sl V) (a : Acc) (x : Snapshot Q) → IsClients me.0 a → g.allows a.holds x.value ≡ true
      → Allows Rule slots id me 0 (λ n. either (n == 0) 0 n) (tells.Draws g (step slots 0 0 0 (some (Asked x))) me)
  draws_order slots id me a x is may s r deep at small =
      let q = x.value in let ws : List ℕ = set s.words 0 (either (get_or s.words 0 0 == 0) 0 (get_or s.words 0 0)) in
      let words : ws ≡ r.plan.word ∷ [] = words_to g first s r (λ n. either (n == 0) 0 n) ∙ ap (λ (n : ℕ). n ∷ []) (either_same r.plan.word) in
      let same : new s r id me.0 a q at is may ≡ drawing me.0 q = ap (λ (l : List Acc). let z : V = record me.0 { accounts = map (λ (b : Acc). drawn b q) l; passes = map (λ (b : Acc). ordered_of b q) l } in z) (sym is.account) in
      (drawing me.0 q, keeps, tt, subst (λ (w : V). Rule record { words = ws; homes = s.homes; views = set s.views id w }) same (draw_kept s r id me.0 a q at is may ws words), refl)
