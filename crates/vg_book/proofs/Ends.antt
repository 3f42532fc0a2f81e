-- Seats that are joined, the beginning, and the end.
use Rattle.std.proofs.Common.{◌≡◌, ◌≢◌, inl, inr, ⊎_elim, ℕ, zero, suc, ◌<◌, ◌≤◌, true, false, List, [], ◌∷◌, ◌++◌, length, set, refl, ap, sym, subst, ◌∙◌, arith, Some}
use mathlib.Core.Option as maybe
use mathlib.Core.Logic.{dite}
use mathlib.Core.Option.{some, none, some-ne-none, some-injective}
use native.Mathlib.Decide.{ℕ_discrete}
use lib.ListN.{get_elem?}
use Rattle.atomic_table.specs.Table.{State, Joins}
use Rattle.atomic_table.proofs.Lists.{set_else}
use Rattle.vg_history.specs.declared.machine.Machine.{Ghosts}
use Rattle.vg_history.specs.declared.entry.Entry.{Entry}
use Rattle.vg_history.specs.Lists.{Has}
use Rattle.std.proofs.lemmas.Bool.{cases_lt}
use Rattle.vg_history.specs.Jobs.{lane_by}
use Rattle.vg_history.proofs.ListLemmas.{has_left, has_append, prefix_none}
use Rattle.vg_history.proofs.JobLemmas.{none_at_all}
use Rattle.vg_book.specs.declared.board.Core.{Core}
use Rattle.vg_book.specs.declared.board.Slot.{Slot}
use Rattle.vg_book.specs.declared.board.Slot.TheVariants.{Held}
use Rattle.vg_book.specs.declared.board.Order.{Order}
use Rattle.vg_book.specs.declared.board.Finished.{Finished}
use Rattle.vg_book.specs.declared.board.Account.{Account}
use Rattle.vg_book.specs.declared.board.Counted.{Counted}
use Rattle.vg_book.specs.declared.board.View.{View}
use Rattle.atomic_table.specs.Table.{opening, Final, Seen}
use Rattle.std.proofs.Common.{Option, zero, suc}
use Rattle.vg_book.specs.Views.{Carries, joined, nothing, first_view}
use Rattle.vg_book.specs.Kept.{Plan, AccountOk, LaneOk, PassOk, DoneOk, Knows, Kept, Shown, IsCarried, IsKeptBy, IsCoreOf, lane_jobs}
use Rattle.vg_book.proofs.Updates.{true_not_false, moved, moved_here, moved_else}
use Rattle.vg_book.proofs.SeatLemmas.{set_cases, shown, rebuilt, replanned, holder_set, carried_set, kept_set, Holder}

module _ {M S A R Q P H W : Type 0} (g : Ghosts M S A R Q P H W) (first : S) where
  abbrev E : Type 0
  E = Entry M S A R Q P H W

  abbrev V : Type 0
  V = View M S A R Q P H W

  abbrev Ord : Type 0
  Ord = Order M S A R Q P H W

  abbrev Fin : Type 0
  Fin = Finished M S A R Q P H W

  abbrev Acc : Type 0
  Acc = Account M S A R Q P H W

  abbrev Sl : Type 0
  Sl = Slot M S A R Q P H W

  abbrev St : Type 0
  St = State Sl V

  abbrev Rule : St → Type 0
  Rule = Kept g first

  -- the seat `other` gives all that it has to the seat `id`
  module _ (s : St) (r : Rule s) (id other : ℕ) (v w : V) (at : get_elem? s.views id ≡ some v) (apart : ¬ (other ≡ id)) (there : get_elem? s.views other ≡ some w) (clear : (v.outs ≡ []) × (w.outs ≡ [])) where
    abbrev to : (ℕ → ℕ) → ℕ → ℕ
    to f = moved other id f

    abbrev join_plan : Plan g
    join_plan = replanned g first r.plan r.plan.given r.plan.lanes_made (to r.plan.owner) (λ c. to (r.plan.home c)) (to r.plan.lane_owner)

    stays : (j : ℕ) (f : ℕ → ℕ) (n : ℕ) → ¬ (j ≡ other) → f n ≡ j → to f n ≡ j
    stays j f n ne e = moved_else other id f n (λ x. ne (sym e ∙ x)) ∙ e

    account_stays : (j : ℕ) → ¬ (j ≡ other) → (a : Acc) → AccountOk g r.plan j a → AccountOk g join_plan j a
    account_stays j ne a t = record { owned = stays j r.plan.owner a.number ne t.owned; within = t.within; is = t.is }

    lane_stays : (j : ℕ) → ¬ (j ≡ other) → (l : Counted) → LaneOk g r.plan j l → LaneOk g join_plan j l
    lane_stays j ne l t = record { owned = stays j r.plan.lane_owner l.lane ne t.owned; within = t.within; counts = t.counts }

    pass_stays : (j : ℕ) → ¬ (j ≡ other) → (o : Ord) → PassOk g r.plan j o → PassOk g join_plan j o
    pass_stays j ne o t = record { owned = stays j (r.plan.home o.client) o.call ne t.owned; made = t.made; fresh = t.fresh }

    done_stays : (j : ℕ) → ¬ (j ≡ other) → (f : Fin) → DoneOk g r.plan j f → DoneOk g join_plan j f
    done_stays j ne f t = record { owned = stays j (r.plan.home f.order.client) f.order.call ne t.owned; stands = t.stands }

    join_own : Knows g first join_plan id (joined v w)
    join_own = let k = r.each id v at in let q = r.each other w there in let ne : ¬ (id ≡ other) = λ e. apart (sym e) in record {
      start = k.start;
      seen = k.seen;
      heard = q.seen;
      turn = k.turn;
      busy = λ h. ⊎_elim (λ (t : (a : Acc) × Has v.accounts a). inl (t.0, has_left v.accounts w.accounts t.0 t.1)) (λ (t : (l : Counted) × Has v.lanes l). inr (t.0, has_left v.lanes w.lanes t.0 t.1)) (k.busy h);
      root = k.root;
      accounts = λ a h. ⊎_elim (λ x. account_stays id ne a (k.accounts a x)) (λ x. let t = q.accounts a x in record { owned = moved_here other id r.plan.owner a.number t.owned; within = t.within; is = t.is }) (has_append v.accounts w.accounts a h);
      lanes = λ l h. ⊎_elim (λ x. lane_stays id ne l (k.lanes l x)) (λ x. let t = q.lanes l x in record { owned = moved_here other id r.plan.lane_owner l.lane t.owned; within = t.within; counts = t.counts }) (has_append v.lanes w.lanes l h);
      outs = λ l h. ⊎_elim (λ x. k.outs l x) (λ x. q.outs l x ∙ ap (lane_jobs g l.lane) (clear.1 ∙ sym clear.0)) (has_append v.lanes w.lanes l h);
      passes = λ o h. ⊎_elim (λ x. pass_stays id ne o (k.passes o x)) (λ x. let t = q.passes o x in record { owned = moved_here other id (r.plan.home o.client) o.call t.owned; made = t.made; fresh = t.fresh }) (has_append v.passes w.passes o h);
      dones = λ f h. ⊎_elim (λ x. done_stays id ne f (k.dones f x)) (λ x. let t = q.dones f x in record { owned = moved_here other id (r.plan.home f.order.client) f.order.call t.owned; stands = t.stands }) (has_append v.dones w.dones f h);
    }

    join_spent : Knows g first join_plan other nothing
    join_spent = record {
      start = λ x e. absurd (cc e);
      seen = prefix_none r.plan.log;
      heard = prefix_none r.plan.log;
      turn = λ h. absurd (true_not_false (sym h));
      busy = λ h. absurd (true_not_false (sym h));
      root = λ h. absurd (true_not_false (sym h));
      accounts = λ a h. absurd h;
      lanes = λ l h. absurd h;
      outs = λ l h. absurd h;
      passes = λ o h. absurd h;
      dones = λ f h. absurd h;
    }

    join_others : (j : ℕ) (u : V) → ¬ (j ≡ other) → get_elem? s.views j ≡ some u → Knows g first join_plan j u
    join_others j u ne here = let k = r.each j u here in record {
      start = k.start;
      seen = k.seen;
      heard = k.heard;
      turn = k.turn;
      busy = k.busy;
      root = k.root;
      accounts = λ a h. account_stays j ne a (k.accounts a h);
      lanes = λ l h. lane_stays j ne l (k.lanes l h);
      outs = k.outs;
      passes = λ o h. pass_stays j ne o (k.passes o h);
      dones = λ f h. done_stays j ne f (k.dones f h);
    }

    abbrev after : List V
    after = set (set s.views id (joined v w)) other nothing

    join_each : (j : ℕ) (u : V) → get_elem? after j ≡ some u → Knows g first join_plan j u
    join_each = set_cases (Knows g first join_plan) (set s.views id (joined v w)) other nothing join_spent
        (λ j u ne here. set_cases (λ (i : ℕ) (x : V). ¬ (i ≡ other) → Knows g first join_plan i x) s.views id (joined v w) (λ _. join_own) (λ i x no is z. join_others i x z is) j u here ne)

    join_holder : w.holding ≡ false → Holder g first s.views r.plan.taker → Holder g first after r.plan.taker
    join_holder idle t = dite (ℕ_discrete r.plan.taker other)
        (λ e. let same : t.0 ≡ w = some-injective t.0 w (sym t.1 ∙ (ap (λ (j : ℕ). get_elem? s.views j) e ∙ there)) in absurd (true_not_false (sym t.2 ∙ (ap (λ (u : V). u.holding) same ∙ idle))))
        (λ ne. let x = holder_set g first s.views id v (joined v w) r.plan.taker at (λ h. h) t in (x.0, set_else (set s.views id (joined v w)) other r.plan.taker nothing ne ∙ x.1, x.2))

    join_carried : (o : Ord) → IsCarried g after o → IsCarried g s.views o
    join_carried o c = ⊎_elim
        (λ (z : Carries nothing o). ⊎_elim (λ x. absurd x) (λ (t : (f : Fin) × Has (nothing {M = M} {S = S} {A = A} {R = R} {Q = Q} {P = P} {H = H} {W = W}).dones f × (f.order ≡ o)). absurd t.1) z)
        (λ (t : (j : ℕ) × (u : V) × (j ≢ other) × (get_elem? (set s.views id (joined v w)) j ≡ some u) × Carries u o). ⊎_elim
        (λ (cw : Carries (joined v w) o). ⊎_elim (λ x. ⊎_elim (λ y. (id, v, at, inl y)) (λ y. (other, w, there, inl y)) (has_append v.passes w.passes o x))
        (λ (f : (f : Fin) × Has (joined v w).dones f × (f.order ≡ o)). ⊎_elim (λ y. (id, v, at, inr (f.0, y, f.2))) (λ y. (other, w, there, inr (f.0, y, f.2))) (has_append v.dones w.dones f.0 f.1)) cw)
        (λ (q : (j : ℕ) × (u : V) × (j ≢ id) × (get_elem? s.views j ≡ some u) × Carries u o). (q.0, q.1, q.3, q.4))
        (carried_set g first s.views id (joined v w) o (t.0, t.1, t.3, t.4)))
        (carried_set g first (set s.views id (joined v w)) other nothing o c)

    join_kept : (a : Acc) → IsKeptBy g after a → IsKeptBy g s.views a
    join_kept a c = ⊎_elim (λ z. absurd z)
        (λ (t : (j : ℕ) × (u : V) × (j ≢ other) × (get_elem? (set s.views id (joined v w)) j ≡ some u) × Has u.accounts a). ⊎_elim
        (λ (x : Has (joined v w).accounts a). ⊎_elim (λ y. (id, v, at, y)) (λ y. (other, w, there, y)) (has_append v.accounts w.accounts a x))
        (λ (q : (j : ℕ) × (u : V) × (j ≢ id) × (get_elem? s.views j ≡ some u) × Has u.accounts a). (q.0, q.1, q.3, q.4))
        (kept_set g first s.views id (joined v w) a (t.0, t.1, t.3, t.4)))
        (kept_set g first (set s.views id (joined v w)) other nothing a c)

  pub joins : (id other : ℕ) (v w : V) → w.holding ≡ false → (v.outs ≡ []) × (w.outs ≡ []) → Joins Rule id v other w (joined v w) nothing
  joins id other v w idle clear s r at apart found = let there : get_elem? s.views other ≡ some w = sym (set_else s.views id other (joined v w) apart) ∙ found in let p = r.plan in
      rebuilt g first s r (after s r id other v w at apart there clear) s.words p.given p.lanes_made (to s r id other v w at apart there clear p.owner) (λ c. to s r id other v w at apart there clear (p.home c)) (to s r id other v w at apart there clear p.lane_owner) r.words (omega arith) (omega arith)
      (join_holder s r id other v w at apart there clear idle) (join_each s r id other v w at apart there clear)
      (λ o c a k same. r.linked o (join_carried s r id other v w at apart there clear o c) a (join_kept s r id other v w at apart there clear a k) same)

  first_only : (v u : V) (j : ℕ) → get_elem? (v ∷ []) j ≡ some u → (j ≡ 0) × (v ≡ u)
  first_only v u zero e = (refl, some-injective v u e)
  first_only v u (suc j) e = absurd (some-ne-none u (sym e))

  -- the table as it is made
  pub opens : (c : Core M S A R Q P H W) → (c.history.entries ≡ []) × (c.history.kept ≡ 0) → g.lent c.machine ≡ [] → g.state c.machine ≡ first → g.count first ≡ 0 → Rule (opening (0 ∷ []) (Held c ∷ []) (first_view first))
  opens c empty none_out state count =
      let p : Plan g = record { log = []; given = 0; lanes_made = 0; owner = λ _. 0; home = λ _ _. 0; lane_owner = λ _. 0; word = 0; taker = 0; lent = [] } in
      let own : Knows g first p 0 (first_view first) = record {
        start = λ x e. cc e;
        seen = prefix_none [];
        heard = prefix_none [];
        turn = λ h. absurd (true_not_false (sym h));
        busy = λ h. absurd (true_not_false (sym h));
        root = λ _. (refl, refl, refl);
        accounts = λ a h. absurd h;
        lanes = λ l h. absurd h;
        outs = λ l h. absurd h;
        passes = λ o h. absurd h;
        dones = λ f h. absurd h;
      } in record {
        plan = p;
        at_home = some (Held c);
        words = refl;
        homes = refl;
        free = λ _. (c, refl, record { entries = empty.0; places = empty.1 ∙ ap length (sym none_out); state = λ x e. state ∙ cc e; counted = ap g.count state ∙ count }, none_out);
        taken = λ ne. absurd (ne refl);
        agrees = tt;
        clients = λ e h. absurd h;
        no_lanes = λ l h. refl;
        no_lent = λ l h. refl;
        ordered = λ l. (0, refl);
        once = tt;
        each = λ j u at. let t = first_only (first_view first) u j at in subst (λ (x : ℕ × V). Knows g first p x.0 x.1) (λ i. ((sym t.0) i, t.1 i)) own;
        linked = λ o c a k same. let t = first_only (first_view first) c.1 c.0 c.2 in
            let cc' : Carries (first_view first) o = subst (λ (x : V). Carries x o) (sym t.1) c.3 in ⊎_elim (λ x. absurd x) (λ (f : (f : Fin) × Has (first_view first).dones f × (f.order ≡ o)). absurd f.1) cc';
      }

  -- all clients and lanes that were made are the seat's
  pub record HasAll (v : V) : Type 0 where
    pub clients : (n : ℕ) → 0 < n → n ≤ v.given → (a : Acc) × Has v.accounts a × (a.number ≡ n)
    pub lanes : (l : ℕ) → l < v.lanes_made → (x : Counted) × Has v.lanes x × (x.lane ≡ l)

  pub ends : (ws : List ℕ) (xs : List Sl) (id : ℕ) (v : V) → Final (Seen Rule id v) ws xs → v.is_root ≡ true → v.holding ≡ false → v.outs ≡ [] → ((x : S) × (v.start ≡ Some x)) → HasAll v
      → (log : List E) × (c : Core M S A R Q P H W) × (get_elem? xs 0 ≡ some (Held c)) × IsCoreOf g v.start log c × Shown g v log × (g.lent c.machine ≡ [])
  ends ws xs id v end root idle clear begun all = let s = end.0 in let r = end.1.0 in let at = end.1.1 in let p = r.plan in let k = r.each id v at in let own = k.root root in
      dite (ℕ_discrete p.word 0)
      (λ z. let c = r.free z in
      let none_of : (l : ℕ) → lane_jobs g l p.lent ≡ [] = λ l. ⊎_elim (λ (h : l < v.lanes_made). let x = all.lanes l h in ap (λ (n : ℕ). lane_jobs g n p.lent) (sym x.2) ∙ (k.outs x.0 x.1 ∙ ap (lane_jobs g x.0.lane) clear))
      (λ (h : v.lanes_made ≤ l). r.no_lent l (let y = own.2 in omega arith)) (cases_lt l v.lanes_made) in
      (p.log, c.0, end.4 0 (Held c.0) (ap (λ (l : List (maybe.Option Sl)). get_elem? l 0) r.homes ∙ ap some c.1), subst (λ (x : Option S). IsCoreOf g x p.log c.0) (sym (begun.1 ∙ ap (λ (x : S). Some x) (k.start begun.0 begun.1))) c.2, shown g first s r id v at, c.3 ∙ none_at_all (lane_by g.asked g.tagged) p.lent none_of))
      (λ ne. let t = r.taken ne in let q = r.each p.taker t.0 t.1 in
      let here : ¬ (p.taker ≡ id) = λ (e : p.taker ≡ id). let same : t.0 ≡ v = some-injective t.0 v (sym t.1 ∙ (ap (λ (j : ℕ). get_elem? s.views j) e ∙ at)) in true_not_false (sym t.2 ∙ (ap (λ (u : V). u.holding) same ∙ idle)) in
      ⊎_elim
      (λ (a : (a : Acc) × Has t.0.accounts a). let ok = q.accounts a.0 a.1 in let b = all.clients a.0.number ok.is.number (let x = ok.within in let y = own.1 in omega arith) in
      absurd (here (sym ok.owned ∙ (ap p.owner (sym b.2) ∙ (k.accounts b.0 b.1).owned))))
      (λ (l : (l : Counted) × Has t.0.lanes l). let ok = q.lanes l.0 l.1 in let b = all.lanes l.0.lane (let x = ok.within in let y = own.2 in omega arith) in
      absurd (here (sym ok.owned ∙ (ap p.lane_owner (sym b.2) ∙ (k.lanes b.0 b.1).owned))))
      (q.busy t.2))

  -- the table as it is made, with the slot that was pushed
  pub opens_pushed : (c : Core M S A R Q P H W) (l xs : List Sl) → xs ≡ l ++ Held c ∷ [] → l ≡ [] → (c.history.entries ≡ []) × (c.history.kept ≡ 0) → g.lent c.machine ≡ [] → g.state c.machine ≡ first → g.count first ≡ 0 → Rule (opening (0 ∷ []) xs (first_view first))
  opens_pushed c l xs pushed none_before empty none_out state count = subst (λ (x : List Sl). Rule (opening (0 ∷ []) x (first_view first))) (sym (pushed ∙ ap (λ (y : List Sl). y ++ Held c ∷ []) none_before)) (opens c empty none_out state count)
