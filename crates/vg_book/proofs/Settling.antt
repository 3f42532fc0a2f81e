-- A client's order comes back, run or unrun.
use Rattle.std.proofs.Common.{◌≡◌, ◌≢◌, inl, inr, ⊎_elim, ℕ, false, List, [], ◌∷◌, set, get_or, refl, ap, sym, subst, ◌∙◌, arith}
use mathlib.Core.Option.{some, none}
use lib.ListN.{get_elem?}
use Rattle.atomic_table.specs.Table.{State, Me, step, keeps, Allows}
use Rattle.vg_history.specs.declared.machine.Machine.{Ghosts}
use Rattle.vg_history.specs.declared.entry.Entry.{Entry}
use Rattle.vg_history.specs.Lists.{Has}
use Rattle.vg_history.proofs.ListLemmas.{has_at, prefix_self, prefix_none}
use Rattle.vg_book.specs.declared.board.Slot.{Slot}
use Rattle.vg_book.specs.declared.board.Order.{Order}
use Rattle.vg_book.specs.declared.board.Finished.{Finished}
use Rattle.vg_book.specs.declared.board.Account.{Account}
use Rattle.vg_book.specs.declared.board.Counted.{Counted}
use Rattle.vg_book.specs.declared.board.View.{View}
use Rattle.vg_book.specs.Views.{Carries, entry_of, without, settling, settled, settle_first, returning, given_up, give_up_first}
use Rattle.vg_book.specs.Kept.{AccountOk, Knows, Kept, Shown, IsCarried}
use Rattle.vg_book.specs.Tells as tells
use Rattle.vg_book.proofs.Updates.{true_not_false, has_without, set_at}
use Rattle.vg_book.proofs.Accounts.{settles, gives_up}
use Rattle.vg_book.proofs.SeatLemmas.{set_cases, shown, shown_by, words_to, rebuilt, holder_set, carried_set, kept_set, Linked}

module _ {M S A R Q P H W : Type 0} (g : Ghosts M S A R Q P H W) (first : S) where
  abbrev E : Type 0
  E = Entry M S A R Q P H W

  abbrev V : Type 0
  V = View M S A R Q P H W

  abbrev Ord : Type 0
  Ord = Order M S A R Q P H W

  abbrev Fin : Type 0
  Fin = Finished M S A R Q P H W

  abbrev Acc : Type 0
  Acc = Account M S A R Q P H W

  abbrev Sl : Type 0
  Sl = Slot M S A R Q P H W

  abbrev St : Type 0
  St = State Sl V

  abbrev Rule : St → Type 0
  Rule = Kept g first

  only : (v : V) (a b : Acc) → v.accounts ≡ a ∷ [] → Has v.accounts b → a ≡ b
  only v a b e h = ⊎_elim (λ x. x) (λ x. absurd x) (subst (λ (l : List Acc). Has l b) e h)

  has_own : (v : V) (a : Acc) → v.accounts ≡ a ∷ [] → Has v.accounts a
  has_own v a e = subst (λ (l : List Acc). Has l a) (sym e) (inl refl)

  -- a client's seat with an order that came back: the account changes to a', which has all that is out but the order
  module _ (s : St) (r : Rule s) (id : ℕ) (v : V) (a a' : Acc) (o : Ord) (at : get_elem? s.views id ≡ some v) (account : v.accounts ≡ a ∷ []) (lanes : v.lanes ≡ []) (root : v.is_root ≡ false)
      (carries : Carries v o) (number : a'.number ≡ a.number) (out : a'.out ≡ without o.call a.out) where
    abbrev new : V
    new = record v { seen = r.plan.log; heard = []; accounts = a' ∷ []; passes = []; dones = [] }

    back_own : AccountOk g r.plan id a' → Knows g first r.plan id new
    back_own ok = let k = r.each id v at in record {
      start = k.start;
      seen = prefix_self r.plan.log;
      heard = prefix_none r.plan.log;
      turn = λ h. ((k.turn h).0, (k.turn h).1, refl, (k.turn h).3);
      busy = λ _. inl (a', inl refl);
      root = λ e. absurd (true_not_false (sym e ∙ root));
      accounts = λ b h. ⊎_elim (λ (e : a' ≡ b). subst (λ (x : Acc). AccountOk g r.plan id x) e ok) (λ x. absurd x) h;
      lanes = λ l h. absurd (subst (λ (ls : List Counted). Has ls l) lanes h);
      outs = λ l h. absurd (subst (λ (ls : List Counted). Has ls l) lanes h);
      passes = λ x h. absurd h;
      dones = λ x h. absurd h;
    }

    -- the order's home is the client's own seat
    home_is : r.plan.home o.client o.call ≡ id
    home_is = let k = r.each id v at in ⊎_elim (λ h. (k.passes o h).owned) (λ (t : (f : Fin) × Has v.dones f × (f.order ≡ o)). subst (λ (x : Ord). r.plan.home x.client x.call ≡ id) t.2 (k.dones t.0 t.1).owned) carries

    home_of : (j : ℕ) (u : V) (x : Ord) → get_elem? s.views j ≡ some u → Carries u x → r.plan.home x.client x.call ≡ j
    home_of j u x there c = let k = r.each j u there in ⊎_elim (λ h. (k.passes x h).owned) (λ (t : (f : Fin) × Has u.dones f × (f.order ≡ x)). subst (λ (y : Ord). r.plan.home y.client y.call ≡ j) t.2 (k.dones t.0 t.1).owned) c

    back_linked : o.client ≡ a.number → Linked g first (set s.views id new)
    back_linked own x c b k same = ⊎_elim
        (λ (cw : Carries new x). ⊎_elim (λ h. absurd h) (λ (t : (f : Fin) × Has new.dones f × (f.order ≡ x)). absurd t.1) cw)
        (λ (t : (j : ℕ) × (u : V) × (j ≢ id) × (get_elem? s.views j ≡ some u) × Carries u x).
        let cx : IsCarried g s.views x = (t.0, t.1, t.3, t.4) in
        ⊎_elim
        (λ (kw : Has new.accounts b). ⊎_elim
        (λ (f : a' ≡ b). let mine : a.number ≡ x.client = sym number ∙ (ap (λ (y : Acc). y.number) f ∙ same) in
        let old = r.linked x cx a (id, v, at, has_own v a account) mine in
        let apart : x.call ≢ o.call = λ (e : x.call ≡ o.call). t.2 (sym (home_of t.0 t.1 x t.3 t.4) ∙ ((λ i. r.plan.home ((sym mine ∙ sym own) i) (e i)) ∙ home_is)) in
        subst (λ (y : Acc). Has y.out x) f (subst (λ (l : List Ord). Has l x) (sym out) (has_without o.call a.out x old apart)))
        (λ z. absurd z) kw)
        (λ (t' : (j : ℕ) × (u : V) × (j ≢ id) × (get_elem? s.views j ≡ some u) × Has u.accounts b). r.linked x cx b (t'.0, t'.1, t'.3, t'.4) same)
        (kept_set g first s.views id new b k))
        (carried_set g first s.views id new x c)

    back_kept : o.client ≡ a.number → AccountOk g r.plan id a' → (ws : List ℕ) → ws ≡ r.plan.word ∷ [] → Rule record { words = ws; homes = s.homes; views = set s.views id new }
    back_kept own ok ws words = let p = r.plan in rebuilt g first s r (set s.views id new) ws p.given p.lanes_made p.owner p.home p.lane_owner words (omega arith) (omega arith)
        (holder_set g first s.views id v new p.taker at (λ h. h)) (set_cases (Knows g first p) s.views id new (back_own ok) (λ j u ne there. r.each j u there)) (back_linked own)

  pub settles_order : (slots id : ℕ) (me : Me Sl V) (a : Acc) (f : Fin) → me.0.accounts ≡ a ∷ [] → me.0.lanes ≡ [] → me.0.is_root ≡ false → me.0.passes ≡ [] → me.0.dones ≡ f ∷ [] → f.order.client ≡ a.number
      → Allows Rule slots id me 0 (λ n. n) (tells.Settles g (step slots 0 0 0 none) me)
  settles_order slots id me a f account lanes root passes dones own s r deep at small =
      let v = me.0 in let ws : List ℕ = set s.words 0 (get_or s.words 0 0) in let k = r.each id v at in
      let here : Has v.dones f = subst (λ (l : List Fin). Has l f) (sym dones) (inl refl) in
      let mine : Has v.accounts a = has_own v a account in
      let ok = k.accounts a mine in
      let carries : Carries v f.order = inr (f, here, refl) in
      let out : Has a.out f.order = r.linked f.order (id, v, at, carries) a (id, v, at, mine) (sym own) in
      let ok' : AccountOk g r.plan id (settled a f) = record { owned = ok.owned; within = ok.within; is = settles g r.plan.log a f ok.is r.once out own (has_at r.plan.log f.place (entry_of f) (k.dones f here).stands) } in
      let w : V = new s r id v a (settled a f) f.order at account lanes root carries refl refl in
      let same : w ≡ settling v r.plan.log = (λ i. let z : V = record v { seen = r.plan.log; heard = []; accounts = settle_first (sym account i) (sym dones i); passes = sym passes i; dones = [] } in z) in
      let kept : Rule record { words = ws; homes = s.homes; views = set s.views id w } = back_kept s r id v a (settled a f) f.order at account lanes root carries refl refl own ok' ws (words_to g first s r (λ n. n)) in
      let kept' : Rule record { words = ws; homes = s.homes; views = set s.views id (settling v r.plan.log) } = subst (λ (x : V). Rule record { words = ws; homes = s.homes; views = set s.views id x }) same kept in
      let after : Shown g (settling v r.plan.log) r.plan.log = subst (λ (x : V). Shown g x r.plan.log) same (shown_by g first r.plan (set s.views id w) id w r.agrees r.ordered r.once r.clients (set_at s.views id v w at)
      (back_own s r id v a (settled a f) f.order at account lanes root carries refl refl ok') (back_linked s r id v a (settled a f) f.order at account lanes root carries refl refl own)) in
      (settling v r.plan.log, keeps, tt, kept', (r.plan.log, refl, shown g first s r id v at, after))

  pub returns_order : (slots id : ℕ) (me : Me Sl V) (a : Acc) (o : Ord) → me.0.accounts ≡ a ∷ [] → me.0.lanes ≡ [] → me.0.is_root ≡ false → me.0.passes ≡ o ∷ [] → me.0.dones ≡ [] → o.client ≡ a.number
      → Allows Rule slots id me 0 (λ n. n) (tells.Returns g (step slots 0 0 0 none) me)
  returns_order slots id me a o account lanes root passes dones own s r deep at small =
      let v = me.0 in let ws : List ℕ = set s.words 0 (get_or s.words 0 0) in let k = r.each id v at in
      let here : Has v.passes o = subst (λ (l : List Ord). Has l o) (sym passes) (inl refl) in
      let mine : Has v.accounts a = has_own v a account in
      let ok = k.accounts a mine in
      let carries : Carries v o = inl here in
      let out : Has a.out o = r.linked o (id, v, at, carries) a (id, v, at, mine) (sym own) in
      let ok' : AccountOk g r.plan id (given_up a o) = record { owned = ok.owned; within = ok.within; is = gives_up g r.plan.log a o ok.is out own (k.passes o here).fresh } in
      let w : V = new s r id v a (given_up a o) o at account lanes root carries refl refl in
      let same : w ≡ returning v r.plan.log = (λ i. let z : V = record v { seen = r.plan.log; heard = []; accounts = give_up_first (sym account i) (sym passes i); passes = []; dones = sym dones i } in z) in
      let kept : Rule record { words = ws; homes = s.homes; views = set s.views id w } = back_kept s r id v a (given_up a o) o at account lanes root carries refl refl own ok' ws (words_to g first s r (λ n. n)) in
      let kept' : Rule record { words = ws; homes = s.homes; views = set s.views id (returning v r.plan.log) } = subst (λ (x : V). Rule record { words = ws; homes = s.homes; views = set s.views id x }) same kept in
      let after : Shown g (returning v r.plan.log) r.plan.log = subst (λ (x : V). Shown g x r.plan.log) same (shown_by g first r.plan (set s.views id w) id w r.agrees r.ordered r.once r.clients (set_at s.views id v w at)
      (back_own s r id v a (given_up a o) o at account lanes root carries refl refl ok') (back_linked s r id v a (given_up a o) o at account lanes root carries refl refl own)) in
      (returning v r.plan.log, keeps, tt, kept', (r.plan.log, refl, shown g first s r id v at, after))
