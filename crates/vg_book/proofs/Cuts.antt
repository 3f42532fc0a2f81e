-- Seats that are cut in two and joined, and the end.
use Rattle.std.proofs.Common.{◌≡◌, ◌≢◌, ◌⊎◌, inl, inr, ⊎_elim, ℕ, ◌+◌, ◌≤◌, true, List, [], ◌∷◌, ◌++◌, length, set, refl, ap, sym, subst, ◌∙◌, arith, Some}
use mathlib.Core.Option.{some}
use lib.ListN.{get_elem?}
use Rattle.atomic_table.specs.Table.{State, Splits}
use Rattle.vg_history.specs.declared.machine.Machine.{Ghosts}
use Rattle.vg_history.specs.declared.entry.Entry.{Entry}
use Rattle.vg_history.specs.Lists.{Has}
use Rattle.vg_history.specs.Entries.{client_of}
use Rattle.vg_history.proofs.ListLemmas.{has_at, prefix_none}
use Rattle.vg_history.proofs.HistoryLemmas.{allowed_none, holds_none}
use Rattle.vg_book.specs.declared.board.Slot.{Slot}
use Rattle.vg_book.specs.declared.board.Order.{Order}
use Rattle.vg_book.specs.declared.board.Finished.{Finished}
use Rattle.vg_book.specs.declared.board.Account.{Account}
use Rattle.vg_book.specs.declared.board.Counted.{Counted}
use Rattle.vg_book.specs.declared.board.View.{View}
use Rattle.std.proofs.Common.{Option}
use Rattle.vg_book.specs.Views.{Carries, entry_of, emptied, handed, noted, with_client, client_made, accounts_told, newborn, with_lane, lane_made}
use Rattle.vg_book.specs.Kept.{Plan, AccountOk, LaneOk, PassOk, Knows, Kept, IsCarried, IsKeptBy, lane_jobs}
use Rattle.vg_book.proofs.Updates.{true_not_false, at_end, put, put_here, put_else, moved, moved_here, moved_else}
use Rattle.vg_book.proofs.SeatLemmas.{cut_cases, rebuilt, replanned, holder_set, holder_more, carried_set, kept_set, Linked, Holder}

module _ {M S A R Q P H W : Type 0} (g : Ghosts M S A R Q P H W) (first : S) where
  abbrev E : Type 0
  E = Entry M S A R Q P H W

  abbrev V : Type 0
  V = View M S A R Q P H W

  abbrev Ord : Type 0
  Ord = Order M S A R Q P H W

  abbrev Fin : Type 0
  Fin = Finished M S A R Q P H W

  abbrev Acc : Type 0
  Acc = Account M S A R Q P H W

  abbrev Sl : Type 0
  Sl = Slot M S A R Q P H W

  abbrev St : Type 0
  St = State Sl V

  abbrev Rule : St → Type 0
  Rule = Kept g first

  -- who carries an order, or keeps an account, where a seat is cut in two
  carried_cut : (vs : List V) (id : ℕ) (l r : V) (o : Ord) → IsCarried g (set vs id l ++ r ∷ []) o → (Carries l o ⊎ Carries r o) ⊎ ((j : ℕ) × (u : V) × (j ≢ id) × (get_elem? vs j ≡ some u) × Carries u o)
  carried_cut vs id l r o c = ⊎_elim
      (λ (old : get_elem? (set vs id l) c.0 ≡ some c.1). ⊎_elim (λ x. inl (inl x)) (λ y. inr y) (carried_set g first vs id l o (c.0, c.1, old, c.3)))
      (λ (t : (c.0 ≡ length (set vs id l)) × (r ≡ c.1)). inl (inr (subst (λ (u : V). Carries u o) (sym t.1) c.3))) (at_end (set vs id l) r c.1 c.0 c.2)

  kept_cut : (vs : List V) (id : ℕ) (l r : V) (a : Acc) → IsKeptBy g (set vs id l ++ r ∷ []) a → (Has l.accounts a ⊎ Has r.accounts a) ⊎ ((j : ℕ) × (u : V) × (j ≢ id) × (get_elem? vs j ≡ some u) × Has u.accounts a)
  kept_cut vs id l r a c = ⊎_elim
      (λ (old : get_elem? (set vs id l) c.0 ≡ some c.1). ⊎_elim (λ x. inl (inl x)) (λ y. inr y) (kept_set g first vs id l a (c.0, c.1, old, c.3)))
      (λ (t : (c.0 ≡ length (set vs id l)) × (r ≡ c.1)). inl (inr (subst (λ (u : V). Has u.accounts a) (sym t.1) c.3))) (at_end (set vs id l) r c.1 c.0 c.2)

  -- a cut that makes no account
  linked_cut : (s : St) (r : Rule s) (id : ℕ) (v left right : V) → get_elem? s.views id ≡ some v → ((o : Ord) → Carries left o ⊎ Carries right o → Carries v o) → ((a : Acc) → Has left.accounts a ⊎ Has right.accounts a → Has v.accounts a) → Linked g first (set s.views id left ++ right ∷ [])
  linked_cut s r id v left right at less fewer o c a k same =
      let c' : IsCarried g s.views o = ⊎_elim (λ x. (id, v, at, less o x)) (λ (t : (j : ℕ) × (u : V) × (j ≢ id) × (get_elem? s.views j ≡ some u) × Carries u o). (t.0, t.1, t.3, t.4)) (carried_cut s.views id left right o c) in
      let k' : IsKeptBy g s.views a = ⊎_elim (λ x. (id, v, at, fewer a x)) (λ (t : (j : ℕ) × (u : V) × (j ≢ id) × (get_elem? s.views j ≡ some u) × Has u.accounts a). (t.0, t.1, t.3, t.4)) (kept_cut s.views id left right a k) in
      r.linked o c' a k' same

  holder_cut : (vs : List V) (id : ℕ) (v left right : V) (taker : ℕ) → get_elem? vs id ≡ some v → (v.holding ≡ true → left.holding ≡ true) → Holder g first vs taker → Holder g first (set vs id left ++ right ∷ []) taker
  holder_cut vs id v left right taker at stays t = holder_more g first (set vs id left) right taker (holder_set g first vs id v left taker at stays t)

  knows_noted : (p : Plan g) (id new : ℕ) (v : V) → Knows g first p id v → Knows g first p new (noted v)
  knows_noted p id new v k = record {
    start = k.start;
    seen = k.seen;
    heard = prefix_none p.log;
    turn = λ h. absurd (true_not_false (sym h));
    busy = λ h. absurd (true_not_false (sym h));
    root = λ h. absurd (true_not_false (sym h));
    accounts = λ a h. absurd h;
    lanes = λ l h. absurd h;
    outs = λ l h. absurd h;
    passes = λ o h. absurd h;
    dones = λ f h. absurd h;
  }

  -- a note from any seat
  pub notes : (id : ℕ) (v : V) → Splits Rule id v v (noted v)
  notes id v s r at = let p = r.plan in rebuilt g first s r (set s.views id v ++ noted v ∷ []) s.words p.given p.lanes_made p.owner p.home p.lane_owner r.words (omega arith) (omega arith)
      (holder_cut s.views id v v (noted v) p.taker at (λ h. h))
      (cut_cases (Knows g first p) s.views id v (noted v) (r.each id v at) (knows_noted p id (length s.views) v (r.each id v at)) (λ j u ne there. r.each j u there))
      (linked_cut s r id v v (noted v) at (λ o x. ⊎_elim (λ y. y) (λ y. ⊎_elim (λ z. absurd z) (λ (t : (f : Fin) × Has (noted v).dones f × (f.order ≡ o)). absurd t.1) y) x) (λ a x. ⊎_elim (λ y. y) (λ y. absurd y) x))

  -- what a seat carries goes to a new one
  module _ (s : St) (r : Rule s) (id : ℕ) (v : V) (at : get_elem? s.views id ≡ some v) where
    abbrev hand_home : ℕ → ℕ → ℕ
    hand_home c = moved id (length s.views) (r.plan.home c)

    abbrev hand_plan : Plan g
    hand_plan = replanned g first r.plan r.plan.given r.plan.lanes_made r.plan.owner hand_home r.plan.lane_owner

    hand_left : Knows g first hand_plan id (emptied v)
    hand_left = let k = r.each id v at in record {
      start = k.start;
      seen = k.seen;
      heard = k.heard;
      turn = k.turn;
      busy = k.busy;
      root = k.root;
      accounts = λ a h. let t = k.accounts a h in record { owned = t.owned; within = t.within; is = t.is };
      lanes = λ l h. let t = k.lanes l h in record { owned = t.owned; within = t.within; counts = t.counts };
      outs = k.outs;
      passes = λ o h. absurd h;
      dones = λ f h. absurd h;
    }

    hand_right : Knows g first hand_plan (length s.views) (handed v)
    hand_right = let k = r.each id v at in record {
      start = k.start;
      seen = k.seen;
      heard = prefix_none r.plan.log;
      turn = λ h. absurd (true_not_false (sym h));
      busy = λ h. absurd (true_not_false (sym h));
      root = λ h. absurd (true_not_false (sym h));
      accounts = λ a h. absurd h;
      lanes = λ l h. absurd h;
      outs = λ l h. absurd h;
      passes = λ o h. let t = k.passes o h in record { owned = moved_here id (length s.views) (r.plan.home o.client) o.call t.owned; made = t.made; fresh = t.fresh };
      dones = λ f h. let t = k.dones f h in record { owned = moved_here id (length s.views) (r.plan.home f.order.client) f.order.call t.owned; stands = t.stands };
    }

    hand_others : (j : ℕ) (u : V) → j ≢ id → get_elem? s.views j ≡ some u → Knows g first hand_plan j u
    hand_others j u ne there = let k = r.each j u there in record {
      start = k.start;
      seen = k.seen;
      heard = k.heard;
      turn = k.turn;
      busy = k.busy;
      root = k.root;
      accounts = λ a h. let t = k.accounts a h in record { owned = t.owned; within = t.within; is = t.is };
      lanes = λ l h. let t = k.lanes l h in record { owned = t.owned; within = t.within; counts = t.counts };
      outs = k.outs;
      passes = λ o h. let t = k.passes o h in record { owned = moved_else id (length s.views) (r.plan.home o.client) o.call (λ e. ne (sym t.owned ∙ e)) ∙ t.owned; made = t.made; fresh = t.fresh };
      dones = λ f h. let t = k.dones f h in record { owned = moved_else id (length s.views) (r.plan.home f.order.client) f.order.call (λ e. ne (sym t.owned ∙ e)) ∙ t.owned; stands = t.stands };
    }

  pub hands : (id : ℕ) (v : V) → Splits Rule id v (emptied v) (handed v)
  hands id v s r at = let p = r.plan in rebuilt g first s r (set s.views id (emptied v) ++ handed v ∷ []) s.words p.given p.lanes_made p.owner (hand_home s r id v at) p.lane_owner r.words (omega arith) (omega arith)
      (holder_cut s.views id v (emptied v) (handed v) p.taker at (λ h. h))
      (cut_cases (Knows g first (hand_plan s r id v at)) s.views id (emptied v) (handed v) (hand_left s r id v at) (hand_right s r id v at) (hand_others s r id v at))
      (linked_cut s r id v (emptied v) (handed v) at (λ o x. ⊎_elim (λ y. ⊎_elim (λ z. absurd z) (λ (t : (f : Fin) × Has (emptied v).dones f × (f.order ≡ o)). absurd t.1) y) (λ y. y) x) (λ a x. ⊎_elim (λ y. y) (λ y. absurd y) x))

  -- a lane from the root
  pub makes_lane : (id : ℕ) (v : V) → v.is_root ≡ true → Splits Rule id v (with_lane v) (lane_made v)
  makes_lane id v root s r at = let p = r.plan in let k = r.each id v at in let n : ℕ = length s.views in let own = k.root root in
      let lane_owner : ℕ → ℕ = put p.lane_owner p.lanes_made n in
      let p' : Plan g = replanned g first p p.given (p.lanes_made + 1) p.owner p.home lane_owner in
      let lane_else : (j : ℕ) (x : Counted) → LaneOk g p j x → LaneOk g p' j x = λ j x t. record { owned = put_else p.lane_owner p.lanes_made n x.lane (λ e. let b = t.within in absurd (omega arith)) ∙ t.owned; within = let b = t.within in omega arith; counts = t.counts } in
      rebuilt g first s r (set s.views id (with_lane v) ++ lane_made v ∷ []) s.words p.given (p.lanes_made + 1) p.owner p.home lane_owner r.words (omega arith) (omega arith)
      (holder_cut s.views id v (with_lane v) (lane_made v) p.taker at (λ h. h))
      (cut_cases (Knows g first p') s.views id (with_lane v) (lane_made v)
      (record {
        start = k.start;
        seen = k.seen;
        heard = k.heard;
        turn = k.turn;
        busy = k.busy;
        root = λ _. (own.0, own.1, ap (λ (x : ℕ). x + 1) own.2);
        accounts = λ a h. let t = k.accounts a h in record { owned = t.owned; within = t.within; is = t.is };
        lanes = λ x h. lane_else id x (k.lanes x h);
        outs = k.outs;
        passes = λ o h. let t = k.passes o h in record { owned = t.owned; made = t.made; fresh = t.fresh };
        dones = λ f h. let t = k.dones f h in record { owned = t.owned; stands = t.stands };
      })
      (record {
        start = k.start;
        seen = k.seen;
        heard = prefix_none p.log;
        turn = λ h. absurd (true_not_false (sym h));
        busy = λ h. absurd (true_not_false (sym h));
        root = λ h. absurd (true_not_false (sym h));
        accounts = λ a h. absurd h;
        lanes = λ x h. ⊎_elim (λ (e : record { lane = v.lanes_made; count = 0 } ≡ x). subst (λ (y : Counted). LaneOk g p' n y) e (record {
          owned = put_here p.lane_owner p.lanes_made n v.lanes_made own.2;
          within = let b = own.2 in omega arith;
          counts = r.no_lanes v.lanes_made (let b = own.2 in omega arith);
        })) (λ y. absurd y) h;
        outs = λ x h. ⊎_elim (λ (e : record { lane = v.lanes_made; count = 0 } ≡ x). subst (λ (y : Counted). lane_jobs g y.lane p.lent ≡ []) e (r.no_lent v.lanes_made (let b = own.2 in omega arith))) (λ y. absurd y) h;
        passes = λ o h. absurd h;
        dones = λ f h. absurd h;
      })
      (λ j u ne there. let q = r.each j u there in record {
        start = q.start;
        seen = q.seen;
        heard = q.heard;
        turn = q.turn;
        busy = q.busy;
        root = λ h. absurd (ne ((q.root h).0 ∙ sym own.0));
        accounts = λ a h. let t = q.accounts a h in record { owned = t.owned; within = t.within; is = t.is };
        lanes = λ x h. lane_else j x (q.lanes x h);
        outs = q.outs;
        passes = λ o h. let t = q.passes o h in record { owned = t.owned; made = t.made; fresh = t.fresh };
        dones = λ f h. let t = q.dones f h in record { owned = t.owned; stands = t.stands };
      }))
      (linked_cut s r id v (with_lane v) (lane_made v) at (λ o x. ⊎_elim (λ y. y) (λ y. ⊎_elim (λ z. absurd z) (λ (t : (f : Fin) × Has (lane_made v).dones f × (f.order ≡ o)). absurd t.1) y) x) (λ a x. ⊎_elim (λ y. y) (λ y. absurd y) x))

  -- a client from the root, with the holds that it was told
  pub makes_client : (id : ℕ) (v : V) (h : H) → v.is_root ≡ true → v.told ≡ Some h → Splits Rule id v (with_client v) (client_made v)
  makes_client id v h root told s r at = let p = r.plan in let k = r.each id v at in let n : ℕ = length s.views in let own = k.root root in let given_is : v.given ≡ p.given = own.1 in
      let owner : ℕ → ℕ = put p.owner (v.given + 1) n in
      let p' : Plan g = replanned g first p (p.given + 1) p.lanes_made owner p.home p.lane_owner in
      let new : Acc = newborn (v.given + 1) h in
      let made : (client_made v).accounts ≡ new ∷ [] = ap (λ (x : Option H). accounts_told (v.given + 1) x) told in
      let own_made : (a : Acc) → Has (client_made v).accounts a → new ≡ a = λ a x. ⊎_elim (λ y. y) (λ y. absurd y) (subst (λ (l : List Acc). Has l a) made x) in
      let apart : (e : E) → Has p.log e → client_of e ≢ v.given + 1 = λ e x same. let b = (r.clients e x).1 in omega (arith, b, same, given_is) in
      let else_ok : (j : ℕ) (a : Acc) → AccountOk g p j a → AccountOk g p' j a = λ j a t. record { owned = put_else p.owner (v.given + 1) n a.number (λ e. let b = t.within in absurd (omega arith)) ∙ t.owned; within = let b = t.within in omega arith; is = t.is } in
      let pass_ok : (j : ℕ) (o : Ord) → PassOk g p j o → PassOk g p' j o = λ j o t. let b = t.made.1 in record { owned = t.owned; made = (t.made.0, omega arith); fresh = t.fresh } in
      let carried_below : (o : Ord) → IsCarried g s.views o → o.client ≤ p.given = λ o c. let q = r.each c.0 c.1 c.2 in ⊎_elim (λ x. (q.passes o x).made.1)
      (λ (t : (f : Fin) × Has c.1.dones f × (f.order ≡ o)). subst (λ (y : Ord). y.client ≤ p.given) t.2 (r.clients (entry_of t.0) (has_at p.log t.0.place (entry_of t.0) (q.dones t.0 t.1).stands)).1) c.3 in
      rebuilt g first s r (set s.views id (with_client v) ++ client_made v ∷ []) s.words (p.given + 1) p.lanes_made owner p.home p.lane_owner r.words (omega arith) (omega arith)
      (holder_cut s.views id v (with_client v) (client_made v) p.taker at (λ x. x))
      (cut_cases (Knows g first p') s.views id (with_client v) (client_made v)
      (record {
        start = k.start;
        seen = k.seen;
        heard = k.heard;
        turn = k.turn;
        busy = k.busy;
        root = λ _. (own.0, ap (λ (x : ℕ). x + 1) given_is, own.2);
        accounts = λ a x. else_ok id a (k.accounts a x);
        lanes = λ l x. let t = k.lanes l x in record { owned = t.owned; within = t.within; counts = t.counts };
        outs = k.outs;
        passes = λ o x. pass_ok id o (k.passes o x);
        dones = λ f x. let t = k.dones f x in record { owned = t.owned; stands = t.stands };
      })
      (record {
        start = k.start;
        seen = k.seen;
        heard = prefix_none p.log;
        turn = λ x. absurd (true_not_false (sym x));
        busy = λ x. absurd (true_not_false (sym x));
        root = λ x. absurd (true_not_false (sym x));
        accounts = λ a x. subst (λ (y : Acc). AccountOk g p' n y) (own_made a x) (record {
          owned = put_here p.owner (v.given + 1) n (v.given + 1) refl;
          within = omega arith;
          is = record {
            number = omega arith;
            mine = λ e y. absurd y;
            known = λ e y own. absurd (apart e y own);
            numbers = λ m. refl;
            outs = λ o y. absurd y;
            allowed = allowed_none g (v.given + 1) h p.log apart;
            held = holds_none g (v.given + 1) h p.log apart;
          };
        });
        lanes = λ l x. absurd x;
        outs = λ l x. absurd x;
        passes = λ o x. absurd x;
        dones = λ f x. absurd x;
      })
      (λ j u ne there. let q = r.each j u there in record {
        start = q.start;
        seen = q.seen;
        heard = q.heard;
        turn = q.turn;
        busy = q.busy;
        root = λ x. absurd (ne ((q.root x).0 ∙ sym own.0));
        accounts = λ a x. else_ok j a (q.accounts a x);
        lanes = λ l x. let t = q.lanes l x in record { owned = t.owned; within = t.within; counts = t.counts };
        outs = q.outs;
        passes = λ o x. pass_ok j o (q.passes o x);
        dones = λ f x. let t = q.dones f x in record { owned = t.owned; stands = t.stands };
      }))
      (λ o c a x same.
      let co : IsCarried g s.views o = ⊎_elim
      (λ (z : Carries (with_client v) o ⊎ Carries (client_made v) o). ⊎_elim (λ y. (id, v, at, y)) (λ y. ⊎_elim (λ w. absurd w) (λ (t : (f : Fin) × Has (client_made v).dones f × (f.order ≡ o)). absurd t.1) y) z)
      (λ (t : (j : ℕ) × (u : V) × (j ≢ id) × (get_elem? s.views j ≡ some u) × Carries u o). (t.0, t.1, t.3, t.4)) (carried_cut s.views id (with_client v) (client_made v) o c) in
      ⊎_elim
      (λ (z : Has (with_client v).accounts a ⊎ Has (client_made v).accounts a). ⊎_elim (λ y. r.linked o co a (id, v, at, y) same)
      (λ (y : Has (client_made v).accounts a). let b = carried_below o co in let number : v.given + 1 ≡ a.number = ap (λ (m : Acc). m.number) (own_made a y) in absurd (omega (arith, b, same, number, given_is))) z)
      (λ (t : (j : ℕ) × (u : V) × (j ≢ id) × (get_elem? s.views j ≡ some u) × Has u.accounts a). r.linked o co a (t.0, t.1, t.3, t.4) same)
      (kept_cut s.views id (with_client v) (client_made v) a x))
