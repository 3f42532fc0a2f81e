-- The turn given back with a command that was run for a pass.
use Rattle.std.proofs.Common.{◌≡◌, ◌≢◌, inl, inr, ⊎_elim, ℕ, suc, ◌+◌, ◌<◌, ◌≤◌, true, false, List, [], ◌∷◌, ◌++◌, map, length, set, refl, ap, sym, subst, ◌∙◌, arith, Some}
use mathlib.Core.Option.{some, none}
use lib.ListN.{get_elem?}
use Rattle.atomic_table.specs.Table.{State, Me, step, gives, Allows}
use Rattle.atomic_table.proofs.Lists.{at_last}
use Rattle.vg_history.specs.declared.machine.Machine.{Ghosts}
use Rattle.vg_history.specs.declared.entry.Entry.{Entry}
use Rattle.vg_history.specs.declared.entry.Entry.TheVariants.{Command}
use Rattle.vg_history.specs.Lists.{Has, upto}
use Rattle.vg_history.specs.Entries.{client_of, EachOnce}
use Rattle.vg_history.specs.History.{ordinals, Ordered}
use Rattle.vg_history.proofs.ListLemmas.{has_snoc, prefix_self, prefix_more}
use Rattle.vg_history.proofs.EntryLemmas.{each_once_snoc}
use Rattle.vg_history.proofs.HistoryLemmas.{ordinals_else, ordinals_next}
use Rattle.vg_book.specs.declared.board.Core.{Core}
use Rattle.vg_book.specs.declared.board.Slot.{Slot}
use Rattle.vg_book.specs.declared.board.Slot.TheVariants.{Held}
use Rattle.vg_book.specs.declared.board.Order.{Order}
use Rattle.vg_book.specs.declared.board.Finished.{Finished}
use Rattle.vg_book.specs.declared.board.Account.{Account}
use Rattle.vg_book.specs.declared.board.Counted.{Counted}
use Rattle.vg_book.specs.declared.board.View.{View}
use Rattle.atomic_table.specs.Table.{put_back, rest}
use Rattle.std.proofs.Common.{Option}
use Rattle.vg_laws.proofs.Numbers.{same_or_not}
use Rattle.vg_book.specs.Views.{Carries, ran, finished, counted_up, entries_in}
use Rattle.vg_book.specs.Kept.{Plan, LaneOk, PassOk, DoneOk, Knows, Kept, Shown, IsCarried, IsKeptBy, lane_jobs}
use Rattle.vg_book.specs.Tells as tells
use Rattle.vg_book.proofs.Updates.{true_not_false, set_at}
use Rattle.vg_book.proofs.Accounts.{Fits}
use Rattle.vg_book.proofs.SeatLemmas.{shown_by, carried_set, kept_set, Linked}
use Rattle.vg_book.proofs.Turns.{begun_is, gives_back, grown_plan, grow_others, entry_reply, IsNext, next_core}

module _ {M S A R Q P H W : Type 0} (g : Ghosts M S A R Q P H W) (first : S) where
  abbrev E : Type 0
  E = Entry M S A R Q P H W

  abbrev V : Type 0
  V = View M S A R Q P H W

  abbrev Ord : Type 0
  Ord = Order M S A R Q P H W

  abbrev Fin : Type 0
  Fin = Finished M S A R Q P H W

  abbrev Acc : Type 0
  Acc = Account M S A R Q P H W

  abbrev Sl : Type 0
  Sl = Slot M S A R Q P H W

  abbrev St : Type 0
  St = State Sl V

  abbrev Rule : St → Type 0
  Rule = Kept g first

  -- a lane's seat that has the turn and a pass, whose request is the lane's next
  module _ (s : St) (r : Rule s) (id : ℕ) (v : V) (l : Counted) (o : Ord) (p : P) (c : Core M S A R Q P H W) (at : get_elem? s.views id ≡ some v) (holding : v.holding ≡ true)
      (account : v.accounts ≡ []) (lanes : v.lanes ≡ l ∷ []) (passes : v.passes ≡ o ∷ []) (dones : v.dones ≡ []) (root : v.is_root ≡ false) (tag : g.tagged o.request ≡ (l.lane, l.count + 1))
      (own_lent : lane_jobs g l.lane (g.lent c.machine) ≡ []) (else_lent : (k : ℕ) → k ≢ l.lane → lane_jobs g k (g.lent c.machine) ≡ lane_jobs g k r.plan.lent) where
    abbrev command : E
    command = Command o.client o.call o.request p

    abbrev done : Fin
    done = record { order = o; reply = p; place = length r.plan.log }

    abbrev run_view : V
    run_view = record v { seen = r.plan.log ++ command ∷ []; holding = false; outs = []; lanes = counted_up l ∷ []; passes = []; dones = done ∷ [] }

    abbrev run_plan : Plan g
    run_plan = grown_plan g first s r id v run_view command (g.lent c.machine) c at holding

    has_pass : Has v.passes o
    has_pass = subst (λ (os : List Ord). Has os o) (sym passes) (inl refl)

    has_lane : Has v.lanes l
    has_lane = subst (λ (ls : List Counted). Has ls l) (sym lanes) (inl refl)

    pass_ok : PassOk g r.plan id o
    pass_ok = (r.each id v at).passes o has_pass

    lane_ok : LaneOk g r.plan id l
    lane_ok = (r.each id v at).lanes l has_lane

    lane_is : (g.tagged o.request).0 ≡ l.lane
    lane_is = ap (λ (t : ℕ × ℕ). t.0) tag

    ordinal_is : (g.tagged o.request).1 ≡ l.count + 1
    ordinal_is = ap (λ (t : ℕ × ℕ). t.1) tag

    own_ordinals : ordinals g l.lane (r.plan.log ++ command ∷ []) ≡ upto (l.count + 1)
    own_ordinals = let e : l.count + 1 ≡ suc l.count = omega arith in
        ordinals_next g l.lane o.client o.call o.request p r.plan.log lane_is ∙ ((λ i. lane_ok.counts i ++ (ordinal_is ∙ e) i ∷ []) ∙ ap upto (sym e))

    else_ordinals : (k : ℕ) → k ≢ l.lane → ordinals g k (r.plan.log ++ command ∷ []) ≡ ordinals g k r.plan.log
    else_ordinals k ne = ordinals_else g k o.client o.call o.request p r.plan.log (λ e. ne (sym e ∙ lane_is))

    run_own : Knows g first run_plan id run_view
    run_own = let k = r.each id v at in let log = r.plan.log in record {
      start = k.start;
      seen = prefix_self (log ++ command ∷ []);
      heard = prefix_more v.heard log (command ∷ []) k.heard;
      turn = λ h. absurd (true_not_false (sym h));
      busy = λ h. absurd (true_not_false (sym h));
      root = λ e. absurd (true_not_false (sym e ∙ root));
      accounts = λ b h. absurd (subst (λ (as' : List Acc). Has as' b) account h);
      lanes = λ x h. ⊎_elim (λ (e : counted_up l ≡ x). subst (λ (y : Counted). LaneOk g run_plan id y) e (record { owned = lane_ok.owned; within = lane_ok.within; counts = own_ordinals })) (λ y. absurd y) h;
      outs = λ x h. ⊎_elim (λ (e : counted_up l ≡ x). subst (λ (y : Counted). lane_jobs g y.lane (g.lent c.machine) ≡ []) e own_lent) (λ y. absurd y) h;
      passes = λ x h. absurd h;
      dones = λ f h. ⊎_elim (λ (e : done ≡ f). subst (λ (y : Fin). DoneOk g run_plan id y) e (record { owned = pass_ok.owned; stands = at_last log command (length log) refl })) (λ y. absurd y) h;
    }

    home_of : (j : ℕ) (u : V) (x : Ord) → get_elem? s.views j ≡ some u → Carries u x → r.plan.home x.client x.call ≡ j
    home_of j u x there h = let k = r.each j u there in ⊎_elim (λ y. (k.passes x y).owned) (λ (t : (f : Fin) × Has u.dones f × (f.order ≡ x)). subst (λ (y : Ord). r.plan.home y.client y.call ≡ j) t.2 (k.dones t.0 t.1).owned) h

    fits_any : (j : ℕ) (u : V) → get_elem? s.views j ≡ some u → (a : Acc) → Has u.accounts a → Fits g command a
    fits_any j u there a h = ⊎_elim (λ (e : o.client ≡ a.number). inr (o, r.linked o (id, v, at, inl has_pass) a (j, u, there, h) (sym e), (p, refl))) (λ ne. inl ne) (same_or_not o.client a.number)

    -- another seat's lane is another lane
    lane_else : (j : ℕ) (u : V) → j ≢ id → get_elem? s.views j ≡ some u → (x : Counted) → Has u.lanes x → x.lane ≢ l.lane
    lane_else j u ne there x h e = ne (sym ((r.each j u there).lanes x h).owned ∙ (ap r.plan.lane_owner e ∙ lane_ok.owned))

    run_others : (j : ℕ) (u : V) → j ≢ id → get_elem? s.views j ≡ some u → Knows g first run_plan j u
    run_others = grow_others g first s r id v run_view command (g.lent c.machine) c at holding
        (λ j u ne there a h. fits_any j u there a h)
        (λ j u ne there x h. else_ordinals x.lane (lane_else j u ne there x h))
        (λ j u ne there x h client call. ne (sym ((r.each j u there).passes x h).owned ∙ ((λ i. r.plan.home ((sym client) i) ((sym call) i)) ∙ pass_ok.owned)))
        (λ j u ne there x h. else_lent x.lane (lane_else j u ne there x h))

    run_linked : Linked g first (set s.views id run_view)
    run_linked x carried b k same =
        let kb : IsKeptBy g s.views b = ⊎_elim (λ (kw : Has run_view.accounts b). (id, v, at, kw)) (λ (t' : (j : ℕ) × (u : V) × (j ≢ id) × (get_elem? s.views j ≡ some u) × Has u.accounts b). (t'.0, t'.1, t'.3, t'.4)) (kept_set g first s.views id run_view b k) in
        let cx : IsCarried g s.views x = ⊎_elim
        (λ (cw : Carries run_view x). ⊎_elim (λ h. absurd h) (λ (t : (f : Fin) × Has run_view.dones f × (f.order ≡ x)). ⊎_elim (λ (e : done ≡ t.0). (id, v, at, inl (subst (λ (y : Ord). Has v.passes y) (ap (λ (y : Fin). y.order) e ∙ t.2) has_pass))) (λ y. absurd y) t.1) cw)
        (λ (t : (j : ℕ) × (u : V) × (j ≢ id) × (get_elem? s.views j ≡ some u) × Carries u x). (t.0, t.1, t.3, t.4))
        (carried_set g first s.views id run_view x carried) in
        r.linked x cx b kb same

    run_once : EachOnce (r.plan.log ++ command ∷ [])
    run_once = each_once_snoc r.plan.log command r.once (λ f h same. pass_ok.fresh f h same.0 same.1)

    run_clients : (e : E) → Has (r.plan.log ++ command ∷ []) e → (0 < client_of e) × (client_of e ≤ r.plan.given)
    run_clients e h = ⊎_elim (λ old. r.clients e old) (λ (same : command ≡ e). subst (λ (y : E). (0 < client_of y) × (client_of y ≤ r.plan.given)) same pass_ok.made) (has_snoc r.plan.log command e h)

    run_ordered : Ordered g (r.plan.log ++ command ∷ [])
    run_ordered k = ⊎_elim (λ (e : k ≡ l.lane). (l.count + 1, ap (λ (j : ℕ). ordinals g j (r.plan.log ++ command ∷ [])) e ∙ own_ordinals)) (λ (ne : k ≢ l.lane). let t = r.ordered k in (t.0, else_ordinals k ne ∙ t.1)) (same_or_not k l.lane)

    run_no_lanes : (k : ℕ) → r.plan.lanes_made ≤ k → ordinals g k (r.plan.log ++ command ∷ []) ≡ []
    run_no_lanes k h = let b = lane_ok.within in else_ordinals k (λ (e : k ≡ l.lane). omega arith) ∙ r.no_lanes k h

    run_no_lent : (k : ℕ) → r.plan.lanes_made ≤ k → lane_jobs g k (g.lent c.machine) ≡ []
    run_no_lent k h = let b = lane_ok.within in else_lent k (λ (e : k ≡ l.lane). omega arith) ∙ r.no_lent k h

    run_kept : (ws : List ℕ) → ws ≡ 0 ∷ [] → IsNext g first (Some first) r.plan.log command c → Rule record { words = ws; homes = set s.homes 0 (some (Held c)); views = set s.views id run_view }
    run_kept ws words next = gives_back g first s r id v run_view (r.plan.log ++ command ∷ []) (g.lent c.machine) c at holding ws words (next_core g first (Some first) r.plan.log command c next) refl run_no_lent (entry_reply g first first r.plan.log command r.agrees (next.reply first refl))
        run_clients run_no_lanes run_ordered run_once run_own run_others run_linked

    run_shown : IsNext g first (Some first) r.plan.log command c → Shown g run_view (r.plan.log ++ command ∷ [])
    run_shown next = shown_by g first run_plan (set s.views id run_view) id run_view (entry_reply g first first r.plan.log command r.agrees (next.reply first refl)) run_ordered run_once run_clients (set_at s.views id v run_view at) run_own run_linked

  pub answers : (slots id : ℕ) (me : Me Sl V) (l : Counted) (o : Ord) (p : P) (c : Core M S A R Q P H W) → me.1 ≡ (0, Held c) ∷ [] → me.0.holding ≡ true → ((y : S) × (me.0.start ≡ Some y))
      → me.0.accounts ≡ [] → me.0.lanes ≡ l ∷ [] → me.0.passes ≡ o ∷ [] → me.0.dones ≡ [] → me.0.is_root ≡ false → g.tagged o.request ≡ (l.lane, l.count + 1) → IsNext g first me.0.start me.0.seen (Command o.client o.call o.request p) c
      → lane_jobs g l.lane (g.lent c.machine) ≡ [] → ((k : ℕ) → k ≢ l.lane → lane_jobs g k (g.lent c.machine) ≡ lane_jobs g k me.0.outs) → Allows Rule slots id me 0 (λ _. 0) (λ _. tells.Answers g (step slots 0 0 0 none) me 0)
  answers slots id me l o p c hand holding begun account lanes passes dones root tag next own_lent else_outs s r deep at small = let v = me.0 in let k = r.each id v at in let t = k.turn holding in
      let else_lent : (n : ℕ) → n ≢ l.lane → lane_jobs g n (g.lent c.machine) ≡ lane_jobs g n r.plan.lent = λ n ne. else_outs n ne ∙ ap (lane_jobs g n) t.3 in
      let e : E = Command o.client o.call o.request p in
      let start = begun_is g first r.plan id v k begun in
      let next' : IsNext g first (Some first) r.plan.log e c = subst (λ (y : List E). IsNext g first (Some first) y e c) t.2 (subst (λ (y : Option S). IsNext g first y v.seen e c) start next) in
      let ws : List ℕ = set s.words 0 0 in
      let w : V = run_view s r id v l o p c at holding account lanes passes dones root tag own_lent else_lent in
      let same : w ≡ ran v e = (λ i. let z : V = record v { seen = (sym t.2) i ++ e ∷ []; holding = false; outs = []; lanes = map counted_up ((sym lanes) i); passes = []; dones = finished ((sym passes) i) e (length ((sym t.2) i)) } in z) in
      let kept : Rule record { words = ws; homes = set s.homes 0 (some (Held c)); views = set s.views id w } = run_kept s r id v l o p c at holding account lanes passes dones root tag own_lent else_lent ws (ap (λ (x : List ℕ). set x 0 0) r.words) next' in
      let kept' : Rule record { words = ws; homes = put_back s.homes me.1; views = set s.views id (ran v e) } = subst (λ (y : V × List (ℕ × Sl)). Rule record { words = ws; homes = put_back s.homes y.1; views = set s.views id y.0 }) (λ i. (same i, (sym hand) i)) kept in
      let told : Shown g (ran v e) (v.seen ++ e ∷ []) = subst (λ (y : V × List E). Shown g y.0 (y.1 ++ e ∷ [])) (λ i. (same i, (sym t.2) i)) (run_shown s r id v l o p c at holding account lanes passes dones root tag own_lent else_lent next') in
      (ran v e, gives, tt, kept', (e, ap entries_in hand ∙ next.entries, ap (λ (x : List (ℕ × Sl)). (ran v e, rest x)) hand, told))
