-- The turn taken, missed, and given back: as it was, with an act, or with a command.
use Rattle.std.proofs.Common.{◌≡◌, ◌≢◌, ◌⊎◌, inl, ⊎_elim, ℕ, ◌+◌, ◌<◌, ◌≤◌, ◌==◌, Bool, true, false, List, [], ◌∷◌, ◌++◌, map, length, set, get_or, refl, ap, sym, subst, ◌∙◌, arith, Option, Some, length-append, ne_eqb}
use mathlib.Core.Option as maybe
use mathlib.Core.Logic.{dite}
use mathlib.Core.Option.{some, none, some-ne-none, some-injective}
use native.Mathlib.Decide.{ℕ_discrete}
use lib.ListN.{get_elem?}
use prog.Atomic.{either}
use Rattle.atomic_table.specs.Table.{State, Me, step, keeps, takes, gives, Allows, put_back, rest}
use Rattle.atomic_table.proofs.Lists.{at_longer}
use Rattle.vg_history.specs.declared.machine.Machine.{Ghosts}
use Rattle.vg_history.specs.declared.entry.Entry.{Entry}
use Rattle.vg_history.specs.declared.entry.Entry.TheVariants.{Act}
use Rattle.vg_history.specs.Lists.{Has}
use Rattle.vg_history.specs.Entries.{client_of, call_of, EachOnce}
use Rattle.vg_history.specs.History.{replay, AgreesFrom, HasReply, ordinals, Ordered}
use Rattle.vg_history.proofs.ListLemmas.{has_snoc, prefix_self, prefix_none, prefix_more}
use Rattle.vg_history.proofs.EntryLemmas.{each_once_snoc}
use Rattle.vg_history.proofs.HistoryLemmas.{agrees_append, ordinals_act}
use Rattle.vg_book.specs.declared.board.Core.{Core}
use Rattle.vg_book.specs.declared.board.Slot.{Slot}
use Rattle.vg_book.specs.declared.board.Slot.TheVariants.{Held}
use Rattle.vg_book.specs.declared.board.Order.{Order}
use Rattle.vg_book.specs.declared.board.Finished.{Finished}
use Rattle.vg_book.specs.declared.board.Account.{Account}
use Rattle.vg_book.specs.declared.board.Counted.{Counted}
use Rattle.vg_book.specs.declared.board.View.{View}
use Rattle.vg_book.specs.Views.{Carries, entry_of, taking, giving, wrote, entered, entries_in}
use Rattle.vg_book.specs.Kept.{Plan, AccountOk, Knows, Kept, Shown, IsCoreOf, lane_jobs}
use Rattle.vg_book.specs.Tells as tells
use Rattle.vg_book.proofs.Updates.{true_not_false, set_at}
use Rattle.vg_book.proofs.Accounts.{Fits, grown, acted, call_below, out_below}
use Rattle.vg_book.proofs.SeatLemmas.{set_cases, shown, shown_by, words_to, found_word, rebuilt, holder_set, linked_set, carried_set, kept_set, Linked}

module _ {M S A R Q P H W : Type 0} (g : Ghosts M S A R Q P H W) (first : S) where
  abbrev E : Type 0
  E = Entry M S A R Q P H W

  abbrev V : Type 0
  V = View M S A R Q P H W

  abbrev Ord : Type 0
  Ord = Order M S A R Q P H W

  abbrev Fin : Type 0
  Fin = Finished M S A R Q P H W

  abbrev Acc : Type 0
  Acc = Account M S A R Q P H W

  abbrev Sl : Type 0
  Sl = Slot M S A R Q P H W

  abbrev St : Type 0
  St = State Sl V

  abbrev Rule : St → Type 0
  Rule = Kept g first

  -- what the rule says once the turn was taken
  module _ (s : St) (r : Rule s) (id : ℕ) (v : V) (at : get_elem? s.views id ≡ some v) (zero_word : r.plan.word ≡ 0) (begun : v.start ≡ Some first) (busy : ((a : Acc) × Has v.accounts a) ⊎ ((l : Counted) × Has v.lanes l)) (js : List W) (all : js ≡ r.plan.lent) where
    abbrev held_plan : Plan g
    held_plan = record { log = r.plan.log; given = r.plan.given; lanes_made = r.plan.lanes_made; owner = r.plan.owner; home = r.plan.home; lane_owner = r.plan.lane_owner; word = 1; taker = id; lent = r.plan.lent }

    take_own : Knows g first held_plan id (taking v r.plan.log js)
    take_own = let k = r.each id v at in record {
      start = k.start;
      seen = prefix_self r.plan.log;
      heard = prefix_none r.plan.log;
      turn = λ _. ((λ (e : 1 ≡ 0). omega arith), refl, refl, all);
      busy = λ _. busy;
      root = k.root;
      accounts = λ a h. let t = k.accounts a h in record { owned = t.owned; within = t.within; is = t.is };
      lanes = λ l h. let t = k.lanes l h in record { owned = t.owned; within = t.within; counts = t.counts };
      outs = λ l h. ap (lane_jobs g l.lane) (sym all);
      passes = λ o h. let t = k.passes o h in record { owned = t.owned; made = t.made; fresh = t.fresh };
      dones = λ f h. let t = k.dones f h in record { owned = t.owned; stands = t.stands };
    }

    take_others : (j : ℕ) (u : V) → get_elem? s.views j ≡ some u → Knows g first held_plan j u
    take_others j u there = let k = r.each j u there in record {
      start = k.start;
      seen = k.seen;
      heard = k.heard;
      turn = λ h. absurd ((k.turn h).0 zero_word);
      busy = k.busy;
      root = k.root;
      accounts = λ a h. let t = k.accounts a h in record { owned = t.owned; within = t.within; is = t.is };
      lanes = λ l h. let t = k.lanes l h in record { owned = t.owned; within = t.within; counts = t.counts };
      outs = k.outs;
      passes = λ o h. let t = k.passes o h in record { owned = t.owned; made = t.made; fresh = t.fresh };
      dones = λ f h. let t = k.dones f h in record { owned = t.owned; stands = t.stands };
    }

    take_kept : (ws : List ℕ) → ws ≡ 1 ∷ [] → Rule record { words = ws; homes = set s.homes 0 none; views = set s.views id (taking v r.plan.log js) }
    take_kept ws words = record {
      plan = held_plan;
      at_home = none;
      words = words;
      homes = ap (λ l. set l 0 none) r.homes;
      free = λ (e : 1 ≡ 0). absurd (omega arith);
      taken = λ _. (taking v r.plan.log js, set_at s.views id v (taking v r.plan.log js) at, refl);
      agrees = r.agrees;
      clients = r.clients;
      no_lanes = r.no_lanes;
      no_lent = r.no_lent;
      ordered = r.ordered;
      once = r.once;
      each = set_cases (Knows g first held_plan) s.views id (taking v r.plan.log js) take_own (λ j u ne there. take_others j u there);
      linked = linked_set g first s r id v (taking v r.plan.log js) at (λ o c. c) (λ a h. h);
    }

  pub begun_is : (p : Plan g) (j : ℕ) (v : V) → Knows g first p j v → ((x : S) × (v.start ≡ Some x)) → v.start ≡ Some first
  begun_is p j v k t = t.1 ∙ ap (λ (x : S). Some x) (k.start t.0 t.1)

  taken_word : (n : ℕ) → n ≡ 0 → either (n == 0) 1 n ≡ 1
  taken_word n e = subst (λ (k : ℕ). either (k == 0) 1 k ≡ 1) (sym e) refl

  missed_word : (n : ℕ) → n ≢ 0 → either (n == 0) 1 n ≡ n
  missed_word n ne = ap (λ (b : Bool). either b 1 n) (ne_eqb n 0 ne)

  pub takes_turn : (slots id : ℕ) (me : Me Sl V) → ((x : S) × (me.0.start ≡ Some x)) → ((a : Acc) × Has me.0.accounts a) ⊎ ((l : Counted) × Has me.0.lanes l) → me.1 ≡ []
      → Allows Rule slots id me 0 (λ n. either (n == 0) 1 n) (tells.Takes g (step slots 0 0 1 none) me)
  takes_turn slots id me begun busy empty s r deep at small = let v = me.0 in let p = r.plan in
      let found = found_word g first s r in
      dite (ℕ_discrete p.word 0)
      (λ (z : p.word ≡ 0). let c = r.free z in let start = begun_is p id v (r.each id v at) begun in let js : List W = g.lent c.0.machine in (
        taking v p.log js,
        takes 0 (Held c.0),
        ap (λ (l : List (maybe.Option Sl)). get_elem? l 0) r.homes ∙ ap some c.1,
        take_kept s r id v at z start busy js c.3 (set s.words 0 (either (get_or s.words 0 0 == 0) 1 (get_or s.words 0 0))) (words_to g first s r (λ n. either (n == 0) 1 n) ∙ ap (λ (n : ℕ). n ∷ []) (taken_word p.word z)),
        (
          (λ _. record {
            log = p.log;
            core = c.0;
            after = ap (λ (l : List (ℕ × Sl)). (taking v p.log js, (0, Held c.0) ∷ l)) empty;
            is = subst (λ (x : Option S). IsCoreOf g x p.log c.0) (sym start) c.2;
            shown = shown g first s r id v at;
            outs = λ l h. ap (lane_jobs g l.lane) c.3 ∙ (r.each id v at).outs l h;
          }),
          λ ne. absurd (ne (found ∙ z)),
        ),
      ))
      (λ (ne : p.word ≢ 0).
      let ws : List ℕ = set s.words 0 (either (get_or s.words 0 0 == 0) 1 (get_or s.words 0 0)) in
      let words : ws ≡ p.word ∷ [] = words_to g first s r (λ n. either (n == 0) 1 n) ∙ ap (λ (n : ℕ). n ∷ []) (missed_word p.word ne) in (
        v,
        keeps,
        tt,
        rebuilt g first s r (set s.views id v) ws p.given p.lanes_made p.owner p.home p.lane_owner words (omega arith) (omega arith) (holder_set g first s.views id v v p.taker at (λ h. h))
            (set_cases (Knows g first p) s.views id v (r.each id v at) (λ j u no there. r.each j u there)) (linked_set g first s r id v v at (λ o c. c) (λ a h. h)),
        ((λ e. absurd (ne (sym found ∙ e))), λ _. refl),
      ))

  -- the turn is given back with the history `log`, by the seat that has it
  module _ (s : St) (r : Rule s) (id : ℕ) (v w : V) (log : List E) (js : List W) (c : Core M S A R Q P H W) (at : get_elem? s.views id ≡ some v) (holding : v.holding ≡ true) where
    abbrev pub free_plan : Plan g
    free_plan = record { log = log; given = r.plan.given; lanes_made = r.plan.lanes_made; owner = r.plan.owner; home = r.plan.home; lane_owner = r.plan.lane_owner; word = 0; taker = r.plan.taker; lent = js }

    -- nobody else has the turn
    pub other_is_free : (j : ℕ) (u : V) → j ≢ id → get_elem? s.views j ≡ some u → u.holding ≡ true → ⊥
    other_is_free j u ne there h = ne (((r.each j u there).turn h).1 ∙ sym ((r.each id v at).turn holding).1)

    pub gives_back : (ws : List ℕ) → ws ≡ 0 ∷ [] → IsCoreOf g (Some first) log c → g.lent c.machine ≡ js → ((l : ℕ) → r.plan.lanes_made ≤ l → lane_jobs g l js ≡ []) → AgreesFrom g first log → ((e : E) → Has log e → (0 < client_of e) × (client_of e ≤ r.plan.given)) → ((l : ℕ) → r.plan.lanes_made ≤ l → ordinals g l log ≡ [])
        → Ordered g log → EachOnce log → Knows g first free_plan id w → ((j : ℕ) (u : V) → j ≢ id → get_elem? s.views j ≡ some u → Knows g first free_plan j u) → Linked g first (set s.views id w)
        → Rule record { words = ws; homes = set s.homes 0 (some (Held c)); views = set s.views id w }
    gives_back ws words core all no_lent agrees clients no_lanes ordered once mine others linked = record {
      plan = free_plan;
      at_home = some (Held c);
      words = words;
      homes = ap (λ l. set l 0 (some (Held c))) r.homes;
      free = λ _. (c, refl, core, all);
      taken = λ ne. absurd (ne refl);
      agrees = agrees;
      clients = clients;
      no_lanes = no_lanes;
      no_lent = no_lent;
      ordered = ordered;
      once = once;
      each = set_cases (Knows g first free_plan) s.views id w mine others;
      linked = linked;
    }

  pub gives_turn : (slots id : ℕ) (me : Me Sl V) (c : Core M S A R Q P H W) → me.1 ≡ (0, Held c) ∷ [] → me.0.holding ≡ true → ((x : S) × (me.0.start ≡ Some x)) → IsCoreOf g me.0.start me.0.seen c
      → g.lent c.machine ≡ me.0.outs → ((l : Counted) → Has me.0.lanes l → lane_jobs g l.lane me.0.outs ≡ []) → Allows Rule slots id me 0 (λ _. 0) (λ _. tells.Gives g (step slots 0 0 0 none) me 0)
  gives_turn slots id me c hand holding begun core all clear s r deep at small = let v = me.0 in let p = r.plan in let k = r.each id v at in let t = k.turn holding in
      let start = begun_is p id v k begun in
      let core' : IsCoreOf g (Some first) p.log c = subst (λ (x : List E). IsCoreOf g (Some first) x c) t.2 (subst (λ (x : Option S). IsCoreOf g x v.seen c) start core) in
      let ws : List ℕ = set s.words 0 0 in
      let own : Knows g first (free_plan s r id v (giving v) p.log p.lent c at holding) id (giving v) = record {
        start = k.start;
        seen = k.seen;
        heard = k.heard;
        turn = λ h. absurd (true_not_false (sym h));
        busy = λ h. absurd (true_not_false (sym h));
        root = k.root;
        accounts = λ a h. let z = k.accounts a h in record { owned = z.owned; within = z.within; is = z.is };
        lanes = λ l h. let z = k.lanes l h in record { owned = z.owned; within = z.within; counts = z.counts };
        outs = λ l h. ap (lane_jobs g l.lane) (sym t.3) ∙ clear l h;
        passes = λ o h. let z = k.passes o h in record { owned = z.owned; made = z.made; fresh = z.fresh };
        dones = λ f h. let z = k.dones f h in record { owned = z.owned; stands = z.stands };
      } in
      let others : (j : ℕ) (u : V) → j ≢ id → get_elem? s.views j ≡ some u → Knows g first (free_plan s r id v (giving v) p.log p.lent c at holding) j u = λ j u ne there. let q = r.each j u there in record {
        start = q.start;
        seen = q.seen;
        heard = q.heard;
        turn = λ h. absurd (other_is_free s r id v (giving v) p.log p.lent c at holding j u ne there h);
        busy = q.busy;
        root = q.root;
        accounts = λ a h. let z = q.accounts a h in record { owned = z.owned; within = z.within; is = z.is };
        lanes = λ l h. let z = q.lanes l h in record { owned = z.owned; within = z.within; counts = z.counts };
        outs = q.outs;
        passes = λ o h. let z = q.passes o h in record { owned = z.owned; made = z.made; fresh = z.fresh };
        dones = λ f h. let z = q.dones f h in record { owned = z.owned; stands = z.stands };
      } in
      let kept = gives_back s r id v (giving v) p.log p.lent c at holding ws (ap (λ (l : List ℕ). set l 0 0) r.words) core' (all ∙ t.3) r.no_lent r.agrees r.clients r.no_lanes r.ordered r.once own others (linked_set g first s r id v (giving v) at (λ o x. x) (λ a h. h)) in
      (giving v, gives, tt, subst (λ (hand : List (ℕ × Sl)). Rule record { words = ws; homes = put_back s.homes hand; views = set s.views id (giving v) }) (sym hand) kept, ap (λ (l : List (ℕ × Sl)). (giving v, rest l)) hand)

  -- the turn is given back with one entry more
  module _ (s : St) (r : Rule s) (id : ℕ) (v w : V) (e : E) (js : List W) (c : Core M S A R Q P H W) (at : get_elem? s.views id ≡ some v) (holding : v.holding ≡ true) where
    abbrev pub grown_plan : Plan g
    grown_plan = free_plan s r id v w (r.plan.log ++ e ∷ []) js c at holding

    pub grow_others : ((j : ℕ) (u : V) → j ≢ id → get_elem? s.views j ≡ some u → (a : Acc) → Has u.accounts a → Fits g e a)
        → ((j : ℕ) (u : V) → j ≢ id → get_elem? s.views j ≡ some u → (l : Counted) → Has u.lanes l → ordinals g l.lane (r.plan.log ++ e ∷ []) ≡ ordinals g l.lane r.plan.log)
        → ((j : ℕ) (u : V) → j ≢ id → get_elem? s.views j ≡ some u → (o : Ord) → Has u.passes o → client_of e ≡ o.client → call_of e ≡ o.call → ⊥)
        → ((j : ℕ) (u : V) → j ≢ id → get_elem? s.views j ≡ some u → (l : Counted) → Has u.lanes l → lane_jobs g l.lane js ≡ lane_jobs g l.lane r.plan.lent)
        → (j : ℕ) (u : V) → j ≢ id → get_elem? s.views j ≡ some u → Knows g first grown_plan j u
    grow_others fits lanes apart lent j u ne there = let k = r.each j u there in let log = r.plan.log in record {
      start = k.start;
      seen = prefix_more u.seen log (e ∷ []) k.seen;
      heard = prefix_more u.heard log (e ∷ []) k.heard;
      turn = λ h. absurd (other_is_free s r id v w (log ++ e ∷ []) js c at holding j u ne there h);
      busy = k.busy;
      root = k.root;
      accounts = λ a h. let z = k.accounts a h in record { owned = z.owned; within = z.within; is = grown g log a e z.is (fits j u ne there a h) };
      lanes = λ l h. let z = k.lanes l h in record { owned = z.owned; within = z.within; counts = lanes j u ne there l h ∙ z.counts };
      outs = λ l h. lent j u ne there l h ∙ k.outs l h;
      passes = λ o h. let z = k.passes o h in record { owned = z.owned; made = z.made; fresh = λ f hf cl ca. ⊎_elim (λ old. z.fresh f old cl ca) (λ (same : e ≡ f). apart j u ne there o h (ap client_of same ∙ cl) (ap call_of same ∙ ca)) (has_snoc log e f hf) };
      dones = λ f h. let z = k.dones f h in record { owned = z.owned; stands = at_longer log (e ∷ []) f.place (entry_of f) z.stands };
    }

  pub entry_reply : (x : S) (log : List E) (e : E) → AgreesFrom g x log → HasReply g (replay g x log) e → AgreesFrom g x (log ++ e ∷ [])
  entry_reply x log e agrees reply = agrees_append g x log (e ∷ []) agrees (reply, tt)

  -- what the slot in hand has, after an entry more
  pub record IsNext (start : Option S) (log : List E) (e : E) (c : Core M S A R Q P H W) : Type 0 where
    pub entries : c.history.entries ≡ log ++ e ∷ []
    pub places : c.history.kept ≡ length (g.lent c.machine)
    pub reply : (x : S) → start ≡ Some x → HasReply g (replay g x log) e
    pub state : (x : S) → start ≡ Some x → g.state c.machine ≡ replay g x (log ++ e ∷ [])
    pub counted : g.count (g.state c.machine) ≡ length log + 1

  pub next_core : (start : Option S) (log : List E) (e : E) (c : Core M S A R Q P H W) → IsNext start log e c → IsCoreOf g start (log ++ e ∷ []) c
  next_core start log e c n = record { entries = n.entries; places = n.places; state = n.state; counted = n.counted ∙ sym (length-append log (e ∷ [])) }

  -- a client's seat that has the turn
  module _ (laws : (h : H) (a : A) (x : R) (q : Q) → g.ends_hold a ≡ false → g.allows h q ≡ true → g.allows (g.update h a x) q ≡ true) (s : St) (r : Rule s) (id : ℕ) (v : V) (a : Acc) (act : A) (x : R) (c : Core M S A R Q P H W) (at : get_elem? s.views id ≡ some v) (holding : v.holding ≡ true)
      (account : v.accounts ≡ a ∷ []) (lanes : v.lanes ≡ []) (passes : v.passes ≡ []) (dones : v.dones ≡ []) (root : v.is_root ≡ false) (may : (g.ends_hold act ≡ false) ⊎ (a.out ≡ [])) where
    abbrev own_act : E
    own_act = Act a.number (a.used + 1) act x

    abbrev act_view : V
    act_view = record v { seen = r.plan.log ++ own_act ∷ []; holding = false; outs = []; accounts = entered g.update a own_act ∷ [] }

    abbrev act_plan : Plan g
    act_plan = grown_plan s r id v act_view own_act r.plan.lent c at holding

    act_has : Has v.accounts a
    act_has = subst (λ (l : List Acc). Has l a) (sym account) (inl refl)

    act_ok : AccountOk g r.plan id a
    act_ok = (r.each id v at).accounts a act_has

    act_own : Knows g first act_plan id act_view
    act_own = let k = r.each id v at in let ok = act_ok in let log = r.plan.log in record {
      start = k.start;
      seen = prefix_self (log ++ own_act ∷ []);
      heard = prefix_more v.heard log (own_act ∷ []) k.heard;
      turn = λ h. absurd (true_not_false (sym h));
      busy = λ h. absurd (true_not_false (sym h));
      root = λ e. absurd (true_not_false (sym e ∙ root));
      accounts = λ b h. ⊎_elim (λ (e : entered g.update a own_act ≡ b). subst (λ (y : Acc). AccountOk g act_plan id y) e (record { owned = ok.owned; within = ok.within; is = acted g laws log a act x ok.is may })) (λ y. absurd y) h;
      lanes = λ l h. absurd (subst (λ (ls : List Counted). Has ls l) lanes h);
      outs = λ l h. absurd (subst (λ (ls : List Counted). Has ls l) lanes h);
      passes = λ o h. absurd (subst (λ (os : List Ord). Has os o) passes h);
      dones = λ f h. absurd (subst (λ (fs : List Fin). Has fs f) dones h);
    }

    act_others : (j : ℕ) (u : V) → j ≢ id → get_elem? s.views j ≡ some u → Knows g first act_plan j u
    act_others = grow_others s r id v act_view own_act r.plan.lent c at holding
        (λ j u ne there b h. inl (λ (same : a.number ≡ b.number). ne (sym ((r.each j u there).accounts b h).owned ∙ (ap r.plan.owner (sym same) ∙ act_ok.owned))))
        (λ j u ne there l h. ordinals_act g l.lane a.number (a.used + 1) act x r.plan.log)
        (λ j u ne there o h client call. let out = r.linked o (j, u, there, inl h) a (id, v, at, act_has) client in let b = out_below g a act_ok.is.numbers o out in omega (arith, call, b))
        (λ j u ne there l h. refl)

    act_linked : Linked g first (set s.views id act_view)
    act_linked o carried b k same = ⊎_elim
        (λ (cw : Carries act_view o). ⊎_elim (λ h. absurd (subst (λ (os : List Ord). Has os o) passes h)) (λ (t : (f : Fin) × Has act_view.dones f × (f.order ≡ o)). absurd (subst (λ (fs : List Fin). Has fs t.0) dones t.1)) cw)
        (λ (t : (j : ℕ) × (u : V) × (j ≢ id) × (get_elem? s.views j ≡ some u) × Carries u o).
        ⊎_elim
        (λ (kw : Has act_view.accounts b). ⊎_elim (λ (f : entered g.update a own_act ≡ b). subst (λ (y : Acc). Has y.out o) f (r.linked o (t.0, t.1, t.3, t.4) a (id, v, at, act_has) (ap (λ (y : Acc). y.number) f ∙ same))) (λ y. absurd y) kw)
        (λ (t' : (j : ℕ) × (u : V) × (j ≢ id) × (get_elem? s.views j ≡ some u) × Has u.accounts b). r.linked o (t.0, t.1, t.3, t.4) b (t'.0, t'.1, t'.3, t'.4) same)
        (kept_set g first s.views id act_view b k))
        (carried_set g first s.views id act_view o carried)

    act_once : EachOnce (r.plan.log ++ own_act ∷ [])
    act_once = each_once_snoc r.plan.log own_act r.once (λ f h same. let b = call_below g r.plan.log a act_ok.is.known act_ok.is.numbers f h same.0 in omega (arith, b, same.1))

    act_clients : (e : E) → Has (r.plan.log ++ own_act ∷ []) e → (0 < client_of e) × (client_of e ≤ r.plan.given)
    act_clients e h = ⊎_elim (λ old. r.clients e old) (λ (same : own_act ≡ e). subst (λ (y : E). (0 < client_of y) × (client_of y ≤ r.plan.given)) same (act_ok.is.number, act_ok.within)) (has_snoc r.plan.log own_act e h)

    act_ordered : Ordered g (r.plan.log ++ own_act ∷ [])
    act_ordered l = let t = r.ordered l in (t.0, ordinals_act g l a.number (a.used + 1) act x r.plan.log ∙ t.1)

    act_kept : (ws : List ℕ) → ws ≡ 0 ∷ [] → IsNext (Some first) r.plan.log own_act c → g.lent c.machine ≡ r.plan.lent → Rule record { words = ws; homes = set s.homes 0 (some (Held c)); views = set s.views id act_view }
    act_kept ws words next all = gives_back s r id v act_view (r.plan.log ++ own_act ∷ []) r.plan.lent c at holding ws words (next_core (Some first) r.plan.log own_act c next) all r.no_lent (entry_reply first r.plan.log own_act r.agrees (next.reply first refl))
        act_clients (λ l h. ordinals_act g l a.number (a.used + 1) act x r.plan.log ∙ r.no_lanes l h) act_ordered act_once act_own act_others act_linked

    act_shown : IsNext (Some first) r.plan.log own_act c → Shown g act_view (r.plan.log ++ own_act ∷ [])
    act_shown next = shown_by g first act_plan (set s.views id act_view) id act_view (entry_reply first r.plan.log own_act r.agrees (next.reply first refl)) act_ordered act_once act_clients (set_at s.views id v act_view at) act_own act_linked

  pub enters : (laws : (h : H) (a : A) (x : R) (q : Q) → g.ends_hold a ≡ false → g.allows h q ≡ true → g.allows (g.update h a x) q ≡ true) (slots id : ℕ) (me : Me Sl V) (a : Acc) (act : A) (x : R) (c : Core M S A R Q P H W) → me.1 ≡ (0, Held c) ∷ [] → me.0.holding ≡ true → ((y : S) × (me.0.start ≡ Some y))
      → me.0.accounts ≡ a ∷ [] → me.0.lanes ≡ [] → me.0.passes ≡ [] → me.0.dones ≡ [] → me.0.is_root ≡ false → (g.ends_hold act ≡ false) ⊎ (a.out ≡ []) → IsNext me.0.start me.0.seen (Act a.number (a.used + 1) act x) c
      → g.lent c.machine ≡ me.0.outs → Allows Rule slots id me 0 (λ _. 0) (λ _. tells.Enters g (step slots 0 0 0 none) me 0)
  enters laws slots id me a act x c hand holding begun account lanes passes dones root may next all s r deep at small = let v = me.0 in let p = r.plan in let k = r.each id v at in let t = k.turn holding in
      let e : E = Act a.number (a.used + 1) act x in
      let start = begun_is p id v k begun in
      let next' : IsNext (Some first) p.log e c = subst (λ (y : List E). IsNext (Some first) y e c) t.2 (subst (λ (y : Option S). IsNext y v.seen e c) start next) in
      let ws : List ℕ = set s.words 0 0 in
      let w : V = act_view laws s r id v a act x c at holding account lanes passes dones root may in
      let same : w ≡ wrote g.update v e = (λ i. let z : V = record v { seen = (sym t.2) i ++ e ∷ []; holding = false; outs = []; accounts = map (λ (b : Acc). entered g.update b e) ((sym account) i) } in z) in
      let kept : Rule record { words = ws; homes = set s.homes 0 (some (Held c)); views = set s.views id w } = act_kept laws s r id v a act x c at holding account lanes passes dones root may ws (ap (λ (l : List ℕ). set l 0 0) r.words) next' (all ∙ t.3) in
      let kept' : Rule record { words = ws; homes = put_back s.homes me.1; views = set s.views id (wrote g.update v e) } = subst (λ (y : V × List (ℕ × Sl)). Rule record { words = ws; homes = put_back s.homes y.1; views = set s.views id y.0 }) (λ i. (same i, (sym hand) i)) kept in
      let told : Shown g (wrote g.update v e) (v.seen ++ e ∷ []) = subst (λ (y : V × List E). Shown g y.0 (y.1 ++ e ∷ [])) (λ i. (same i, (sym t.2) i)) (act_shown laws s r id v a act x c at holding account lanes passes dones root may next') in
      (wrote g.update v e, gives, tt, kept', (e, ap entries_in hand ∙ next.entries, ap (λ (l : List (ℕ × Sl)). (wrote g.update v e, rest l)) hand, told))
