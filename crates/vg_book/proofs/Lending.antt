-- The turn given back with a job lent for a pass.
use Rattle.std.proofs.Common.{◌≡◌, ◌≢◌, inl, ⊎_elim, ℕ, true, List, [], ◌∷◌, set, refl, ap, sym, subst, ◌∙◌, arith, Option, Some}
use mathlib.Core.Option.{some, none}
use lib.ListN.{get_elem?}
use Rattle.atomic_table.specs.Table.{State, Me, step, gives, Allows, put_back, rest}
use Rattle.vg_history.specs.declared.machine.Machine.{Ghosts}
use Rattle.vg_history.specs.declared.entry.Entry.{Entry}
use Rattle.vg_history.specs.Lists.{Has}
use Rattle.vg_history.specs.Jobs.{lane_by}
use Rattle.vg_history.proofs.JobLemmas.{of_lane_same, of_lane_else}
use Rattle.vg_book.specs.declared.board.Core.{Core}
use Rattle.vg_book.specs.declared.board.Slot.{Slot}
use Rattle.vg_book.specs.declared.board.Slot.TheVariants.{Held}
use Rattle.vg_book.specs.declared.board.Counted.{Counted}
use Rattle.vg_book.specs.declared.board.View.{View}
use Rattle.vg_book.specs.Views.{lending, outs_in}
use Rattle.vg_book.specs.Kept.{Plan, LaneOk, Knows, Kept, IsCoreOf, lane_jobs}
use Rattle.vg_book.specs.Tells as tells
use Rattle.vg_book.proofs.Updates.{true_not_false}
use Rattle.vg_book.proofs.SeatLemmas.{linked_set}
use Rattle.vg_book.proofs.Turns.{begun_is, free_plan, other_is_free, gives_back}

module _ {M S A R Q P H W : Type 0} (g : Ghosts M S A R Q P H W) (first : S) where
  abbrev E : Type 0
  E = Entry M S A R Q P H W

  abbrev V : Type 0
  V = View M S A R Q P H W

  abbrev Sl : Type 0
  Sl = Slot M S A R Q P H W

  abbrev St : Type 0
  St = State Sl V

  abbrev Rule : St → Type 0
  Rule = Kept g first

  abbrev lane_of : W → ℕ
  lane_of = lane_by g.asked g.tagged

  -- a lane's seat that has the turn, and a job of the lane that was lent meanwhile, where none was before
  module _ (s : St) (r : Rule s) (id : ℕ) (v : V) (l : Counted) (j : W) (c : Core M S A R Q P H W) (at : get_elem? s.views id ≡ some v) (holding : v.holding ≡ true) (lanes : v.lanes ≡ l ∷ [])
      (lane : lane_of j ≡ l.lane) (clear : lane_jobs g l.lane v.outs ≡ []) where
    abbrev lent_plan : Plan g
    lent_plan = free_plan g first s r id v (lending v j) r.plan.log (j ∷ r.plan.lent) c at holding

    all_outs : v.outs ≡ r.plan.lent
    all_outs = ((r.each id v at).turn holding).3

    lane_ok : LaneOk g r.plan id l
    lane_ok = (r.each id v at).lanes l (subst (λ (ls : List Counted). Has ls l) (sym lanes) (inl refl))

    -- the job is all that is lent of its lane, and no other lane has it
    own_jobs : lane_jobs g l.lane (j ∷ r.plan.lent) ≡ lane_jobs g l.lane (j ∷ [])
    own_jobs = of_lane_same lane_of l.lane j r.plan.lent lane ∙ (ap (λ (w : List W). j ∷ w) (ap (lane_jobs g l.lane) (sym all_outs) ∙ clear) ∙ sym (of_lane_same lane_of l.lane j [] lane))

    else_jobs : (k : ℕ) → k ≢ l.lane → lane_jobs g k (j ∷ r.plan.lent) ≡ lane_jobs g k r.plan.lent
    else_jobs k ne = of_lane_else lane_of k j r.plan.lent (λ e. ne (sym e ∙ lane))

    lent_own : Knows g first lent_plan id (lending v j)
    lent_own = let k = r.each id v at in record {
      start = k.start;
      seen = k.seen;
      heard = k.heard;
      turn = λ h. absurd (true_not_false (sym h));
      busy = λ h. absurd (true_not_false (sym h));
      root = k.root;
      accounts = λ a h. let z = k.accounts a h in record { owned = z.owned; within = z.within; is = z.is };
      lanes = λ x h. let z = k.lanes x h in record { owned = z.owned; within = z.within; counts = z.counts };
      outs = λ x h. ⊎_elim (λ (e : l ≡ x). subst (λ (y : Counted). lane_jobs g y.lane (j ∷ r.plan.lent) ≡ lane_jobs g y.lane (j ∷ [])) e own_jobs) (λ y. absurd y) (subst (λ (ls : List Counted). Has ls x) lanes h);
      passes = λ o h. let z = k.passes o h in record { owned = z.owned; made = z.made; fresh = z.fresh };
      dones = λ f h. let z = k.dones f h in record { owned = z.owned; stands = z.stands };
    }

    lent_others : (i : ℕ) (u : V) → i ≢ id → get_elem? s.views i ≡ some u → Knows g first lent_plan i u
    lent_others i u ne there = let q = r.each i u there in record {
      start = q.start;
      seen = q.seen;
      heard = q.heard;
      turn = λ h. absurd (other_is_free g first s r id v (lending v j) r.plan.log (j ∷ r.plan.lent) c at holding i u ne there h);
      busy = q.busy;
      root = q.root;
      accounts = λ a h. let z = q.accounts a h in record { owned = z.owned; within = z.within; is = z.is };
      lanes = λ x h. let z = q.lanes x h in record { owned = z.owned; within = z.within; counts = z.counts };
      outs = λ x h. else_jobs x.lane (λ (e : x.lane ≡ l.lane). ne (sym (q.lanes x h).owned ∙ (ap r.plan.lane_owner e ∙ lane_ok.owned))) ∙ q.outs x h;
      passes = λ o h. let z = q.passes o h in record { owned = z.owned; made = z.made; fresh = z.fresh };
      dones = λ f h. let z = q.dones f h in record { owned = z.owned; stands = z.stands };
    }

    lent_kept : (ws : List ℕ) → ws ≡ 0 ∷ [] → IsCoreOf g (Some first) r.plan.log c → g.lent c.machine ≡ j ∷ v.outs → Rule record { words = ws; homes = set s.homes 0 (some (Held c)); views = set s.views id (lending v j) }
    lent_kept ws words core more = gives_back g first s r id v (lending v j) r.plan.log (j ∷ r.plan.lent) c at holding ws words core (more ∙ ap (λ (w : List W). j ∷ w) all_outs)
        (λ k h. let b = lane_ok.within in else_jobs k (λ (e : k ≡ l.lane). omega arith) ∙ r.no_lent k h) r.agrees r.clients r.no_lanes r.ordered r.once lent_own lent_others
        (linked_set g first s r id v (lending v j) at (λ o x. x) (λ a h. h))

  pub lends_turn : (slots id : ℕ) (me : Me Sl V) (l : Counted) (j : W) (c : Core M S A R Q P H W) → me.1 ≡ (0, Held c) ∷ [] → me.0.holding ≡ true → ((x : S) × (me.0.start ≡ Some x)) → me.0.lanes ≡ l ∷ []
      → IsCoreOf g me.0.start me.0.seen c → g.lent c.machine ≡ j ∷ me.0.outs → lane_of j ≡ l.lane → lane_jobs g l.lane me.0.outs ≡ []
      → Allows Rule slots id me 0 (λ _. 0) (λ _. tells.Lends g (step slots 0 0 0 none) me 0)
  lends_turn slots id me l j c hand holding begun lanes core more lane clear s r deep at small = let v = me.0 in let p = r.plan in let k = r.each id v at in
      let start = begun_is g first p id v k begun in
      let core' : IsCoreOf g (Some first) p.log c = subst (λ (x : List E). IsCoreOf g (Some first) x c) (k.turn holding).2 (subst (λ (x : Option S). IsCoreOf g x v.seen c) start core) in
      let kept = lent_kept s r id v l j c at holding lanes lane clear (set s.words 0 0) (ap (λ (x : List ℕ). set x 0 0) r.words) core' more in (
        lending v j,
        gives,
        tt,
        subst (λ (y : List (ℕ × Sl)). Rule record { words = set s.words 0 0; homes = put_back s.homes y; views = set s.views id (lending v j) }) (sym hand) kept,
        (j, ap (outs_in g.lent) hand ∙ more, ap (λ (y : List (ℕ × Sl)). (lending v j, rest y)) hand),
      )
