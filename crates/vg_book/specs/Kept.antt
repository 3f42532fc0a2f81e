-- The rule of the table.
use Rattle.std.specs.Prelude.{◌≡◌, ◌≢◌, ◌⊎◌, ℕ, ◌<◌, ◌≤◌, true, List, [], ◌∷◌, length, Option, Some}
use mathlib.Core.Option as maybe
use mathlib.Core.Option.{some}
use mathlib.Core.List.{IsPrefix}
use lib.ListN.{get_elem?}
use Rattle.atomic_table.specs.Table.{State}
use Rattle.vg_history.specs.declared.machine.Machine.{Ghosts}
use Rattle.vg_history.specs.declared.entry.Entry.{Entry}
use Rattle.vg_history.specs.Lists.{Has, times, upto}
use Rattle.vg_history.specs.Jobs.{of_lane, lane_by}
use Rattle.vg_history.specs.Entries.{client_of, call_of, EachOnce}
use Rattle.vg_history.specs.History.{replay, AgreesFrom, holds_after, AllowedBy, ordinals, Ordered}
use Rattle.vg_book.specs.declared.board.Core.{Core}
use Rattle.vg_book.specs.declared.board.Slot.{Slot}
use Rattle.vg_book.specs.declared.board.Slot.TheVariants.{Held}
use Rattle.vg_book.specs.declared.board.Order.{Order}
use Rattle.vg_book.specs.declared.board.Finished.{Finished}
use Rattle.vg_book.specs.declared.board.Account.{Account}
use Rattle.vg_book.specs.declared.board.Counted.{Counted}
use Rattle.vg_book.specs.declared.board.View.{View}
use Rattle.vg_book.specs.Views.{entry_of, IsEntryOf, calls, Carries}

module _ {M S A R Q P H W : Type 0} (g : Ghosts M S A R Q P H W) where
  abbrev E : Type 0
  E = Entry M S A R Q P H W

  abbrev V : Type 0
  V = View M S A R Q P H W

  abbrev Acc : Type 0
  Acc = Account M S A R Q P H W

  abbrev Ord : Type 0
  Ord = Order M S A R Q P H W

  -- The history agrees with the replay from this state.
  abbrev pub Agrees : Option S → List E → Type 0
  Agrees start log = (s : S) → start ≡ Some s → AgreesFrom g s log

  -- The client's entries in the history are those of the account, or have orders of it that are out.
  abbrev pub Known : List E → Acc → Type 0
  Known log a = (e : E) → Has log e → client_of e ≡ a.number → Has a.mine e ⊎ ((o : Ord) × Has a.out o × IsEntryOf o e)

  -- The numbers of the account are 1 to `used`, each once.
  abbrev pub Numbered : Acc → Type 0
  Numbered a = (n : ℕ) → times n (calls a) ≡ times n (upto a.used)

  -- What is known of an account beside this history.
  pub record Accounted (log : List E) (a : Acc) : Type 0 where
    pub number : 0 < a.number
    pub mine : (e : E) → Has a.mine e → Has log e × (client_of e ≡ a.number)
    pub known : Known log a
    pub numbers : Numbered a
    pub outs : (o : Ord) → Has a.out o → (o.client ≡ a.number) × (g.allows a.holds o.request ≡ true)
    pub allowed : AllowedBy g a.number a.opening log
    pub held : holds_after g a.number a.opening log ≡ a.holds

  -- What is known of a history.
  pub record IsHistory (start : Option S) (log : List E) : Type 0 where
    pub agrees : Agrees start log
    pub once : EachOnce log
    pub ordered : Ordered g log

  -- No entry has the order's client and number.
  abbrev pub IsFresh : List E → Ord → Type 0
  IsFresh log o = (e : E) → Has log e → client_of e ≡ o.client → call_of e ≡ o.call → ⊥

  -- Those of these jobs that are of the lane.
  abbrev pub lane_jobs : ℕ → List W → List W
  lane_jobs l jobs = of_lane (lane_by g.asked g.tagged) l jobs

  -- The machine and entries of this history, with a place kept for each job that is lent.
  pub record IsCoreOf (start : Option S) (log : List E) (c : Core M S A R Q P H W) : Type 0 where
    pub entries : c.history.entries ≡ log
    pub places : c.history.kept ≡ length (g.lent c.machine)
    pub state : (s : S) → start ≡ Some s → g.state c.machine ≡ replay g s log
    pub counted : g.count (g.state c.machine) ≡ length log

  -- The history; how many clients and lanes were made; in which seat each client, each order and each lane is; the word,
  -- who took the turn last, and the jobs that are lent while the turn is free, or were when it was taken.
  pub record Plan : Type 0 where
    pub log : List E
    pub given : ℕ
    pub lanes_made : ℕ
    pub owner : ℕ → ℕ
    pub home : ℕ → ℕ → ℕ
    pub lane_owner : ℕ → ℕ
    pub word : ℕ
    pub taker : ℕ
    pub lent : List W

  pub record AccountOk (p : Plan) (at : ℕ) (a : Acc) : Type 0 where
    pub owned : p.owner a.number ≡ at
    pub within : a.number ≤ p.given
    pub is : Accounted p.log a

  pub record LaneOk (p : Plan) (at : ℕ) (l : Counted) : Type 0 where
    pub owned : p.lane_owner l.lane ≡ at
    pub within : l.lane < p.lanes_made
    pub counts : ordinals g l.lane p.log ≡ upto l.count

  pub record PassOk (p : Plan) (at : ℕ) (o : Ord) : Type 0 where
    pub owned : p.home o.client o.call ≡ at
    pub made : (0 < o.client) × (o.client ≤ p.given)
    pub fresh : IsFresh p.log o

  pub record DoneOk (p : Plan) (at : ℕ) (f : Finished M S A R Q P H W) : Type 0 where
    pub owned : p.home f.order.client f.order.call ≡ at
    pub stands : get_elem? p.log f.place ≡ some (entry_of f)

  -- What is true of each seat.
  pub record Knows (first : S) (p : Plan) (at : ℕ) (v : V) : Type 0 where
    pub start : (s : S) → v.start ≡ Some s → s ≡ first
    pub seen : IsPrefix v.seen p.log
    pub heard : IsPrefix v.heard p.log
    pub turn : v.holding ≡ true → (p.word ≢ 0) × (at ≡ p.taker) × (v.seen ≡ p.log) × (v.outs ≡ p.lent)
    pub busy : v.holding ≡ true → ((a : Acc) × Has v.accounts a) ⊎ ((l : Counted) × Has v.lanes l)
    pub root : v.is_root ≡ true → (at ≡ 0) × (v.given ≡ p.given) × (v.lanes_made ≡ p.lanes_made)
    pub accounts : (a : Acc) → Has v.accounts a → AccountOk p at a
    pub lanes : (l : Counted) → Has v.lanes l → LaneOk p at l
    pub outs : (l : Counted) → Has v.lanes l → lane_jobs l.lane p.lent ≡ lane_jobs l.lane v.outs
    pub passes : (o : Ord) → Has v.passes o → PassOk p at o
    pub dones : (f : Finished M S A R Q P H W) → Has v.dones f → DoneOk p at f

  -- Some seat carries the order; some seat has the account.
  abbrev pub IsCarried : List V → Ord → Type 0
  IsCarried vs o = (j : ℕ) × (v : V) × (get_elem? vs j ≡ some v) × Carries v o

  abbrev pub IsKeptBy : List V → Acc → Type 0
  IsKeptBy vs a = (j : ℕ) × (v : V) × (get_elem? vs j ≡ some v) × Has v.accounts a

  pub record Kept (first : S) (s : State (Slot M S A R Q P H W) V) : Type 0 where
    pub plan : Plan
    pub at_home : maybe.Option (Slot M S A R Q P H W)
    pub words : s.words ≡ plan.word ∷ []
    pub homes : s.homes ≡ at_home ∷ []
    pub free : plan.word ≡ 0 → (c : Core M S A R Q P H W) × (at_home ≡ some (Held c)) × IsCoreOf (Some first) plan.log c × (g.lent c.machine ≡ plan.lent)
    pub taken : plan.word ≢ 0 → (v : V) × (get_elem? s.views plan.taker ≡ some v) × (v.holding ≡ true)
    pub agrees : AgreesFrom g first plan.log
    pub clients : (e : E) → Has plan.log e → (0 < client_of e) × (client_of e ≤ plan.given)
    pub no_lanes : (l : ℕ) → plan.lanes_made ≤ l → ordinals g l plan.log ≡ []
    pub no_lent : (l : ℕ) → plan.lanes_made ≤ l → lane_jobs l plan.lent ≡ []
    pub ordered : Ordered g plan.log
    pub once : EachOnce plan.log
    pub each : (j : ℕ) (v : V) → get_elem? s.views j ≡ some v → Knows first plan j v
    pub linked : (o : Ord) → IsCarried s.views o → (a : Acc) → IsKeptBy s.views a → a.number ≡ o.client → Has a.out o

  -- What a step that shows the history tells a seat.
  pub record Shown (v : V) (log : List E) : Type 0 where
    pub seen : IsPrefix v.seen log
    pub heard : IsPrefix v.heard log
    pub told : IsHistory v.start log
    pub clients : v.is_root ≡ true → (e : E) → Has log e → (0 < client_of e) × (client_of e ≤ v.given)
    pub accounts : (a : Acc) → Has v.accounts a → Accounted log a
    pub lanes : (l : Counted) → Has v.lanes l → ordinals g l.lane log ≡ upto l.count
    pub passes : (o : Ord) → Has v.passes o → IsFresh log o
    pub dones : (f : Finished M S A R Q P H W) → Has v.dones f → get_elem? log f.place ≡ some (entry_of f)
    pub outs : (o : Ord) → Carries v o → (a : Acc) → Has v.accounts a → a.number ≡ o.client → Has a.out o
