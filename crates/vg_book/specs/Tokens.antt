-- What contracts see of the tokens, and what each call tells of them.
use Rattle.std.specs.Prelude.{◌≡◌, ℕ, ◌+◌, ◌-◌, ◌^◌, ◌<◌, ◌≤◌, true, false, List, [], ◌∷◌, ◌++◌, length, Option, Some}
use mathlib.Core.List.{IsPrefix}
use mathlib.Core.Option.{some}
use lib.ListN.{get_elem?}
use Rattle.atomic_table.specs.Table.{Me}
use Rattle.vg_history.specs.declared.machine.Machine.{Ghosts}
use Rattle.vg_history.specs.declared.entry.Entry.{Entry}
use Rattle.vg_history.specs.declared.entry.Entry.TheVariants.{Act, Command}
use Rattle.vg_history.specs.Lists.{Has, upto}
use Rattle.vg_history.specs.Entries.{client_of}
use Rattle.vg_history.specs.History.{ordinals, HasFence, replay}
use Rattle.vg_book.specs.declared.board.Slot.{Slot}
use Rattle.vg_book.specs.declared.board.Order.{Order}
use Rattle.vg_book.specs.declared.board.Finished.{Finished}
use Rattle.vg_book.specs.declared.board.Account.{Account}
use Rattle.vg_book.specs.declared.board.Counted.{Counted}
use Rattle.vg_book.specs.declared.board.View.{View}
use Rattle.vg_book.specs.Views.{entry_of, newborn, entered, drawn, ordered_of, settled, given_up}
use Rattle.vg_book.specs.Kept.{IsHistory, Accounted, IsFresh}
use Rattle.vg_book.specs.Turns.{Sits, IsClientSeat, own, order}

-- A client: its account, the beginning of the history that it has seen, and the state before the history.
pub record Client (M S A R Q P H W : Type 0) : Type 0 where
  pub account : Account M S A R Q P H W
  pub seen : List (Entry M S A R Q P H W)
  pub start : Option S

-- A lane, and how many of its commands were run.
pub record Lane (M S A R Q P H W : Type 0) : Type 0 where
  pub lane : ℕ
  pub count : ℕ
  pub seen : List (Entry M S A R Q P H W)
  pub start : Option S

-- A pass, for this order.
pub record Passed (M S A R Q P H W : Type 0) : Type 0 where
  pub order : Order M S A R Q P H W
  pub seen : List (Entry M S A R Q P H W)
  pub start : Option S

-- A pass that was run, with the reply and the place of its entry, from 0.
pub record Done (M S A R Q P H W : Type 0) : Type 0 where
  pub order : Order M S A R Q P H W
  pub reply : P
  pub place : ℕ
  pub seen : List (Entry M S A R Q P H W)
  pub start : Option S

pub record Noted (M S A R Q P H W : Type 0) : Type 0 where
  pub seen : List (Entry M S A R Q P H W)
  pub start : Option S

-- The root: how many clients and lanes it has made, and what has joined it.
pub record Rooted (M S A R Q P H W : Type 0) : Type 0 where
  pub given : ℕ
  pub lanes_made : ℕ
  pub accounts : List (Account M S A R Q P H W)
  pub lanes : List Counted
  pub seen : List (Entry M S A R Q P H W)
  pub start : Option S

module _ {M S A R Q P H W : Type 0} (g : Ghosts M S A R Q P H W) where
  abbrev E : Type 0
  E = Entry M S A R Q P H W

  abbrev Sat : Type 0
  Sat = Me (Slot M S A R Q P H W) (View M S A R Q P H W)

  abbrev Cl : Type 0
  Cl = Client M S A R Q P H W

  abbrev La : Type 0
  La = Lane M S A R Q P H W

  abbrev Pa : Type 0
  Pa = Passed M S A R Q P H W

  abbrev Do : Type 0
  Do = Done M S A R Q P H W

  abbrev No : Type 0
  No = Noted M S A R Q P H W

  abbrev Ro : Type 0
  Ro = Rooted M S A R Q P H W

  -- Each token's value, by its seat.
  abbrev pub client_value : ℕ → H → Sat → Cl
  client_value number holds m = record { account = own g number holds m; seen = m.0.seen; start = m.0.start }

  abbrev pub lane_value : ℕ → ℕ → Sat → La
  lane_value lane count m = record { lane = lane; count = count; seen = m.0.seen; start = m.0.start }

  abbrev pub pass_value : ℕ → ℕ → Q → Sat → Pa
  pass_value client call request m = record { order = order g client call request; seen = m.0.seen; start = m.0.start }

  abbrev pub done_value : ℕ → ℕ → Q → P → ℕ → Sat → Do
  done_value client call request reply place m = record { order = order g client call request; reply = reply; place = place; seen = m.0.seen; start = m.0.start }

  abbrev pub note_value : Sat → No
  note_value m = record { seen = m.0.seen; start = m.0.start }

  abbrev pub root_value : ℕ → ℕ → Sat → Ro
  root_value given lanes_made m = record { given = given; lanes_made = lanes_made; accounts = m.0.accounts; lanes = m.0.lanes; seen = m.0.seen; start = m.0.start }

  -- What is true of each token.
  pub record ClientOk (number used outstanding : ℕ) (holds : H) (me : Sat) : Type 0 where
    pub seat : IsClientSeat g me number used holds
    pub out_is : length (own g number holds me).out ≡ outstanding
    pub within : outstanding ≤ used

  pub record DoneOk (client call : ℕ) (request : Q) (reply : P) (place lane ordinal : ℕ) (me : Sat) : Type 0 where
    pub seat : Sits me [] [] [] (record { order = order g client call request; reply = reply; place = place } ∷ []) false
    pub tag : g.tagged request ≡ (lane, ordinal)
    pub stands : get_elem? me.0.seen place ≡ some (Command client call request reply)
    pub fence : HasFence g lane ordinal me.0.seen
    pub room : place < 2 ^ 31 - 1
    pub readable : g.read request (g.written request reply) ≡ reply

  pub record RootOk (given lanes_made : ℕ) (me : Sat) : Type 0 where
    pub seat : Sits me me.0.accounts me.0.lanes [] [] true
    pub given_is : me.0.given ≡ given
    pub lanes_are : me.0.lanes_made ≡ lanes_made
    pub outs : (a : Account M S A R Q P H W) → Has me.0.accounts a → a.out ≡ []

  -- The act is the client's next entry, behind all that it had seen, and what it has seen ends with it.
  pub record Acted (c : Cl) (act : A) (d : Cl) (number : ℕ) (reply : R) : Type 0 where
    pub log : List E
    pub more : IsPrefix c.seen log
    pub seen : d.seen ≡ log ++ Act c.account.number (c.account.used + 1) act reply ∷ []
    pub number_is : number ≡ length d.seen
    pub account : d.account ≡ entered g.update c.account (Act c.account.number (c.account.used + 1) act reply)
    pub start : d.start ≡ c.start
    pub history : IsHistory g d.start d.seen
    pub known : Accounted g d.seen d.account

  -- The client has at most seen more.
  pub record Watched (c d : Cl) : Type 0 where
    pub more : IsPrefix c.seen d.seen
    pub account : d.account ≡ c.account
    pub start : d.start ≡ c.start
    pub history : IsHistory g d.start d.seen
    pub known : Accounted g d.seen d.account

  -- A pass was made under the client's next number.
  pub record Drawn (c : Cl) (request : Q) (d : Cl) (p : Pa) : Type 0 where
    pub account : d.account ≡ drawn c.account request
    pub seen : d.seen ≡ c.seen
    pub start : d.start ≡ c.start
    pub pass : p ≡ record { order = ordered_of c.account request; seen = c.seen; start = c.start }

  abbrev pub finished_of : Do → Finished M S A R Q P H W
  finished_of f = record { order = f.order; reply = f.reply; place = f.place }

  -- The order of a done pass came back: it was out, and its entry is the client's now.
  pub record TakesBack (c : Cl) (f : Do) (d : Cl) : Type 0 where
    pub out : Has c.account.out f.order
    pub account : d.account ≡ settled c.account (finished_of f)
    pub more : IsPrefix c.seen d.seen
    pub more_done : IsPrefix f.seen d.seen
    pub start : d.start ≡ c.start
    pub place : get_elem? d.seen f.place ≡ some (entry_of (finished_of f))
    pub history : IsHistory g d.start d.seen
    pub known : Accounted g d.seen d.account

  -- The order of a pass came back unrun: it was out, it has no entry, and its number is spent.
  pub record TakesUnrun (c : Cl) (p : Pa) (d : Cl) : Type 0 where
    pub out : Has c.account.out p.order
    pub account : d.account ≡ given_up c.account p.order
    pub more : IsPrefix c.seen d.seen
    pub more_pass : IsPrefix p.seen d.seen
    pub start : d.start ≡ c.start
    pub fresh : IsFresh g d.seen p.order
    pub history : IsHistory g d.start d.seen
    pub known : Accounted g d.seen d.account

  -- The client has seen all that the note has.
  pub record Meets (c : Cl) (n : No) (d : Cl) : Type 0 where
    pub watched : Watched c d
    pub more_note : IsPrefix n.seen d.seen

  -- The note has seen all that it and the other note had.
  pub record MeetsNote (n w o : No) : Type 0 where
    pub more : IsPrefix n.seen o.seen
    pub more_note : IsPrefix w.seen o.seen
    pub start : o.start ≡ n.start
    pub history : IsHistory g o.start o.seen

  -- The pass is the next command of the lane, behind all that the two had seen, and the done pass knows its fence.
  pub record Ran (l : La) (p : Pa) (m : La) (f : Do) : Type 0 where
    pub log : List E
    pub more : IsPrefix l.seen log
    pub more_pass : IsPrefix p.seen log
    pub seen : m.seen ≡ log ++ Command p.order.client p.order.call p.order.request f.reply ∷ []
    pub lane : m.lane ≡ l.lane
    pub count : m.count ≡ l.count + 1
    pub start : m.start ≡ l.start
    pub order : f.order ≡ p.order
    pub place : f.place ≡ length log
    pub seen_done : f.seen ≡ m.seen
    pub start_done : f.start ≡ l.start
    pub history : IsHistory g m.start m.seen
    pub ordinals_are : ordinals g m.lane m.seen ≡ upto m.count
    pub fence : HasFence g (g.tagged p.order.request).0 (g.tagged p.order.request).1 f.seen

  -- The pass wasn't run, and comes back.
  pub record Stays (l : La) (p : Pa) (m : La) (w : Pa) : Type 0 where
    pub more : IsPrefix l.seen m.seen
    pub more_pass : IsPrefix p.seen m.seen
    pub lane : m.lane ≡ l.lane
    pub count : m.count ≡ l.count
    pub start : m.start ≡ l.start
    pub order : w.order ≡ p.order
    pub seen : w.seen ≡ m.seen
    pub start_pass : w.start ≡ l.start
    pub history : IsHistory g m.start m.seen
    pub ordinals_are : ordinals g m.lane m.seen ≡ upto m.count

  -- The root has made the next client, of which no entry has been seen.
  pub record MakesClient (r : Ro) (holds : H) (s : Ro) (c : Cl) : Type 0 where
    pub given : s.given ≡ r.given + 1
    pub lanes_made : s.lanes_made ≡ r.lanes_made
    pub accounts : s.accounts ≡ r.accounts
    pub lanes : s.lanes ≡ r.lanes
    pub more : IsPrefix r.seen s.seen
    pub start : s.start ≡ r.start
    pub client : c ≡ record { account = newborn (r.given + 1) holds; seen = s.seen; start = r.start }
    pub others : (e : E) → Has s.seen e → client_of e ≤ r.given
    pub history : IsHistory g s.start s.seen
    pub known : Accounted g c.seen c.account

  -- The root took in a token that had seen this.
  pub record TakesIn (r : Ro) (seen : List E) (s : Ro) : Type 0 where
    pub given : s.given ≡ r.given
    pub lanes_made : s.lanes_made ≡ r.lanes_made
    pub more : IsPrefix r.seen s.seen
    pub more_token : IsPrefix seen s.seen
    pub start : s.start ≡ r.start
    pub history : IsHistory g s.start s.seen

  -- All clients and lanes that the root has made have joined it.
  pub record AllJoined (r : Ro) : Type 0 where
    pub clients : (n : ℕ) → 0 < n → n ≤ r.given → (a : Account M S A R Q P H W) × Has r.accounts a × (a.number ≡ n)
    pub lanes : (l : ℕ) → l < r.lanes_made → (x : Counted) × Has r.lanes x × (x.lane ≡ l)

  -- The end: the machine is in the state of the replay, each account's entries are exactly that client's, and each lane's
  -- ordinals are 1 to its count.
  pub record IsClosed (r : Ro) (machine : M) (H' : List E) : Type 0 where
    pub more : IsPrefix r.seen H'
    pub state : (s : S) → r.start ≡ Some s → g.state machine ≡ replay g s H'
    pub history : IsHistory g r.start H'
    pub clients : (e : E) → Has H' e → (0 < client_of e) × (client_of e ≤ r.given)
    pub known : (a : Account M S A R Q P H W) → Has r.accounts a → Accounted g H' a
    pub mine : (a : Account M S A R Q P H W) → Has r.accounts a → (e : E) → Has H' e → client_of e ≡ a.number → Has a.mine e
    pub settled_all : (a : Account M S A R Q P H W) → Has r.accounts a → a.out ≡ []
    pub lanes : (l : Counted) → Has r.lanes l → ordinals g l.lane H' ≡ upto l.count
