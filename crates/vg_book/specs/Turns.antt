-- What a seat is at rest, and what the calls of the turn do to it.
use Rattle.std.specs.Prelude.{◌≡◌, ◌⊎◌, ℕ, ◌+◌, ◌-◌, ◌^◌, ◌<◌, Bool, false, List, [], ◌∷◌, ◌++◌, length, Some}
use mathlib.Core.List.{IsPrefix}
use Rattle.atomic_table.specs.Table.{Me}
use Rattle.atomic_table.specs.Seated.{TableId}
use Rattle.vg_history.specs.declared.machine.Machine.{Ghosts}
use Rattle.vg_history.specs.declared.entry.Entry.{Entry}
use Rattle.vg_history.specs.declared.entry.Entry.TheVariants.{Act, Command}
use Rattle.vg_history.specs.Lists.{Has}
use Rattle.vg_book.specs.declared.board.Slot.{Slot}
use Rattle.vg_book.specs.declared.board.Order.{Order}
use Rattle.vg_book.specs.declared.board.Finished.{Finished}
use Rattle.vg_book.specs.declared.board.Account.{Account}
use Rattle.vg_book.specs.declared.board.Counted.{Counted}
use Rattle.vg_book.specs.declared.board.View.{View}
use Rattle.vg_book.specs.Views.{looked, entered, counted_up, first_account, newborn}
use Rattle.vg_book.specs.Kept.{Shown}
use Rattle.vg_book.specs.Tells.{HasTaken}

-- The seat is one of this table, which is a book's.
abbrev pub IsAt : TableId → TableId → Type 0
IsAt table seat = (seat ≡ table) × (table.words ≡ 1) × (table.slots ≡ 1)

module _ {M S A R Q P H W : Type 0} where
  -- A seat without the turn that has just this, with these jobs out.
  pub record SitsOut (me : Me (Slot M S A R Q P H W) (View M S A R Q P H W)) (as' : List (Account M S A R Q P H W)) (ls : List Counted) (os : List (Order M S A R Q P H W)) (fs : List (Finished M S A R Q P H W)) (root : Bool) (js : List W) : Type 0 where
    pub accounts : me.0.accounts ≡ as'
    pub lanes : me.0.lanes ≡ ls
    pub passes : me.0.passes ≡ os
    pub dones : me.0.dones ≡ fs
    pub root_is : me.0.is_root ≡ root
    pub idle : me.0.holding ≡ false
    pub hand : me.1 ≡ []
    pub clear : me.0.outs ≡ js
    pub begun : (s : S) × (me.0.start ≡ Some s)

  -- A seat without the turn that has just this, and no job out.
  abbrev pub Sits : Me (Slot M S A R Q P H W) (View M S A R Q P H W) → List (Account M S A R Q P H W) → List Counted → List (Order M S A R Q P H W) → List (Finished M S A R Q P H W) → Bool → Type 0
  Sits me as' ls os fs root = SitsOut me as' ls os fs root []

  -- The seat has a client or a lane, and may take the turn.
  abbrev pub MayTake : Me (Slot M S A R Q P H W) (View M S A R Q P H W) → Type 0
  MayTake m = ((s : S) × (m.0.start ≡ Some s)) × (((a : Account M S A R Q P H W) × Has m.0.accounts a) ⊎ ((l : Counted) × Has m.0.lanes l)) × (m.1 ≡ []) × (m.0.holding ≡ false)

  -- The seat has at most seen more.
  abbrev pub Watches : Me (Slot M S A R Q P H W) (View M S A R Q P H W) → Me (Slot M S A R Q P H W) (View M S A R Q P H W) → Type 0
  Watches m m' = (m' ≡ m) ⊎ ((log : List (Entry M S A R Q P H W)) × (m' ≡ (looked m.0 log, m.1)) × IsPrefix m.0.seen log × IsPrefix m.0.heard log)

module _ {M S A R Q P H W : Type 0} (g : Ghosts M S A R Q P H W) where
  abbrev E : Type 0
  E = Entry M S A R Q P H W

  abbrev Sat : Type 0
  Sat = Me (Slot M S A R Q P H W) (View M S A R Q P H W)

  -- The seat has the turn, and there is room for an entry.
  pub record HasTurn (m m' : Sat) : Type 0 where
    pub taken : HasTaken g m m'
    pub room : length taken.log < 2 ^ 31 - 1

  -- The seat has the turn, there is room for an entry, and no job that is out stands in the way of the request.
  pub record IsReady (request : Q) (m m' : Sat) : Type 0 where
    pub turn : HasTurn m m'
    pub unblocked : g.blocks turn.taken.core.machine request ≡ false

  -- The same of an act.
  pub record IsReadyTo (act : A) (m m' : Sat) : Type 0 where
    pub turn : HasTurn m m'
    pub unblocked : g.blocks_act turn.taken.core.machine act ≡ false

  -- A client's own account, by what its token knows.
  abbrev pub own : ℕ → H → Sat → Account M S A R Q P H W
  own number holds m = first_account (newborn number holds) m.0.accounts

  -- A client's seat, of this number, of which so many numbers were drawn, and which holds this.
  pub record IsClientSeat (me : Sat) (number used : ℕ) (holds : H) : Type 0 where
    pub sits : Sits me (own number holds me ∷ []) [] [] [] false
    pub number_is : (own number holds me).number ≡ number
    pub used_is : (own number holds me).used ≡ used
    pub holds_are : (own number holds me).holds ≡ holds

  abbrev pub counted : ℕ → ℕ → Counted
  counted lane count = record { lane = lane; count = count }

  abbrev pub order : ℕ → ℕ → Q → Order M S A R Q P H W
  order client call request = record { client = client; call = call; request = request }

  -- The act was entered: the seat after it, the number that was answered, and what the client holds.
  pub record EntersAct (a : Account M S A R Q P H W) (act : A) (m m' : Sat) (held : H) (number : ℕ) (reply : R) : Type 0 where
    pub log : List E
    pub more : IsPrefix m.0.seen log
    pub after : m' ≡ (record m.0 { seen = log ++ Act a.number (a.used + 1) act reply ∷ []; heard = []; accounts = entered g.update a (Act a.number (a.used + 1) act reply) ∷ [] }, [])
    pub shown : Shown g m'.0 (log ++ Act a.number (a.used + 1) act reply ∷ [])
    pub holds_are : held ≡ g.update a.holds act reply
    pub number_is : number ≡ length log + 1

  -- The command was run: the seat after it, and its place.
  pub record RunsOrder (l : Counted) (o : Order M S A R Q P H W) (m m' : Sat) (place : ℕ) (reply : P) : Type 0 where
    pub log : List E
    pub more : IsPrefix m.0.seen log
    pub heard : IsPrefix m.0.heard log
    pub after : m' ≡ (record m.0 { seen = log ++ Command o.client o.call o.request reply ∷ []; heard = []; outs = []; lanes = counted_up l ∷ []; passes = []; dones = record { order = o; reply = reply; place = place } ∷ [] }, [])
    pub shown : Shown g m'.0 (log ++ Command o.client o.call o.request reply ∷ [])
    pub place_is : place ≡ length log
    pub room : length log < 2 ^ 31 - 1

  -- The command's job was lent: the seat after it has the job out.
  abbrev pub HasBegun : W → Sat → Sat → Type 0
  HasBegun j m m' = (log : List E) × (m' ≡ (record m.0 { seen = log; heard = []; outs = j ∷ [] }, [])) × IsPrefix m.0.seen log × IsPrefix m.0.heard log
