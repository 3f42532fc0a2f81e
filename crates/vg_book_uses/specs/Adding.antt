-- What clients that add leave in the history.
use Rattle.std.specs.Prelude.{◌≡◌, ℕ, ◌+◌, ◌<◌, ◌≤◌, All, List, [], ◌∷◌, ◌++◌, length, map, Option, Result, Ok}
use mathlib.Core.List.{IsPrefix}
use Rattle.vg_history.specs.declared.machine.Machine.{Ghosts}
use Rattle.vg_history.specs.declared.entry.Entry.{Entry}
use Rattle.vg_history.specs.declared.entry.Entry.TheVariants as entries
use Rattle.vg_history.specs.Lists.{Has, upto}
use Rattle.vg_history.specs.Entries.{client_of, EachOnce}
use Rattle.vg_history.specs.History.{replay, AgreesFrom, Ordered}
use Rattle.vg_book.specs.Kept.{Accounted, IsHistory}
use Rattle.vg_book.specs.declared.board.Account.{Account}
use Rattle.std.specs.declared.alloc.AllocError.{AllocError}
use Rattle.vg_book.specs.Tokens.{Client, Rooted}
use Rattle.vg_book_uses.specs.declared.counter.Counter.{Counter}
use Rattle.vg_book_uses.specs.declared.counter.Act.{Act}
use Rattle.vg_book_uses.specs.declared.counter.Act.TheVariants.{Add}
use Rattle.vg_book_uses.specs.declared.counter.Request.{Request}

abbrev pub E : Type 0
E = Entry Counter Counter Act ℕ Request ℕ ℕ Request

abbrev pub Cl : Type 0
Cl = Client Counter Counter Act ℕ Request ℕ ℕ Request

abbrev pub Ro : Type 0
Ro = Rooted Counter Counter Act ℕ Request ℕ ℕ Request

abbrev pub account_of : Cl → Account Counter Counter Act ℕ Request ℕ ℕ Request
account_of c = c.account

abbrev pub number_of : Cl → ℕ
number_of c = c.account.number

-- A root that has made so many clients, which are all outside.
pub record IsRootWith (count : ℕ) (r s : Ro) : Type 0 where
  pub given : s.given ≡ count
  pub accounts : s.accounts ≡ []
  pub lanes : s.lanes ≡ []
  pub lanes_made : s.lanes_made ≡ r.lanes_made
  pub start : s.start ≡ r.start

-- The root has taken in these clients.
pub record HasTakenAll (r : Ro) (clients : List (Result Cl AllocError)) (s : Ro) : Type 0 where
  pub given : s.given ≡ r.given
  pub lanes : s.lanes ≡ r.lanes
  pub lanes_made : s.lanes_made ≡ r.lanes_made
  pub start : s.start ≡ r.start
  pub taken : (cs : List Cl) × (clients ≡ map Ok cs) × (s.accounts ≡ r.accounts ++ map account_of cs)

-- These are acts of the client that add 1, under the numbers behind `used`.
abbrev pub AreAdds : ℕ → ℕ → List E → Type 0
AreAdds client used [] = Unit {0}
AreAdds client used (entries.Act c k act reply ∷ es) = (c ≡ client) × (k ≡ used + 1) × (act ≡ Add 1) × AreAdds client (used + 1) es
AreAdds client used (entries.Command c k request reply ∷ es) = ⊥

-- The client's entries in the history are acts that add 1, so many.
abbrev pub IsAddedBy : ℕ → ℕ → List E → Type 0
IsAddedBy client n H = (es : List E) × (length es ≡ n) × AreAdds client 0 es × ((e : E) → Has es e → Has H e) × ((e : E) → Has H e → client_of e ≡ client → Has es e)

-- The clients 1 to `count` have added 1 so many times each, and nobody did anything else.
pub record HaveAllAdded (count n : ℕ) (H : List E) : Type 0 where
  pub each : (client : ℕ) → 0 < client → client ≤ count → IsAddedBy client n H
  pub only : (e : E) → Has H e → (0 < client_of e) × (client_of e ≤ count)

module _ (g : Ghosts Counter Counter Act ℕ Request ℕ ℕ Request) where
  -- What the client has seen is a history, and what it knows of its own calls is so there.
  pub record IsKnown (c : Cl) : Type 0 where
    pub history : IsHistory g c.start c.seen
    pub known : Accounted g c.seen c.account

  -- The client has added 1 so many times more: these entries are its own, behind those that it had.
  pub record HasAdded (c : Cl) (n : ℕ) (d : Cl) : Type 0 where
    pub number : d.account.number ≡ c.account.number
    pub opening : d.account.opening ≡ c.account.opening
    pub holds : d.account.holds ≡ c.account.holds
    pub used : d.account.used ≡ c.account.used + n
    pub out : d.account.out ≡ c.account.out
    pub spent : d.account.spent ≡ c.account.spent
    pub added : (es : List E) × (d.account.mine ≡ c.account.mine ++ es) × (length es ≡ n) × AreAdds c.account.number c.account.used es
    pub more : IsPrefix c.seen d.seen
    pub start : d.start ≡ c.start
    pub is_known : IsKnown d

  -- A whole history, and the machine after it.
  pub record IsWhole (s : Counter) (machine : Counter) (H : List E) : Type 0 where
    pub state : machine ≡ replay g s H
    pub agrees : AgreesFrom g s H
    pub once : EachOnce H
    pub ordered : Ordered g H

  -- A client that holds this, and has made no call yet.
  pub record IsNew (first : Option Counter) (held : ℕ) (c : Cl) : Type 0 where
    pub used : c.account.used ≡ 0
    pub holds : c.account.holds ≡ held
    pub mine : c.account.mine ≡ []
    pub out : c.account.out ≡ []
    pub spent : c.account.spent ≡ []
    pub start : c.start ≡ first
    pub is_known : IsKnown c

  -- New clients with the numbers 1 to `count`.
  pub record AreNew (first : Option Counter) (held count : ℕ) (cs : List Cl) : Type 0 where
    pub numbers : map number_of cs ≡ upto count
    pub new : All (IsNew first held) cs
