-- What clients and lanes that share a counter over desks leave in the history.
use Rattle.std.specs.Prelude.{◌≡◌, ℕ, ◌+◌, ◌<◌, ◌≤◌, List, [], ◌++◌, map}
use mathlib.Core.List.{IsPrefix}
use Rattle.vg_history.specs.declared.machine.Machine.{Ghosts}
use Rattle.vg_history.specs.Lists.{Has}
use Rattle.vg_history.specs.Entries.{client_of}
use Rattle.vg_book.specs.declared.board.Account.{Account}
use Rattle.vg_book.specs.declared.board.Counted.{Counted}
use Rattle.vg_book.specs.Kept.{Accounted}
use Rattle.vg_book_uses.specs.declared.counter.Act.{Act}
use Rattle.vg_book_uses.specs.declared.counter.Counter.{Counter}
use Rattle.vg_book_uses.specs.declared.counter.Request.{Request}
use Rattle.vg_book_uses.specs.Adding.{Cl, E, Ro, IsKnown}
use Rattle.vg_book_uses.specs.Desks.{La}

abbrev pub counted_of : La → Counted
counted_of l = record { lane = l.lane; count = l.count }

-- The root has taken in these lanes.
pub record HasTakenLanes (r : Ro) (ls : List La) (s : Ro) : Type 0 where
  pub given : s.given ≡ r.given
  pub accounts : s.accounts ≡ r.accounts
  pub lanes_made : s.lanes_made ≡ r.lanes_made
  pub start : s.start ≡ r.start
  pub taken : s.lanes ≡ r.lanes ++ map counted_of ls

module _ (g : Ghosts Counter Counter Act ℕ Request ℕ ℕ Request) where
  -- A client that has drawn no number, has nothing outstanding, and may ask for 1.
  pub record MayTalk (c : Cl) : Type 0 where
    pub used : c.account.used ≡ 0
    pub out : c.account.out ≡ []
    pub holds : 1 ≤ c.account.holds
    pub is_known : IsKnown g c

  -- The client has drawn so many numbers more, and nothing of it is outstanding.
  pub record HasTalked (c : Cl) (n : ℕ) (d : Cl) : Type 0 where
    pub number : d.account.number ≡ c.account.number
    pub opening : d.account.opening ≡ c.account.opening
    pub holds : d.account.holds ≡ c.account.holds
    pub used : d.account.used ≡ c.account.used + n
    pub out : d.account.out ≡ []
    pub more : IsPrefix c.seen d.seen
    pub start : d.start ≡ c.start
    pub is_known : IsKnown g d

  -- Each of the client's numbers 1 to n is that of one of its entries, or was spent on a command that came back unrun.
  pub record IsSettled (client n : ℕ) (H : List E) : Type 0 where
    pub account : Account Counter Counter Act ℕ Request ℕ ℕ Request
    pub number : account.number ≡ client
    pub used : account.used ≡ n
    pub out : account.out ≡ []
    pub accounted : Accounted g H account
    pub mine : (e : E) → Has H e → client_of e ≡ client → Has account.mine e

  -- The clients 1 to `count` have drawn so many numbers each, and nobody else did anything.
  pub record HaveShared (count n : ℕ) (H : List E) : Type 0 where
    pub each : (client : ℕ) → 0 < client → client ≤ count → IsSettled client n H
    pub only : (e : E) → Has H e → (0 < client_of e) × (client_of e ≤ count)
