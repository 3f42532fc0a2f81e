-- A command that goes over a desk: what its client and its lane know of it.
use Rattle.std.specs.Prelude.{◌≡◌, ℕ, ◌+◌, ◌≤◌, Option, Some, None}
use mathlib.Core.List.{IsPrefix}
use mathlib.Core.Option.{some}
use lib.ListN.{get_elem?}
use Rattle.vg_history.specs.declared.machine.Machine.{Ghosts}
use Rattle.vg_history.specs.declared.entry.Entry.TheVariants as entries
use Rattle.vg_history.specs.Lists.{upto}
use Rattle.vg_history.specs.History.{ordinals}
use Rattle.vg_book_uses.specs.declared.crossing.Came.{Came}
use Rattle.vg_book_uses.specs.declared.crossing.Came.TheVariants as outcomes
use Rattle.vg_book.specs.Kept.{IsHistory}
use Rattle.vg_book.specs.Views.{drawn, given_up, ordered_of, settled}
use Rattle.vg_book.specs.Tokens as tokens
use Rattle.vg_book.specs.Tokens.{Client, Lane, TakesBack, TakesUnrun}
use Rattle.vg_book_uses.specs.declared.counter.Act.{Act}
use Rattle.vg_book_uses.specs.declared.counter.Counter.{Counter}
use Rattle.vg_book_uses.specs.declared.counter.Request.{Request}
use Rattle.vg_book_uses.specs.Passes.{Pa}
use Rattle.vg_book_uses.specs.Adding.{Cl, IsKnown}

abbrev pub La : Type 0
La = Lane Counter Counter Act ℕ Request ℕ ℕ Request

abbrev pub asked : ℕ → ℕ → ℕ → Request
asked lane ordinal n = record { lane = lane; ordinal = ordinal; n = n }

-- The client's call was made a pass, for a request of the lane under some ordinal.
pub record HandsIn (c : Cl) (lane n : ℕ) (d : Cl) (call : ℕ) : Type 0 where
  pub ordinal : ℕ
  pub account : d.account ≡ drawn c.account (asked lane ordinal n)
  pub seen : d.seen ≡ c.seen
  pub start : d.start ≡ c.start
  pub call_is : call ≡ c.account.used + 1

module _ {B : Type 0} where
  -- What came back is of this call of this client.
  abbrev pub IsOf : ℕ → ℕ → Came B → Type 0
  IsOf client call (outcomes.Done f) = (f.order.client ≡ client) × (f.order.call ≡ call)
  IsOf client call (outcomes.Unrun p) = (p.order.client ≡ client) × (p.order.call ≡ call)

module _ (g : Ghosts Counter Counter Act ℕ Request ℕ ℕ Request) where
  module _ {B : Type 0} where
    -- The client has taken back what came of its call, and this is the reply.
    abbrev pub Settles : Cl → Came B → Cl → Option ℕ → Type 0
    Settles c (outcomes.Done f) d reply = TakesBack g c f d × (reply ≡ Some f.reply)
    Settles c (outcomes.Unrun p) d reply = TakesUnrun g c p d × (reply ≡ None)

    -- The lane has run the pass, which was its next, or has given it back.
    abbrev pub Works : La → Pa → La → Came B → Type 0
    Works l p m (outcomes.Done f) = tokens.Ran g l p m f
    Works l p m (outcomes.Unrun w) = (w.order ≡ p.order) × (m.count ≡ l.count)

  -- What came of the client's next call: the entry with the reply, which is the client's own, or none, and the number is spent.
  abbrev pub Comes : Cl → Request → Cl → Option ℕ → Type 0
  Comes c q d (Some reply) =
      (place : ℕ) × (d.account ≡ settled (drawn c.account q) (record { order = ordered_of c.account q; reply = reply; place = place }))
      × (get_elem? d.seen place ≡ some (entries.Command c.account.number (c.account.used + 1) q reply))
  Comes c q d None = d.account ≡ given_up (drawn c.account q) (ordered_of c.account q)

  -- The client has asked the lane to add n.
  pub record HasAsked (c : Cl) (lane n : ℕ) (d : Cl) (reply : Option ℕ) : Type 0 where
    pub ordinal : ℕ
    pub comes : Comes c (asked lane ordinal n) d reply
    pub more : IsPrefix c.seen d.seen
    pub start : d.start ≡ c.start
    pub is_known : IsKnown g d

  -- The lane has seen a history in which its own commands are so many.
  pub record IsLaneKnown (l : La) : Type 0 where
    pub history : IsHistory g l.start l.seen
    pub ordinals_are : ordinals g l.lane l.seen ≡ upto l.count

  -- The lane has run some commands more.
  pub record HasServed (l m : La) : Type 0 where
    pub lane : m.lane ≡ l.lane
    pub start : m.start ≡ l.start
    pub more : IsPrefix l.seen m.seen
    pub count : l.count ≤ m.count
    pub is_known : IsLaneKnown m

  abbrev pub count_after : ℕ → Option ℕ → ℕ
  count_after count (Some reply) = count + 1
  count_after count None = count

  -- The lane has run one command more, if it was answered.
  pub record HasWorked (l m : La) (reply : Option ℕ) : Type 0 where
    pub lane : m.lane ≡ l.lane
    pub start : m.start ≡ l.start
    pub more : IsPrefix l.seen m.seen
    pub count : m.count ≡ count_after l.count reply
    pub is_known : IsLaneKnown m
