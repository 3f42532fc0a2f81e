-- What is done to the machine and the history by who has the turn.
use Rattle.std.specs.Prelude.{◌≡◌, ℕ, ◌+◌, ◌-◌, ◌^◌, ◌<◌, [], ◌∷◌, ◌++◌, length}
use Rattle.vg_history.specs.declared.machine.Machine.{Ghosts}
use Rattle.vg_history.specs.declared.entry.Entry.TheVariants.{Act, Command}
use Rattle.vg_history.specs.Jobs.{of_lane, but_lane, lane_by}
use Rattle.vg_book.specs.declared.board.Core.{Core}

module _ {M S A R Q P H W : Type 0} (g : Ghosts M S A R Q P H W) where
  abbrev C : Type 0
  C = Core M S A R Q P H W

  pub record IsSameCore (c d : C) : Type 0 where
    pub history : d.history ≡ c.history
    pub state : g.state d.machine ≡ g.state c.machine
    pub lent : g.lent d.machine ≡ g.lent c.machine

  -- The act is entered with the machine's reply, which is answered with its number, from 1.
  pub record ActsOn (c : C) (client call : ℕ) (holds : H) (act : A) (d : C) (held : H) (number : ℕ) (reply : R) : Type 0 where
    pub entries : d.history.entries ≡ c.history.entries ++ Act client call act reply ∷ []
    pub kept : d.history.kept ≡ c.history.kept
    pub lent : g.lent d.machine ≡ g.lent c.machine
    pub state : g.state d.machine ≡ g.acted (g.state c.machine) client act
    pub reply_is : reply ≡ g.replied (g.state c.machine) client act
    pub holds_are : held ≡ g.update holds act reply
    pub number_is : number ≡ length c.history.entries + 1

  -- The request is entered with the machine's reply, which is answered with its place, from 0.
  pub record RunsOn (c : C) (client call : ℕ) (request : Q) (d : C) (place : ℕ) (reply : P) : Type 0 where
    pub entries : d.history.entries ≡ c.history.entries ++ Command client call request reply ∷ []
    pub state : g.state d.machine ≡ g.requested (g.state c.machine) request
    pub reply_is : reply ≡ g.answered (g.state c.machine) request
    pub place_is : place ≡ length c.history.entries

  -- It is so as a whole, and no job was lent or brought back.
  pub record RunsWhole (c : C) (client call : ℕ) (request : Q) (d : C) (place : ℕ) (reply : P) : Type 0 where
    pub runs : RunsOn c client call request d place reply
    pub kept : d.history.kept ≡ c.history.kept
    pub lent : g.lent d.machine ≡ g.lent c.machine

  -- The request's job is lent, and a place is kept for its entry.
  pub record Lends (c : C) (request : Q) (d : C) (job : W) : Type 0 where
    pub entries : d.history.entries ≡ c.history.entries
    pub kept : d.history.kept ≡ c.history.kept + 1
    pub state : g.state d.machine ≡ g.state c.machine
    pub lent : g.lent d.machine ≡ job ∷ g.lent c.machine
    pub asked : g.asked job ≡ request

  -- A job of the request's lane was brought back, and the request is entered in the place that was kept.
  pub record EndsOn (c : C) (client call : ℕ) (request : Q) (d : C) (place : ℕ) (reply : P) : Type 0 where
    pub runs : RunsOn c client call request d place reply
    pub kept : d.history.kept + 1 ≡ c.history.kept
    pub lent : g.lent d.machine ≡ but_lane (lane_by g.asked g.tagged) (g.tagged request).0 (g.lent c.machine)
    pub room : length c.history.entries < 2 ^ 31 - 1

  -- No job is lent of the request's lane.
  abbrev pub IsLaneClear : C → Q → Type 0
  IsLaneClear c request = of_lane (lane_by g.asked g.tagged) (g.tagged request).0 (g.lent c.machine) ≡ []
