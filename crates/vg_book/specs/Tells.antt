-- What each step at the table tells: of the step, the seat before it, the number that it found, and the seat after it.
use Rattle.std.specs.Prelude.{◌≡◌, ◌≢◌, ℕ, List, [], ◌∷◌, ◌++◌}
use Rattle.atomic_table.specs.Table.{Me, Step}
use Rattle.vg_history.specs.declared.machine.Machine.{Ghosts}
use Rattle.vg_history.specs.declared.entry.Entry.{Entry}
use Rattle.vg_history.specs.Lists.{Has}
use Rattle.vg_book.specs.declared.board.Core.{Core}
use Rattle.vg_book.specs.declared.board.Slot.{Slot}
use Rattle.vg_book.specs.declared.board.Slot.TheVariants.{Held}
use Rattle.vg_book.specs.declared.board.Counted.{Counted}
use Rattle.vg_book.specs.declared.board.View.{View}
use Rattle.vg_book.specs.Views.{looked, taking, giving, lending, wrote, ran, told_said, drawn_said, settling, returning, entries_in, outs_in}
use Rattle.vg_book.specs.Kept.{IsCoreOf, Shown, lane_jobs}

module _ {M S A R Q P H W : Type 0} (g : Ghosts M S A R Q P H W) where
  abbrev E : Type 0
  E = Entry M S A R Q P H W

  abbrev Sat : Type 0
  Sat = Me (Slot M S A R Q P H W) (View M S A R Q P H W)

  abbrev At : Type 0
  At = Step (Slot M S A R Q P H W)

  -- The seat has seen the whole history.
  abbrev pub HasLooked : Sat → Sat → Type 0
  HasLooked m m' = (log : List E) × (m' ≡ (looked m.0 log, m.1)) × Shown g m.0 log

  -- Of the seat's lanes just those jobs are lent that it has out.
  abbrev pub HasOuts : View M S A R Q P H W → Core M S A R Q P H W → Type 0
  HasOuts v c = (l : Counted) → Has v.lanes l → lane_jobs g l.lane (g.lent c.machine) ≡ lane_jobs g l.lane v.outs

  -- The seat has the turn, with the machine and the history.
  pub record HasTaken (m m' : Sat) : Type 0 where
    pub log : List E
    pub core : Core M S A R Q P H W
    pub after : m' ≡ (taking m.0 log (g.lent core.machine), (0, Held core) ∷ [])
    pub is : IsCoreOf g m.0.start log core
    pub shown : Shown g m.0 log
    pub outs : HasOuts m.0 core

  -- The turn was given back with the last entry that the slot in hand had.
  abbrev pub HasEntered : Sat → Sat → Type 0
  HasEntered m m' = (e : E) × (entries_in m.1 ≡ m.0.seen ++ e ∷ []) × (m' ≡ (wrote g.update m.0 e, [])) × Shown g (wrote g.update m.0 e) (m.0.seen ++ e ∷ [])

  abbrev pub HasAnswered : Sat → Sat → Type 0
  HasAnswered m m' = (e : E) × (entries_in m.1 ≡ m.0.seen ++ e ∷ []) × (m' ≡ (ran m.0 e, [])) × Shown g (ran m.0 e) (m.0.seen ++ e ∷ [])

  -- The turn was given back with one job more out than the seat took over.
  abbrev pub HasLent : Sat → Sat → Type 0
  HasLent m m' = (j : W) × (outs_in g.lent m.1 ≡ j ∷ m.0.outs) × (m' ≡ (lending m.0 j, []))

  -- An order that came back is settled, run or unrun.
  abbrev pub HasSettled : Sat → Sat → Type 0
  HasSettled m m' = (log : List E) × (m' ≡ (settling m.0 log, m.1)) × Shown g m.0 log × Shown g (settling m.0 log) log

  abbrev pub HasReturned : Sat → Sat → Type 0
  HasReturned m m' = (log : List E) × (m' ≡ (returning m.0 log, m.1)) × Shown g m.0 log × Shown g (returning m.0 log) log

  abbrev pub Looks : At → Sat → ℕ → Sat → Type 0
  Looks st m n m' = HasLooked m m'

  abbrev pub Takes : At → Sat → ℕ → Sat → Type 0
  Takes st m n m' = (n ≡ 0 → HasTaken m m') × (n ≢ 0 → m' ≡ m)

  abbrev pub Gives : At → Sat → ℕ → Sat → Type 0
  Gives st m n m' = m' ≡ (giving m.0, [])

  abbrev pub Enters : At → Sat → ℕ → Sat → Type 0
  Enters st m n m' = HasEntered m m'

  abbrev pub Answers : At → Sat → ℕ → Sat → Type 0
  Answers st m n m' = HasAnswered m m'

  abbrev pub Lends : At → Sat → ℕ → Sat → Type 0
  Lends st m n m' = HasLent m m'

  abbrev pub Tells : At → Sat → ℕ → Sat → Type 0
  Tells st m n m' = (log : List E) × (m' ≡ (told_said m.0 log st.said, m.1)) × Shown g m.0 log

  abbrev pub Draws : At → Sat → ℕ → Sat → Type 0
  Draws st m n m' = m' ≡ (drawn_said m.0 st.said, m.1)

  abbrev pub Settles : At → Sat → ℕ → Sat → Type 0
  Settles st m n m' = HasSettled m m'

  abbrev pub Returns : At → Sat → ℕ → Sat → Type 0
  Returns st m n m' = HasReturned m m'
