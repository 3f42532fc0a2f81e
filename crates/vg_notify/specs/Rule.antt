use Rattle.std.specs.Prelude.{◌≡◌, ℕ, ◌+◌, ◌<◌, ◌≤◌, ◌⊎◌, true, List, [], ◌∷◌, slice_index}
use mathlib.Core.Option.{some}
use lib.ListN.{get_elem?}
use Rattle.atomic_table.specs.Table.{State}
use Rattle.vg_notify.specs.declared.views.RingerStage.{RingerStage}
use Rattle.vg_notify.specs.declared.views.RingerStage.TheVariants as ringer
use Rattle.vg_notify.specs.declared.views.RingerView.{RingerView}
use Rattle.vg_notify.specs.declared.views.SleeperView.{SleeperView}
use Rattle.vg_notify.specs.declared.views.View.{View}
use Rattle.vg_notify.specs.declared.views.View.TheVariants.{Start, Rings, Sleeps, Note, Spent}
use Rattle.vg_notify.specs.Need.{calls_for}

-- The ringer is between its store of the count and the end of that call, which kicks if the event is still this one.
abbrev pub IsRinging : ℕ → ℕ → RingerStage → Type 0
IsRinging event count ringer.Resting = ⊥
IsRinging event count (ringer.Stored old) = calls_for event count old ≡ true
IsRinging event count ringer.Raising = Unit {0}

-- Where the sleeper is asleep and more was published than its event, it was kicked since it was armed, or it is about to be.
abbrev pub Kick : RingerView → SleeperView → Type 0
Kick r z = z.asleep ≡ true → z.event < r.count → (z.loaded < r.rung) ⊎ IsRinging z.event r.count r.stage

-- Each kick was for one count at least, and a count goes up by 32,768 at most.
abbrev pub Knows : ℕ → ℕ → RingerStage → Type 0
Knows count rung ringer.Resting = rung ≤ count
Knows count rung (ringer.Stored old) = (rung ≤ old) × (old ≤ count) × (count ≤ old + 32768)
Knows count rung ringer.Raising = rung < count

-- What the seats from the third on know: a note says that a sleeper that is asleep at less than its count was kicked.
abbrev pub IsGuest : RingerView → SleeperView → View → Type 0
IsGuest r z Start = ⊥
IsGuest r z (Rings other) = ⊥
IsGuest r z (Sleeps other) = ⊥
IsGuest r z (Note count rung) = (count ≤ r.count) × (z.asleep ≡ true → z.event < count → z.loaded < rung)
IsGuest r z Spent = Unit {0}

abbrev pub AreGuests : RingerView → SleeperView → List View → Type 0
AreGuests r z [] = Unit {0}
AreGuests r z (view ∷ more) = IsGuest r z view × AreGuests r z more

-- The bell between two steps.
pub record IsBell (s : State (Unit {0}) View) (r : RingerView) (z : SleeperView) (rest : List View) : Type 0 where
  pub words : s.words ≡ r.count ∷ z.event ∷ r.rung ∷ []
  pub views : s.views ≡ Rings r ∷ Sleeps z ∷ rest
  pub knows : Knows r.count r.rung r.stage
  pub few : z.loaded ≤ r.rung
  pub kick : Kick r z
  pub noted : IsGuest r z (Note z.noted_count z.noted_rung)
  pub guests : AreGuests r z rest

-- The table as it was made.
pub record IsNew (s : State (Unit {0}) View) : Type 0 where
  pub words : s.words ≡ 0 ∷ 0 ∷ 0 ∷ []
  pub views : s.views ≡ Start ∷ []

abbrev pub Holds : State (Unit {0}) View → Type 0
Holds s = IsNew s ⊎ ((r : RingerView) × (z : SleeperView) × (rest : List View) × IsBell s r z rest)

-- The same of any two seats and of the words, the count, the event and the kicks: at every moment, in the middle of calls too.
abbrev pub KickAt : State (Unit {0}) View → Type 0
KickAt s =
    (i j : ℕ) (r : RingerView) (z : SleeperView) → get_elem? s.views i ≡ some (Rings r) → get_elem? s.views j ≡ some (Sleeps z)
    → z.asleep ≡ true → slice_index s.words 1 < slice_index s.words 0
    → (z.loaded < slice_index s.words 2) ⊎ IsRinging (slice_index s.words 1) (slice_index s.words 0) r.stage
