use Rattle.std.specs.Prelude.{◌≡◌, ℕ, ◌+◌, ◌≤◌, Bool, not, nat_lt, ◌==◌, if◌then◌else◌, []}
use Rattle.atomic_table.specs.Seated.{TableId}
use Rattle.atomic_table.specs.Table.{Me}
use Rattle.vg_notify.specs.declared.views.RingerStage.TheVariants as ringer
use Rattle.vg_notify.specs.declared.views.RingerView.{RingerView}
use Rattle.vg_notify.specs.declared.views.SleeperView.{SleeperView}
use Rattle.vg_notify.specs.declared.views.View.{View}
use Rattle.vg_notify.specs.declared.views.View.TheVariants.{Rings, Sleeps}
use Rattle.vg_notify.specs.Need.{calls_for}
use Rattle.vg_notify.specs.Plays.{ringer_of, sleeper_of, staged}

-- What a ringer has: its bell, how much was published, how many kicks there were, and how often the event was loaded and what it was the last time.
pub record RingerData : Type 0 where
  pub bell : TableId
  pub count : ℕ
  pub rung : ℕ
  pub looks : ℕ
  pub seen : ℕ

-- What a sleeper has: its bell, its event, the kicks that it loaded when it was armed, whether it is asleep, how often the kicks were loaded
-- and how many there were the last time, and the same of the published count.
pub record SleeperData : Type 0 where
  pub bell : TableId
  pub event : ℕ
  pub loaded : ℕ
  pub asleep : Bool
  pub hears : ℕ
  pub heard : ℕ
  pub looks : ℕ
  pub seen : ℕ

abbrev pub ringer_data : TableId → RingerView → RingerData
ringer_data bell r = record { bell = bell; count = r.count; rung = r.rung; looks = r.looks; seen = r.seen }

abbrev pub sleeper_data : TableId → SleeperView → SleeperData
sleeper_data bell z = record { bell = bell; event = z.event; loaded = z.loaded; asleep = z.asleep; hears = z.hears; heard = z.heard; looks = z.looks; seen = z.seen }

abbrev pub kicks_of : Bool → ℕ
kicks_of answer = if answer then 1 else 0

-- A publication: the count is stored, the event is loaded, and there is a kick exactly where that is called for.
pub record Publishes (old : RingerData) (count : ℕ) (answer : Bool) (new : RingerData) : Type 0 where
  pub bell : new.bell ≡ old.bell
  pub count_is : new.count ≡ count
  pub looks : new.looks ≡ old.looks + 1
  pub answer_is : answer ≡ calls_for new.seen count old.count
  pub rung : new.rung ≡ old.rung + kicks_of answer

-- Arming: the kicks are loaded, the event is stored, and the sleeper is asleep exactly where the published count is the event still.
pub record Arms (old : SleeperData) (fetched : ℕ) (answer : Bool) (new : SleeperData) : Type 0 where
  pub bell : new.bell ≡ old.bell
  pub event : new.event ≡ fetched
  pub hears : new.hears ≡ old.hears + 1
  pub loaded : new.loaded ≡ new.heard
  pub looks : new.looks ≡ old.looks + 1
  pub answer_is : answer ≡ (new.seen == fetched)
  pub asleep : new.asleep ≡ answer

-- A look for a kick: the kicks are loaded, and the sleeper is awake exactly where there are more than at its arming.
pub record Listens (old : SleeperData) (answer : Bool) (new : SleeperData) : Type 0 where
  pub bell : new.bell ≡ old.bell
  pub event : new.event ≡ old.event
  pub loaded : new.loaded ≡ old.loaded
  pub looks : new.looks ≡ old.looks
  pub seen : new.seen ≡ old.seen
  pub hears : new.hears ≡ old.hears + 1
  pub answer_is : answer ≡ nat_lt old.loaded new.heard
  pub asleep : new.asleep ≡ not answer

-- A seat of the bell's table.
abbrev pub IsOnBell : TableId → TableId → Type 0
IsOnBell bell seat = (seat ≡ bell) × (bell.words ≡ 3)

-- What a half keeps between two calls.
abbrev pub IsRinger : TableId → TableId → Me (Unit {0}) View → ℕ → ℕ → Type 0
IsRinger bell seat me count rung =
    IsOnBell bell seat × (me ≡ (Rings (staged (ringer_of me.0) ringer.Resting), [])) × (count ≡ (ringer_of me.0).count) × (rung ≡ (ringer_of me.0).rung) × (rung ≤ count)

abbrev pub IsSleeper : TableId → TableId → Me (Unit {0}) View → ℕ → Bool → Type 0
IsSleeper bell seat me loaded asleep =
    IsOnBell bell seat × (me ≡ (Sleeps (sleeper_of me.0), [])) × (loaded ≡ (sleeper_of me.0).loaded) × (asleep ≡ (sleeper_of me.0).asleep)
