-- The entries of a lane, and what is known of a lane whose commands run one after another.
use Rattle.std.specs.Prelude.{◌≡◌, ℕ, ◌+◌, ◌==◌, ◌<◌, ◌≤◌, Bool, true, false, Option, Some, None, List, [], ◌∷◌, ◌++◌, length, get_or, if◌then◌else◌}
use Rattle.vg_wire.specs.declared.request.Queue.{Queue}
use Rattle.vg_wire.specs.declared.request.Queue.TheVariants.{Control, Cursor}
use Rattle.vg_cargo.specs.declared.entries.Entry.{Entry}
use Rattle.vg_cargo.specs.Cargo.{CargoData}
use Rattle.vg_cargo.specs.Entries.{head_of, entries, weigh, heads, Has, InOrder}
use Rattle.vg_cargo.specs.DeviceEnds.{DeviceLists, IsCargoOf}

abbrev pub of_lane : ℕ → List Entry → List Entry
of_lane lane [] = []
of_lane lane (e ∷ more) = if e.lane == lane then (e ∷ of_lane lane more) else of_lane lane more

-- The lanes of a queue: so many from the first one on.
abbrev pub AreLanes : Queue → ℕ → ℕ → Type 0
AreLanes Control first count = (first ≡ 0) × (count ≡ 65)
AreLanes Cursor first count = (first ≡ 65) × (count ≡ 1)

-- A cargo that waits is that of an entry, with its head, and its pass is wanted.
abbrev pub IsWaiting : {P : Type 0} → (P → Bool) → ℕ × CargoData P → Entry → Type 0
IsWaiting wanted f e = IsCargoOf e f.1 × (f.0 ≡ head_of e) × (wanted f.1.pass ≡ true)

abbrev pub AreWaiting : {P : Type 0} → (P → Bool) → List (ℕ × CargoData P) → List Entry → Type 0
AreWaiting wanted [] [] = Unit {0}
AreWaiting wanted [] (e ∷ es) = ⊥
AreWaiting wanted (f ∷ fs) [] = ⊥
AreWaiting wanted (f ∷ fs) (e ∷ es) = IsWaiting wanted f e × AreWaiting wanted fs es

-- A lane whose token is away has one command lent. One whose token is at home has none, and until the commands go back
-- without being run, the token has run as many as were completed.
abbrev pub IsHome : {T : Type 0} → (T → ℕ) → (T → ℕ) → Bool → List Entry → List Entry → ℕ → Option T → Type 0
IsHome lane_of count_of halted done lent lane None = (e : Entry) × (of_lane lane lent ≡ e ∷ [])
IsHome lane_of count_of halted done lent lane (Some token) = (of_lane lane lent ≡ []) × (lane_of token ≡ lane) × (halted ≡ false → count_of token ≡ length (of_lane lane done))

-- What is kept of a queue, where these entries wait.
pub record IsDesk {P T : Type 0} (wanted : P → Bool) (lane_of count_of : T → ℕ) (lists : DeviceLists) (first : ℕ) (homes : List (Option T)) (waiting : List (ℕ × CargoData P)) (halted : Bool) (waits : List Entry) : Type 0 where
  pub lanes : AreLanes lists.queue first (length homes)
  pub flows : (lane : ℕ) → of_lane lane lists.fetched ≡ (of_lane lane (entries lists.completed) ++ of_lane lane lists.lent) ++ of_lane lane waits
  pub waits_are : AreWaiting wanted waiting waits
  pub waits_held : (e : Entry) → Has e waits → Has e lists.held
  pub held : (f : Entry → ℕ) → weigh f lists.held ≡ weigh f lists.lent + weigh f waits
  pub once : (head : ℕ) → heads head lists.held ≤ 1
  pub ordered : InOrder [] lists.fetched
  pub count : length lists.fetched ≡ length lists.completed + length lists.lent + length waiting
  pub within : (e : Entry) → Has e lists.held → (first ≤ e.lane) × (e.lane < first + length homes)
  pub homes_are : (i : ℕ) → i < length homes → IsHome lane_of count_of halted (entries lists.completed) lists.lent (first + i) (get_or homes i None)
