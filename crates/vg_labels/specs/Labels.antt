-- What labels are given, and by which entries.
use Rattle.std.specs.Prelude.{◌≡◌, ◌≤◌, ℕ, ◌-◌, List, [], length, map, Option, Some, None, slice_get, get_or}
use Rattle.std.specs.List.{AllByRecursion}
use Rattle.std.specs.declared.sync.OnceToken.{OnceToken}
use Rattle.vg_history.specs.declared.machine.Machine.{Ghosts}
use Rattle.vg_history.specs.declared.entry.Entry.{Entry}
use Rattle.vg_history.specs.History.{HasCommand}
use Rattle.vg_book.specs.Tokens.{Noted}
use Rattle.vg_labels.specs.declared.label.Gift.{Gift}
use Rattle.vg_labels.specs.declared.label.Gift.TheVariants as gifts
use Rattle.vg_book.specs.Places.{HasCall}
use Rattle.vg_labels.specs.declared.label.Given.{Given}
use Rattle.vg_labels.specs.declared.table.Told.{Told}

-- A note that was left: it has seen this call of this client.
pub record PostedView (M S A R Q P H W : Type 0) : Type 0 where
  pub client : ℕ
  pub call : ℕ
  pub seen : List (Entry M S A R Q P H W)

-- The entry with which this was given is there: that of a fence is its lane's command of its ordinal, any other the client's call.
abbrev pub NamesBy : {M S A R Q P H W : Type 0} → Ghosts M S A R Q P H W → Gift → ℕ → ℕ → List (Entry M S A R Q P H W) → Type 0
NamesBy g (gifts.Fence lane ordinal) client call es = HasCommand g lane ordinal es
NamesBy g gift client call es = HasCall es client call

abbrev pub Names : {M S A R Q P H W : Type 0} → Ghosts M S A R Q P H W → Given → List (Entry M S A R Q P H W) → Type 0
Names g given es = NamesBy g given.gift given.client given.call es

-- There is a note that has seen this call.
abbrev pub HasNote : {M S A R Q P H W : Type 0} → ℕ → ℕ → Option (Noted M S A R Q P H W) → Type 0
HasNote client call (Some note) = HasCall note.seen client call
HasNote client call None = ⊥

-- There is a note that has seen the entry with which this was given, where that is no fence.
abbrev pub IsNotedBy : {M S A R Q P H W : Type 0} → Gift → ℕ → ℕ → Option (Noted M S A R Q P H W) → Type 0
IsNotedBy (gifts.Fence lane ordinal) client call found = Unit {0}
IsNotedBy gift client call found = HasNote client call found

abbrev pub IsNoted : {M S A R Q P H W : Type 0} → Given → Option (Noted M S A R Q P H W) → Type 0
IsNoted given note = IsNotedBy given.gift given.client given.call note

-- What each label was given, by its number from 1.
abbrev pub Values : Type 0
Values = ℕ → Option Given

-- It shows that the label of this name was given this.
abbrev pub Shows : ℕ → Given → OnceToken (Option Given) → Type 0
Shows label given shown = (shown.of ≡ label) × (shown.value ≡ Some given)

-- They show what each of these labels was given, in their order.
abbrev pub AreShown : List ℕ → List (OnceToken (Option Given)) → Type 0
AreShown labels all = map (λ (s : OnceToken (Option Given)). s.of) all ≡ labels

abbrev pub value_in : Option (OnceToken (Option Given)) → Option Given
value_in (Some shown) = shown.value
value_in None = None

abbrev pub values_of : List (OnceToken (Option Given)) → Values
values_of all label = value_in (slice_get all (label - 1))

-- What was told is of one of these labels.
pub record IsOf (labels : List ℕ) (told : Told) : Type 0 where
  pub first : 1 ≤ told.label
  pub last : told.label ≤ length labels
  pub label_is : told.shown.of ≡ get_or labels (told.label - 1) 0

abbrev pub AreOf : List ℕ → List Told → Type 0
AreOf labels told = AllByRecursion (IsOf labels) told

-- What was told is so by these values.
abbrev pub AreTold : Values → List Told → Type 0
AreTold values told = AllByRecursion (λ (t : Told). values t.label ≡ t.shown.value) told
