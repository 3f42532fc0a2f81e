use Rattle.std.specs.Prelude.{◌≡◌, ℕ, ◌+◌, ◌%◌, ◌<◌, ◌≤◌, Bool, List, [], ◌∷◌, ◌++◌, length, slice_index}
use Rattle.vg_chain.specs.declared.shape.Shape.{Shape}
use Rattle.vg_chain.specs.Made.{IsNeeded}
use Rattle.vg_wire.specs.declared.request.Queue.{Queue}
use Rattle.vg_cargo.specs.declared.entries.Entry.{Entry}
use Rattle.vg_cargo.specs.declared.entries.Answer.{Answer}
use Rattle.vg_cargo.specs.Cargo.{CargoData}
use Rattle.vg_cargo.specs.Entries.{head_of, entries, weigh, uses, spread, published_as, IsDone}

-- What is known at the driver's end: which queue it is and how many descriptors that has, what was published and what
-- came back, where the next head is, and how often the used index was loaded and what it was the last time.
pub record DriverLists : Type 0 where
  pub queue : Queue
  pub size : ℕ
  pub published : List Entry
  pub reaped : List Answer
  pub next : ℕ
  pub looks : ℕ
  pub seen : ℕ

-- So many more descriptors are free: those of entries that were published and haven't come back are in use.
abbrev pub HasRoom : DriverLists → ℕ → Type 0
HasRoom lists count = spread lists.published + count ≤ lists.size + spread (entries lists.reaped)

-- A publication: the entry's descriptors stand at free places, all different, the head first.
pub record Publishes {P : Type 0} (old : DriverLists) (shape : Shape) (cargo : CargoData P) (new : DriverLists) : Type 0 where
  pub places : List ℕ
  pub published : new.published ≡ old.published ++ published_as places cargo ∷ []
  pub head : slice_index places 0 ≡ old.next
  pub needed : IsNeeded shape (length cargo.parcel.request) cargo.parcel.room (length places)
  pub free : (p : ℕ) → uses p new.published ≤ uses p (entries new.reaped) + 1
  pub below : (p : ℕ) → 0 < uses p (published_as places cargo ∷ []) → p < old.size
  pub reaped : new.reaped ≡ old.reaped
  pub same : (new.queue ≡ old.queue) × (new.size ≡ old.size)
  pub looked : (new.looks ≡ old.looks) × (new.seen ≡ old.seen)

-- A cargo that came back: the answer is that of an entry that was published, each of which comes back once at most.
pub record Reaps {P : Type 0} (wanted : P → Bool) (old : DriverLists) (head len : ℕ) (cargo : CargoData P) (new : DriverLists) : Type 0 where
  pub answer : Answer
  pub reaped : new.reaped ≡ old.reaped ++ answer ∷ []
  pub head_is : head ≡ head_of answer.entry
  pub len_is : len ≡ answer.len
  pub done : IsDone wanted answer cargo
  pub once : (f : Entry → ℕ) → weigh f (entries new.reaped) ≤ weigh f new.published
  pub most : length old.reaped < length old.published
  pub published : new.published ≡ old.published
  pub same : (new.queue ≡ old.queue) × (new.size ≡ old.size)
  pub looks : new.looks ≡ old.looks + 1

-- The used index that was loaded is the count.
pub record ReapsNone (old new : DriverLists) : Type 0 where
  pub seen : new.seen ≡ length old.reaped % 65536
  pub looks : new.looks ≡ old.looks + 1
  pub reaped : new.reaped ≡ old.reaped
  pub published : new.published ≡ old.published
  pub next : new.next ≡ old.next
  pub same : (new.queue ≡ old.queue) × (new.size ≡ old.size)
