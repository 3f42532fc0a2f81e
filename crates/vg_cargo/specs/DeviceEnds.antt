use Rattle.std.specs.Prelude.{◌≡◌, ℕ, ◌+◌, ◌%◌, ◌<◌, ◌≤◌, Bool, List, [], ◌∷◌, ◌++◌, length}
use Rattle.vg_wire.specs.declared.request.Queue.{Queue}
use Rattle.vg_cargo.specs.declared.entries.Entry.{Entry}
use Rattle.vg_cargo.specs.declared.entries.Answer.{Answer}
use Rattle.vg_cargo.specs.Cargo.{CargoData, IsLane}
use Rattle.vg_cargo.specs.Entries.{head_of, heads, without, published_as, answer_with, Has, IsFresh, InOrder}

-- What is known at the device's end: which queue it is and how many descriptors that has, what was fetched and what was
-- completed, those fetched that aren't completed, in any order, those of them that are lent, and how often the
-- available index was loaded and what it was the last time.
pub record DeviceLists : Type 0 where
  pub queue : Queue
  pub size : ℕ
  pub fetched : List Entry
  pub completed : List Answer
  pub held : List Entry
  pub lent : List Entry
  pub looks : ℕ
  pub seen : ℕ

-- The entry with this head is one of these.
abbrev pub HasAt : Entry → ℕ → List Entry → Type 0
HasAt e head es = Has e es × (head_of e ≡ head)

-- The cargo is the entry's.
abbrev pub IsCargoOf : {P : Type 0} → Entry → CargoData P → Type 0
IsCargoOf e cargo = (published_as e.places cargo ≡ e) × (cargo.parcel.head ≡ head_of e)

-- What a fetch gives.
pub record Fetches {P : Type 0} (wanted : P → Bool) (old : DeviceLists) (head : ℕ) (cargo : CargoData P) (new : DeviceLists) : Type 0 where
  pub entry : Entry
  pub fetched : new.fetched ≡ old.fetched ++ entry ∷ []
  pub held : new.held ≡ entry ∷ old.held
  pub head_is : head ≡ head_of entry
  pub small : head < old.size
  pub fresh : IsFresh wanted old.size entry cargo
  pub of_queue : entry.queue ≡ old.queue
  pub lane : IsLane entry.queue entry.lane
  pub ordered : InOrder [] new.fetched
  pub most : length new.fetched ≤ length new.completed + new.size
  pub alone : heads head new.held ≡ 1
  pub unlent : heads head new.lent ≡ 0
  pub completed : new.completed ≡ old.completed
  pub lent : new.lent ≡ old.lent
  pub same : (new.queue ≡ old.queue) × (new.size ≡ old.size)
  pub looks : new.looks ≡ old.looks + 1

-- The available index that was loaded is the count.
pub record FetchesNone (old new : DeviceLists) : Type 0 where
  pub seen : new.seen ≡ length old.fetched % 65536
  pub looks : new.looks ≡ old.looks + 1
  pub fetched : new.fetched ≡ old.fetched
  pub completed : new.completed ≡ old.completed
  pub held : new.held ≡ old.held
  pub lent : new.lent ≡ old.lent
  pub same : (new.queue ≡ old.queue) × (new.size ≡ old.size)

-- A completion of the entry.
abbrev pub completing : {P : Type 0} → DeviceLists → Entry → ℕ → CargoData P → DeviceLists
completing old e len cargo = record old { completed = old.completed ++ answer_with e len cargo ∷ []; held = without (head_of e) old.held }

-- The right to an entry that is lent, and whether its chain was walked.
pub record RightData : Type 0 where
  pub entry : Entry
  pub walked : Bool

-- A right that was taken in: it was lent, and isn't any more; its entry is still held.
pub record TakesIn (old : DeviceLists) (right : RightData) (new : DeviceLists) : Type 0 where
  pub front : List Entry
  pub back : List Entry
  pub lent : old.lent ≡ front ++ right.entry ∷ back
  pub left : new ≡ record old { lent = front ++ back }
  pub held : Has right.entry new.held
  pub alone : heads (head_of right.entry) new.held ≡ 1
  pub unlent : heads (head_of right.entry) new.lent ≡ 0
