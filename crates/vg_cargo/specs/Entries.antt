use Rattle.std.specs.Prelude.{◌≡◌, ℕ, ◌+◌, ◌<◌, ◌==◌, ◌⊎◌, Bool, true, false, List, [], ◌∷◌, ◌++◌, map, length, slice_index, if◌then◌else◌}
use Rattle.vg_chain.specs.declared.descriptor.Descriptor.{Descriptor}
use Rattle.vg_chain.specs.Made.{made, IsCount, IsNeeded}
use Rattle.vg_cargo.specs.declared.entries.Entry.{Entry}
use Rattle.vg_cargo.specs.declared.entries.Answer.{Answer}
use Rattle.vg_cargo.specs.Cargo.{CargoData, base_of}
use Rattle.vg_chain.specs.declared.shape.Shape.TheVariants.{Plain}
use Rattle.vg_wire.specs.declared.request.Queue.{Queue}
use Rattle.vg_wire.specs.declared.request.Queue.TheVariants.{Control}
use Rattle.vg_cargo.specs.Descriptors.{rest_word, descriptor_from}

-- The head's place is the first one.
abbrev pub head_of : Entry → ℕ
head_of e = slice_index e.places 0

abbrev pub entry_of : Answer → Entry
entry_of a = a.entry

abbrev pub entries : List Answer → List Entry
entries answers = map entry_of answers

-- How often a place stands in a list.
abbrev pub times : ℕ → List ℕ → ℕ
times place [] = 0
times place (other ∷ more) = (if other == place then 1 else 0) + times place more

-- Entries weighed: a function of each, added up.
abbrev pub weigh : (Entry → ℕ) → List Entry → ℕ
weigh f [] = 0
weigh f (e ∷ more) = f e + weigh f more

-- How often a place stands among the places of entries, how many places they have, and how many have their head there.
abbrev pub uses_in : ℕ → Entry → ℕ
uses_in place e = times place e.places

abbrev pub places_in : Entry → ℕ
places_in e = length e.places

abbrev pub head_in : ℕ → Entry → ℕ
head_in place e = if head_of e == place then 1 else 0

abbrev pub uses : ℕ → List Entry → ℕ
uses place es = weigh (uses_in place) es

abbrev pub spread : List Entry → ℕ
spread es = weigh places_in es

abbrev pub heads : ℕ → List Entry → ℕ
heads place es = weigh (head_in place) es

-- The entry of a cargo that is published at these places.
abbrev pub published_as : {P : Type 0} → List ℕ → CargoData P → Entry
published_as places cargo = record {
  places = places;
  queue = cargo.parcel.queue;
  lane = cargo.parcel.lane;
  ordinal = cargo.parcel.ordinal;
  shape = cargo.parcel.shape;
  request = cargo.parcel.request;
  room = cargo.parcel.room;
}

-- The descriptors that an entry has in the ring of a queue of size n.
abbrev pub ring_of : ℕ → Entry → List Descriptor
ring_of n e = (made e.shape (length e.request) e.room (base_of e.queue (head_of e)) n e.places).ring

-- Each descriptor is the one that its two words stand for.
abbrev pub AreBack : List Descriptor → Type 0
AreBack [] = Unit {0}
AreBack (d ∷ more) = (descriptor_from d.addr (rest_word d) ≡ d) × AreBack more

-- An entry has as many places as its shape needs.
pub record IsWhole (n : ℕ) (e : Entry) : Type 0 where
  pub count : IsCount e.shape
  pub needed : IsNeeded e.shape (length e.request) e.room (length e.places)
  pub back : AreBack (ring_of n e)

-- A cargo that is an entry's, as it is fetched, and as it is completed with an answer.
pub record IsFresh {P : Type 0} (wanted : P → Bool) (n : ℕ) (e : Entry) (cargo : CargoData P) : Type 0 where
  pub entry : published_as e.places cargo ≡ e
  pub head_is : cargo.parcel.head ≡ head_of e
  pub wanted_is : wanted cargo.pass ≡ true
  pub whole : IsWhole n e

pub record IsDone {P : Type 0} (wanted : P → Bool) (a : Answer) (cargo : CargoData P) : Type 0 where
  pub entry : published_as a.entry.places cargo ≡ a.entry
  pub head_is : cargo.parcel.head ≡ head_of a.entry
  pub response : cargo.parcel.response ≡ a.response
  pub len : length a.response ≡ a.len
  pub done : wanted cargo.pass ≡ false

-- How many entries of a lane there are; the ordinals of each lane rise one by one from 1.
abbrev pub lane_count : ℕ → List Entry → ℕ
lane_count lane [] = 0
lane_count lane (e ∷ more) = (if e.lane == lane then 1 else 0) + lane_count lane more

abbrev pub InOrder : List Entry → List Entry → Type 0
InOrder before [] = Unit {0}
InOrder before (e ∷ more) = (e.ordinal ≡ lane_count e.lane before + 1) × InOrder (before ++ e ∷ []) more

-- The entries without the first one whose head is there.
abbrev pub without : ℕ → List Entry → List Entry
without place [] = []
without place (e ∷ more) = if head_of e == place then more else (e ∷ without place more)

-- An entry is among these.
abbrev pub Has : Entry → List Entry → Type 0
Has e [] = ⊥
Has e (f ∷ more) = (f ≡ e) ⊎ Has e more

-- The first entry whose head is there.
abbrev pub no_entry : Entry
no_entry = record { places = []; queue = Control; lane = 0; ordinal = 0; shape = Plain; request = []; room = 0 }

abbrev pub held_at : ℕ → List Entry → Entry
held_at place [] = no_entry
held_at place (e ∷ more) = if head_of e == place then e else held_at place more

-- The answer that a cargo is for an entry.
abbrev pub answer_with : {P : Type 0} → Entry → ℕ → CargoData P → Answer
answer_with e len cargo = record { entry = e; len = len; response = cargo.parcel.response }

-- Each entry is of this queue.
abbrev pub AreOf : Queue → List Entry → Type 0
AreOf queue [] = Unit {0}
AreOf queue (e ∷ more) = (e.queue ≡ queue) × AreOf queue more

-- Each entry has a head.
abbrev pub HaveHeads : List Entry → Type 0
HaveHeads [] = Unit {0}
HaveHeads (e ∷ more) = (0 < length e.places) × HaveHeads more
