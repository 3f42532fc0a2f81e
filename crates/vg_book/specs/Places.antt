-- Where a client's calls stand in a history, and what is so of a client that has seen one.
use Rattle.std.specs.Prelude.{◌≡◌, ℕ, ◌<◌, List, [], map}
use mathlib.Core.List.{IsPrefix}
use Rattle.vg_history.specs.declared.machine.Machine.{Ghosts}
use Rattle.vg_history.specs.declared.entry.Entry.{Entry}
use Rattle.vg_history.specs.Entries.{call_of, client_of}
use Rattle.vg_history.specs.Lists.{Has}
use Rattle.vg_book.specs.declared.board.Account.{Account}
use Rattle.vg_book.specs.Kept.{Accounted, IsHistory}
use Rattle.vg_book.specs.Tokens.{Client}
use Rattle.vg_book.specs.Views.{order_call}

module _ {M S A R Q P H W : Type 0} where
  -- The client's call with this number is there.
  abbrev pub HasCall : List (Entry M S A R Q P H W) → ℕ → ℕ → Type 0
  HasCall es client call = (e : Entry M S A R Q P H W) × Has es e × (client_of e ≡ client) × (call_of e ≡ call)

  -- The client's call stands behind what this says: a front of the history has that, and hasn't the call.
  pub record StandsBehind (es : List (Entry M S A R Q P H W)) (client call : ℕ) (What : List (Entry M S A R Q P H W) → Type 0) : Type 0 where
    pub front : List (Entry M S A R Q P H W)
    pub begins : IsPrefix front es
    pub has : What front
    pub apart : HasCall front client call → ⊥

  -- The client's call stands behind all earlier calls of its client but those that are begun.
  abbrev pub IsPlaced : List (Entry M S A R Q P H W) → ℕ → List ℕ → ℕ → Type 0
  IsPlaced es client begun call = (i : ℕ) → 0 < i → i < call → (Has begun i → ⊥) → StandsBehind es client call (λ front. HasCall front client i)

  -- The numbers of the calls of which nothing has come back yet.
  abbrev pub begun_of : Account M S A R Q P H W → List ℕ
  begun_of account = map order_call account.out

module _ {M S A R Q P H W : Type 0} (g : Ghosts M S A R Q P H W) where
  -- A client that knows its own calls in what it has seen, each of which has an entry or is out.
  pub record IsCurrent (c : Client M S A R Q P H W) : Type 0 where
    pub known : Accounted g c.seen c.account
    pub history : IsHistory g c.start c.seen
    pub whole : c.account.spent ≡ []
