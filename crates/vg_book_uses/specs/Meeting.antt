-- Clients that leave notes for each other.
use Rattle.std.specs.Prelude.{◌≡◌, ◌≢◌, ℕ, List}
use Rattle.vg_history.specs.declared.machine.Machine.{Ghosts}
use Rattle.vg_history.specs.Lists.{Has}
use Rattle.vg_history.specs.Entries.{client_of, call_of}
use Rattle.vg_book_uses.specs.declared.counter.Act.{Act}
use Rattle.vg_book_uses.specs.declared.counter.Counter.{Counter}
use Rattle.vg_book_uses.specs.declared.counter.Request.{Request}
use Rattle.vg_book_uses.specs.Adding.{Cl, E}
use Rattle.vg_book_uses.specs.Sharing.{HasTalked}

-- Whose call a note names, its number, and what the note has seen.
pub record Posted : Type 0 where
  pub client : ℕ
  pub call : ℕ
  pub seen : List E

abbrev pub posted : ℕ → ℕ → List E → Posted
posted client call seen = record { client = client; call = call; seen = seen }

-- The client's entry with this number is there.
abbrev pub HasCall : ℕ → ℕ → List E → Type 0
HasCall client call es = (e : E) × Has es e × (client_of e ≡ client) × (call_of e ≡ call)

-- The client has drawn two numbers, and has seen a call of another client.
pub record HasMet (g : Ghosts Counter Counter Act ℕ Request ℕ ℕ Request) (c d : Cl) : Type 0 where
  pub talked : HasTalked g c 2 d
  pub other : ℕ
  pub call : ℕ
  pub apart : other ≢ c.account.number
  pub heard : HasCall other call d.seen
