use Rattle.std.specs.Prelude.{◌≡◌, ℕ, List, [], ◌∷◌}
use Rattle.vg_history.specs.declared.entry.Entry.{Entry}
use Rattle.vg_history.specs.declared.entry.Entry.TheVariants.{Act, Command}
use Rattle.vg_history.specs.Lists.{Has}

module _ {M S A R Q P H W : Type 0} where
  abbrev pub client_of : Entry M S A R Q P H W → ℕ
  client_of (Act client call act reply) = client
  client_of (Command client call request reply) = client

  -- The client's own number for it.
  abbrev pub call_of : Entry M S A R Q P H W → ℕ
  call_of (Act client call act reply) = call
  call_of (Command client call request reply) = call

  -- They are one call of one client.
  abbrev pub IsSameCall : Entry M S A R Q P H W → Entry M S A R Q P H W → Type 0
  IsSameCall e f = (client_of e ≡ client_of f) × (call_of e ≡ call_of f)

  -- None of these is the entry's call.
  abbrev pub IsApart : Entry M S A R Q P H W → List (Entry M S A R Q P H W) → Type 0
  IsApart e es = (f : Entry M S A R Q P H W) → Has es f → IsSameCall e f → ⊥

  -- No call stands twice.
  abbrev pub EachOnce : List (Entry M S A R Q P H W) → Type 0
  EachOnce [] = Unit {0}
  EachOnce (e ∷ es) = IsApart e es × EachOnce es
