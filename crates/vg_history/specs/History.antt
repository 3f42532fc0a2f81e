use Rattle.std.specs.Prelude.{◌≡◌, ℕ, ◌==◌, ◌<◌, ◌≤◌, true, false, List, [], ◌∷◌, ◌++◌, if◌then◌else◌}
use Rattle.vg_history.specs.declared.machine.Machine.{Ghosts}
use Rattle.vg_history.specs.declared.entry.Entry.{Entry}
use Rattle.vg_history.specs.declared.entry.Entry.TheVariants.{Act, Command}
use Rattle.vg_history.specs.Lists.{Has, upto}

module _ {M S A R Q P H W : Type 0} (g : Ghosts M S A R Q P H W) where
  abbrev E : Type 0
  E = Entry M S A R Q P H W

  -- The state after an entry.
  abbrev pub after : S → E → S
  after s (Act client call act reply) = g.acted s client act
  after s (Command client call request reply) = g.requested s request

  -- The entry's reply is the machine's there.
  abbrev pub HasReply : S → E → Type 0
  HasReply s (Act client call act reply) = reply ≡ g.replied s client act
  HasReply s (Command client call request reply) = reply ≡ g.answered s request

  -- The state after a history.
  abbrev pub replay : S → List E → S
  replay s [] = s
  replay s (e ∷ es) = replay (after s e) es

  -- Each reply is the one that the machine gives after the entries before it.
  abbrev pub AgreesFrom : S → List E → Type 0
  AgreesFrom s [] = Unit {0}
  AgreesFrom s (e ∷ es) = HasReply s e × AgreesFrom (after s e) es

  -- What the client holds after an entry: its own acts change it.
  abbrev pub updated : ℕ → H → E → H
  updated c h (Act client call act reply) = if client == c then g.update h act reply else h
  updated c h (Command client call request reply) = h

  abbrev pub holds_after : ℕ → H → List E → H
  holds_after c h [] = h
  holds_after c h (e ∷ es) = holds_after c (updated c h e) es

  -- If it is a command of the client, then one that these holds allow.
  abbrev pub IsAllowed : ℕ → H → E → Type 0
  IsAllowed c h (Act client call act reply) = Unit {0}
  IsAllowed c h (Command client call request reply) = client ≡ c → g.allows h request ≡ true

  -- Each command of the client is allowed by what it holds there, where it held h before.
  abbrev pub AllowedBy : ℕ → H → List E → Type 0
  AllowedBy c h [] = Unit {0}
  AllowedBy c h (e ∷ es) = IsAllowed c h e × AllowedBy c (updated c h e) es

  abbrev pub ordinal_in : ℕ → E → List ℕ
  ordinal_in l (Act client call act reply) = []
  ordinal_in l (Command client call request reply) = if (g.tagged request).0 == l then (g.tagged request).1 ∷ [] else []

  -- The ordinals of the lane's commands, in the order in which they stand.
  abbrev pub ordinals : ℕ → List E → List ℕ
  ordinals l [] = []
  ordinals l (e ∷ es) = ordinal_in l e ++ ordinals l es

  -- On each lane they are 1, 2, 3.
  abbrev pub Ordered : List E → Type 0
  Ordered es = (l : ℕ) → (n : ℕ) × (ordinals l es ≡ upto n)

  -- The lane's command with this ordinal is there.
  abbrev pub HasCommand : ℕ → ℕ → List E → Type 0
  HasCommand l k es = (c : ℕ) × (n : ℕ) × (q : Q) × (p : P) × Has es (Command c n q p) × (g.tagged q ≡ (l, k))

  -- The fence with this ordinal is known: all commands of its lane up to it are there.
  abbrev pub HasFence : ℕ → ℕ → List E → Type 0
  HasFence l k es = (j : ℕ) → 0 < j → j ≤ k → HasCommand l j es

  -- None of these is an act of the client that gives up what it holds.
  abbrev pub GivesNothingUp : ℕ → List E → Type 0
  GivesNothingUp c [] = Unit {0}
  GivesNothingUp c (Act client call act reply ∷ es) = (client ≡ c → g.ends_hold act ≡ false) × GivesNothingUp c es
  GivesNothingUp c (Command client call request reply ∷ es) = GivesNothingUp c es
