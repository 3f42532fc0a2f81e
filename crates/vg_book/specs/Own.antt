-- A client's own entries in a history, in the order in which it made them.
use Rattle.std.specs.Prelude.{ℕ, ◌==◌, List, [], ◌∷◌, if◌then◌else◌}
use Rattle.vg_history.specs.declared.entry.Entry.{Entry}
use Rattle.vg_history.specs.Entries.{client_of}

module _ {M S A R Q P H W : Type 0} where
  -- The client's entries, in the order in which they stand.
  abbrev pub own : ℕ → List (Entry M S A R Q P H W) → List (Entry M S A R Q P H W)
  own n [] = []
  own n (e ∷ es) = if client_of e == n then e ∷ own n es else own n es
