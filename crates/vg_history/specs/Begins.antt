-- What is said of a request that was begun.
use Rattle.vg_history.specs.declared.begun.Begun.{Begun}
use Rattle.vg_history.specs.declared.begun.Begun.TheVariants.{Lent, Whole}

module _ {J D : Type 0} where
  -- If its job was lent, this is so of the job.
  abbrev pub IfLent : Begun J D → (J → Type 0) → Type 0
  IfLent (Lent j) P = P j
  IfLent (Whole d) P = Unit {0}

  -- If it was run as a whole, this is so of what was done.
  abbrev pub IfWhole : Begun J D → (D → Type 0) → Type 0
  IfWhole (Lent j) P = Unit {0}
  IfWhole (Whole d) P = P d
