-- How the writing of a text ended.
use Rattle.std.specs.Prelude.{ℕ, ◌≡◌, List, Option}
use Rattle.vg_io.specs.Streams.{Rose, Takes, TakesPart, TakesSome}
use Rattle.vg_run.specs.declared.top.Status.{Status}
use Rattle.vg_run.specs.declared.top.Status.TheVariants.{Done, WriteFault, NoMemory}

-- With all of it, with a fault behind a front of it, or for want of memory behind a front that
-- isn't all of it.
abbrev pub Written : Status → List ℕ → Option (List ℕ) → Option (List ℕ) → ℕ → ℕ → Type 0
Written Done text held held' faults faults' = Takes held held' text × (faults' ≡ faults)
Written WriteFault text held held' faults faults' = Rose faults faults' × TakesSome held held' text
Written NoMemory text held held' faults faults' = TakesPart held held' text × (faults' ≡ faults)
Written status text held held' faults faults' = ⊥
