-- Tasks that give up no hold, and those of a call that begins its command.
use Rattle.std.specs.Prelude.{◌≡◌, false, List, [], ◌∷◌, Result, Ok, Err}
use Rattle.std.specs.List.{AllByRecursion}
use Rattle.vg_client_holds.specs.declared.act.What.{What}
use Rattle.vg_client_holds.specs.Holds.{gives_up}
use Rattle.vg_driver.specs.declared.ask.Ask as asks
use Rattle.vg_tasks.specs.declared.task.Change.{Change}
use Rattle.vg_tasks.specs.declared.task.Change.TheVariants.{Nothing, EndOfName}
use Rattle.vg_tasks.specs.declared.task.Deed.{Deed}
use Rattle.vg_tasks.specs.declared.task.Deed.TheVariants.{Act, Ask}
use Rattle.vg_tasks.specs.declared.task.Task.{Task}

abbrev pub KeepsByDeed : Deed → Type 0
KeepsByDeed (Act act) = gives_up act ≡ false
KeepsByDeed deed = Unit {0}

-- What follows from the end of a name may give up the buffer.
abbrev pub KeepsByChange : Change → Type 0
KeepsByChange (EndOfName number key) = ⊥
KeepsByChange change = Unit {0}

-- A task that gives up no hold, by its own act or by one that follows from it.
abbrev pub KeepsHolds : Task → Type 0
KeepsHolds task = KeepsByDeed task.deed × KeepsByChange task.change

-- None of what is planned gives up a hold.
abbrev pub PlansToKeep : Result (List Task) What → Type 0
PlansToKeep (Ok tasks) = AllByRecursion KeepsHolds tasks
PlansToKeep (Err what) = Unit {0}

-- A request of the device that changes nothing of what the client knows.
abbrev pub plain_task : asks.Ask → Task
plain_task ask = record { deed = Ask ask; change = Nothing }

-- One such request, and no more.
abbrev pub AsksOnce : List Task → Type 0
AsksOnce tasks = (ask : asks.Ask) × (tasks ≡ plain_task ask ∷ [])

abbrev pub PlansToAskOnce : Result (List Task) What → Type 0
PlansToAskOnce (Ok tasks) = AsksOnce tasks
PlansToAskOnce (Err what) = Unit {0}
