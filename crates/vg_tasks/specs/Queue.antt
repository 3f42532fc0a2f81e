use Rattle.std.specs.Prelude.{List, ◌∷◌, Option, Some, None}
use Rattle.vg_tasks.specs.declared.task.Task.{Task}

-- The first one, if it stands by itself, in front of these.
abbrev pub in_front : Option Task → List Task → List Task
in_front (Some task) more = task ∷ more
in_front None more = more
