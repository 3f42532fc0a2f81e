-- The jobs that a display has lent.
use Rattle.std.specs.Prelude.{ℕ, List}
use Rattle.vg_machine.specs.Jobs.{Job}

-- How many guest pages there are, and the jobs that are lent, the youngest first.
pub record Lent : Type 0 where
  pub count : ℕ
  pub jobs : List Job
