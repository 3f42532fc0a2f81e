-- What a display remembers of the jobs that it has lent.
use Rattle.std.specs.Prelude.{◌≡◌, ℕ, ◌==◌, Bool, List, [], ◌∷◌, Option}
use Rattle.std.specs.List.{AllByRecursion}
use Rattle.vg_machine.specs.Blocks.{lent_pages}
use Rattle.vg_pages.specs.Lending.{AreFlagged}
use Rattle.vg_machine.specs.Jobs.{Job}
use Rattle.vg_machine.specs.JobWithin.{context_of}
use Rattle.vg_machine.specs.OutWithin.{AreApart, job_lane}

abbrev pub is_of_lane : ℕ → Job → Bool
is_of_lane lane job = job_lane job == lane

-- No two of these jobs have a lane, resource or page in common.
abbrev pub AllApart : List Job → Type 0
AllApart [] = Unit {0}
AllApart (job ∷ more) = AllByRecursion (AreApart job) more × AllApart more

-- What is remembered of a job is so.
pub record IsOfJob (lane resource : ℕ) (context : Option ℕ) (pages : List ℕ) (job : Job) : Type 0 where
  pub same_lane : lane ≡ job.asked.lane
  pub same_resource : resource ≡ job.resource
  pub same_context : context ≡ context_of job.asked
  pub same_pages : pages ≡ job.pages

-- The flags are those of the pages of these jobs, which have nothing in common.
pub record AreLoans (flags : List Bool) (jobs : List Job) : Type 0 where
  pub flagged : AreFlagged flags (lent_pages jobs)
  pub apart : AllApart jobs
