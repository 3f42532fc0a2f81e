-- What the words ask for.
use Rattle.std.specs.Prelude.{ℕ, ◌≤◌, List}
use Rattle.vg_run.specs.declared.words.Command.{Command}
use Rattle.vg_run.specs.declared.words.Command.TheVariants.{Run, Check, Gen, Origins, Upgrade}
use Rattle.vg_run.specs.Headline.{IsRun}
use Rattle.vg_run.specs.Checks.{IsCheck, IsOrigins, IsUpgrade}
use Rattle.vg_run.specs.Generates.{IsGen}

abbrev pub IsAsked : List (List ℕ) → Command → Type 0
IsAsked words (Run workers) = IsRun words × (1 ≤ workers) × (workers ≤ 8)
IsAsked words Check = IsCheck words
IsAsked words (Gen number clients) = IsGen words number clients
IsAsked words Origins = IsOrigins words
IsAsked words Upgrade = IsUpgrade words
