-- The copies that a display has lent, and their lanes.
use Rattle.std.specs.Prelude.{◌≡◌, ◌≢◌, ℕ, List, [], ◌∷◌}
use Rattle.vg_machine.specs.Jobs.{Job}

-- The lane of a copy's request.
abbrev pub lane_in : Job → ℕ
lane_in job = job.asked.lane

-- What is lent are these two, the second being the younger, and they are of two lanes.
abbrev pub AreOut : List Job → Job → Job → Type 0
AreOut lent first second = (lent ≡ second ∷ first ∷ []) × (lane_in first ≢ lane_in second)
