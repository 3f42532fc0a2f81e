-- The jobs that a machine has lent, by their lanes.
use Rattle.std.specs.Prelude.{◌≡◌, ℕ, ◌==◌, List, [], ◌∷◌, if◌then◌else◌}
use Rattle.vg_history.specs.Lists.{Has}

-- The lane of a job: that of the request which it was lent for.
abbrev pub lane_by : {W Q : Type 0} → (W → Q) → (Q → ℕ × ℕ) → W → ℕ
lane_by asked tagged job = (tagged (asked job)).0

-- A job that is one of these, which are lent, after it was worked.
abbrev pub IsBack : {W : Type 0} → (W → W) → List W → W → Type 0
IsBack worked lent job = (i : _) × Has lent i × (job ≡ worked i)

module _ {X : Type 0} (lane_of : X → ℕ) where
  -- Those of this lane, in their order.
  abbrev pub of_lane : ℕ → List X → List X
  of_lane l [] = []
  of_lane l (x ∷ xs) = if lane_of x == l then x ∷ of_lane l xs else of_lane l xs

  -- All but those of this lane.
  abbrev pub but_lane : ℕ → List X → List X
  but_lane l [] = []
  but_lane l (x ∷ xs) = if lane_of x == l then but_lane l xs else x ∷ but_lane l xs
