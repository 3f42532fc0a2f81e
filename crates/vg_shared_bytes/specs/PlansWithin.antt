-- Where the bytes of strips are to stand.
use Rattle.std.specs.Prelude.{◌≡◌, ℕ, ◌+◌, ◌≤◌, List, ◌++◌, drop, length, take}
use Rattle.vg_shared_bytes.specs.declared.plan.Plan.{Plan}
use Rattle.vg_shared_bytes.specs.declared.plan.Plan.TheVariants.{New, Shared}

-- The bytes of a plan, where what is new is this.
abbrev pub bytes_by : List ℕ → Plan → List ℕ
bytes_by new (Shared bytes) = bytes
bytes_by new (New from len) = take len (drop from new)

-- They are there.
abbrev pub Fits : List ℕ → Plan → Type 0
Fits new (Shared bytes) = Unit {0}
Fits new (New from len) = from + len ≤ length new

-- The plan is for these bytes.
abbrev pub IsPlanned : List ℕ → List ℕ → Plan → Type 0
IsPlanned new bytes plan = (bytes_by new plan ≡ bytes) × Fits new plan

-- There is perhaps more behind what there was.
abbrev pub Grows : List ℕ → List ℕ → Type 0
Grows old new = (more : List ℕ) × (new ≡ old ++ more)
