-- What a client holds by its own acts, and what the shares of the display say of it.
use Rattle.std.specs.Prelude.{◌≡◌, ℕ, ◌+◌, Bool, false, not, is_some, if◌then◌else◌, List, [], length, count_by, Option, Some, None}
use Rattle.std.specs.List.{All}
use Rattle.vg_share.specs.declared.share.Buffer.{Buffer}
use Rattle.vg_share.specs.Lists.{is_number}
use Rattle.vg_share.specs.Share.{ShareState, buffer_at, holds_in, is_given, is_leased, pages_at, some_hold}
use Rattle.vg_client_holds.specs.Holds.{has_key}
use Rattle.vg_client_holds.specs.declared.holds.Holds.{Holds}
use Rattle.vg_client_holds.specs.declared.setup.Setup.{Setup}

abbrev pub one_if : Bool → ℕ
one_if holds = if holds then 1 else 0

abbrev pub holders_in : Option Buffer → List (ℕ × ℕ)
holders_in (Some buffer) = buffer.holders
holders_in None = []

-- The client takes the buffer down.
abbrev pub is_taken_by : ℕ → Option Buffer → Bool
is_taken_by client (Some buffer) = is_given client buffer.taker
is_taken_by client None = false

-- How often the client holds the buffer, and once more where it takes it down.
abbrev pub parts_of : ℕ → Option Buffer → ℕ
parts_of client found = holds_in client (holders_in found) + one_if (is_taken_by client found)

-- The client has a pair of each buffer for each hold of it, and one of a buffer that it takes down, each with the buffer's pages; it knows
-- which it takes down; and it knows which scanouts are leased to it, each once.
pub record Linked (client : ℕ) (holds : Holds) (share : ShareState) : Type 0 where
  pub buffers : (key : ℕ) → count_by (has_key key) holds.buffers ≡ parts_of client (buffer_at key share)
  pub pages : All (λ pair. pair.1 ≡ pages_at pair.0 share) holds.buffers
  pub taking_down : (key : ℕ) → count_by (is_number key) holds.taking_down ≡ one_if (is_taken_by client (buffer_at key share))
  pub scanouts : (scanout : ℕ) → count_by (is_number scanout) holds.scanouts ≡ one_if (is_leased client scanout share)

-- The holds are those of a client: they have its number, and the setup's displays and pages.
abbrev pub AreOf : Setup → ℕ → Holds → Type 0
AreOf setup client holds = (holds.client ≡ client) × (holds.displays ≡ length setup.displays) × (holds.pages ≡ setup.pages)

-- Someone takes the buffer down exactly where no one holds it.
abbrev pub IsAlone : Option Buffer → Type 0
IsAlone (Some buffer) = is_some buffer.taker ≡ not (some_hold buffer.holders)
IsAlone None = Unit {0}

-- That is so of each buffer.
abbrev pub AreAlone : ShareState → Type 0
AreAlone share = (key : ℕ) → IsAlone (buffer_at key share)
