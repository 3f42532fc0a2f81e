-- What contracts see of a book that was just opened.
use Rattle.std.specs.Prelude.{◌≡◌, ℕ, zero, suc, List, [], ◌∷◌, ◌++◌, Option, Some}
use Rattle.atomic_table.specs.Table.{Me}
use Rattle.atomic_table.specs.Seated.{TableId}
use Rattle.vg_history.specs.declared.machine.Machine.{Ghosts}
use Rattle.vg_book.specs.declared.board.Slot.{Slot}
use Rattle.vg_book.specs.declared.board.View.{View}
use Rattle.vg_book.specs.Views.{first_view}
use Rattle.vg_book.specs.Turns.{IsAt}
use Rattle.vg_book.specs.Tokens.{Lane, Rooted}

-- Which table it is, the state before the history, and how many lanes there will be.
pub record Begun (S : Type 0) : Type 0 where
  pub table : TableId
  pub start : Option S
  pub lanes : ℕ

abbrev pub Begins : {S : Type 0} → Begun S → S → ℕ → Type 0
Begins o s lanes = (o.start ≡ Some s) × (o.lanes ≡ lanes)

-- The tokens of the lanes 0 to n - 1, of which nothing was run.
abbrev pub first_lanes : {M S A R Q P H W : Type 0} → Option S → ℕ → List (Lane M S A R Q P H W)
first_lanes start zero = []
first_lanes start (suc n) = first_lanes start n ++ record { lane = n; count = 0; seen = []; start = start } ∷ []

module _ {M S A R Q P H W : Type 0} where
  -- The root of a book without clients, of which so many lanes were made.
  abbrev pub opening_root : Option S → ℕ → Rooted M S A R Q P H W
  opening_root start lanes = record { given = 0; lanes_made = lanes; accounts = []; lanes = []; seen = []; start = start }

  abbrev pub with_lanes : ℕ → Rooted M S A R Q P H W → Rooted M S A R Q P H W
  with_lanes n r = record r { lanes_made = n }

  abbrev pub next_lane : Rooted M S A R Q P H W → Lane M S A R Q P H W
  next_lane r = record { lane = r.lanes_made; count = 0; seen = r.seen; start = r.start }

module _ {M S A R Q P H W : Type 0} (g : Ghosts M S A R Q P H W) where
  abbrev pub begun_value : TableId → ℕ → Me (Slot M S A R Q P H W) (View M S A R Q P H W) → Begun S
  begun_value table lanes m = record { table = table; start = m.0.start; lanes = lanes }

  pub record OpenedOk (table seat : TableId) (m : Me (Slot M S A R Q P H W) (View M S A R Q P H W)) : Type 0 where
    pub at : IsAt table seat
    pub first : (s : S) × (m ≡ (first_view s, []))
