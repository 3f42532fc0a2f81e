-- What a checker has kept of the entries that it went over.
use Rattle.std.specs.Prelude.{◌≡◌, ◌≤◌, ◌+◌, ◌↔◌, ℕ, true, List, [], ◌∷◌, ◌++◌, length, map, filter, max, count_by, get_or, slice_get, Some}
use Rattle.std.specs.List.{list_any}
use Rattle.std.specs.BTreeSet.{contains}
use Rattle.std.specs.Ordering.{nat_cmp}
use Rattle.vg_call_numbers.specs.Taken.{IsUsedBy}
use Rattle.vg_client_holds.specs.declared.setup.Setup.{Setup}
use Rattle.vg_client_holds.specs.Setup.{parties}
use Rattle.vg_history.specs.Lines.{is_on_first, is_on_second}
use Rattle.vg_machine.specs.Entries.{Entry}
use Rattle.vg_machine.specs.Order.{AreInOrder, HasPlug, call_of, client_of, holds_of, is_leave, is_of_lane, of_client}
use Rattle.vg_machine.specs.Replay as machine
use Rattle.vg_machine.specs.Replay.{replay}
use Rattle.vg_check.specs.declared.seen.Seen.{Seen}
use Rattle.vg_check.specs.declared.checker.Checker.{Checker}
use Rattle.vg_check.specs.Right.{IsRightly}

-- The greatest of these numbers, 0 where there is none.
abbrev pub greatest : List ℕ → ℕ
greatest [] = 0
greatest (n ∷ more) = max n (greatest more)

-- The numbers of a client's commands on a lane.
abbrev pub calls_on : ℕ → ℕ → List Entry → List ℕ
calls_on client lane H = map call_of (filter (is_of_lane lane) (of_client client H))

-- What is kept of one client's entries.
pub record HasSeen (setup : Setup) (client : ℕ) (H : List Entry) (seen : Seen) : Type 0 where
  pub holds : seen.holds ≡ holds_of setup client H
  pub numbers : IsUsedBy seen.numbers (map call_of (of_client client H))
  pub lanes : length seen.last.items ≡ 66
  pub last : (lane : ℕ) → get_or seen.last.items lane 0 ≡ greatest (calls_on client lane H)
  pub left : seen.left ≡ list_any is_leave (of_client client H)

-- What is kept of all.
pub record HasChecked (setup : Setup) (H : List Entry) (checker : Checker) : Type 0 where
  pub display : checker.display ≡ replay setup H
  pub control : checker.control ≡ count_by (is_on_first machine.display) H
  pub cursor : checker.cursor ≡ count_by (is_on_second machine.display) H
  pub lanes : length checker.lanes.items ≡ 66
  pub counts : (lane : ℕ) → get_or checker.lanes.items lane 0 ≡ count_by (is_of_lane lane) H
  pub order : AreInOrder [] H
  -- the numbers at which displays were plugged or unplugged
  pub plugs : (n : ℕ) → (contains nat_cmp checker.plugs n ≡ true) ↔ HasPlug n H
  pub clients : length checker.clients.items ≡ parties setup.clients setup.host
  pub seen : (place : ℕ) (seen : Seen) → slice_get checker.clients.items place ≡ Some seen → HasSeen setup (place + 1) H seen

-- An entry was found right, and the checker has kept it too.
pub record HasGoneOn (setup : Setup) (H : List Entry) (entry : Entry) (checker : Checker) : Type 0 where
  pub right : IsRightly setup H entry
  pub checked : HasChecked setup (H ++ entry ∷ []) checker

-- Whatever entries these were, this one is right behind them.
abbrev pub TellsRight : Checker → Entry → Checker → Type 0
TellsRight old entry new = (setup : Setup) (H : List Entry) → HasChecked setup H old → HasGoneOn setup H entry new

-- Whatever entries these were, this one isn't right behind them.
abbrev pub TellsWrong : Checker → Entry → Type 0
TellsWrong old entry = (setup : Setup) (H : List Entry) → HasChecked setup H old → client_of entry ≤ parties setup.clients setup.host → IsRightly setup H entry → ⊥

-- How many entries were gone over.
abbrev pub entries_of : Checker → ℕ
entries_of checker = checker.display.entries
