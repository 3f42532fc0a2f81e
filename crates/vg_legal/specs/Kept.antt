-- What each of several clients knows of one history.
use Rattle.std.specs.Prelude.{◌≡◌, ◌+◌, ℕ, List, [], ◌∷◌}
use mathlib.Core.List.{IsPrefix}
use Rattle.vg_client_holds.specs.declared.setup.Setup.{Setup}
use Rattle.vg_labels.specs.Labels.{Values}
use Rattle.vg_machine.specs.Entries.{Entry}
use Rattle.vg_machine.specs.Order.{of_client}
use Rattle.vg_script.specs.declared.types.Line.{Line}
use Rattle.vg_script_part.specs.Follows.{Kept}

-- A client has seen a beginning of the history with all of its own entries, and has kept to its lines there, by these values of
-- labels.
pub record HasKeptTo (setup : Setup) (values : Values) (client : ℕ) (lines : List Line) (H : List Entry) : Type 0 where
  pub seen : List Entry
  pub begins : IsPrefix seen H
  pub all : of_client client H ≡ of_client client seen
  pub kept : Kept setup values client lines seen

-- Each client has, from this one on.
abbrev pub KeptAll : Setup → Values → ℕ → List (List Line) → List Entry → Type 0
KeptAll setup values client [] H = Unit {0}
KeptAll setup values client (lines ∷ more) H = HasKeptTo setup values client lines H × KeptAll setup values (client + 1) more H
