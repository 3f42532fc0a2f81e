-- How the walk's fields stand for the search.
use Rattle.std.specs.Prelude.{ℕ, List, Option, option_and_then}
use Rattle.vg_script.specs.declared.types.Line.{Line}
use Rattle.vg_script.specs.declared.waits.Walk.{Walk}
use Rattle.vg_script.specs.Waits.{waits_at}
use Rattle.vg_script.specs.SearchWithin.{Search, place_of}

abbrev pub search_of : Walk → Search
search_of walk = record { reach = walk.reach.items; gone = walk.gone.items }

-- The place of the line whose label a line waits for, where these are the places of labels.
abbrev pub target_in : List (List Line) → List (ℕ × ℕ) → ℕ → ℕ → Option (ℕ × ℕ)
target_in clients places client place = option_and_then (place_of places) (waits_at clients (client, place))
