-- The search for a wait cycle. `target client place` is the place of the line whose label a line waits for.
use Rattle.std.specs.Prelude.{ℕ, zero, suc, ◌+◌, nat_lt, max, Bool, true, false, List, [], ◌∷◌, Option, Some, None, if◌then◌else◌, slice_set, replicate, get_or, ◌-◌, ◌++◌, length, map, sum_by, option_map, option_and_then, slice_get}
use Rattle.vg_script.specs.declared.types.Line.{Line}
use Rattle.vg_script.specs.Waits.{gives, waits_at, line_at}

pub record Search : Type 0 where
  -- how many of each client's first lines are waited for
  pub reach : List ℕ
  -- how many of these were gone through
  pub gone : List ℕ

-- This place, and what stands before it, are waited for too.
abbrev pub reach_to : List ℕ → Option (ℕ × ℕ) → List ℕ
reach_to reach None = reach
reach_to reach (Some at) = slice_set reach at.0 (max (get_or reach at.0 0) (at.1 + 1))

-- The first client of which not all were gone through.
unfoldable pub behind_from : ℕ → (reach gone : List ℕ) → Option ℕ
behind_from client [] gone = None
behind_from client (r ∷ reach) [] = None
behind_from client (r ∷ reach) (g ∷ gone) = if nat_lt g r then Some client else behind_from (client + 1) reach gone

-- One line more was gone through.
abbrev pub one_gone : (ℕ → ℕ → Option (ℕ × ℕ)) → Search → ℕ → Search
one_gone target search client = record {
  reach = reach_to search.reach (target client (get_or search.gone client 0));
  gone = slice_set search.gone client (get_or search.gone client 0 + 1);
}

abbrev pub go_from : Option ℕ → Search → (ℕ → Search) → Search
go_from None search more = search
go_from (Some client) search more = more client

-- All that comes with what is waited for, where at most so many lines are left.
unfoldable pub close : (ℕ → ℕ → Option (ℕ × ℕ)) → ℕ → Search → Search
close target zero search = search
close target (suc n) search = go_from (behind_from 0 search.reach search.gone) search (λ client. close target n (one_gone target search client))

-- The same where a line waits for this place.
abbrev pub close_for : (ℕ → ℕ → Option (ℕ × ℕ)) → ℕ → Option (ℕ × ℕ) → Search → Search
close_for target total None search = search
close_for target total (Some at) search = close target total (record search { reach = reach_to search.reach (Some at) })

-- A client's lines as far as this one were gone through.
abbrev pub passed : ℕ → ℕ → Search → Search
passed client place search = record { reach = slice_set search.reach client (place + 1); gone = slice_set search.gone client (place + 1) }

abbrev pub found_or : Bool → ℕ → Option ℕ → Option ℕ
found_or true place more = Some place
found_or false place more = more

-- The place of the first line of a client, from a place on, that waits for itself.
unfoldable pub find_in : (ℕ → ℕ → Option (ℕ × ℕ)) → (total client left place : ℕ) → Search → Option ℕ
find_in target total client zero place search = None
find_in target total client (suc left) place search =
    found_or (nat_lt place (get_or (close_for target total (target client place) search).reach client 0)) place
    (find_in target total client left (place + 1) (passed client place (close_for target total (target client place) search)))

-- Before the first line of a client, where there are so many clients.
abbrev pub fresh : ℕ → Search
fresh count = record { reach = replicate count 0; gone = replicate count 0 }

abbrev pub first_of : ℕ → Option ℕ → Option (ℕ × ℕ) → Option (ℕ × ℕ)
first_of client (Some place) more = Some (client, place)
first_of client None more = more

-- The same of all clients, from one on, of which so many lines are there.
unfoldable pub find_from : (ℕ → ℕ → Option (ℕ × ℕ)) → (total count client : ℕ) → List ℕ → Option (ℕ × ℕ)
find_from target total count client [] = None
find_from target total count client (size ∷ more) = first_of client (find_in target total client size 0 (fresh count)) (find_from target total count (client + 1) more)

-- The places of the lines that give labels, in their order, where the first line has this place.
abbrev pub place_if : Option ℕ → ℕ × ℕ → List (ℕ × ℕ)
place_if None at = []
place_if (Some label) at = at ∷ []

unfoldable pub places_in : (client place : ℕ) → List Line → List (ℕ × ℕ)
places_in client place [] = []
places_in client place (line ∷ more) = place_if (gives line.call) (client, place) ++ places_in client (place + 1) more

unfoldable pub places_from : (client : ℕ) → List (List Line) → List (ℕ × ℕ)
places_from client [] = []
places_from client (lines ∷ more) = places_in client 0 lines ++ places_from (client + 1) more

-- The place of a label's line, by the label's number.
abbrev pub place_of : List (ℕ × ℕ) → ℕ → Option (ℕ × ℕ)
place_of places label = slice_get places (label - 1)

abbrev pub target_of : List (List Line) → ℕ → ℕ → Option (ℕ × ℕ)
target_of clients client place = option_and_then (place_of (places_from 0 clients)) (waits_at clients (client, place))

-- The first line that waits for a label and for itself.
abbrev pub first_cycle : List (List Line) → Option (ℕ × ℕ)
first_cycle clients = find_from (target_of clients) (sum_by length clients) (length clients) 0 (map length clients)

-- Its number in the text.
abbrev pub cycle_line : List (List Line) → Option ℕ
cycle_line clients = option_and_then (λ at. option_map (λ line. line.number) (line_at clients at)) (first_cycle clients)
