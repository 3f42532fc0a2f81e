-- Pages that requests name and that aren't those of their resource's buffer: words on the code's own tables.
use Rattle.std.specs.Prelude.{◌≡◌, ℕ, ◌-◌, ◌<◌, ◌≤◌, ◌||◌, Bool, true, false, not, List, [], length, slice_index_or, Option, Some, None, option_map}
use Rattle.std.specs.List.{find, list_any, range_with_len}
use Rattle.vg_pages.specs.Memory.{is_among}
use Rattle.vg_client_holds.specs.declared.act.What.{What}
use Rattle.vg_client_holds.specs.declared.act.What.TheVariants.{Page}
use Rattle.vg_client_holds.specs.declared.holds.Holds.{Holds}
use Rattle.vg_client_holds.specs.Holds.{has_page, is_allowed_page}

abbrev pub is_foreign : Holds → ℕ → ℕ → Bool
is_foreign holds key page = not (is_allowed_page holds key page)

-- The first of these pages that isn't one of the key's buffer, as something that is denied.
abbrev pub foreign_page : Holds → ℕ → List ℕ → Option What
foreign_page holds key pages = option_map Page (find (is_foreign holds key) pages)

-- The page is none of these.
abbrev pub is_outside : List ℕ → ℕ → Bool
is_outside pages page = not (is_among pages page)

-- Each of these pages is one of the key's buffer.
pub record AreOwnPages (key : ℕ) (pages : List ℕ) (buffers : List (ℕ × List ℕ)) : Type 0 where
  pub each : (page : ℕ) → is_among pages page ≡ true → list_any (has_page key page) buffers ≡ true

-- A table says of each page whether it is one of the key's buffer.
pub record AreOwn (holds : Holds) (key : ℕ) (own : List Bool) : Type 0 where
  pub long : length own ≡ holds.pages
  pub each : (page : ℕ) → page < length own → slice_index_or own page false ≡ is_allowed_page holds key page

-- The table says no of the page, or nothing.
abbrev pub is_missing : List Bool → ℕ → Bool
is_missing own page = not (slice_index_or own page false)

-- A table in which the pages that pass a test are marked too.
pub record AreMarked (old : List Bool) (test : ℕ → Bool) (new : List Bool) : Type 0 where
  pub long : length new ≡ length old
  pub each : (page : ℕ) → page < length old → slice_index_or new page false ≡ (slice_index_or old page false || test page)

-- From its start to each page that has one the table says yes.
pub record AreStarts (own : List Bool) (starts : List ℕ) : Type 0 where
  pub long : length starts ≤ length own
  pub each : (last page : ℕ) → last < length starts → slice_index_or starts last 0 ≤ page → page ≤ last → slice_index_or own page false ≡ true

-- The pages from the first of a pair up to its second, which is left out.
abbrev pub between : Option (ℕ × ℕ) → List ℕ
between (Some pair) = range_with_len pair.0 (pair.1 - pair.0)
between None = []
