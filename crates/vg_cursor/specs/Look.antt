-- How a cursor looks, as the cursor that looks so, and which rows of a screen it lies over.
use Rattle.std.specs.Prelude.{◌≡◌, ◌<◌, ◌≤◌, ℕ, ◌+◌, ◌*◌, pos, ◌-ℤ◌, List, ◌++◌, length, take, drop}
use Rattle.vg_cursor.specs.declared.cursor.Cursor.{Cursor}
use Rattle.vg_cursor.specs.declared.look.Look.{Look}
use Rattle.vg_cursor.specs.Blended.{blended}

abbrev pub cursor_like : Look → Cursor
cursor_like look = record { visible = look.visible; image = look.image.now; x = look.x; y = look.y; hot_x = look.hot_x; hot_y = look.hot_y }

-- The cursor as it lies over the rows of a screen from number `first` on.
abbrev pub lowered : ℕ → Cursor → Cursor
lowered first cursor = record cursor { y = cursor.y -ℤ pos first }

-- Of a screen with so many rows, whatever it shows, the cursor lies over these rows, and each other is as without it.
pub record CoversRows (cursor : Cursor) (height first count : ℕ) : Type 0 where
  pub some : 0 < count
  pub within : first + count ≤ height
  pub blended : (width : ℕ) (old : List ℕ) → length old ≡ 4 * width * height
      → blended cursor width old
      ≡ take (4 * width * first) old
      ++ blended (lowered first cursor) width (take (4 * width * count) (drop (4 * width * first) old))
      ++ drop (4 * width * (first + count)) old
