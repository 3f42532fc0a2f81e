-- The runs of a backing: ranges of guest memory that have its bytes, as few as they can be.
use Rattle.std.specs.Prelude.{ℕ, ◌+◌, ◌==◌, if◌then◌else◌, List, [], ◌∷◌}
use Rattle.vg_formats.specs.declared.entry.MemEntry.{MemEntry}
use Rattle.vg_backing.specs.declared.run.Run.{Run}

-- The run of an entry alone, whose first byte is number `start` of the backing.
abbrev pub run_at : ℕ → MemEntry → Run
run_at start entry = record { start = start; addr = entry.addr; length = entry.length }

-- The runs of an entry and what stands behind it: the first of those is joined to it where it begins at the entry's end.
abbrev pub with_entry : ℕ → MemEntry → List Run → List Run
with_entry start entry [] = run_at start entry ∷ []
with_entry start entry (run ∷ more) =
    if entry.addr + entry.length == run.addr then record { start = start; addr = entry.addr; length = entry.length + run.length } ∷ more
    else run_at start entry ∷ run ∷ more

-- The runs of entries, the first of whose bytes is number `start`.
unfoldable pub runs_from : ℕ → List MemEntry → List Run
runs_from start [] = []
runs_from start (entry ∷ more) = with_entry start entry (runs_from (start + entry.length) more)

-- The runs of all entries of a backing.
abbrev pub runs_of : List MemEntry → List Run
runs_of entries = runs_from 0 entries
