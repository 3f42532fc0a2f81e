use Rattle.std.specs.Prelude.{ℕ, ◌+◌, Bool, not, List, length, count_by, if◌then◌else◌}
use Rattle.vg_chain.specs.declared.descriptor.Descriptor.{Descriptor}

-- The table in which a walk stands: the indirect one, once it is inside, else the ring's.
abbrev pub table_now : List Descriptor → List Descriptor → Bool → List Descriptor
table_now ring inner inside = if inside then inner else ring

-- How many places a walk can still visit at most.
abbrev pub places_left : List Descriptor → Bool → List Bool → ℕ
places_left ring inside marks = count_by not marks + (if inside then 0 else length ring + 1)
