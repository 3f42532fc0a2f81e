use Rattle.std.specs.Prelude.{List, ◌++◌, length, take, drop}

-- A list after these elements were written over its front. It keeps its length.
abbrev pub overwritten : {X : Type 0} → List X → List X → List X
overwritten old written = take (length old) (written ++ drop (length written) old)
