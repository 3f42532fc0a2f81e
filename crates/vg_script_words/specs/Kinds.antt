-- The kinds of a line's faults, by their numbers: a line's fault is the least that it has.
use Rattle.std.specs.Prelude.{ℕ}
use Rattle.vg_script_words.specs.declared.kind.Kind.{Kind}
use Rattle.vg_script_words.specs.declared.kind.Kind.TheVariants.{Text, Word, Number, Limit, Name}

abbrev pub kind_code : Kind → ℕ
kind_code Text = 1
kind_code Word = 2
kind_code Number = 3
kind_code Limit = 4
kind_code Name = 5
