-- How many names a client's lines define, and how many contexts they make.
use Rattle.std.specs.Prelude.{ℕ, List, count_by}
use Rattle.vg_script.specs.declared.types.Line.{Line}
use Rattle.vg_client.specs.Numbers.{defines, makes_context}

abbrev pub names_in : List Line → ℕ
names_in lines = count_by (λ line. defines line.call) lines

abbrev pub contexts_in : List Line → ℕ
contexts_in lines = count_by (λ line. makes_context line.call) lines
