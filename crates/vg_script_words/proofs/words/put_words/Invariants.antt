use Rattle.std.proofs.Common.{◌≡◌, ◌++◌, map, length}
use Rattle.vg_script_words.specs.Words.{words_of}
use Rattle.vg_script_words.proofs.words.put_words.Given as goal

abbrev pub invariant-loop-rest : goal.invariant-loop-rest
invariant-loop-rest l = map (λ word. word.now) l.words.items ++ words_of l.rest ≡ words_of l.line

abbrev pub decreases-loop-rest : goal.decreases-loop-rest
decreases-loop-rest l = length l.rest
