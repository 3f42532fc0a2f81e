use Rattle.std.proofs.Common.{arith}
use Rattle.std.proofs.lemmas.Grind.{common_steps}
use Rattle.vg_script_words.proofs.Cuts.{words_of-nil, words_of-some, words_of-none}
use Rattle.vg_script.proofs.labels.may_define.Goals as goal

pub returns-then-not-is_empty : goal.returns-then-not-is_empty
returns-then-not-is_empty c = let some = words_of-some c.loop-rest.rest.now in grind (arith, common_steps, some)

pub loop-rest-preserved : goal.loop-rest-preserved
loop-rest-preserved c = let none = words_of-none c.loop-rest.rest.now in grind (arith, common_steps, none)

pub returns : goal.returns
returns c = grind (arith, common_steps, words_of-nil)
