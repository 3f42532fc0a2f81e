use Rattle.std.proofs.Common.{arith}
use Rattle.std.proofs.lemmas.Grind.{common_steps}
use Rattle.vg_script_words.proofs.Cuts.{words_of-nil, words_of-some, words_of-none}
use Rattle.vg_script_words.proofs.words.put_words.Goals as goal

pub loop-rest-preserved-in_ok-push : goal.loop-rest-preserved-in_ok-push
loop-rest-preserved-in_ok-push c = let some = words_of-some c.loop-rest.rest.now in grind (arith, common_steps, some)

pub loop-rest-preserved : goal.loop-rest-preserved
loop-rest-preserved c = let none = words_of-none c.loop-rest.rest.now in grind (arith, common_steps, none)

pub returns-clause-ok : goal.returns-clause-ok
returns-clause-ok c = grind (arith, common_steps, words_of-nil)
