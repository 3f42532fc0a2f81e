use Rattle.std.proofs.Common.{arith}
use Rattle.vg_run.proofs.SumLemmas.{acts_and_commands}
use Rattle.vg_run.proofs.gen_command.acts_of.Goals as goal

pub overflow_sub-result-2 : goal.overflow_sub-result-2
overflow_sub-result-2 c = let all = acts_and_commands c.args.journal.now.entries in let size = c.len.ensures in let first = c.requires.control in let second = c.requires.cursor in omega (arith, all, size, first, second)

pub returns : goal.returns
returns c = let all = acts_and_commands c.args.journal.now.entries in let size = c.len.ensures in let first = c.requires.control in let second = c.requires.cursor in omega (arith, all, size, first, second)
