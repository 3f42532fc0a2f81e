use Rattle.std.proofs.Common.{rules}
use Rattle.vg_run.proofs.WordLemmas.{number-is, spelled-number, read-number}
use Rattle.vg_run.proofs.words.number_of.Goals as goal

pub returns-then-not-is_number : goal.returns-then-not-is_number
returns-then-not-is_number c = spelled-number c.args.word.now (search rules)

pub returns-in-Ok : goal.returns-in-Ok
returns-in-Ok c = number-is c.args.word.now c.parse.result c.in-Ok.number (search rules) c.parse.ensures.value.0 c.in-Ok.is

pub returns-in-Err : goal.returns-in-Err
returns-in-Err c = read-number c.args.word.now c.parse.result c.in-Err.field-0 c.parse.ensures.value.0 c.in-Err.is
