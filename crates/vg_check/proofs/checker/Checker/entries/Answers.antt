use Rattle.std.proofs.Common.{◌∙◌}
use Rattle.vg_check.proofs.CheckerLemmas.{entries-all}
use Rattle.vg_check.proofs.checker.Checker.entries.Goals as goal

pub returns-clause-all : goal.returns-clause-all
returns-clause-all c = λ setup H is. c.entries.ensures ∙ entries-all setup H c.args.self.now is
