use Rattle.std.proofs.Common.{refl}
use Rattle.vg_check.proofs.CheckerLemmas.{checked-none}
use Rattle.vg_check.proofs.checker.Checker.new.Goals as goal

pub returns : goal.returns
returns c = checked-none c.args.setup.now _ c.entries_use_numbers.ensures.none c.in_ok-new.ensures refl refl c.in_ok-zeros.ensures c.new-2.ensures.empty c.in_ok-unseen.ensures.count c.in_ok-unseen.ensures.new
