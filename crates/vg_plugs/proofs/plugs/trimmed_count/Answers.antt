use Rattle.std.proofs.Common.{rules, arith}
use Rattle.vg_plugs.proofs.PlugLemmas.{steps-down, stops}
use Rattle.vg_plugs.proofs.plugs.trimmed_count.Goals as goal

pub loop-left-preserved : goal.loop-left-preserved
loop-left-preserved c = record {
  within = omega (arith, c.loop-left.invariant.within);
  same = steps-down c.args.modes.now c.loop-left.left (search rules) c.loop-left.invariant.within (search rules) c.loop-left.invariant.same;
}

pub returns-else-is_none-clause-trimmed : goal.returns-else-is_none-clause-trimmed
returns-else-is_none-clause-trimmed c = stops c.args.modes.now c.loop-left.left (search rules) c.loop-left.invariant.within (search rules) c.loop-left.invariant.same
