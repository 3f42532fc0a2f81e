use Rattle.vg_history.specs.Lines.{entry_line}
use Rattle.vg_history.proofs.LineLemmas.{line_more, one_longer}
use Rattle.vg_history.proofs.spelled.Lines.add.Goals as goal

pub invariant_of-self-2 : goal.invariant_of-self-2
invariant_of-self-2 g c = (
  line_more (entry_line g.M.Machine) c.self.inside.entries.items c.and-self-inside.result.items c.args.entry.now c.self.inside.count c.self.inside.text c.put_line.new.out c.append.new.self c.clear.new.self
      c.self.invariant.0 c.self.invariant.1 c.clear.ensures c.in_ok-put_line.ensures.ok c.in_ok-append.ensures.ok c.and-self-inside.ensures,
  one_longer c.self.inside.entries.items c.and-self-inside.result.items c.args.entry.now c.self.inside.count c.self.invariant.1 c.and-self-inside.ensures,
)
