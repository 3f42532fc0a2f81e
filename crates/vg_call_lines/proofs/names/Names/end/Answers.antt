use Rattle.vg_call_lines.specs.Tables.{labels_in}
use Rattle.vg_call_lines.proofs.NameSets.{ended}
use Rattle.vg_call_lines.proofs.names.Names.end.Goals as goal

pub returns : goal.returns
returns c = ended (labels_in c.args.self.now.labels) c.args.self.now.given c.args.self.now.named c.remove.new.self c.args.name.now c.args.self.now.count c.args.self.now.contexts c.remove.ensures.updates
