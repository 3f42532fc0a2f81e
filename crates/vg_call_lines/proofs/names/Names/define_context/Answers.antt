use Rattle.vg_laws.proofs.Results.{on_err}
use Rattle.vg_call_lines.specs.Tables.{labels_in}
use Rattle.vg_call_lines.proofs.NameSets.{named_context, unchanged}
use Rattle.vg_call_lines.proofs.names.Names.define_context.Goals as goal

pub returns-clause-names : goal.returns-clause-names
returns-clause-names c = named_context (labels_in c.args.self.now.labels) c.args.self.now.given c.args.self.now.named c.insert.new.self c.args.name.now c.args.self.now.count c.args.self.now.contexts c.in_ok-insert.ensures.updates

pub returns-in_err-insert-clause-err : goal.returns-in_err-insert-clause-err
returns-in_err-insert-clause-err c =
    on_err _ (unchanged (labels_in c.args.self.now.labels) c.args.self.now.given c.args.self.now.named c.insert.new.self c.args.name.now c.args.self.now.count c.args.self.now.contexts c.in_err-insert.ensures.err)
