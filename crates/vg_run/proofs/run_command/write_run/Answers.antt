use Rattle.std.proofs.Common.{inl}
use Rattle.vg_run.proofs.EndLemmas.{written-ends}
use Rattle.vg_run.proofs.run_command.write_run.Goals as goal

pub returns-in-Ok-clause-ended : goal.returns-in-Ok-clause-ended
returns-in-Ok-clause-ended g c =
    inl (written-ends c.write.result c.args.script c.in-Ok.journal (g.K.Sink.held c.args.sink.now) (g.K.Sink.held c.write.new.sink) (g.K.Sink.faults c.args.sink.now) (g.K.Sink.faults c.write.new.sink) c.in-Ok.ensures.journal c.write.ensures.written)
