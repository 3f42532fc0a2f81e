use Rattle.vg_run.proofs.SaidLemmas.{failed_second}
use Rattle.vg_run.proofs.journals.write_both.Goals as goal

pub returns-clause-failed : goal.returns-clause-failed
returns-clause-failed g c =
    failed_second c.write_all-2.result (g.K.Sink.held c.args.sink.now) (g.K.Sink.held c.write_all.new.sink) (g.K.Sink.held c.write_all-2.new.sink) c.args.first.now c.args.second.now
    c.in_ok-write_all.ensures.ok c.write_all-2.ensures.failed
