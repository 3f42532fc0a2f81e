use Rattle.vg_tracing.proofs.TraceLemmas.{clients_are, few_are, more_are}
use Rattle.vg_tracing.proofs.tracing.traced.Goals as goal

pub trace-requires : goal.trace-requires
trace-requires c =
    let (journal, in_range, is) = c.requires.journal in
    record {
      journal = (journal, in_range, few_are _ _ _ is c.requires.few, more_are _ _ _ _ is c.loop-n-test.true, c.loop-n.invariant journal in_range is);
    }

pub loop-n-preserved : goal.loop-n-preserved
loop-n-preserved c = λ journal in_range is.
    c.in_ok-trace.ensures journal in_range (few_are _ _ _ is c.requires.few) (more_are _ _ _ _ is c.loop-n-test.true) (c.loop-n.invariant journal in_range is)

pub returns : goal.returns
returns c = λ journal in_range is legal.
    clients_are _ journal _ _ _ _ _ in_range is legal (λ n count client. c.a_frames_clients_are_of_its_tags.ensures journal.setup journal.entries n count client) c.loop-n-test.false
    (c.loop-n.invariant journal in_range is) c.into_frames.ensures
