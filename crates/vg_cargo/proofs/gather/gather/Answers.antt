use Rattle.std.proofs.Common.{refl}
use Rattle.vg_cargo.proofs.GatherLemmas.{read_on}
use Rattle.vg_cargo.proofs.gather.gather.Goals as goal

pub loop-segment-preserved : goal.loop-segment-preserved
loop-segment-preserved c =
    let l = c.loop-segment in
    read_on c.args.memory.now c.args.base _ _ c.args.segments.now l.segment-index (record { addr = 0; len = 0 }) l.bytes.items c.extend_from_slice.new.self.items c.loop-segment-test.true l.invariant refl refl c.in_ok-extend_from_slice.ensures.items
