use Rattle.vg_cargo.proofs.GatherLemmas.{front_on}
use Rattle.vg_cargo.proofs.gather.write_part.Goals as goal

pub returns : goal.returns
returns c = λ front. front_on c.args.room.now c.args.bytes.now c.copy_from_slice.new.self c.args.from c.args.to c.min-start.result c.min-end.result c.requires.order c.requires.few c.min-start.ensures c.min-end.ensures c.copy_from_slice.ensures.after front
