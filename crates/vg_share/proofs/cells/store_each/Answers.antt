-- One turn more is stored.
use Rattle.std.proofs.Common.{◌∙◌, ap, arith}
use Rattle.vg_share.specs.Cells.{stored}
use Rattle.vg_share.proofs.CellLemmas.{repeated_none, stored_each, stored_none}
use Rattle.vg_share.proofs.cells.store_each.Goals as goal

pub loop-turn-init : goal.loop-turn-init
loop-turn-init c =
    let pages = c.args.pages.now in
    let bytes = c.args.memory.now.bytes in
    record {
      memory =
          ap (λ all. record { bytes = all; taken = c.args.memory.now.taken })
          (stored_none pages c.args.offset bytes ∙ ap (λ piece. stored pages c.args.offset piece bytes) (repeated_none c.args.bytes.now 0 (omega arith)));
      place = omega arith;
    }

pub loop-turn-preserved : goal.loop-turn-preserved
loop-turn-preserved c = record {
  memory = stored_each c.args.memory.now c.loop-turn.memory c.store.new.memory c.args.pages.now c.args.offset c.loop-turn.at c.args.bytes.now c.loop-turn._turn
      c.loop-turn.invariant.place c.loop-turn.invariant.memory c.store.ensures;
  place = omega (arith, c.loop-turn.invariant.place);
}
