-- The next bytes of the piece, up to the end of their page.
use Rattle.std.proofs.Common.{◌+◌, ◌-◌, ◌%◌, ◌≤◌, length, ap, arith}
use Rattle.std.proofs.lemmas.Grind.{common_steps}
use Rattle.vg_share.proofs.CellLemmas.{stored_none, stored_turn}
use Rattle.vg_share.proofs.cells.store.Goals as goal

pub loop-done-init : goal.loop-done-init
loop-done-init c = record {
  memory = ap (λ bytes. record { bytes = bytes; taken = c.args.memory.now.taken }) (stored_none c.args.pages.now c.args.offset c.args.memory.now.bytes);
  within = omega arith;
}

pub loop-done-preserved : goal.loop-done-preserved
loop-done-preserved c =
    let n = c.min-n.result in
    let done = c.loop-done.done in
    let rest : n ≤ length c.args.piece.now - done = grind (arith, common_steps) in
    let page : (c.args.offset + done) % 4096 + n ≤ 4096 = grind (arith, common_steps) in
    record {
      memory = stored_turn c.args.memory.now c.loop-done.memory c.write.new.self c.args.pages.now c.args.offset c.args.piece.now done n c.address-start.result
          c.requires.pages.differ c.requires.inside (omega arith) (omega arith) page c.address-start.ensures.place c.address-start.ensures.page
          c.loop-done.invariant.memory c.write.ensures;
      within = omega arith;
    }
