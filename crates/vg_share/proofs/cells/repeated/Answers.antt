-- One repetition more.
use Rattle.std.proofs.Common.{◌∙◌, ◌++◌, ap, arith, List, ℕ}
use Rattle.vg_share.proofs.CellLemmas.{repeated_none, repeated_more}
use Rattle.vg_share.proofs.cells.repeated.Goals as goal

pub loop-turn-init : goal.loop-turn-init
loop-turn-init c = c.in_ok-block.ensures.items ∙ repeated_none c.args.bytes.now 0 (omega arith)

pub loop-turn-preserved : goal.loop-turn-preserved
loop-turn-preserved c =
    let bytes = c.args.bytes.now in
    c.in_ok-extend_from_slice.ensures.items
    ∙ ap (λ (xs : List ℕ). xs ++ bytes) c.loop-turn.invariant
    ∙ repeated_more bytes c.loop-turn._turn
