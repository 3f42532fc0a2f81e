use Rattle.std.proofs.Common.{ℕ, ◌+◌, length, slice_index, arith}
use Rattle.vg_places.proofs.Places.{tabulate_from_places}
use Rattle.vg_share.specs.Cells.{loaded, place_in_memory}
use Rattle.vg_share.proofs.cells.fill.Goals as goal

pub returns : goal.returns
unfolding loaded
returns c =
    let n = length c.args.out.now in
    let byte : ℕ → ℕ = λ k. slice_index c.args.memory.now.bytes (place_in_memory c.args.pages.now (c.args.offset + k)) in
    tabulate_from_places byte c.loop-done.out n 0 c.loop-done.invariant.size (λ k within. c.loop-done.invariant.bytes k (omega (arith, within)))
