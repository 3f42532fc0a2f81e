use Rattle.std.proofs.Common.{◌≡◌}
use Rattle.vg_gen.specs.Draws as generator
use Rattle.vg_gen.proofs.draws.state.Given as goal

abbrev pub invariant-loop-draw : goal.invariant-loop-draw
invariant-loop-draw l = l.state ≡ generator.state l.number l.client l._draw
