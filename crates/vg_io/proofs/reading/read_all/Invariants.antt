use Rattle.std.proofs.Common.{◌≡◌, ◌<◌, ◌≤◌, ◌+◌, ◌-◌, vec_len}
use Rattle.vg_io.specs.Streams.{Gives}
use Rattle.vg_io.proofs.reading.read_all.Given as goal

abbrev pub invariant-loop-piece : goal.invariant-loop-piece
invariant-loop-piece g l =
    record {
      bytes : Gives (g.S.Source.left l.fn.source) (g.S.Source.left l.source) l.bytes.items;
      within : vec_len l.bytes ≤ l.limit + 1;
      same : g.S.Source.faults l.source ≡ g.S.Source.faults l.fn.source;
      piece : 0 < vec_len l.piece;
    }

abbrev pub decreases-loop-piece : goal.decreases-loop-piece
decreases-loop-piece g l = l.limit + 1 - vec_len l.bytes
