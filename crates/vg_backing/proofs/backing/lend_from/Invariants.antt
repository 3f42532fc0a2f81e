use Rattle.std.proofs.Common.{◌≤◌, ◌<◌, ◌-◌, ◌+◌, length}
use Rattle.std.specs.List.{All}
use Rattle.vg_pages.specs.Lending.{joined}
use Rattle.vg_backing.specs.Fits.{HasByte, IsLent, entries_of}
use Rattle.vg_backing.proofs.backing.lend_from.Given as goal

abbrev pub invariant-loop-done : goal.invariant-loop-done
invariant-loop-done l = record {
  fits : l.done ≤ l.count;
  run : l.done < l.count → HasByte l.runs l.i (l.at + l.done);
  some : All (λ piece. 0 < length piece) l.pieces.items;
  lent : IsLent l.pages (entries_of l.runs) l.at l.done (record { bytes = joined l.pieces.items; pages = l.touched.items });
}

abbrev pub decreases-loop-done : goal.decreases-loop-done
decreases-loop-done l = l.count - l.done
