use Rattle.std.proofs.Common.{◌≡◌, ◌+◌, ◌*◌}
use Rattle.vg_transfer.specs.Backings.{transferred}
use Rattle.vg_transfer.proofs.backings.copy_rows.Given as goal

abbrev pub invariant-loop-i : goal.invariant-loop-i
invariant-loop-i l = record {
  to : l.to ≡ (l.rect.y + l.i) * (4 * l.width) + 4 * l.rect.x;
  pixels : l.pixels ≡ transferred l.pages l.backing (record l.rect { height = l.i }) l.offset l.width l.initial.pixels;
}
