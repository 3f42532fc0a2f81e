use Rattle.std.proofs.Common.{◌≡◌, ◌+◌, ◌-◌, ◌*◌, ◌≤◌, drop}
use Rattle.vg_places.specs.Rectangles.{copied}
use Rattle.vg_transfer.specs.Backings.{bytes_of_rect}
use Rattle.vg_transfer.proofs.backings.place_rows.Given as goal

abbrev pub invariant-loop-row : goal.invariant-loop-row
invariant-loop-row l = record {
  to : l.to ≡ (l.rect.y + l._row) * (4 * l.width) + 4 * l.rect.x;
  gap : l.gap ≤ 4 * l.width * l._row;
  bytes : l.bytes.bytes ≡ drop (4 * l.width * l._row - l.gap) l.initial.bytes.bytes;
  pages : l.bytes.pages ≡ l.initial.bytes.pages;
  pixels : l.pixels ≡ copied (record (bytes_of_rect l.rect) { height = l._row }) (4 * l.width) l.initial.bytes.bytes (4 * l.width) 0 l.initial.pixels;
}
