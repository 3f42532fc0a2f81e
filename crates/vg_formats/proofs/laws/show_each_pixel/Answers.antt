use Rattle.vg_formats.proofs.ShownLemmas.{length-shown_row, pixel_at-shown_row}
use Rattle.vg_formats.proofs.laws.show_each_pixel.Goals as goal

pub returns-clause-length : goal.returns-clause-length
returns-clause-length c = length-shown_row

pub returns-clause-pixel : goal.returns-clause-pixel
returns-clause-pixel c = pixel_at-shown_row
