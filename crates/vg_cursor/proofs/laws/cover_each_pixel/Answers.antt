use Rattle.std.proofs.Common.{sym}
use Rattle.vg_cursor.proofs.BlendLemmas.{hidden-blended}
use Rattle.vg_cursor.proofs.LawLemmas.{pixel-covered, pixel-apart}
use Rattle.vg_cursor.proofs.laws.cover_each_pixel.Goals as goal

pub returns-clause-covered : goal.returns-clause-covered
returns-clause-covered c = pixel-covered

pub returns-clause-apart : goal.returns-clause-apart
returns-clause-apart c = pixel-apart

pub returns-clause-hidden : goal.returns-clause-hidden
returns-clause-hidden c = λ cursor width old hidden. sym (hidden-blended cursor width old hidden)
