use Rattle.vg_judge.proofs.JudgeLemmas.{fits_if}
use Rattle.vg_judge.proofs.judging.Judging.fits.Goals as goal

pub returns : goal.returns
returns c = λ bytes journal outline going.
    fits_if _ _ _ _ _ _ _ outline (c.control.ensures _ _ going.checked) (c.cursor.ensures _ _ going.checked) (c.have_left-left.ensures _ _ going.checked) (c.are_all_met-met.ensures _ _ going.frames)
