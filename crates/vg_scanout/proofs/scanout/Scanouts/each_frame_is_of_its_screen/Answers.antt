use Rattle.vg_scanout.proofs.LawLemmas.{CoverEach, makes-flushed, makes-snapped}
use Rattle.vg_scanout.proofs.scanout.Scanouts.each_frame_is_of_its_screen.Goals as goal

pub returns-clause-flushed : goal.returns-clause-flushed
returns-clause-flushed c =
    let law : CoverEach = record { covered = c.cover_each_pixel.ensures.covered; apart = c.cover_each_pixel.ensures.apart; hidden = c.cover_each_pixel.ensures.hidden } in
    λ entry id rect surface cursors. makes-flushed law entry id rect surface cursors c.args.self.now c.are_screens.ensures

pub returns-clause-snapped : goal.returns-clause-snapped
returns-clause-snapped c =
    let law : CoverEach = record { covered = c.cover_each_pixel.ensures.covered; apart = c.cover_each_pixel.ensures.apart; hidden = c.cover_each_pixel.ensures.hidden } in
    λ entry scanout cursors. makes-snapped law entry scanout cursors c.args.self.now c.are_screens.ensures
