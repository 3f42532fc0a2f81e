use Rattle.std.proofs.Common.{◌∙◌}
use Rattle.vg_queue_sizes.proofs.SetupLemmas.{setup-still}
use Rattle.vg_queue_sizes.proofs.laws.legal_with_other_queues.Goals as goal

pub returns : goal.returns
returns c = record {
  legal = λ journal queues was. record {
    sound = c.sound_with_other_queues.ensures.sound journal.setup queues journal.entries was.sound;
    fits = record {
      frames = c.sound_with_other_queues.ensures.frames journal.setup queues journal.entries ∙ was.fits.frames;
      control = was.fits.control;
      cursor = was.fits.cursor;
      left = was.fits.left;
    };
  };
  in_range = λ journal queues was setup. record {
    setup = setup;
    entries = was.entries;
    count = was.count;
    control = was.control;
    cursor = was.cursor;
    frames = was.frames;
    frame_count = was.frame_count;
    few = was.few;
  };
  upgraded = setup-still;
}
