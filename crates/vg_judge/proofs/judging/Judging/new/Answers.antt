use Rattle.std.proofs.Common.{rules, refl}
use Rattle.vg_judge.proofs.LineLemmas.{behind_at}
use Rattle.vg_judge.proofs.judging.Judging.new.Goals as goal

pub returns : goal.returns
returns c = λ journal in_range outline.
    record {
      read = c.new-2.ensures journal in_range outline;
      right = tt;
      checked = search rules;
      frames = record {
        left = journal.frames;
        behind = outline.frames_at.rest;
        place = refl;
        in_range = in_range.frames;
        few = search rules;
        count = outline.frames;
        number = refl;
        rest = behind_at c.args.bytes.now outline.frames_at.front _ c.args.outline.now.frames_at outline.frames_at.count outline.frames_at.place;
      };
    }
