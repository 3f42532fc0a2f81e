-- One entry more is good, and its end in range.
use Rattle.std.proofs.Common.{◌||◌, get_or, sym, ap, ◌∙◌}
use Rattle.std.proofs.lemmas.List.Folds.{list_any_more}
use Rattle.std.proofs.lemmas.List.Elements.{All-more}
use Rattle.vg_formats.specs.declared.entry.MemEntry.{MemEntry}
use Rattle.vg_backing.specs.Backing.{is_bad}
use Rattle.vg_backing.proofs.backing.has_bad.Goals as goal
use Rattle.vg_backing.specs.Fits.{EndsInRange}

abbrev nothing : MemEntry
nothing = record { addr = 0; length = 0 }

pub loop-entry-preserved : goal.loop-entry-preserved
loop-entry-preserved c =
    let memory = c.args.pages.now in
    let entries = c.args.entries.now in
    let i = c.loop-entry.entry-index in
    record {
      good =
          list_any_more (is_bad memory) entries i nothing c.loop-entry-test.true
          ∙ ap (λ b. b || is_bad memory (get_or entries i nothing)) c.loop-entry.invariant.good
          ∙ sym c.is_bad.ensures.bad ∙ c.if-is_bad.false;
      ends = All-more EndsInRange entries i nothing c.loop-entry-test.true c.loop-entry.invariant.ends (c.is_bad.ensures.ends c.if-is_bad.false);
    }
