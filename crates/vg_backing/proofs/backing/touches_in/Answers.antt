use Rattle.std.proofs.Common.{◌<◌, ◌||◌, length, get_or, sym, ap, ◌∙◌, arith}
use Rattle.std.proofs.lemmas.List.Folds.{list_any_more, list_any-from_Any}
use Rattle.vg_formats.specs.declared.entry.MemEntry.{MemEntry}
use Rattle.vg_backing.specs.declared.run.Run.{Run}
use Rattle.vg_backing.specs.Backing.{is_touched}
use Rattle.vg_backing.specs.Fits.{entries_of, entry_of}
use Rattle.vg_backing.proofs.BackingLemmas.{entry-at, length-entries_of}
use Rattle.vg_backing.proofs.backing.touches_in.Goals as goal

abbrev nothing : Run
nothing = record { start = 0; addr = 0; length = 0 }

pub loop-run-preserved : goal.loop-run-preserved
loop-run-preserved c =
    let runs = c.args.runs.now in
    let i = c.loop-run.run-index in
    let none : MemEntry = record { addr = 0; length = 0 } in
    let inside : i < length (entries_of runs) = omega (arith, c.loop-run-test.true, length-entries_of runs) in
    list_any_more (is_touched c.args.page) (entries_of runs) i none inside
    ∙ ap (λ b. b || is_touched c.args.page (get_or (entries_of runs) i none)) c.loop-run.invariant
    ∙ ap (is_touched c.args.page) (entry-at runs i nothing none c.loop-run-test.true) ∙ sym c.touches_run.ensures ∙ c.if-touches_run.false

pub returns-then-touches_run : goal.returns-then-touches_run
returns-then-touches_run c =
    let runs = c.args.runs.now in
    let i = c.loop-run.run-index in
    let entry = entry_of (get_or runs i nothing) in
    let inside : i < length (entries_of runs) = omega (arith, c.loop-run-test.true, length-entries_of runs) in
    sym (list_any-from_Any (is_touched c.args.page) (entries_of runs) (i, entry, inside, entry-at runs i nothing entry c.loop-run-test.true, sym c.touches_run.ensures ∙ c.if-touches_run.true))
