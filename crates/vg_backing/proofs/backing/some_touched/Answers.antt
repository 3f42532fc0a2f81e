-- One entry more that no flagged page touches, or one that some does.
use Rattle.std.proofs.Common.{◌+◌, ◌<◌, ◌||◌, [], refl, length, get_or, take, sym, ap, ◌∙◌, arith}
use Rattle.std.proofs.lemmas.List.Folds.{list_any_more, list_any_at}
use Rattle.vg_backing.specs.declared.run.Run.{Run}
use Rattle.vg_backing.specs.Backing.{is_touched, touches}
use Rattle.vg_backing.specs.Fits.{entries_of, entry_of}
use Rattle.vg_backing.proofs.BackingLemmas.{entry-at, length-entries_of}
use Rattle.vg_backing.proofs.FlagLemmas.{any-more, none-both, none-of}
use Rattle.vg_backing.proofs.backing.some_touched.Goals as goal

abbrev nothing : Run
nothing = record { start = 0; addr = 0; length = 0 }

pub loop-run-init : goal.loop-run-init
loop-run-init c = λ pages are. none-of (λ page. touches page []) pages (λ page among. refl)

pub loop-run-preserved : goal.loop-run-preserved
loop-run-preserved c = λ pages are.
    let runs = c.args.runs.now in
    let entries = entries_of runs in
    let i = c.loop-run.run-index in
    let entry = entry_of (get_or runs i nothing) in
    let inside : i < length entries = omega (arith, c.loop-run-test.true, length-entries_of runs) in
    none-both (λ page. touches page (take i entries)) (λ page. is_touched page entry) (λ page. touches page (take (i + 1) entries)) pages
    (λ page.
    list_any_more (is_touched page) entries i entry inside
    ∙ ap (λ e. touches page (take i entries) || is_touched page e) (entry-at runs i nothing entry c.loop-run-test.true))
    (c.loop-run.invariant pages are) (sym (c.touches_flagged.ensures pages are) ∙ c.if-touches_flagged.false)

pub returns-then-touches_flagged : goal.returns-then-touches_flagged
returns-then-touches_flagged c = λ pages are.
    let runs = c.args.runs.now in
    let entries = entries_of runs in
    let i = c.loop-run.run-index in
    let entry = entry_of (get_or runs i nothing) in
    let inside : i < length entries = omega (arith, c.loop-run-test.true, length-entries_of runs) in
    sym (any-more (λ page. is_touched page entry) (λ page. touches page entries) pages
    (λ page is. list_any_at (is_touched page) entries i entry inside (ap (is_touched page) (entry-at runs i nothing entry c.loop-run-test.true) ∙ is))
    (sym (c.touches_flagged.ensures pages are) ∙ c.if-touches_flagged.true))
