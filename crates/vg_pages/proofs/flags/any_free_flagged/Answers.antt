-- None of the free pages passed so far has its flag set.
use Rattle.std.proofs.Common.{ap, sym, ◌∙◌, length, arith, rules}
use Rattle.std.specs.List.{list_any}
use Rattle.vg_pages.specs.Lending.{is_flagged}
use Rattle.vg_pages.proofs.FlagLemmas.{flagged-free, none-flagged}
use Rattle.vg_pages.proofs.FreePages.{free_below_no, length-free_below_yes, lowest-full, none-below}
use Rattle.vg_pages.proofs.flags.any_free_flagged.Goals as goal
use Rattle.vg_pages.proofs.flags.any_free_flagged.Goals.{then-not-taken-page+else-is_flagged, else-not-taken-page}

pub loop-page-init : goal.loop-page-init
loop-page-init c =
    let none = none-below c.args.taken.now c.args.low c.requires.below in
    record { count = sym (ap length none); few = omega arith; none = ap (list_any (is_flagged c.args.flags.now)) none }

pub returns-then-count-n : goal.returns-then-count-n
returns-then-count-n c =
    let taken = c.args.taken.now in
    let full = lowest-full taken c.loop-page.page c.args.n (omega arith) (sym c.loop-page.invariant.count ∙ c.if-count-n.true) in
    sym (ap (list_any (is_flagged c.args.flags.now)) (sym full) ∙ c.loop-page.invariant.none)

pub returns-then-is_flagged : goal.returns-then-is_flagged
returns-then-is_flagged c =
    flagged-free (is_flagged c.args.flags.now) c.args.taken.now c.loop-page.page c.args.n c.loop-page.count (search rules) (search rules) c.loop-page.invariant.count
    (grind arith) (search rules)

pub loop-page-preserved : goal.loop-page-preserved
loop-page-preserved c =
    let taken = c.args.taken.now in
    let page = c.loop-page.page in
    let was = c.loop-page.invariant in
    elim c.if-not-taken-page.branch [
      | then-not-taken-page+else-is_flagged w ↦
          let one = length-free_below_yes taken page c.loop-page-test.true w.if-not-taken-page.true in
          record {
            count = omega (arith, one, was.count, w.count-is);
            few = grind arith;
            none = none-flagged (is_flagged c.args.flags.now) taken page c.loop-page-test.true w.if-not-taken-page.true was.none (search rules);
          }
      | else-not-taken-page w ↦
          let same = free_below_no taken page c.loop-page-test.true w.if-not-taken-page.false in
          record {
            count = w.count-is ∙ was.count ∙ ap length (sym same);
            few = omega (arith, w.count-is, was.few);
            none = ap (list_any (is_flagged c.args.flags.now)) same ∙ was.none;
          }
    ]
