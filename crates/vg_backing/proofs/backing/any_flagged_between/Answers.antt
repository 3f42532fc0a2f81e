-- A page in the range has its flag set, or none has.
use Rattle.std.proofs.Common.{◌≡◌, ◌<◌, ◌≤◌, ◌&&◌, false, inl, inr, sym, ap, ◌∙◌, arith}
use Rattle.std.specs.Prelude.{nat_le, nat_lt}
use Rattle.std.proofs.lemmas.Bool.Decides.{nat_tests}
use Rattle.std.proofs.lemmas.List.{get_or_past}
use Rattle.std.proofs.lemmas.Bool.{cases_lt}
use Rattle.vg_pages.specs.Lending.{is_flagged}
use Rattle.vg_backing.proofs.FlagLemmas.{any-of, none-between}
use Rattle.vg_backing.proofs.backing.any_flagged_between.Goals as goal

pub returns-then-flags-page : goal.returns-then-flags-page
returns-then-flags-page c = λ pages are.
    let page = c.loop-page.page in
    let low : c.args.first ≤ page = omega (arith, c.loop-page.auto.page, c.min-start.ensures, c.loop-page-test.true) in
    let high : page < c.args.end = omega (arith, c.loop-page-test.true, c.min-past.ensures) in
    sym (any-of (λ page. nat_le c.args.first page && nat_lt page c.args.end) pages page (sym (are.each page) ∙ c.if-flags-page.true) (grind (arith, nat_tests, low, high)))

pub loop-page-preserved : goal.loop-page-preserved
loop-page-preserved c = λ k low below.
    elim (cases_lt k c.loop-page.page) [
      | inl before ↦ c.loop-page.invariant k low before
      | inr here ↦
          let same : k ≡ c.loop-page.page = omega (arith, here, below) in
          ap (is_flagged c.args.flags.now) same ∙ c.if-flags-page.false
    ]

pub returns : goal.returns
returns c = λ pages are. sym (none-between c.args.first c.args.end c.args.flags.now pages are (λ k low high.
    elim (cases_lt k c.loop-page.page) [
      | inl before ↦ c.loop-page.invariant k low before
      | inr past ↦ get_or_past c.args.flags.now k false (omega (arith, past, high, c.loop-page-test.false, c.min-past.ensures))
    ]))
