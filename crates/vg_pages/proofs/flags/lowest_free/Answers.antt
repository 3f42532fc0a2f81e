-- The list has the free pages passed so far, until it is full.
use Rattle.std.proofs.Common.{◌≡◌, ◌∷◌, [], ap, sym, ◌∙◌, length, vec_len, arith, rules}
use Rattle.std.proofs.lemmas.Slice.{pushed}
use Rattle.std.proofs.lemmas.Grind.{common_steps}
use Rattle.vg_pages.proofs.FreePages.{free_below, free_below_yes, free_below_no, lowest-full, below-inside, none-below}
use Rattle.vg_pages.proofs.flags.lowest_free.Goals as goal
use Rattle.vg_pages.proofs.flags.lowest_free.Goals.{then-not-taken-page+in_ok-push, else-not-taken-page}

pub returns-then-len-n-clause-lowest : goal.returns-then-len-n-clause-lowest
returns-then-len-n-clause-lowest c =
    let taken = c.args.taken.now in
    let pages = c.loop-page.invariant.pages in
    let many : length (free_below taken c.loop-page.page) ≡ c.args.n = omega (arith, ap length pages) in
    pages ∙ lowest-full taken c.loop-page.page c.args.n (omega arith) many

pub loop-page-init : goal.loop-page-init
loop-page-init c = record {
  pages = search (rules, none-below);
  few = search rules;
}

pub loop-page-preserved : goal.loop-page-preserved
loop-page-preserved c =
    let taken = c.args.taken.now in
    let i = c.loop-page.page in
    let so_far = c.loop-page.invariant.pages in
    elim c.if-not-taken-page.branch [
      | then-not-taken-page+in_ok-push w ↦
          let more = free_below_yes taken i c.loop-page-test.true w.if-not-taken-page.true in
          let items = ap (λ v. v.items) w.pages-is ∙ pushed (i ∷ []) so_far w.in_ok-push.was w.push.ensures.items in
          record { pages = items ∙ sym more; few = grind (arith, common_steps) }
      | else-not-taken-page w ↦
          let same = free_below_no taken i c.loop-page-test.true w.if-not-taken-page.false in
          record { pages = ap (λ v. v.items) w.pages-is ∙ so_far ∙ sym same; few = omega (arith, ap vec_len w.pages-is) }
    ]

-- the pages listed were passed
pub returns-then-len-n-clause-inside : goal.returns-then-len-n-clause-inside
returns-then-len-n-clause-inside c = rw c.loop-page.invariant.pages (λ k d within. omega (arith, below-inside c.args.taken.now c.loop-page.page k d within))

pub returns-clause-inside : goal.returns-clause-inside
returns-clause-inside c = rw c.loop-page.invariant.pages (λ k d within. omega (arith, below-inside c.args.taken.now c.loop-page.page k d within))
