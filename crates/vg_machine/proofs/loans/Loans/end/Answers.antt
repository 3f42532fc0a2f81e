-- The job of the lane, and the flags without its pages.
use Rattle.std.proofs.Common.{◌≡◌, Some, false, length, ap, sym, subst, ◌∙◌, arith}
use Rattle.std.specs.List.{position}
use Rattle.vg_history.specs.Jobs.{but_lane}
use Rattle.vg_history.specs.Lists.{Has}
use Rattle.vg_pages.proofs.Marked.{length-marked, marked-in_place}
use Rattle.vg_machine.specs.Jobs.{Job}
use Rattle.vg_machine.specs.Loans.{Lent}
use Rattle.vg_machine.specs.LoansWithin.{is_of_lane}
use Rattle.vg_machine.specs.OutWithin.{job_lane}
use Rattle.vg_machine.proofs.LoanLemmas.{found-at, loans-ended, none-of, on_none, pages-within, removed-lane}
use Rattle.vg_machine.proofs.loans.Loans.end.Goals as goal

pub returns-in_err-place-clause-none_of : goal.returns-in_err-place-clause-none_of
returns-in_err-place-clause-none_of c = on_none c.from_residual.result (none-of c.args.lane c.args.self.now.jobs (sym c.in_err-place.ensures.place))

pub mark-requires : goal.mark-requires
mark-requires c =
    let jobs = c.self.inside.loans.items in
    let gone = c.remove-loan.result in
    let at = subst (λ (lent : Lent). Some c.in_ok-place.place ≡ position (is_of_lane c.args.lane) lent.jobs) (sym c.self.view_is) c.in_ok-place.ensures.place in
    let found = found-at c.args.lane jobs c.in_ok-place.place gone at c.remove-loan.ensures.value in
    let pages = c.as_slice.ensures.value ∙ c.loan.invariant.same_pages ∙ ap (λ (job : Job). job.pages) c.loan.view_is in
    rw (pages, c.as_mut_slice.ensures.value) (pages-within c.self.inside.flags.items jobs gone c.self.invariant.flagged found.has)

pub invariant_of-self : goal.invariant_of-self
invariant_of-self c =
    let old = c.self.inside.flags.items in
    let jobs = c.self.inside.loans.items in
    let gone = c.remove-loan.result in
    let at = subst (λ (lent : Lent). Some c.in_ok-place.place ≡ position (is_of_lane c.args.lane) lent.jobs) (sym c.self.view_is) c.in_ok-place.ensures.place in
    let found = found-at c.args.lane jobs c.in_ok-place.place gone at c.remove-loan.ensures.value in
    let pages = c.as_slice.ensures.value ∙ c.loan.invariant.same_pages ∙ ap (λ (job : Job). job.pages) c.loan.view_is ∙ ap (λ (job : Job). job.pages) (sym found.is) in
    let flags = marked-in_place c.as_slice.result.now false old _ c.mark.new.flags c.self.inside.flags.len c.as_mut_slice.ensures.value c.mark.ensures (omega arith) in
    rw (flags, pages, c.remove-loan.ensures.items)
    (loans-ended old jobs c.in_ok-place.place gone (record { flagged = c.self.invariant.flagged; apart = c.self.invariant.apart }) found.within)

pub returns-clause-some : goal.returns-clause-some
returns-clause-some c =
    let gone = c.remove-loan.result in
    let at = subst (λ (lent : Lent). Some c.in_ok-place.place ≡ position (is_of_lane c.args.lane) lent.jobs) (sym c.self.view_is) c.in_ok-place.ensures.place in
    let found = found-at c.args.lane c.self.inside.loans.items c.in_ok-place.place gone at c.remove-loan.ensures.value in
    (gone, subst (λ (lent : Lent). Has lent.jobs gone) c.self.view_is found.has, found.of_lane, sym (c.loan.invariant.same_resource ∙ ap (λ (job : Job). job.resource) c.loan.view_is))

pub returns-clause-jobs : goal.returns-clause-jobs
returns-clause-jobs c =
    let old = c.self.inside.flags.items in
    let jobs = c.self.inside.loans.items in
    let gone = c.remove-loan.result in
    let at = subst (λ (lent : Lent). Some c.in_ok-place.place ≡ position (is_of_lane c.args.lane) lent.jobs) (sym c.self.view_is) c.in_ok-place.ensures.place in
    let found = found-at c.args.lane jobs c.in_ok-place.place gone at c.remove-loan.ensures.value in
    let flags = marked-in_place c.as_slice.result.now false old _ c.mark.new.flags c.self.inside.flags.len c.as_mut_slice.ensures.value c.mark.ensures (omega arith) in
    let count = ap length flags ∙ length-marked c.as_slice.result.now false old ∙ ap (λ (lent : Lent). lent.count) c.self.view_is in
    let left = c.remove-loan.ensures.items
    ∙ removed-lane c.args.lane jobs c.in_ok-place.place gone c.self.invariant.apart found.within (ap (λ (job : Job). job.asked.lane) found.is ∙ found.of_lane)
    ∙ ap (λ (lent : Lent). but_lane job_lane c.args.lane lent.jobs) c.self.view_is in
    λ i. record { count = count i; jobs = left i }
