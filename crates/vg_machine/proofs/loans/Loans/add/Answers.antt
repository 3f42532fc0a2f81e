-- The flags with those of one job more.
use Rattle.std.proofs.Common.{rules, ◌≡◌, ◌<◌, ◌∷◌, true, sym, subst, arith}
use Rattle.std.specs.List.{All, AllByRecursion}
use Rattle.vg_pages.proofs.Marked.{marked-in_place}
use Rattle.vg_machine.specs.Loans.{Lent}
use Rattle.vg_machine.specs.OutWithin.{AreApart}
use Rattle.vg_machine.proofs.LoanLemmas.{loans-added}
use Rattle.vg_machine.proofs.loans.Loans.add.Goals as goal

pub invariant_of-self-2 : goal.invariant_of-self-2
invariant_of-self-2 c =
    let job = c.args.job.now in
    let old = c.self.inside.flags.items in
    let jobs = c.self.inside.loans.items in
    let flags = marked-in_place c.pages.result.now true old _ c.mark.new.flags c.self.inside.flags.len c.as_mut_slice.ensures.value c.mark.ensures (omega arith) in
    let items : c.insert.new.self.items ≡ job ∷ jobs = search rules in
    let inside = subst (λ (lent : Lent). All (λ page. page < lent.count) job.pages) (sym c.self.view_is) c.requires.inside in
    let apart = subst (λ (lent : Lent). AllByRecursion (AreApart job) lent.jobs) (sym c.self.view_is) c.requires.apart in
    rw (flags, items, c.pages.ensures) (loans-added old jobs job (record { flagged = c.self.invariant.flagged; apart = c.self.invariant.apart }) apart inside)
