-- A request that isn't blocked leaves the parts of the jobs.
use Rattle.std.proofs.Common.{◌≡◌, false, sym, subst}
use Rattle.vg_machine.specs.Blocks.{blocks}
use Rattle.vg_machine.specs.Lender.{Lender}
use Rattle.vg_machine.proofs.DisplayLemmas.{ran-out, ran-pages}
use Rattle.vg_machine.proofs.display.Display.run.Goals as goal

pub invariant_of-self : goal.invariant_of-self
invariant_of-self c =
    let s = c.self.inside in
    let free = subst (λ (d : Lender). blocks d.lent d.state c.args.request.now ≡ false) (sym c.self.view_is) c.requires.free in (
      ran-pages c.request.result s.device c.request.new.self c.args.request.now s.loans.count c.request.ensures.step c.request.ensures.err c.self.invariant.0,
      ran-out c.request.result s.loans.jobs s.device c.request.new.self c.args.request.now c.request.ensures.step c.request.ensures.err free c.self.invariant.1,
    )
