-- An act that isn't blocked leaves the parts of the jobs.
use Rattle.std.proofs.Common.{◌≡◌, false, sym, subst}
use Rattle.vg_machine.specs.Blocks.{blocks_act}
use Rattle.vg_machine.specs.Lender.{Lender}
use Rattle.vg_machine.proofs.DisplayLemmas.{done-out, done-pages, err-first}
use Rattle.vg_machine.proofs.display.Display.do_act.Goals as goal

pub invariant_of-self : goal.invariant_of-self
invariant_of-self c =
    let s = c.self.inside in
    let same = err-first _ _ c.act_as.result c.act_as.ensures.err in
    let free = subst (λ (d : Lender). blocks_act d.lent d.state c.args.act.now ≡ false) (sym c.self.view_is) c.requires.free in (
      done-pages c.act_as.result s.device c.act_as.new.self c.args.client c.args.act.now s.loans.count c.act_as.ensures.step same c.self.invariant.0,
      done-out c.act_as.result s.loans.jobs s.device c.act_as.new.self c.args.client c.args.act.now c.act_as.ensures.step same c.shares_its_pages.ensures free c.self.invariant.1,
    )
