-- The job of the lane is the one that comes back, and the others stay out.
use Rattle.std.proofs.Common.{List, ap, sym, subst, ◌∙◌, rules}
use Rattle.std.specs.List.{AllByRecursion}
use Rattle.vg_history.specs.Jobs.{IsBack}
use Rattle.vg_device.specs.State.{State}
use Rattle.vg_resource.specs.Resource.{resource_at}
use Rattle.vg_device.specs.Copies.{brought_back}
use Rattle.vg_machine.specs.Jobs.{Job, worked}
use Rattle.vg_machine.specs.Lender.{Lender}
use Rattle.vg_machine.specs.OutWithin.{IsOut}
use Rattle.vg_machine.proofs.DisplayLemmas.{back-step, brought-setup, ended-out, none-back}
use Rattle.vg_machine.proofs.display.Display.bring_back.Goals as goal

pub invariant_of-self : goal.invariant_of-self
invariant_of-self c =
    let s = c.self.inside in
    let resource = c.in-Some.resource in
    let pixels = c.into_parts-pixels.result.0.items in
    let was = brought-setup s.device resource pixels (resource_at resource s.device.resources) in (
      ap (λ loans. loans.count) c.in-Some.ensures.jobs ∙ c.self.invariant.0 ∙ ap (λ setup. setup.pages) (sym was) ∙ ap (λ (state : State). state.setup.pages) (sym c.put_back.ensures),
      subst (λ (state : State). AllByRecursion (IsOut state) c.end-ended.new.self.jobs) (sym c.put_back.ensures)
          (subst (λ (jobs : List Job). AllByRecursion (IsOut (brought_back resource pixels s.device)) jobs) (sym (ap (λ loans. loans.jobs) c.in-Some.ensures.jobs))
          (ended-out s.device s.loans.jobs c.lane.result resource pixels c.are_apart.ensures c.self.invariant.1 c.in-Some.ensures.some)),
    )

pub returns-in-Some-clause-step : goal.returns-in-Some-clause-step
returns-in-Some-clause-step c = λ back.
    let s = c.self.inside in
    let here = subst (λ (d : Lender). IsBack worked d.lent c.args.job) (sym c.self.view_is) back in
    rw (← c.self.view_is, c.put_back.ensures) (back-step s.device s.loans.jobs c.lane.result c.in-Some.resource c.into_parts-pixels.result.0.items c.into_parts-pixels.result.1.0 c.args.job
    c.are_apart.ensures c.self.invariant.1 c.in-Some.ensures.some c.lane.ensures c.into_parts-pixels.ensures.pixels c.into_parts-pixels.ensures.reply here)

pub returns-in_default-clause-step : goal.returns-in_default-clause-step
returns-in_default-clause-step c = λ back.
    let here = subst (λ (d : Lender). IsBack worked d.lent c.args.job) (sym c.self.view_is) back in
    absurd (none-back c.self.inside.loans.jobs c.lane.result c.args.job (search rules) c.lane.ensures here)

pub returns-in_default-clause-lent : goal.returns-in_default-clause-lent
returns-in_default-clause-lent c = λ back.
    let here = subst (λ (d : Lender). IsBack worked d.lent c.args.job) (sym c.self.view_is) back in
    absurd (none-back c.self.inside.loans.jobs c.lane.result c.args.job (search rules) c.lane.ensures here)
