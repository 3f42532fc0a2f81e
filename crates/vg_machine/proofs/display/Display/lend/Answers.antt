-- The new job is out, and apart from those that are.
use Rattle.std.proofs.Common.{◌≡◌, [], false, ap, sym, subst, ◌∙◌}
use Rattle.std.specs.List.{AllByRecursion}
use Rattle.vg_history.specs.Jobs.{of_lane}
use Rattle.vg_device.specs.Copies.{AsksFor, IsAccepted}
use Rattle.vg_device.specs.State.{State}
use Rattle.vg_machine.specs.Blocks.{blocks}
use Rattle.vg_machine.specs.Jobs.{Job}
use Rattle.vg_machine.specs.Lender.{Lender}
use Rattle.vg_machine.specs.Loans.{Lent}
use Rattle.vg_machine.specs.OutWithin.{AreApart, IsOut, job_lane}
use Rattle.vg_machine.proofs.DisplayLemmas.{long-header, new-apart, new-out}
use Rattle.vg_machine.proofs.display.Display.lend.Goals as goal

pub new-job-requires-clause-whole : goal.new-job-requires-clause-whole
new-job-requires-clause-whole c =
    long-header c.args.self.now.state c.args.request.now.queue c.args.request.now.bytes c.requires.asks.let_in

pub add-requires-clause-apart : goal.add-requires-clause-apart
add-requires-clause-apart c =
    let s = c.self.inside in
    let request = c.args.request.now in
    let copy = c.args.copy.now in
    let asks = subst (λ (d : Lender). AsksFor d.state request copy) (sym c.self.view_is) c.requires.asks in
    let free = subst (λ (d : Lender). blocks d.lent d.state request ≡ false) (sym c.self.view_is) c.requires.free in
    let lane = subst (λ (d : Lender). of_lane job_lane request.lane d.lent ≡ []) (sym c.self.view_is) c.requires.lane in
    subst (λ (job : Job). AllByRecursion (AreApart job) s.loans.jobs) (sym c.new-job.ensures)
    (new-apart s.loans.jobs s.device request copy c.in_ok-pixels.pixels.items c.in_ok-pixels.source.bytes c.in_ok-pixels.source.pages c.in_ok-replies.replies.0 asks free lane c.in_ok-pixels.ensures.touched)

pub add-requires-clause-inside : goal.add-requires-clause-inside
add-requires-clause-inside c =
    rw (c.new-job.ensures, c.self.invariant.0) c.in_ok-pixels.ensures.inside

pub invariant_of-self-in-Ok : goal.invariant_of-self-in-Ok
invariant_of-self-in-Ok c =
    let s = c.self.inside in
    let request = c.args.request.now in
    let copy = c.args.copy.now in
    let asks = subst (λ (d : Lender). AsksFor d.state request copy) (sym c.self.view_is) c.requires.asks in
    let accepted = subst (λ (d : Lender). IsAccepted d.state copy) (sym c.self.view_is) c.requires.accepted in
    let out = subst (λ (job : Job). IsOut s.device job) (sym c.new-job.ensures)
    (new-out s.device request copy c.in_ok-pixels.pixels.items c.in_ok-pixels.source.bytes c.in_ok-pixels.source.pages c.in_ok-replies.replies.0 asks accepted
    c.in_ok-pixels.ensures.pixels c.in_ok-pixels.ensures.bytes c.in_ok-replies.ensures.reply) in (
      ap (λ (loans : Lent). loans.count) c.in-Ok.ensures.ok ∙ c.self.invariant.0 ∙ ap (λ (state : State). state.setup.pages) (sym c.lend.ensures.same),
      subst (λ (state : State). AllByRecursion (IsOut state) c.add.new.self.jobs) (sym c.lend.ensures.same)
          (subst (λ (loans : Lent). AllByRecursion (IsOut s.device) loans.jobs) (sym c.in-Ok.ensures.ok) (out, c.self.invariant.1)),
    )
