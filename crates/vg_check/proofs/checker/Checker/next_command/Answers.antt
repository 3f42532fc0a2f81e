use Rattle.std.proofs.Common.{◌-◌, ◌∙◌, cond, ap, refl, subst, sym}
use Rattle.std.proofs.lemmas.Option.{slice_get_read}
use Rattle.vg_check.specs.StepWithin.{counted_up}
use Rattle.vg_check.specs.TestsWithin.{HasAsked}
use Rattle.vg_check.proofs.checker.Checker.next_command.Goals as goal

pub returns-then-is_control-clause-right : goal.returns-then-is_control-clause-right
returns-then-is_control-clause-right c = λ is. record {
  seen = c.in-Some.seen.now;
  after = c.check_command.new.seen;
  was = slice_get_read c.args.self.now.clients.items _ (c.args.client - 1) c.in-Some.seen.now refl c.in-Some.ensures.item.3.0 c.in-Some.ensures.value;
  done = subst (λ lanes. HasAsked c.args.self.now.display lanes c.in-Some.seen.now c.args.call c.args.request.now c.args.reply.now c.check_command.new.display c.check_command.new.seen)
      c.as_slice-lanes.ensures.value (c.in_ok-check_command.ensures.right (let h = c.if-not-branch.false in h));
  clients = refl;
  lanes = c.put_number.ensures;
  plugs = refl;
  control = c.saturating_add-self.ensures ∙ ap (λ b. cond b (counted_up c.args.self.now.control) c.args.self.now.control) (sym c.if-is_control.true ∙ c.is_control.ensures);
  cursor = ap (λ b. cond b c.args.self.now.cursor (counted_up c.args.self.now.cursor)) (sym c.if-is_control.true ∙ c.is_control.ensures);
}

pub returns-else-is_control-clause-right : goal.returns-else-is_control-clause-right
returns-else-is_control-clause-right c = λ is. record {
  seen = c.in-Some.seen.now;
  after = c.check_command.new.seen;
  was = slice_get_read c.args.self.now.clients.items _ (c.args.client - 1) c.in-Some.seen.now refl c.in-Some.ensures.item.3.0 c.in-Some.ensures.value;
  done = subst (λ lanes. HasAsked c.args.self.now.display lanes c.in-Some.seen.now c.args.call c.args.request.now c.args.reply.now c.check_command.new.display c.check_command.new.seen)
      c.as_slice-lanes.ensures.value (c.in_ok-check_command.ensures.right (let h = c.if-not-branch.false in h));
  clients = refl;
  lanes = c.put_number.ensures;
  plugs = refl;
  control = ap (λ b. cond b (counted_up c.args.self.now.control) c.args.self.now.control) (sym c.if-is_control.false ∙ c.is_control.ensures);
  cursor = c.saturating_add-self-else-is_control.ensures ∙ ap (λ b. cond b c.args.self.now.cursor (counted_up c.args.self.now.cursor)) (sym c.if-is_control.false ∙ c.is_control.ensures);
}
