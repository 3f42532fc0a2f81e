use Rattle.std.proofs.Common.{rules, ◌-◌, refl, subst}
use Rattle.std.proofs.lemmas.Option.{slice_get_read}
use Rattle.vg_check.specs.TestsWithin.{HasActed}
use Rattle.vg_check.proofs.checker.Checker.next_act.Goals as goal

pub returns-clause-right : goal.returns-clause-right
returns-clause-right c = λ is. record {
  seen = c.in-Some.seen.now;
  after = c.check_act.new.seen;
  was = slice_get_read c.args.self.now.clients.items _ (c.args.client - 1) c.in-Some.seen.now refl c.in-Some.ensures.item.3.0 c.in-Some.ensures.value;
  done = subst (λ lanes. HasActed c.args.self.now.display lanes c.in-Some.seen.now c.args.client c.args.call c.args.act.now c.args.reply.now c.check_act.new.display c.check_act.new.seen)
      c.as_slice-lanes.ensures.value (c.in_ok-check_act.ensures.right (let h = c.if-not-branch.false in h));
  clients = refl;
  lanes = refl;
  met = search rules;
  plugs = c.in_ok-keep_plug.ensures;
  control = refl;
  cursor = refl;
}
