use Rattle.std.proofs.Common.{◌≡◌, ◌≤◌, true, false, subst, sym}
use Rattle.std.specs.Prelude.{IfOk}
use Rattle.vg_machine.specs.Order.{client_of}
use Rattle.vg_check.specs.Checked.{TellsRight, TellsWrong}
use Rattle.vg_check.proofs.CheckerLemmas.{act-refutes, act-tells, command-refutes, command-tells}
use Rattle.vg_check.proofs.SeenLemmas.{NumberLaws}
use Rattle.vg_check.proofs.checker.Checker.next.Goals as goal

pub returns-in-Act-clause-right : goal.returns-in-Act-clause-right
returns-in-Act-clause-right c =
    let laws : NumberLaws = record { more = c.entries_use_numbers.ensures.more; fresh = c.entries_have_no_such_number.ensures.fresh; above = c.entries_have_no_such_number.ensures.above; all = c.entries_have_all_numbers.ensures } in
    subst (λ e. IfOk c.next_act.result (λ right. right ≡ true → TellsRight c.args.self.now e c.next_act.new.self)) (sym c.in-Act.is)
    (act-tells laws c.args.self.now c.in-Act.client c.in-Act.call c.in-Act.act c.in-Act.reply c.next_act.new.self c.next_act.result
    (subst (λ e. 1 ≤ client_of e) c.in-Act.is c.requires.client) c.next_act.ensures.right)

pub returns-in-Act-clause-wrong : goal.returns-in-Act-clause-wrong
returns-in-Act-clause-wrong c =
    let laws : NumberLaws = record { more = c.entries_use_numbers.ensures.more; fresh = c.entries_have_no_such_number.ensures.fresh; above = c.entries_have_no_such_number.ensures.above; all = c.entries_have_all_numbers.ensures } in
    subst (λ e. IfOk c.next_act.result (λ right. right ≡ false → TellsWrong c.args.self.now e)) (sym c.in-Act.is)
    (act-refutes laws c.args.self.now c.in-Act.client c.in-Act.call c.in-Act.act c.in-Act.reply c.next_act.result
    (subst (λ e. 1 ≤ client_of e) c.in-Act.is c.requires.client) c.next_act.ensures.wrong)

pub returns-in-Command-clause-right : goal.returns-in-Command-clause-right
returns-in-Command-clause-right c =
    let laws : NumberLaws = record { more = c.entries_use_numbers.ensures.more; fresh = c.entries_have_no_such_number.ensures.fresh; above = c.entries_have_no_such_number.ensures.above; all = c.entries_have_all_numbers.ensures } in
    subst (λ e. IfOk c.next_command.result (λ right. right ≡ true → TellsRight c.args.self.now e c.next_command.new.self)) (sym c.in-Command.is)
    (command-tells laws c.args.self.now c.in-Command.client c.in-Command.call c.in-Command.request c.in-Command.reply c.next_command.new.self c.next_command.result
    (subst (λ e. 1 ≤ client_of e) c.in-Command.is c.requires.client) c.requires.entries c.next_command.ensures.right)

pub returns-in-Command-clause-wrong : goal.returns-in-Command-clause-wrong
returns-in-Command-clause-wrong c =
    let laws : NumberLaws = record { more = c.entries_use_numbers.ensures.more; fresh = c.entries_have_no_such_number.ensures.fresh; above = c.entries_have_no_such_number.ensures.above; all = c.entries_have_all_numbers.ensures } in
    subst (λ e. IfOk c.next_command.result (λ right. right ≡ false → TellsWrong c.args.self.now e)) (sym c.in-Command.is)
    (command-refutes laws c.args.self.now c.in-Command.client c.in-Command.call c.in-Command.request c.in-Command.reply c.next_command.result
    (subst (λ e. 1 ≤ client_of e) c.in-Command.is c.requires.client) c.next_command.ensures.wrong)
