use Rattle.std.proofs.Common.{◌∙◌, ◌+◌, ◌*◌, ap, sym}
use Rattle.vg_wire.proofs.TwoDLemmas.{length-body_of_2d, size_of_2d}
use Rattle.vg_wire.proofs.two_d.size_2d.Goals as goal

pub returns-in-Create2d-clause-size : goal.returns-in-Create2d-clause-size
returns-in-Create2d-clause-size c = sym (length-body_of_2d c.args.command.now ∙ ap size_of_2d c.in-Create2d.is)

pub returns-in-Transfer-clause-size : goal.returns-in-Transfer-clause-size
returns-in-Transfer-clause-size c = sym (length-body_of_2d c.args.command.now ∙ ap size_of_2d c.in-Transfer.is)

pub returns-in-Attach-clause-size : goal.returns-in-Attach-clause-size
returns-in-Attach-clause-size c = ap (λ n. 8 + 16 * n) c.len.ensures ∙ sym (length-body_of_2d c.args.command.now ∙ ap size_of_2d c.in-Attach.is)

pub returns-in-SetScanout-clause-size : goal.returns-in-SetScanout-clause-size
returns-in-SetScanout-clause-size c = sym (length-body_of_2d c.args.command.now ∙ ap size_of_2d c.in-SetScanout.is)

pub returns-in-Flush-clause-size : goal.returns-in-Flush-clause-size
returns-in-Flush-clause-size c = sym (length-body_of_2d c.args.command.now ∙ ap size_of_2d c.in-Flush.is)

pub returns-in-Unref-clause-size : goal.returns-in-Unref-clause-size
returns-in-Unref-clause-size c = sym (length-body_of_2d c.args.command.now ∙ ap size_of_2d c.in-Unref.is)

pub returns-in-Detach-clause-size : goal.returns-in-Detach-clause-size
returns-in-Detach-clause-size c = sym (length-body_of_2d c.args.command.now ∙ ap size_of_2d c.in-Detach.is)
