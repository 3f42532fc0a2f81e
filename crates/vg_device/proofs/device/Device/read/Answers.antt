use Rattle.std.proofs.Common.{◌≡◌, None, Some, rules}
use Rattle.vg_wire.specs.Header.{header_of}
use Rattle.vg_device.proofs.KeepLemmas.{answer-not, answer-ok, let-in, let-in-not, not-let-in}
use Rattle.vg_device.proofs.device.Device.read.Goals as goal

pub returns-in-Ok-judge_timeline-clause-answer : goal.returns-in-Ok-judge_timeline-clause-answer
returns-in-Ok-judge_timeline-clause-answer c =
    let same : c.in-Some.header ≡ header_of c.args.request.now = search rules in
    rw same (answer-ok c.args.self.now c.args.queue c.args.request.now c.in-Ok.field-0-0 c.in-Ok.command None (search rules) (search rules) (rw same at c.in-Ok-judge_timeline.ensures.ok))

pub returns-in-Err-clause-answer : goal.returns-in-Err-clause-answer
returns-in-Err-clause-answer c =
    let same : c.in-Some.header ≡ header_of c.args.request.now = search rules in
    answer-ok c.args.self.now c.args.queue c.args.request.now c.in-Ok.field-0-0 c.in-Ok.command (Some c.in-Err.code) (search rules) (search rules) (rw same at c.in-Err.ensures.err)

pub returns-in_default-2-clause-answer : goal.returns-in_default-2-clause-answer
returns-in_default-2-clause-answer c =
    answer-not c.args.self.now c.args.queue c.args.request.now c.in_ok-command.field-0 c.in_ok-command.ensures.exact c.in_default-2.not-Ok

pub returns-in-Ok-judge_timeline-clause-let_in : goal.returns-in-Ok-judge_timeline-clause-let_in
returns-in-Ok-judge_timeline-clause-let_in c =
    let same : c.in-Some.header ≡ header_of c.args.request.now = search rules in
    let-in c.args.self.now c.args.queue c.args.request.now c.in-Ok.field-0-0 c.in-Ok.command (search rules) (search rules) (rw same at c.in-Ok-judge_timeline.ensures.ok)

pub returns-in-Err-clause-refused : goal.returns-in-Err-clause-refused
returns-in-Err-clause-refused c =
    let same : c.in-Some.header ≡ header_of c.args.request.now = search rules in
    let-in-not c.args.self.now c.args.queue c.args.request.now c.in-Ok.field-0-0 c.in-Ok.command c.in-Err.code (search rules) (search rules) (rw same at c.in-Err.ensures.err)

pub returns-in_default-2-clause-refused : goal.returns-in_default-2-clause-refused
returns-in_default-2-clause-refused c =
    not-let-in c.args.self.now c.args.queue c.args.request.now c.in_ok-command.field-0 c.in_ok-command.ensures.exact c.in_default-2.not-Ok
