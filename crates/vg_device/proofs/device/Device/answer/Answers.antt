use Rattle.std.proofs.Common.{◌∙◌, ap, sym}
use Rattle.vg_laws.proofs.Results.{on_err}
use Rattle.vg_device.specs.Step.{answered}
use Rattle.vg_device.specs.FitsWithin.{by_read}
use Rattle.vg_device.proofs.KeepLemmas.{accepted-is, answered-given, answered-ok, kept-given, told-kept}
use Rattle.vg_device.proofs.device.Device.answer.Goals as goal

pub returns-in-Nodata-clause-step : goal.returns-in-Nodata-clause-step
returns-in-Nodata-clause-step c =
    let context = c.in-Ok.read.0 in
    let command = c.in-Ok.read.1 in
    let expected = accepted-is c.args.self.now c.outcome-2.new.self context command c.in_ok-other.other c.in_ok-other.ensures.step c.in-Nodata.is in
    answered-given c.args.self.now c.outcome-2.new.self c.args.queue c.args.request.now c.args.room _ c.in_ok-other.other c.in_ok-accepted.accepted.0.items
    (c.in_ok-read.ensures.answer ∙ ap (by_read c.args.self.now) c.in-Ok.is) c.in_ok-other.ensures.step
    (c.in_ok-accepted.ensures.bytes ∙ ap (answered c.args.request.now c.args.room) (c.acceptance.ensures ∙ expected))

pub returns : goal.returns
returns c =
    let context = c.in-Ok.read.0 in
    let command = c.in-Ok.read.1 in
    record {
      step =
          answered-ok c.rewrite_answer.result (λ twice. twice.0.items) c.args.self.now c.outcome-2.new.self c.args.queue c.args.request.now c.args.room _ c.in_ok-other.other
          (c.in_ok-read.ensures.answer ∙ ap (by_read c.args.self.now) c.in-Ok.is) c.in_ok-other.ensures.step c.rewrite_answer.ensures.bytes;
      same = c.rewrite_answer.ensures.same;
      err = on_err c.rewrite_answer.result (kept-given c.args.self.now c.outcome-2.new.self context command c.in_ok-other.other c.in_ok-other.ensures.step c.in_default.not-Nodata c.in_default.not-Uuid);
    }

pub returns-then-not-changes-clause-err : goal.returns-then-not-changes-clause-err
returns-then-not-changes-clause-err c =
    on_err c.write_answer-then-not-changes.result (told-kept c.args.self.now c.outcome.new.self c.in-Ok.read.0 c.in-Ok.read.1 c.in_ok-told.told (sym c.if-not-changes.ensures) c.in_ok-told.ensures.step)
