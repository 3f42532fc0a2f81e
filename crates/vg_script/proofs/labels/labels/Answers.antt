use Rattle.std.proofs.Common.{rules, ◌≡◌, ◌∙◌, sym, ap, Some, None}
use Rattle.vg_call_lines.specs.Tables.{labels_in}
use Rattle.vg_script.specs.Labels.{label_of}
use Rattle.vg_script.specs.LabelsWithin.{label_now}
use Rattle.vg_script.proofs.Lines.{some_left, none_left}
use Rattle.vg_script.proofs.LabelLemmas.{starts, goes_on, goes_on_with, ends}
use Rattle.vg_script.proofs.labels.labels.Goals as goal

pub loop-rest-init : goal.loop-rest-init
loop-rest-init c = starts c.args.bytes.now (labels_in c.new-labels.result) (λ word. search rules)

pub loop-rest-preserved-in-Continue-branch-3 : goal.loop-rest-preserved-in-Continue-branch-3
loop-rest-preserved-in-Continue-branch-3 c =
    let is : label_of c.cut.result.0.now ≡ Some (c.in-Some.kind, c.in-Some.label.now) = sym c.in_ok-kind.ensures ∙ ap (λ o. label_now o) c.in-Some.is in
    goes_on_with c.args.bytes.now c.loop-rest.rest.now c.cut.result.0.now c.cut.result.1.now (labels_in c.loop-rest.labels) (labels_in c.add_label.new.labels) c.loop-rest.count (c.in-Some.kind, c.in-Some.label.now)
    (some_left c.loop-rest.rest.now (sym c.loop-rest-test.ensures)) c.cut.ensures.before c.cut.ensures.after c.loop-rest.invariant is c.in_ok-add_label.ensures

pub loop-rest-preserved : goal.loop-rest-preserved
loop-rest-preserved c =
    let is : label_of c.cut.result.0.now ≡ None = search rules in
    goes_on c.args.bytes.now c.loop-rest.rest.now c.cut.result.0.now c.cut.result.1.now (labels_in c.loop-rest.labels) c.loop-rest.count
    (some_left c.loop-rest.rest.now (sym c.loop-rest-test.ensures)) c.cut.ensures.before c.cut.ensures.after c.loop-rest.invariant is

pub returns : goal.returns
returns c = ends c.args.bytes.now c.loop-rest.rest.now (labels_in c.loop-rest.labels) c.loop-rest.count (none_left c.loop-rest.rest.now (sym c.loop-rest-test.ensures)) c.loop-rest.invariant
