use Rattle.std.proofs.Common.{rules, map, Ok, Err, true, false, ◌≡◌}
use Rattle.vg_call_lines.specs.Bodies.{is_timeline}
use Rattle.vg_call_lines.specs.Code.{table_of, both_read}
use Rattle.vg_call_lines.specs.BegunWithin.{words_now}
use Rattle.vg_call_lines.proofs.BegunLemmas.{no_timeline, line_stops, line_goes, line_twice}
use Rattle.vg_call_lines.proofs.begun.begin_on.Goals as goal

pub returns-then-not-is_timeline-clause-call : goal.returns-then-not-is_timeline-clause-call
returns-then-not-is_timeline-clause-call c =
    let formed : is_timeline c.args.on.now ≡ false = search rules in
    no_timeline (table_of c.args.names.now) c.args.label.now c.args.on.now c.args.word.now (map (λ arg. arg.now) c.args.args.now) formed

pub returns-in-Some-clause-call : goal.returns-in-Some-clause-call
returns-in-Some-clause-call c =
    let formed : is_timeline c.args.on.now ≡ true = search rules in
    let is : Ok (c.in-Ok.timeline, c.in-Ok.body) ≡ both_read c.timeline_of-timeline.result c.body_of-body.result = search rules in
    line_goes (table_of c.args.names.now) c.args.label.now c.args.on.now c.args.word.now (map (λ arg. arg.now) c.args.args.now) (words_now c.words_of-on.result) c.timeline_of-timeline.result c.body_of-body.result formed c.words_of-on.ensures c.timeline_of-timeline.ensures c.body_of-body.ensures
    (c.in-Ok.timeline, c.in-Ok.body) c.in-Some.label (table_of c.give.new.self) is c.in-Some.ensures

pub returns-in-None-clause-call : goal.returns-in-None-clause-call
returns-in-None-clause-call c =
    let formed : is_timeline c.args.on.now ≡ true = search rules in
    let is : Ok (c.in-Ok.timeline, c.in-Ok.body) ≡ both_read c.timeline_of-timeline.result c.body_of-body.result = search rules in
    line_twice (table_of c.args.names.now) c.args.label.now c.args.on.now c.args.word.now (map (λ arg. arg.now) c.args.args.now) (words_now c.words_of-on.result) c.timeline_of-timeline.result c.body_of-body.result formed c.words_of-on.ensures c.timeline_of-timeline.ensures c.body_of-body.ensures
    (c.in-Ok.timeline, c.in-Ok.body) is c.in-None.ensures.0

pub returns-in-Err-clause-call : goal.returns-in-Err-clause-call
returns-in-Err-clause-call c =
    let formed : is_timeline c.args.on.now ≡ true = search rules in
    let is : Err c.in-Err.stop ≡ both_read c.timeline_of-timeline.result c.body_of-body.result = search rules in
    line_stops (table_of c.args.names.now) c.args.label.now c.args.on.now c.args.word.now (map (λ arg. arg.now) c.args.args.now) (words_now c.words_of-on.result) c.timeline_of-timeline.result c.body_of-body.result formed c.words_of-on.ensures c.timeline_of-timeline.ensures c.body_of-body.ensures
    (table_of c.args.names.now) c.in-Err.stop is
