use Rattle.std.proofs.Common.{◌==◌, length, arith, ◌∙◌, sym, ap}
use Rattle.vg_script.specs.Grammar.{scan}
use Rattle.vg_script.specs.Lines.{lines_of}
use Rattle.vg_script.specs.ReadingWithin.{seen}
use Rattle.vg_script.proofs.Lines.{lines_of-nil, some_left, none_left, shorter}
use Rattle.vg_script.proofs.Scans.{rest_ok, rest_err, one_line_more}
use Rattle.vg_script.proofs.text.read_lines.Goals as goal

pub loop-rest-preserved : goal.loop-rest-preserved
loop-rest-preserved c =
    let some = some_left c.loop-rest.rest.now (sym c.loop-rest-test.ensures) in
    let counts = one_line_more (seen c.loop-rest.reader) c.cut.result.0.now (seen c.read_line.new.self) c.in-Ok.ensures in
    let less = shorter (λ b. b == 10) c.loop-rest.rest.now some in
    let left = ap length c.cut.ensures.after in
    record {
      same = rest_ok (seen c.loop-rest.reader) (seen c.read_line.new.self) c.loop-rest.rest.now c.cut.result.0.now c.cut.result.1.now some c.cut.ensures.before c.cut.ensures.after c.in-Ok.ensures ∙ c.loop-rest.invariant.same;
      counted = omega (arith, counts, less, left);
    }

pub returns-in-Err-Fault-clause-fault : goal.returns-in-Err-Fault-clause-fault
returns-in-Err-Fault-clause-fault c =
    let some = some_left c.loop-rest.rest.now (sym c.loop-rest-test.ensures) in
    rw (c.code.ensures, c.lines-number.ensures, c.in-Err-Fault.kind-is)
    (sym c.loop-rest.invariant.same ∙ rest_err (seen c.loop-rest.reader) c.in-Err-Fault.kind c.loop-rest.rest.now c.cut.result.0.now some c.cut.ensures.before (rw c.in-Err-Fault.field-0-is at c.in-Err-Fault.ensures))

pub returns-clause-reader : goal.returns-clause-reader
returns-clause-reader c =
    let none = none_left c.loop-rest.rest.now (sym c.loop-rest-test.ensures) in
    sym c.loop-rest.invariant.same ∙ ap (λ ls. scan (seen c.loop-rest.reader) ls) (ap lines_of none ∙ lines_of-nil)
