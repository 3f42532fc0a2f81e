use Rattle.std.proofs.Common.{sym, subst}
use Rattle.vg_script.specs.ReadingWithin.{seen}
use Rattle.vg_script.proofs.JudgeLaws.{IsRight, read_right, right_script, right_fault, script_is, fault_is, limits_are}
use Rattle.vg_script.proofs.text.parse.Goals as goal

pub returns-in_ok-cycle-in-Ok-clause-script : goal.returns-in_ok-cycle-in-Ok-clause-script
returns-in_ok-cycle-in-Ok-clause-script c =
    let read = rw c.in-Ok.is at c.in_ok-reader.ensures in
    let right = subst (IsRight c.args.bytes.now) (sym c.unless.ensures) (read_right c.args.bytes.now (seen c.in-Ok.reader) c.finish.result c.in_ok-cycle-in-Ok.cycle read.reader c.finish.ensures c.in_ok-cycle-in-Ok.ensures) in
    script_is c.args.bytes.now c.unless.result right

pub returns-in_ok-cycle-in-Ok-clause-limits : goal.returns-in_ok-cycle-in-Ok-clause-limits
returns-in_ok-cycle-in-Ok-clause-limits c =
    let read = rw c.in-Ok.is at c.in_ok-reader.ensures in
    let right = subst (IsRight c.args.bytes.now) (sym c.unless.ensures) (read_right c.args.bytes.now (seen c.in-Ok.reader) c.finish.result c.in_ok-cycle-in-Ok.cycle read.reader c.finish.ensures c.in_ok-cycle-in-Ok.ensures) in
    limits_are c.args.bytes.now c.unless.result right

pub returns-in_ok-cycle-in-Ok-clause-fault : goal.returns-in_ok-cycle-in-Ok-clause-fault
returns-in_ok-cycle-in-Ok-clause-fault c =
    let read = rw c.in-Ok.is at c.in_ok-reader.ensures in
    let right = subst (IsRight c.args.bytes.now) (sym c.unless.ensures) (read_right c.args.bytes.now (seen c.in-Ok.reader) c.finish.result c.in_ok-cycle-in-Ok.cycle read.reader c.finish.ensures c.in_ok-cycle-in-Ok.ensures) in
    fault_is c.args.bytes.now c.unless.result right

pub returns-in_ok-cycle-in-Ok-clause-every_script : goal.returns-in_ok-cycle-in-Ok-clause-every_script
returns-in_ok-cycle-in-Ok-clause-every_script c =
    let read = rw c.in-Ok.is at c.in_ok-reader.ensures in
    let right = subst (IsRight c.args.bytes.now) (sym c.unless.ensures) (read_right c.args.bytes.now (seen c.in-Ok.reader) c.finish.result c.in_ok-cycle-in-Ok.cycle read.reader c.finish.ensures c.in_ok-cycle-in-Ok.ensures) in
    right_script c.args.bytes.now c.unless.result right

pub returns-in_ok-cycle-in-Ok-clause-every_fault : goal.returns-in_ok-cycle-in-Ok-clause-every_fault
returns-in_ok-cycle-in-Ok-clause-every_fault c =
    let read = rw c.in-Ok.is at c.in_ok-reader.ensures in
    let right = subst (IsRight c.args.bytes.now) (sym c.unless.ensures) (read_right c.args.bytes.now (seen c.in-Ok.reader) c.finish.result c.in_ok-cycle-in-Ok.cycle read.reader c.finish.ensures c.in_ok-cycle-in-Ok.ensures) in
    right_fault c.args.bytes.now c.unless.result right
