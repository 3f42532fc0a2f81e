use Rattle.vg_call_numbers.proofs.GapLemmas.{cut-by, filled, found-gap, there-still}
use Rattle.vg_call_numbers.proofs.gaps.fill.Goals as goal

pub shorten-requires : goal.shorten-requires
shorten-requires c =
    let gap = found-gap c.args.gaps.now c.args.number c.gap_of.result c.unwrap-first.result c.unwrap-first.ensures c.gap_of.ensures.gap in
    there-still c.args.gaps.now c.split.new.gaps c.unwrap-first.result.0 c.unwrap-first.result.1 c.args.number gap c.in_ok-split.ensures.ok

pub returns-clause-ok : goal.returns-clause-ok
returns-clause-ok c =
    let old = c.args.gaps.now in
    let new = c.shorten.new.gaps in
    let number = c.args.number in
    let first = c.unwrap-first.result.0 in
    let last = c.unwrap-first.result.1 in
    let gap = found-gap old number c.gap_of.result c.unwrap-first.result c.unwrap-first.ensures c.gap_of.ensures.gap in
    filled old new first last number c.requires.apart c.shorten.ensures.rising gap.kept gap.low gap.high
    (cut-by old c.split.new.gaps new first last number gap.low gap.high c.in_ok-split.ensures.ok c.shorten.ensures)
