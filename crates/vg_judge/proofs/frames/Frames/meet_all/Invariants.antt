use Rattle.std.proofs.Common.{List, length, take, ◌-◌}
use mathlib.Core.List.{IsPrefix}
use Rattle.vg_scanout.specs.declared.scanout.Frame.{Frame}
use Rattle.vg_judge.specs.FramesWithin.{AreMet}
use Rattle.vg_judge.proofs.frames.Frames.meet_all.Given as goal

abbrev pub invariant-loop-at : goal.invariant-loop-at
invariant-loop-at l = (all before : List Frame) → AreMet all before l.fn.self → IsPrefix before l.frames → AreMet all (take l.at l.frames) l.self

abbrev pub decreases-loop-at : goal.decreases-loop-at
decreases-loop-at l = length l.frames - l.at
