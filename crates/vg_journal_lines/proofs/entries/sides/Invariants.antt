use Rattle.std.proofs.Common.{◌≡◌, ◌-◌, length, map, take, drop}
use Rattle.vg_journal_lines.specs.Entries.{and_before, sides}
use Rattle.vg_journal_lines.proofs.entries.sides.Given as goal

abbrev pub invariant-loop-at : goal.invariant-loop-at
invariant-loop-at l = and_before (map (λ word. word.now) (take l.at l.words)) (sides (map (λ word. word.now) (drop l.at l.words))) ≡ sides (map (λ word. word.now) l.words)

abbrev pub decreases-loop-at : goal.decreases-loop-at
decreases-loop-at l = length l.words - l.at
