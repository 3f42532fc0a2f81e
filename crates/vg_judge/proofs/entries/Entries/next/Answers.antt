use Rattle.std.proofs.Common.{refl}
use Rattle.vg_judge.proofs.NextLemmas.{has_gone, turn}
use Rattle.vg_judge.proofs.entries.Entries.next.Goals as goal

pub entry_in_front-requires : goal.entry_in_front-requires
entry_in_front-requires c =
    let t = turn _ _ _ c.requires.2 in
    (t.entry, _, t.stands)

pub returns : goal.returns
returns c = λ journal done next.
    let t = turn _ _ _ next in
    let read = c.in_ok-entry.ensures t.entry _ t.stands in
    has_gone _ _ _ _ _ next t read.0 refl refl read.1
