use Rattle.vg_drawn.proofs.OverLemmas.{goes-over, has-room, may-add}
use Rattle.vg_drawn.proofs.drawn.Drawn.next.Goals as goal

pub step-requires-clause-entries : goal.step-requires-clause-entries
step-requires-clause-entries c = has-room _ c.requires.before

pub add_sets-requires-clause-cursors : goal.add_sets-requires-clause-cursors
add_sets-requires-clause-cursors c =
    (may-add c.args.entry.now c.args.self.now c.step.new.display c.replayed_states_are_consistent.ensures c.requires.before c.in_ok-step.ensures).cursors

pub add_sets-requires-clause-frames : goal.add_sets-requires-clause-frames
add_sets-requires-clause-frames c =
    (may-add c.args.entry.now c.args.self.now c.step.new.display c.replayed_states_are_consistent.ensures c.requires.before c.in_ok-step.ensures).frames

pub add_sets-requires-clause-made : goal.add_sets-requires-clause-made
add_sets-requires-clause-made c =
    (may-add c.args.entry.now c.args.self.now c.step.new.display c.replayed_states_are_consistent.ensures c.requires.before c.in_ok-step.ensures).made

pub returns : goal.returns
returns c = goes-over c.args.entry.now c.args.self.now _ (record { few = c.requires.client; display = c.in_ok-step.ensures; added = c.in_ok-add_sets.ensures; painted = c.numbers_are_the_bytes.ensures })
