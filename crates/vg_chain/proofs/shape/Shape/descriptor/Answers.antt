use Rattle.vg_chain.proofs.shape.Shape.descriptor.Goals as goal

pub returns-in-Mixed : goal.returns-in-Mixed
returns-in-Mixed c = rw c.in-Mixed.is (c.mixed_at.ensures c.args.size c.args.head)
